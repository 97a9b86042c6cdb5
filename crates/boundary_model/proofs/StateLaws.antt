-- Laws of a state in a run: the words of a state decode to it, and a run with some of them in its place decodes to what they say.
use Rattle.std.specs.Prelude.{None, Some, Option}
use Prim.Native.Nat.{ℕ, ◌+◌, ◌-◌, ◌≤◌, ◌<◌}
use mathlib.Core.List.{List}
use mathlib.Core.Path.{◌≡◌, refl, sym, ap, ◌∙◌}
use lib.ListN.{length, get_or, set, length-set, get_or-append}
use lib.Seq.{drop_at, get_or-drop, get_or-set_same, get_or-set_other}
use lib.Dec.{eqb}
use native.Mathlib.Omega.{arith}
use Rattle.model.specs.declared.Mode.{Mode}
use Rattle.model.specs.declared.Mode.TheVariants.{Kernel, User}
use Rattle.model.specs.declared.Pending.{Pending}
use Rattle.model.specs.declared.State.{State}
use Rattle.model.specs.Guard.{in_user, running, mode_of, state_of, in_mode, with_pending}
use Rattle.laws.proofs.TableLaws.{is-table, table_same}
use Rattle.boundary_model.specs.Words.{state_words, pages_at, frames_at, entry_count_at, entry_pages_at, entry_words, mode_at, running_at, devices_at, pending_at}
use Rattle.boundary_model.specs.Words.{pending_page_at, pending_frame_at, entry_pages_in, pending_in, pending_words, state_in, mode_word, last_words, words_of}
use Rattle.boundary_model.specs.Words.{with_words, page_places, mode_places, pending_places}

-- The mode, by its two words.
mode-back : (mode : Mode) → mode_of (eqb (mode_word mode) 1) (running mode) ≡ mode
unfolding mode_of mode_word running in_user
mode-back (Kernel page) = refl
mode-back (User page) = refl

-- What is pending, by its three words.
abbrev pub pending_word : Option Pending → ℕ → ℕ
pending_word pending i = get_or (pending_words pending) i 0

pending-back : (run : List ℕ) (pending : Option Pending) → get_or run pending_at 0 ≡ pending_word pending 0 → get_or run pending_page_at 0 ≡ pending_word pending 1
    → get_or run pending_frame_at 0 ≡ pending_word pending 2 → pending_in run ≡ pending
unfolding pending_in pending_words
pending-back run None a b c = rw a refl
pending-back run (Some asked) a b c = rw (a, b, c) refl

-- The same words hold the same.
pending-same : (run run' : List ℕ) → get_or run' pending_at 0 ≡ get_or run pending_at 0 → get_or run' pending_page_at 0 ≡ get_or run pending_page_at 0
    → get_or run' pending_frame_at 0 ≡ get_or run pending_frame_at 0 → pending_in run' ≡ pending_in run
unfolding pending_in
pending-same run run' a b c = rw (a, b, c) refl

-- A state is what its fields are.
state-made : (s : State) (p f n : ℕ) (e : List ℕ) (m : Mode) (k : ℕ) (w : Option Pending) → p ≡ s.pages → f ≡ s.frames → n ≡ s.entry_count
    → e ≡ s.entry_pages → m ≡ s.mode → k ≡ s.devices → w ≡ s.pending → state_of p f n e m k w ≡ s
state-made s p f n e m k w a b c d h i j = rw (a, b, c, d, h, i, j) refl

-- The words of a state decode to it.
module _ (s : State) (long : length s.entry_pages ≡ entry_words) where
  entry-word : (i : ℕ) → i < entry_words → get_or (words_of s) (entry_pages_at + i) 0 ≡ get_or s.entry_pages i 0
  unfolding words_of
  entry-word i h = sym (get_or-drop entry_pages_at (words_of s) i 0) ∙ get_or-append s.entry_pages (last_words s) 0 i (omega arith)

  pub last_word : (i : ℕ) → get_or (words_of s) (mode_at + i) 0 ≡ get_or (last_words s) i 0
  unfolding words_of
  last_word i = sym (get_or-drop mode_at (words_of s) i 0) ∙ ap (λ (l : List ℕ). get_or l i 0) (drop_at s.entry_pages (last_words s) entry_words long)

  entries-back : entry_pages_in (words_of s) ≡ s.entry_pages
  unfolding entry_pages_in
  entries-back =
      sym (is-table s.entry_pages entry_words (λ i. get_or (words_of s) (entry_pages_at + i) 0) long (λ i h. sym (entry-word i h)))

  pub words-decoded : state_in (words_of s) ≡ s
  unfolding state_in words_of
  words-decoded =
      state-made s _ _ _ _ _ _ _ refl refl refl
      entries-back
      (rw (last_word (mode_at - mode_at), last_word (running_at - mode_at)) (mode-back s.mode))
      (last_word (devices_at - mode_at))
      (pending-back (words_of s) s.pending (last_word (pending_at - mode_at)) (last_word (pending_page_at - mode_at)) (last_word (pending_frame_at - mode_at)))

-- The words of what is pending, put into a run.
abbrev pub pending_put : List ℕ → Option Pending → List ℕ
pending_put run pending =
    set (set (set run pending_at (pending_word pending 0)) pending_page_at (pending_word pending 1)) pending_frame_at (pending_word pending 2)

-- The words that a call puts into a run, one by one.
module _ (run : List ℕ) (s : State) (long : length s.entry_pages ≡ entry_words) where
  pub mode-words : with_words run s mode_places ≡ set (set run mode_at (mode_word s.mode)) running_at (running s.mode)
  unfolding with_words
  mode-words = rw (last_word s long (mode_at - mode_at), last_word s long (running_at - mode_at)) refl

  pub page-words : with_words run s page_places ≡ set run running_at (running s.mode)
  unfolding with_words
  page-words = rw (last_word s long (running_at - mode_at)) refl

  pub pending-words : with_words run s pending_places ≡ pending_put run s.pending
  unfolding with_words
  pending-words = rw (last_word s long (pending_at - mode_at), last_word s long (pending_page_at - mode_at), last_word s long (pending_frame_at - mode_at)) refl

-- A run that differs at the words of the mode and of what is pending alone.
same-fields : (run run' : List ℕ) (mode : Mode) (pending : Option Pending)
    → ((at : ℕ) → at ≤ devices_at → (at ≡ mode_at → ⊥) → (at ≡ running_at → ⊥) → get_or run' at 0 ≡ get_or run at 0)
    → mode_of (eqb (get_or run' mode_at 0) 1) (get_or run' running_at 0) ≡ mode → pending_in run' ≡ pending
    → state_in run' ≡ with_pending (in_mode (state_in run) mode) pending
unfolding state_in in_mode with_pending entry_pages_in
same-fields run run' mode pending same is holds =
    state-made (with_pending (in_mode (state_in run) mode) pending) _ _ _ _ _ _ _
    (same pages_at (omega arith) (λ q. omega arith) (λ q. omega arith))
    (same frames_at (omega arith) (λ q. omega arith) (λ q. omega arith))
    (same entry_count_at (omega arith) (λ q. omega arith) (λ q. omega arith))
    (table_same entry_words _ _ (λ i h. same (entry_pages_at + i) (omega arith) (λ q. omega arith) (λ q. omega arith)))
    is
    (same devices_at (omega arith) (λ q. omega arith) (λ q. omega arith))
    holds

-- A run with other words of the mode decodes to the state in that mode, and one with another page to the state on that page: the other
-- words are as they were.
module _ (run : List ℕ) (s : State) (size : length run ≡ state_words) (long : length s.entry_pages ≡ entry_words) where
  running-put : (t : List ℕ) → length t ≡ state_words → get_or (set t running_at (running s.mode)) running_at 0 ≡ running s.mode
  running-put t e = get_or-set_same t running_at (running s.mode) 0 (omega arith)

  page-field : (at : ℕ) → (at ≡ running_at → ⊥) → get_or (set run running_at (running s.mode)) at 0 ≡ get_or run at 0
  page-field at r = get_or-set_other run running_at at (running s.mode) 0 r

  mode-field : (at : ℕ) → (at ≡ mode_at → ⊥) → (at ≡ running_at → ⊥)
      → get_or (set (set run mode_at (mode_word s.mode)) running_at (running s.mode)) at 0 ≡ get_or run at 0
  mode-field at m r =
      get_or-set_other (set run mode_at (mode_word s.mode)) running_at at (running s.mode) 0 r ∙ get_or-set_other run mode_at at (mode_word s.mode) 0 m

  mode-there : get_or (set (set run mode_at (mode_word s.mode)) running_at (running s.mode)) mode_at 0 ≡ mode_word s.mode
  mode-there =
      get_or-set_other (set run mode_at (mode_word s.mode)) running_at mode_at (running s.mode) 0 (λ q. omega arith)
      ∙ get_or-set_same run mode_at (mode_word s.mode) 0 (omega arith)

  -- What is pending stays.
  mode-same : (run' : List ℕ) (mode : Mode) → ((at : ℕ) → (at ≡ mode_at → ⊥) → (at ≡ running_at → ⊥) → get_or run' at 0 ≡ get_or run at 0)
      → mode_of (eqb (get_or run' mode_at 0) 1) (get_or run' running_at 0) ≡ mode → state_in run' ≡ in_mode (state_in run) mode
  unfolding state_in in_mode with_pending
  mode-same run' mode same is =
      same-fields run run' mode (pending_in run) (λ at h. same at) is
      (pending-same run run'
      (same pending_at (λ q. omega arith) (λ q. omega arith))
      (same pending_page_at (λ q. omega arith) (λ q. omega arith))
      (same pending_frame_at (λ q. omega arith) (λ q. omega arith)))

  pub mode-decoded : state_in (with_words run s mode_places) ≡ in_mode (state_in run) s.mode
  mode-decoded =
      rw (mode-words run s long)
      (mode-same _ s.mode mode-field
      (rw (mode-there, running-put (set run mode_at (mode_word s.mode)) (simp length-set size)) (mode-back s.mode)))

  pub page-decoded : state_in (with_words run s page_places) ≡ in_mode (state_in run) (mode_of (eqb (get_or run mode_at 0) 1) (running s.mode))
  page-decoded =
      rw (page-words run s long)
      (mode-same _ _ (λ at m r. page-field at r)
      (rw (page-field mode_at (λ q. omega arith), running-put run size) refl))

-- A run with other words of what is pending: the words before them stay, and each is there.
module _ (run : List ℕ) (pending : Option Pending) where
  abbrev one : List ℕ
  one = set run pending_at (pending_word pending 0)

  abbrev two : List ℕ
  two = set one pending_page_at (pending_word pending 1)

  before-pending : (at : ℕ) → at ≤ devices_at → get_or (pending_put run pending) at 0 ≡ get_or run at 0
  before-pending at h =
      get_or-set_other two pending_frame_at at (pending_word pending 2) 0 (λ q. omega arith)
      ∙ get_or-set_other one pending_page_at at (pending_word pending 1) 0 (λ q. omega arith)
      ∙ get_or-set_other run pending_at at (pending_word pending 0) 0 (λ q. omega arith)

  module _ (size : length run ≡ state_words) where
    word-there : get_or (pending_put run pending) pending_at 0 ≡ pending_word pending 0
    word-there =
        get_or-set_other two pending_frame_at pending_at (pending_word pending 2) 0 (λ q. omega arith)
        ∙ get_or-set_other one pending_page_at pending_at (pending_word pending 1) 0 (λ q. omega arith)
        ∙ get_or-set_same run pending_at (pending_word pending 0) 0 (omega arith)

    page-there : get_or (pending_put run pending) pending_page_at 0 ≡ pending_word pending 1
    page-there =
        get_or-set_other two pending_frame_at pending_page_at (pending_word pending 2) 0 (λ q. omega arith)
        ∙ get_or-set_same one pending_page_at (pending_word pending 1) 0 (simp length-set (omega arith))

    frame-there : get_or (pending_put run pending) pending_frame_at 0 ≡ pending_word pending 2
    frame-there = get_or-set_same two pending_frame_at (pending_word pending 2) 0 (simp length-set (omega arith))

-- So it decodes to the state with another pair or none.
pub pending-decoded : (run : List ℕ) (s : State) → length run ≡ state_words → length s.entry_pages ≡ entry_words
    → state_in (with_words run s pending_places) ≡ with_pending (state_in run) s.pending
unfolding state_in in_mode with_pending
pending-decoded run s size long =
    rw (pending-words run s long)
    (same-fields run (pending_put run s.pending) (state_in run).mode s.pending (λ at h m r. before-pending run s.pending at h)
    (rw (before-pending run s.pending mode_at (omega arith), before-pending run s.pending running_at (omega arith)) refl)
    (pending-back (pending_put run s.pending) s.pending
    (word-there run s.pending size)
    (page-there run s.pending size)
    (frame-there run s.pending size)))
