-- Laws of a state in a run that is written: all words, front to back, or those that a call puts.
use Rattle.std.specs.Prelude.{None, Some, Option}
use Prim.Native.Nat.{ℕ}
use mathlib.Core.List.{List, [], ◌∷◌, ◌++◌}
use mathlib.Core.Path.{◌≡◌, refl, sym, ap, ◌∙◌}
use lib.ListN.{length, set, take, length-set}
use borrow.Rule.Slice.PartMut.{put_mid}
use Rattle.std.proofs.lemmas.Slice.{take-put_mid}
use native.Mathlib.Omega.{arith}
use Rattle.model.specs.declared.Pending.{Pending}
use Rattle.model.specs.declared.State.{State}
use Rattle.model.specs.Guard.{running}
use Rattle.boundary_model.specs.Words.{state_words, pages_at, frames_at, entry_count_at, entry_pages_at, entry_words, mode_at, running_at, devices_at, pending_at}
use Rattle.boundary_model.specs.Words.{pending_page_at, pending_frame_at, pending_words, mode_word, last_words, words_of, with_words, page_places, mode_places}
use Rattle.boundary_model.specs.Words.{pending_places}
use Rattle.boundary_model.proofs.StateLaws.{pending_word, mode-words, page-words, pending-words}
use Rattle.encode.proofs.RunLaws.{front-none, front-word, front-so-far, front-known, front-full}

-- The words before the mode, written front to back: V, F and e, the entry pages.
abbrev front_words : State → List ℕ
front_words s = s.pages ∷ s.frames ∷ s.entry_count ∷ s.entry_pages

pub front-written : (s : State) (run pages : List ℕ) → pages ≡ s.entry_pages → length run ≡ state_words → length s.entry_pages ≡ entry_words
    → take mode_at (put_mid entry_pages_at entry_words (set (set (set run pages_at s.pages) frames_at s.frames) entry_count_at s.entry_count) pages) ≡ front_words s
front-written s run pages e long k =
    rw e
    (take-put_mid entry_pages_at entry_words _ s.entry_pages mode_at (omega arith) (simp length-set (omega arith))
    ∙ ap (λ (l : List ℕ). l ++ s.entry_pages)
    (front-so-far state_words entry_pages_at _ _
    (front-word _ entry_count_at s.entry_count _ _ (omega arith)
    (front-word _ frames_at s.frames _ _ (omega arith)
    (front-word _ pages_at s.pages _ _ (omega arith) (front-none _ run long))))))

-- The words that a call puts into a run, one by one.
module _ (run : List ℕ) (s : State) (long : length s.entry_pages ≡ entry_words) where
  pub mode-put : (word : ℕ) (u : List ℕ) → word ≡ mode_word s.mode → u ≡ with_words (set run mode_at word) s page_places → u ≡ with_words run s mode_places
  mode-put word u e p = rw (p, e) (page-words (set run mode_at (mode_word s.mode)) s long ∙ sym (mode-words run s long))

  pub page-put : (r : ℕ) → r ≡ running s.mode → set run running_at r ≡ with_words run s page_places
  page-put r p = rw p (sym (page-words run s long))

  pub nothing_put : s.pending ≡ None → set (set (set run pending_at 0) pending_page_at 0) pending_frame_at 0 ≡ with_words run s pending_places
  unfolding pending_words
  nothing_put e = rw (pending-words run s long, e) refl

  pub pair_put : (asked : Pending) → s.pending ≡ Some asked
      → set (set (set run pending_at 1) pending_page_at asked.page) pending_frame_at asked.frame ≡ with_words run s pending_places
  unfolding pending_words
  pair_put asked e = rw (pending-words run s long, e) refl

-- What is pending has three words.
three-words : (pending : Option Pending) → pending_words pending ≡ pending_word pending 0 ∷ pending_word pending 1 ∷ pending_word pending 2 ∷ []
unfolding pending_words
three-words None = refl
three-words (Some asked) = refl

-- The words behind the entry pages, written front to back: the mode, the number of devices, what is pending.
pub last_written : (s : State) (run u w : List ℕ) → w ≡ with_words (set u devices_at s.devices) s pending_places → u ≡ with_words run s mode_places
    → length run ≡ state_words → length s.entry_pages ≡ entry_words → w ≡ take mode_at run ++ last_words s
last_written s run u w q p long k =
    rw (q, pending-words (set u devices_at s.devices) s k, p, mode-words run s k, three-words s.pending)
    (front-full state_words _ _
    (front-word _ pending_frame_at (pending_word s.pending 2) _ _ (omega arith)
    (front-word _ pending_page_at (pending_word s.pending 1) _ _ (omega arith)
    (front-word _ pending_at (pending_word s.pending 0) _ _ (omega arith)
    (front-word _ devices_at s.devices _ _ (omega arith)
    (front-word _ running_at (running s.mode) _ _ (omega arith)
    (front-word _ mode_at (mode_word s.mode) _ _ (omega arith) (front-known _ mode_at (take mode_at run) run long refl))))))))

-- With those before the mode they are all words of a state.
pub words-written : (s : State) (t w : List ℕ) → w ≡ take mode_at t ++ last_words s → take mode_at t ≡ front_words s → w ≡ words_of s
unfolding words_of
words-written s t w p e = rw (p, e) refl
