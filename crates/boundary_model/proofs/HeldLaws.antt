-- Laws of the state run along the calls: an accepted call puts the words that it can change, a refused one leaves the run, and what was lent can be lent.
use Rattle.std.specs.Prelude.{None, Some, Option}
use Prim.Native.Nat.{ℕ, zero, suc, ◌-◌, ◌≤◌, ◌<◌}
use mathlib.Core.Bool.{Bool, true, false}
use mathlib.Core.List.{List, [], ◌∷◌}
use mathlib.Core.Path.{◌≡◌, refl, sym, ap, ◌∙◌}
use lib.ListN.{length, get_or, set, length-set, length-append}
use lib.Seq.{get_or-set_same, get_or-set_other}
use lib.Dec.{eqb}
use borrow.Author.Tests.{eqb-true, eqb-false}
use native.Mathlib.Omega.{arith}
use Rattle.model.specs.declared.Mode.{Mode}
use Rattle.model.specs.declared.Mode.TheVariants.{Kernel, User}
use Rattle.model.specs.declared.Pending.{Pending}
use Rattle.model.specs.declared.State.{State}
use Rattle.model.specs.Guard.{Tables, Guard, guard_of, in_user, running, mode_of, in_mode, with_pending}
use Rattle.model.specs.Questions.{first_no, seen}
use Rattle.model.specs.Calls.{settle, Outcome, refused_of, Call, sync_page, sync_all, sync_page_tree, sync_all_tree, fetch, write, enter, leave, device_write, ask}
use Rattle.model.specs.Calls.{commit, drop, brought_by, questions_of, effect_of, answer, page_synced, all_synced, page_from, all_from, switch_to, bit_put}
use Rattle.model.specs.Calls.{pair_committed}
use Rattle.laws.proofs.StateLaws.{in_user-mode_of, running-mode_of}
use Rattle.laws.proofs.CallLaws.{effects}
use Rattle.laws.proofs.TableLaws.{length-table}
use Rattle.boundary_model.specs.Words.{state_words, entry_words, mode_at, pending_at, entry_pages_in, pending_words, state_in, mode_word, words_of}
use Rattle.boundary_model.specs.Words.{with_words, mode_places, pending_places, changed_by, run_after}
use Rattle.boundary_model.specs.ExportedLists.{Lent}
use Rattle.boundary_model.proofs.StateLaws.{pending_word, last_word, mode-decoded, page-decoded, pending-decoded}

-- The words of a state can be lent: there are 25, and those of the mode and of what is pending are 0 or 1.
mode-flag : (mode : Mode) → mode_word mode ≤ 1
unfolding mode_word in_user
mode-flag (Kernel page) = omega arith
mode-flag (User page) = omega arith

pending-flag : (pending : Option Pending) → pending_word pending 0 ≤ 1
unfolding pending_words
pending-flag None = omega arith
pending-flag (Some asked) = omega arith

pending-length : (pending : Option Pending) → length (pending_words pending) ≡ 3
unfolding pending_words
pending-length None = refl
pending-length (Some asked) = refl

module _ (s : State) (long : length s.entry_pages ≡ entry_words) where
  words_long : length (words_of s) ≡ state_words
  unfolding words_of
  words_long = simp length-append (omega (arith, long, pending-length s.pending))

  mode-fits : get_or (words_of s) mode_at 0 ≤ 1
  mode-fits = rw (last_word s long (mode_at - mode_at)) (mode-flag s.mode)

  pending-fits : get_or (words_of s) pending_at 0 ≤ 1
  pending-fits = rw (last_word s long (pending_at - mode_at)) (pending-flag s.pending)

  pub words-lent : Lent (words_of s)
  words-lent = record { words = words_long; mode = mode-fits; pending = pending-fits }

-- So can a run that could be lent, with some of the words of a state, whatever their places.
with-long : (run : List ℕ) (s : State) (places : List ℕ) → length (with_words run s places) ≡ length run
unfolding with_words
with-long run s [] = refl
with-long run s (at ∷ places) = with-long (set run at (get_or (words_of s) at 0)) s places ∙ length-set run at (get_or (words_of s) at 0)

module _ (s : State) (at : ℕ) (put : get_or (words_of s) at 0 ≤ 1) where
  with-flag : (run places : List ℕ) → at < length run → get_or run at 0 ≤ 1 → get_or (with_words run s places) at 0 ≤ 1
  unfolding with_words
  with-flag run [] inside h = h
  with-flag run (place ∷ places) inside h =
      with-flag (set run place (get_or (words_of s) place 0)) places (rw length-set inside) (by (eqb at place) refl)
    where
      by : (b : Bool) → eqb at place ≡ b → get_or (set run place (get_or (words_of s) place 0)) at 0 ≤ 1
      by true e = rw (← (eqb-true at place e), get_or-set_same run at (get_or (words_of s) at 0) 0 inside) put
      by false e = rw (get_or-set_other run place at (get_or (words_of s) place 0) 0 (eqb-false at place e)) h

pub with-lent : (run : List ℕ) (s : State) (places : List ℕ) → length s.entry_pages ≡ entry_words → Lent run → Lent (with_words run s places)
with-lent run s places long l =
    record {
      words = with-long run s places ∙ l.words;
      mode = with-flag s mode_at (mode-fits s long) run places (omega arith) l.mode;
      pending = with-flag s pending_at (pending-fits s long) run places (omega arith) l.pending;
    }

module _ (run : List ℕ) (t : Tables) where
  abbrev g : Guard
  g = guard_of (state_in run) t

  abbrev after : Call → State
  after call = (effect_of g call).guard.state

  -- There are sixteen entry pages.
  entries-long : (call : Call) → length (after call).entry_pages ≡ entry_words
  unfolding state_in in_mode with_pending entry_pages_in
  entries-long call = rw (effects g call).state (length-table entry_words _)

  -- A fetch keeps kernel or user.
  mode-stays : (page : ℕ) → mode_of (eqb (get_or run mode_at 0) 1) (running (after (fetch page)).mode) ≡ (after (fetch page)).mode
  unfolding effect_of in_mode state_in
  mode-stays page = rw (in_user-mode_of, running-mode_of) refl

  module _ (l : Lent run) where
    -- What a call that changes the mode leaves, and one that changes what is pending.
    switched : (call : Call) → after call ≡ in_mode (state_in run) (after call).mode → state_in (with_words run (after call) mode_places) ≡ after call
    switched call is = mode-decoded run (after call) l.words (entries-long call) ∙ sym is

    paired : (call : Call) → after call ≡ with_pending (state_in run) (after call).pending
        → state_in (with_words run (after call) pending_places) ≡ after call
    paired call is = pending-decoded run (after call) l.words (entries-long call) ∙ sym is

    words-hold : (call : Call) → state_in (with_words run (after call) (changed_by call)) ≡ after call
    unfolding with_words effect_of page_from all_from page_synced all_synced switch_to bit_put pair_committed in_mode with_pending
    words-hold (sync_page kernel page) = refl
    words-hold (sync_all kernel) = refl
    words-hold (sync_page_tree tree page) = refl
    words-hold (sync_all_tree tree) = refl
    words-hold (fetch page) =
        page-decoded run (after (fetch page)) l.words (entries-long (fetch page)) ∙ ap (in_mode (state_in run)) (mode-stays page)
    words-hold (write address length) = refl
    words-hold (enter index) = switched (enter index) refl
    words-hold (leave page) = switched (leave page) refl
    words-hold (device_write devices device address size) = refl
    words-hold (ask page frame) = paired (ask page frame) refl
    words-hold commit = paired commit refl
    words-hold drop = paired drop refl

    held : (call : Call) (n : ℕ) → first_no (questions_of (seen g) call) ≡ n
        → let o : Outcome = settle n (effect_of g call) (refused_of g (brought_by call)) in
        (state_in (run_after run (changed_by call) o.reply o.guard.state) ≡ o.guard.state)
        × Lent (run_after run (changed_by call) o.reply o.guard.state)
    unfolding settle run_after
    held call zero e = rw (effects g call).number (words-hold call, with-lent run (after call) (changed_by call) (entries-long call) l)
    held call (suc n) e = (refl, l)

    -- The run after a call holds the state that its definition answers, and can be lent.
    module _ (call : Call) where
      abbrev o : Outcome
      o = answer g call

      pub run-held : (state_in (run_after run (changed_by call) o.reply o.guard.state) ≡ o.guard.state)
          × Lent (run_after run (changed_by call) o.reply o.guard.state)
      unfolding answer
      run-held = held call (first_no (questions_of (seen g) call)) refl
