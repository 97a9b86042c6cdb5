-- Laws that settle a call from the answers that its code has in hand: r is what a test gave, and the code goes by `!r`.
use Prim.Native.Nat.{ℕ, zero, suc, ◌<◌}
use mathlib.Core.Bool.{Bool, true, false, not}
use mathlib.Core.List.{List, [], ◌∷◌}
use mathlib.Core.Logic.{◌⊎◌, inl, inr}
use mathlib.Core.Path.{◌≡◌, refl, sym, ◌∙◌}
use native.Mathlib.Omega.{arith}
use borrow.Author.Tests.{not-true, not-false}
use Rattle.std.specs.Prelude.{Err}
use Rattle.model.specs.declared.State.{State}
use Rattle.model.specs.declared.Refusal.{Refusal}
use Rattle.model.specs.declared.Refusal.TheVariants.{RecordTooShort, SizeOutOfRange, CountOutOfRange, RecordLength, ListedPage, ListedFrame, StateOrTable, LengthOutOfRange, DoesNotExist, WrongMode, NotPresent, NotPermitted, Excluded, CallCutShort, UnknownKind, BufferTooShort, Tree, NoDevice, OutsideWindow, ApprovalConflict, MappedWritable, NothingPending}
use Rattle.model.specs.Refusals.{number_of}
use Rattle.model.specs.Guard.{Guard, running, in_mode, with_pending}
use Rattle.model.specs.Questions.{Question, question, first_no, View, seen, state_in_order, sync_page_questions, sync_all_questions, sync_page_tree_questions}
use Rattle.model.specs.Questions.{sync_all_tree_questions, fetch_questions, write_questions, enter_questions, leave_questions, device_write_questions, ask_questions}
use Rattle.model.specs.Questions.{commit_questions, drop_questions}
use Rattle.model.specs.Calls.{Answer, reply_of, settle, Outcome, outcome_by, refused_of, Call, sync_page, sync_all, sync_page_tree, sync_all_tree, fetch, write, enter, leave}
use Rattle.model.specs.Calls.{device_write, ask, commit, drop, brought_by, questions_of, page_synced, all_synced, page_from, all_from, switch_to, bit_put, pair_committed}
use Rattle.model.specs.Calls.{effect_of, answer}
use Rattle.laws.proofs.QuestionLaws.{first_no-yes, first_no-no, settle-accepted}
use Rattle.laws.proofs.StateLaws.{running-mode_of, state-no}
use Rattle.laws.proofs.AcceptedLaws.{fetch-page, enter-page, leave-page}

-- Down the questions: past a yes, past one that is always answered so, at a no, and at the end.
pub passed : (n k : ℕ) (r b : Bool) (qs : List Question) → r ≡ b → not r ≡ false → k ≡ first_no qs → k ≡ first_no (question n b ∷ qs)
passed n k r b qs p q rest = rest ∙ sym (first_no-yes n qs (sym p ∙ not-false r q))

pub passed-always : (n k : ℕ) (qs : List Question) → k ≡ first_no qs → k ≡ first_no (question n true ∷ qs)
passed-always n k qs rest = rest ∙ sym (first_no-yes n qs refl)

pub stopped : (n : ℕ) (r b : Bool) (qs : List Question) → r ≡ b → not r ≡ true → n ≡ first_no (question n b ∷ qs)
stopped n r b qs p q = sym (first_no-no n qs (sym p ∙ not-true r q))

pub none_left : 0 ≡ first_no []
unfolding first_no
none_left = refl

-- A call that a question refuses: its number is not 0.
pub settle-refused-by : {A : Type 0} {m : ℕ} (n : ℕ) (done : A) (refusal : ℕ → A) → (n ≡ 0 → ⊥) → m ≡ n
    → settle m done refusal ≡ refusal n
unfolding settle
settle-refused-by zero done refusal t p = absurd (t refl)
settle-refused-by (suc n) done refusal t p = rw p refl

-- No question has the number 0.
pub numbered : (refusal : Refusal) → number_of refusal ≡ 0 → ⊥
numbered RecordTooShort z = omega arith
numbered SizeOutOfRange z = omega arith
numbered CountOutOfRange z = omega arith
numbered RecordLength z = omega arith
numbered ListedPage z = omega arith
numbered ListedFrame z = omega arith
numbered StateOrTable z = omega arith
numbered LengthOutOfRange z = omega arith
numbered DoesNotExist z = omega arith
numbered WrongMode z = omega arith
numbered NotPresent z = omega arith
numbered NotPermitted z = omega arith
numbered Excluded z = omega arith
numbered CallCutShort z = omega arith
numbered UnknownKind z = omega arith
numbered BufferTooShort z = omega arith
numbered Tree z = omega arith
numbered NoDevice z = omega arith
numbered OutsideWindow z = omega arith
numbered ApprovalConflict z = omega arith
numbered MappedWritable z = omega arith
numbered NothingPending z = omega arith

-- A call by the number that its questions settle: refused, and accepted.
module _ (g : Guard) (call : Call) where
  pub refused-by : (r : Answer) (s : State) (refusal : Refusal) → first_no (questions_of (seen g) call) ≡ number_of refusal → r ≡ Err refusal
      → s ≡ g.state → outcome_by r s g.tables ≡ answer g call
  unfolding outcome_by reply_of answer brought_by
  refused-by r s refusal e a i = rw (a, i) (sym (settle-refused-by (number_of refusal) _ _ (numbered refusal) e))

  pub accepted-by : (o : Outcome) → first_no (questions_of (seen g) call) ≡ 0 → o ≡ effect_of g call → o ≡ answer g call
  unfolding answer
  accepted-by o e p = p ∙ sym (settle-accepted _ _ e)

-- A state that is not in order: every call refuses it with 7, whatever else it asks.
pub state-refused : (v : View) (call : Call) → v.state_fits ≡ false → first_no (questions_of v call) ≡ 7
unfolding questions_of sync_page_questions sync_all_questions sync_page_tree_questions sync_all_tree_questions fetch_questions write_questions enter_questions leave_questions
    device_write_questions ask_questions commit_questions drop_questions
state-refused v (sync_page kernel page) p = first_no-no 7 _ (state-no _ _ p)
state-refused v (sync_all kernel) p = first_no-no 7 _ (state-no _ _ p)
state-refused v (sync_page_tree tree page) p = first_no-no 7 _ (state-no _ _ p)
state-refused v (sync_all_tree tree) p = first_no-no 7 _ (state-no _ _ p)
state-refused v (fetch page) p = first_no-no 7 _ (state-no _ _ p)
state-refused v (write address length) p = first_no-no 7 _ (state-no _ _ p)
state-refused v (enter index) p = first_no-no 7 _ (state-no _ _ p)
state-refused v (leave page) p = first_no-no 7 _ (state-no _ _ p)
state-refused v (device_write devices device address size) p = first_no-no 7 _ (state-no _ _ p)
state-refused v (ask page frame) p = first_no-no 7 _ (state-no _ _ p)
state-refused v commit p = first_no-no 7 _ (state-no _ _ p)
state-refused v drop p = first_no-no 7 _ (state-no _ _ p)

-- An accepted call has no number and says that it is allowed; it changes the mode of the state and what is pending alone; and the page that runs
-- then ran before, or is below V.
pub record Effect (g : Guard) (call : Call) : Type 0 where
  pub number : (effect_of g call).reply.number ≡ 0
  pub allowed : (effect_of g call).reply.allowed ≡ true
  pub state : (effect_of g call).guard.state
      ≡ with_pending (in_mode g.state (effect_of g call).guard.state.mode) (effect_of g call).guard.state.pending
  pub runs : first_no (questions_of (seen g) call) ≡ 0
      → (running (effect_of g call).guard.state.mode ≡ running g.state.mode) ⊎ (running (effect_of g call).guard.state.mode < g.state.pages)

pub effects : (g : Guard) (call : Call) → Effect g call
unfolding questions_of effect_of page_from all_from page_synced all_synced switch_to bit_put pair_committed in_mode with_pending running
effects g (sync_page kernel page) = record { number = refl; allowed = refl; state = refl; runs = λ passed. inl refl }
effects g (sync_all kernel) = record { number = refl; allowed = refl; state = refl; runs = λ passed. inl refl }
effects g (sync_page_tree tree page) = record { number = refl; allowed = refl; state = refl; runs = λ passed. inl refl }
effects g (sync_all_tree tree) = record { number = refl; allowed = refl; state = refl; runs = λ passed. inl refl }
effects g (fetch page) = record { number = refl; allowed = refl; state = refl; runs = λ passed. inr (rw running-mode_of (fetch-page (seen g) page passed)) }
effects g (write address length) = record { number = refl; allowed = refl; state = refl; runs = λ passed. inl refl }
effects g (enter index) = record { number = refl; allowed = refl; state = refl; runs = λ passed. inr (enter-page (seen g) index passed) }
effects g (leave page) = record { number = refl; allowed = refl; state = refl; runs = λ passed. inr (leave-page (seen g) page passed) }
effects g (device_write devices device address size) = record { number = refl; allowed = refl; state = refl; runs = λ passed. inl refl }
effects g (ask page frame) = record { number = refl; allowed = refl; state = refl; runs = λ passed. inl refl }
effects g commit = record { number = refl; allowed = refl; state = refl; runs = λ passed. inl refl }
effects g drop = record { number = refl; allowed = refl; state = refl; runs = λ passed. inl refl }

pub answer-unfit : (g : Guard) (call : Call) → state_in_order g.state ≡ false → answer g call ≡ refused_of g (brought_by call) 7
unfolding answer
answer-unfit g call p = settle-refused-by 7 _ _ (λ z. omega arith) (state-refused (seen g) call p)
