-- Laws of the exported start: the runs do not fit, or they do.
use Prim.Native.Nat.{ℕ, zero, suc}
use mathlib.Core.Bool.{Bool, true, false, not, cond}
use mathlib.Core.List.{List}
use mathlib.Core.Path.{◌≡◌, refl, sym, ap, ◌∙◌}
use lib.ListN.{length}
use borrow.Author.Tests.{not-true, not-false}
use native.Mathlib.Omega.{arith}
use Rattle.std.specs.Prelude.{Result, Ok, Err}
use Rattle.std.specs.Result.{result_and}
use Rattle.model.specs.declared.Refusal.{Refusal}
use Rattle.model.specs.declared.Refusal.TheVariants.{StateOrTable}
use Rattle.model.specs.declared.State.{State}
use Rattle.model.specs.Refusals.{number_of, refused_by}
use Rattle.model.specs.Guard.{Tables}
use Rattle.model.specs.Policy.{Givens, policy_of}
use Rattle.model.specs.Questions.{first_no, record_questions, Lengths, lengths_of, lengths_fit, start_questions}
use Rattle.model.specs.Calls.{Answer, Reply, reply_of, refused, settle, Outcome, outcome_by, start_of}
use Rattle.laws.proofs.QuestionLaws.{settle-accepted, settle-number}
use Rattle.laws.proofs.CallLaws.{numbered, settle-refused-by}
use Rattle.policy.proofs.RecordLaws.{start-refused, start-asked}
use Rattle.decode.proofs.WordLaws.{run_fits}
use Rattle.boundary_model.specs.Words.{state_words, answer_numbers, words_of, with_numbers, runs_fit, run_started}
use Rattle.boundary_model.specs.Boundary.{returned, replied, start_at}
use Rattle.boundary.proofs.BoundaryLaws.{Says}

-- The number of a start is that of its first no.
start-number : (given : Givens) (bytes : List ℕ) (t : Tables)
    → (start_of given bytes t).reply.number ≡ first_no (start_questions given bytes (policy_of bytes) (lengths_of t))
unfolding start_of
start-number given bytes t = settle-number (λ (o : Outcome). o.reply.number) _ _ _ refl (λ k. refl)

-- Questions 1 to 6, and else 7: the same of the record alone as of the whole start.
seven : (n : ℕ) (b : Bool) → n ≡ cond b 0 7 → settle n 7 (λ k. k) ≡ 7
unfolding settle
seven n true e = rw e refl
seven n false e = rw e refl

by-record : (given : Givens) (bytes : List ℕ) (l : Lengths) (n : ℕ) → n ≡ first_no (record_questions given bytes (policy_of bytes))
    → settle (first_no (start_questions given bytes (policy_of bytes) l)) 7 (λ k. k) ≡ settle n 7 (λ k. k)
by-record given bytes l zero e =
    seven _ (lengths_fit (policy_of bytes) l) (start-asked given bytes 0 l e refl) ∙ sym (settle-accepted 7 (λ k. k) refl)
by-record given bytes l (suc n) e = ap (λ (m : ℕ). settle m 7 (λ k. k)) (start-refused given bytes (suc n) l e (λ z. omega arith))

-- The answer of a start whose runs do not fit: the record's own refusal, and else that of question 7.
seven-else : (q : Result Unit Refusal) → reply_of (result_and q (Err StateOrTable)) ≡ refused (settle (refused_by q) 7 (λ k. k))
unfolding reply_of settle
seven-else (Ok x) = refl
seven-else (Err refusal) = ap refused (sym (settle-refused-by (number_of refusal) 7 (λ k. k) (numbered refusal) refl))

module _ (given : Givens) (bytes run numbers after : List ℕ) (t : Tables) (r : ℕ) (b : Bool) (asks : b ≡ runs_fit answer_numbers run numbers) where
  pub start-unfit : (q : Result Unit Refusal) (a : Answer) → not b ≡ true → refused_by q ≡ first_no (record_questions given bytes (policy_of bytes))
      → a ≡ result_and q (Err StateOrTable) → Says answer_numbers a r numbers after → returned r run after t ≡ start_at given bytes run numbers t
  unfolding start_at replied
  start-unfit q a short e is says =
      rw (sym asks ∙ not-true b short, start-number given bytes t, by-record given bytes (lengths_of t) _ refl, sym e, sym (seven-else q), sym is, says.1)
      (ap (λ (n : ℕ). returned n run (with_numbers answer_numbers numbers (reply_of a)) t) (says.0 ∙ ap (λ (p : Reply). p.number) (ap reply_of is ∙ seven-else q)))

  -- The runs fit: what the start answered.
  pub run-fits : not b ≡ false → length run ≡ state_words
  run-fits fits = run_fits answer_numbers run numbers (sym asks ∙ not-false b fits)

  pub started : (run' : List ℕ) (a : Answer) (s : State) (t' : Tables) → not b ≡ false → outcome_by a s t' ≡ start_of given bytes t
      → Says answer_numbers a r numbers after → run' ≡ settle (reply_of a).number (words_of s) (λ _. run)
      → returned r run' after t' ≡ start_at given bytes run numbers t
  unfolding start_at replied outcome_by run_started
  started run' a s t' fits e says put = rw (sym asks ∙ not-false b fits, sym e, says.0, says.1, put) refl
