-- Demand 3 at the C boundary, by induction on the list of exported calls; the number that an exported call returns; and what a refused one leaves.
use Prim.Native.Nat.{ℕ, zero, suc}
use mathlib.Core.Bool.{Bool, true, false}
use mathlib.Core.List.{List, [], ◌∷◌, ◌++◌, map}
use mathlib.Core.Path.{◌≡◌, refl, sym, ap, ◌∙◌}
use lib.ListN.{length, drop}
use lib.Dec.{eqb}
use borrow.Author.Tests.{eqb-true, eqb-false, eq-eqb, ne_eqb}
use native.Mathlib.Omega.{arith}
use Rattle.model.specs.Guard.{Tables, Guard, guard_of}
use Rattle.model.specs.Policy.{Givens, Policy, policy_of, entry_pages, start_state, start_guard, zero_state}
use Rattle.model.specs.Questions.{first_no, seen, lengths_of, start_questions}
use Rattle.model.specs.Calls.{Reply, refused, accepted, settle, Outcome, outcome, refused_of, nothing_brought, start_of, Call, brought_by, questions_of, effect_of}
use Rattle.model.specs.Calls.{answer}
use Rattle.model.specs.Tree.{Tree, flat_at, reads_at}
use Rattle.model.specs.Walks.{walk_questions, walk_reply}
use Rattle.record_model.specs.Record.{record_of, write_record_questions, Written, written, write_record_of}
use Rattle.claim.specs.Lists.{guard_after}
use Rattle.claim.proofs.ListLaws.{claim}
use Rattle.laws.proofs.CallLaws.{effects, settle-refused-by}
use Rattle.laws.proofs.QuestionLaws.{settle-accepted}
use Rattle.laws.proofs.TableLaws.{length-table}
use Rattle.boundary_model.specs.Words.{state_words, entry_words, state_in, words_of, answer_numbers, numbers_by, changed_by, overwritten, with_numbers, runs_fit}
use Rattle.boundary_model.specs.Words.{lendable, run_after, run_started}
use Rattle.boundary_model.specs.Boundary.{Returned, replied, start_at, call_at, record_at, walk_at}
use Rattle.boundary_model.specs.ExportedLists.{AllFit, Lent, Held, Exported, reaches, calls_made, number_owed, numbers_owed, guard_owed, exported_after, Along, left_by}
use Rattle.boundary_model.specs.ExportedLists.{Carried, ExportedClaim, CallNumber, StartNumber, NumberReturned, zeroed, Left, RefusedLeaves}
use Rattle.boundary_model.proofs.StateLaws.{words-decoded}
use Rattle.boundary_model.proofs.LentLaws.{fitting-long, fitting-numbers, fits, numbers-lent, lent, lends}
use Rattle.boundary_model.proofs.HeldLaws.{words-lent, run-held}

-- The numbers run of a call: of its length it has the numbers of the reply, and of another it is left.
numbers-written : (numbers : List ℕ) (reply : Reply) → length numbers ≡ answer_numbers
    → with_numbers answer_numbers numbers reply ≡ reply.first ∷ reply.second ∷ []
unfolding with_numbers overwritten
numbers-written numbers reply e = rw (eq-eqb (length numbers) answer_numbers e) refl

numbers-left : (numbers : List ℕ) (reply : Reply) → (length numbers ≡ answer_numbers → ⊥) → with_numbers answer_numbers numbers reply ≡ numbers
unfolding with_numbers overwritten
numbers-left numbers reply e = rw (ne_eqb (length numbers) answer_numbers e) refl

-- An exported call by its runs: those that can be lent, and those that cannot.
module _ (run numbers : List ℕ) (t : Tables) (call : Call) where
  abbrev o : Outcome
  o = answer (guard_of (state_in run) t) call

  call_fits : lendable (numbers_by call) run numbers ≡ true
      → call_at run numbers t call
      ≡ replied (numbers_by call) o.reply (run_after run (changed_by call) o.reply o.guard.state) numbers o.guard.tables
  unfolding call_at
  call_fits e = rw e refl

  call-unfit : lendable (numbers_by call) run numbers ≡ false → call_at run numbers t call ≡ replied (numbers_by call) (refused 7) run numbers t
  unfolding call_at
  call-unfit e = rw e refl

-- One exported call on what holds the guard.
module _ (r : Returned) (g : Guard) (h : Held r.state r.tables g) where
  same-guard : guard_of (state_in r.state) r.tables ≡ g
  same-guard = rw (h.state, h.tables) refl

  abbrev Owed : Exported → Type 0
  Owed x =
      ((exported_after r x).number ≡ number_owed g x)
      × ((exported_after r x).numbers ≡ numbers_owed g x)
      × Held (exported_after r x).state (exported_after r x).tables (guard_owed g x)

  one : (x : Exported) → Owed x
  unfolding replied
  one x = by (reaches x) refl
    where
      by : (b : Bool) → reaches x ≡ b → Owed x
      by true e =
          let long : length x.numbers ≡ numbers_by x.call = eqb-true (length x.numbers) (numbers_by x.call) e in
          let is : call_at r.state x.numbers r.tables x.call ≡ _ =
          call_fits r.state x.numbers r.tables x.call (lends (numbers_by x.call) r.state x.numbers h.lent long) in
          rw (is, e) (
            ap (λ (k : Guard). (answer k x.call).reply.number) same-guard,
            numbers-written x.numbers _ long ∙ ap (λ (k : Guard). (answer k x.call).reply.first ∷ (answer k x.call).reply.second ∷ []) same-guard,
            record {
              lent = (run-held r.state r.tables h.lent x.call).1;
              state = (run-held r.state r.tables h.lent x.call).0 ∙ ap (λ (k : Guard). (answer k x.call).guard.state) same-guard;
              tables = ap (λ (k : Guard). (answer k x.call).guard.tables) same-guard;
            },
          )
      by false e = unreached (lendable (numbers_by x.call) r.state x.numbers) refl
        where
          other : length x.numbers ≡ numbers_by x.call → ⊥
          other = eqb-false (length x.numbers) (numbers_by x.call) e

          unreached : (b : Bool) → lendable (numbers_by x.call) r.state x.numbers ≡ b → Owed x
          unreached true l = absurd (other (numbers-lent (numbers_by x.call) r.state x.numbers l))
          unreached false l = rw (call-unfit r.state x.numbers r.tables x.call l, e) (refl, numbers-left x.numbers (refused 7) other, h)

along : (calls : List Exported) (r : Returned) (g : Guard) → Held r.state r.tables g → Along r g calls
along [] r g h = h
along (x ∷ xs) r g h =
    let step : Owed r g h x = one r g h x in
    (h, step.0, step.1, along xs (exported_after r x) (guard_owed g x) step.2)

-- The guard's list, call by call: one that does not reach the guard is none of it.
made_after : (g : Guard) (x : Exported) (xs : List Exported) → guard_after g (calls_made (x ∷ xs)) ≡ guard_after (guard_owed g x) (calls_made xs)
unfolding calls_made guard_after
made_after g x xs = by (reaches x) refl
  where
    by : (b : Bool) → reaches x ≡ b → guard_after g (calls_made (x ∷ xs)) ≡ guard_after (guard_owed g x) (calls_made xs)
    by true e = rw e refl
    by false e = rw e refl

made_none : (g : Guard) → guard_after g (calls_made []) ≡ g
unfolding calls_made guard_after
made_none g = refl

-- Where every numbers run has its length no call is left out.
all_made : (calls : List Exported) → AllFit calls → calls_made calls ≡ map (λ x. x.call) calls
unfolding calls_made
all_made [] fit = refl
all_made (x ∷ xs) fit =
    rw (eq-eqb (length x.numbers) (numbers_by x.call) fit.0) (ap (λ (l : List Call). x.call ∷ l) (all_made xs fit.1))

left-held : (calls : List Exported) (r : Returned) (g : Guard) → Held r.state r.tables g
    → Held (left_by r calls).state (left_by r calls).tables (guard_after g (calls_made calls))
unfolding left_by
left-held [] r g h = rw made_none h
left-held (x ∷ xs) r g h = rw (made_after g x xs) (left-held xs (exported_after r x) (guard_owed g x) (one r g h x).2)

-- The start, by its runs.
module _ (given : Givens) (bytes run numbers : List ℕ) (t : Tables) where
  abbrev start : Outcome
  start = start_of given bytes t

  abbrev started : Returned
  started = start_at given bytes run numbers t

  start_fits : runs_fit answer_numbers run numbers ≡ true
      → started ≡ replied answer_numbers start.reply (run_started run start.reply start.guard.state) numbers start.guard.tables
  unfolding start_at
  start_fits e = rw e refl

  start-unfit : runs_fit answer_numbers run numbers ≡ false
      → started ≡ replied answer_numbers (refused (settle start.reply.number 7 (λ n. n))) run numbers t
  unfolding start_at
  start-unfit e = rw e refl

  -- Runs of another length are refused.
  never : (n : ℕ) → settle n 7 (λ k. k) ≡ 0 → ⊥
  unfolding settle
  never zero e = omega arith
  never (suc n) e = omega arith

  start-fitting : started.number ≡ 0 → runs_fit answer_numbers run numbers ≡ true
  unfolding replied
  start-fitting z = by (runs_fit answer_numbers run numbers) refl
    where
      by : (b : Bool) → runs_fit answer_numbers run numbers ≡ b → b ≡ true
      by true e = refl
      by false e = absurd (never start.reply.number (sym (ap (λ (r : Returned). r.number) (start-unfit e)) ∙ z))

  -- There are sixteen entry pages.
  start-long : length start.guard.state.entry_pages ≡ entry_words
  unfolding start_of start_guard start_state entry_pages zero_state settle
  start-long = by (first_no (start_questions given bytes (policy_of bytes) (lengths_of t)))
    where
      by : (n : ℕ)
          → length (settle n (outcome (accepted (policy_of bytes).count (policy_of bytes).entry_count) (start_guard given (policy_of bytes)))
          (refused_of (guard_of zero_state t) nothing_brought)).guard.state.entry_pages ≡ entry_words
      by zero = length-table entry_words _
      by (suc n) = length-table entry_words _

  start-held : (fit : runs_fit answer_numbers run numbers ≡ true) → start.reply.number ≡ 0 → Held started.state started.tables start.guard
  unfolding replied run_started
  start-held fit z =
      rw (start_fits fit, settle-accepted (words_of start.guard.state) (λ _. run) z)
      (record { lent = words-lent start.guard.state start-long; state = words-decoded start.guard.state start-long; tables = refl })

  start-numbers : runs_fit answer_numbers run numbers ≡ true → started.numbers ≡ start.reply.first ∷ start.reply.second ∷ []
  unfolding replied
  start-numbers fit = rw (start_fits fit) (numbers-written numbers start.reply (fitting-numbers answer_numbers run numbers fit))

  start-number : runs_fit answer_numbers run numbers ≡ true → started.number ≡ start.reply.number
  unfolding replied
  start-number fit = rw (start_fits fit) refl

  carried : (calls : List Exported) → started.number ≡ 0 → Carried given bytes t started calls
  carried calls z =
      let fit : runs_fit answer_numbers run numbers ≡ true = start-fitting z in
      let accepts : start.reply.number ≡ 0 = sym (start-number fit) ∙ z in
      let h : Held started.state started.tables start.guard = start-held fit accepts in
      record {
        accepted = accepts;
        numbers = start-numbers fit;
        along = along calls started start.guard h;
        after = left-held calls started start.guard h;
        whole = all_made calls;
        claimed = claim given bytes t (calls_made calls) accepts;
      }

  start-returns : StartNumber given bytes run numbers t
  unfolding replied
  start-returns =
      record {
        fitting = λ long given. start-number (fits answer_numbers run numbers long given);
        own = own (runs_fit answer_numbers run numbers) refl;
        unfit = unfit (runs_fit answer_numbers run numbers) refl;
      }
    where
      own : (b : Bool) → runs_fit answer_numbers run numbers ≡ b → (start.reply.number ≡ 0 → ⊥) → started.number ≡ start.reply.number
      own true e refuses = start-number e
      own false e refuses = rw (start-unfit e) (settle-refused-by start.reply.number 7 (λ n. n) refuses refl)

      unfit : (b : Bool) → runs_fit answer_numbers run numbers ≡ b → start.reply.number ≡ 0 → (length run ≡ state_words → length numbers ≡ answer_numbers → ⊥)
          → started.number ≡ 7
      unfit true e accepts other = absurd (other (fitting-long answer_numbers run numbers e) (fitting-numbers answer_numbers run numbers e))
      unfit false e accepts other = rw (start-unfit e) (settle-accepted 7 (λ n. n) accepts)

pub exported-claim : ExportedClaim
unfolding ExportedClaim
exported-claim given bytes run numbers t calls z = carried given bytes run numbers t calls z

-- The number of a call.
call_returns : (run numbers : List ℕ) (t : Tables) (call : Call) → CallNumber run numbers t call
unfolding replied
call_returns run numbers t call = record { fitting = fitting; unfit = unfit (lendable (numbers_by call) run numbers) refl }
  where
    fitting : Lent run → length numbers ≡ numbers_by call → (call_at run numbers t call).number ≡ (answer (guard_of (state_in run) t) call).reply.number
    fitting l long = rw (call_fits run numbers t call (lends (numbers_by call) run numbers l long)) refl

    unfit : (b : Bool) → lendable (numbers_by call) run numbers ≡ b → (Lent run → length numbers ≡ numbers_by call → ⊥) → (call_at run numbers t call).number ≡ 7
    unfit true e other = absurd (other (lent (numbers_by call) run numbers e) (numbers-lent (numbers_by call) run numbers e))
    unfit false e other = rw (call-unfit run numbers t call e) refl

pub number-returned : NumberReturned
unfolding NumberReturned
number-returned = (call_returns, start-returns)

-- What a refused call leaves.
zeros : (numbers : List ℕ) (n : ℕ) → with_numbers answer_numbers numbers (refused n) ≡ zeroed numbers
unfolding with_numbers overwritten zeroed
zeros numbers n = refl

call-leaves : (run numbers : List ℕ) (t : Tables) (call : Call) → ((call_at run numbers t call).number ≡ 0 → ⊥) → Left run numbers t (call_at run numbers t call)
unfolding replied answer settle run_after
call-leaves run numbers t call refuses = by (lendable (numbers_by call) run numbers) refl
  where
    g : Guard
    g = guard_of (state_in run) t

    settled : (n : ℕ) → let o : Outcome = settle n (effect_of g call) (refused_of g (brought_by call)) in
        (o.reply.number ≡ 0 → ⊥)
        → Left run numbers t (replied (numbers_by call) o.reply (run_after run (changed_by call) o.reply o.guard.state) numbers o.guard.tables)
    settled zero wrong = absurd (wrong (effects g call).number)
    settled (suc n) wrong = record { state = refl; tables = refl; numbers_run = zeros numbers (suc n) }

    by : (b : Bool) → lendable (numbers_by call) run numbers ≡ b → Left run numbers t (call_at run numbers t call)
    by true e =
        rw (call_fits run numbers t call e)
        (settled (first_no (questions_of (seen g) call)) (λ z. refuses (ap (λ (r : Returned). r.number) (call_fits run numbers t call e) ∙ z)))
    by false e = rw (call-unfit run numbers t call e) (record { state = refl; tables = refl; numbers_run = zeros numbers 7 })

start-leaves : (given : Givens) (bytes run numbers : List ℕ) (t : Tables) → ((start_at given bytes run numbers t).number ≡ 0 → ⊥)
    → Left run numbers t (start_at given bytes run numbers t)
unfolding replied start_of settle run_started
start-leaves given bytes run numbers t refuses = by (runs_fit answer_numbers run numbers) refl
  where
    settled : (n : ℕ)
        → let o : Outcome = settle n (outcome (accepted (policy_of bytes).count (policy_of bytes).entry_count) (start_guard given (policy_of bytes)))
        (refused_of (guard_of zero_state t) nothing_brought) in
        (o.reply.number ≡ 0 → ⊥)
        → Left run numbers t (replied answer_numbers o.reply (run_started run o.reply o.guard.state) numbers o.guard.tables)
    settled zero wrong = absurd (wrong refl)
    settled (suc n) wrong = record { state = refl; tables = refl; numbers_run = zeros numbers (suc n) }

    by : (b : Bool) → runs_fit answer_numbers run numbers ≡ b → Left run numbers t (start_at given bytes run numbers t)
    by true e =
        rw (start_fits given bytes run numbers t e)
        (settled (first_no (start_questions given bytes (policy_of bytes) (lengths_of t)))
        (λ z. refuses (ap (λ (r : Returned). r.number) (start_fits given bytes run numbers t e) ∙ z)))
    by false e =
        rw (start-unfit given bytes run numbers t e)
        (record { state = refl; tables = refl; numbers_run = zeros numbers (settle (start_of given bytes t).reply.number 7 (λ n. n)) })

record-leaves : (policy : Policy) (buffer numbers : List ℕ) → ((record_at policy buffer numbers).number ≡ 0 → ⊥)
    → ((record_at policy buffer numbers).buffer ≡ buffer) × ((record_at policy buffer numbers).numbers ≡ zeroed numbers)
unfolding record_at write_record_of settle
record-leaves policy buffer numbers =
    by (first_no (write_record_questions (eqb (length numbers) answer_numbers) policy (length buffer)))
  where
    by : (n : ℕ) → let w : Written = settle n (written (accepted (length (record_of policy)) 0) (record_of policy ++ drop (length (record_of policy)) buffer))
        (λ k. written (refused k) buffer) in
        (w.reply.number ≡ 0 → ⊥) → (w.buffer ≡ buffer) × (with_numbers answer_numbers numbers w.reply ≡ zeroed numbers)
    by zero wrong = absurd (wrong refl)
    by (suc n) wrong = (refl, zeros numbers (suc n))

walk-leaves : (tree : Tree) (page : ℕ) (numbers : List ℕ) → ((walk_at tree page numbers).number ≡ 0 → ⊥) → (walk_at tree page numbers).numbers ≡ zeroed numbers
unfolding walk_at walk_reply settle
walk-leaves tree page numbers = by (first_no (walk_questions (eqb (length numbers) answer_numbers) tree))
  where
    by : (n : ℕ) → let reply : Reply = settle n (accepted (flat_at tree page) (reads_at tree page)) refused in
        (reply.number ≡ 0 → ⊥) → with_numbers answer_numbers numbers reply ≡ zeroed numbers
    by zero wrong = absurd (wrong refl)
    by (suc n) wrong = zeros numbers (suc n)

pub refused-leaves : RefusedLeaves
unfolding RefusedLeaves
refused-leaves = (call-leaves, start-leaves, record-leaves, walk-leaves)
