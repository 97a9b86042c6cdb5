-- What each exported call returns and leaves, on every input: the model's answer, on the decoded state where it is lent one, with the boundary's part of
-- question 7.
use Rattle.std.specs.Prelude.{ℕ, true, cond, List, ◌≡◌, length, eqb}
use Rattle.model.specs.Guard.{Tables, guard_of}
use Rattle.model.specs.Policy.{Givens, Policy}
use Rattle.model.specs.Calls.{Reply, refused, settle, Outcome, start_of, Call, answer}
use Rattle.record_model.specs.Record.{Written, write_record_of}
use Rattle.model.specs.Tree.{Tree}
use Rattle.model.specs.Walks.{walk_reply}
use Rattle.boundary_model.specs.Words.{state_in, answer_numbers, numbers_by, changed_by, with_numbers, runs_fit, lendable, run_after, run_started}

-- What a call returns, both runs at its exit, and the guard's tables then.
pub record Returned : Type 0 where
  pub number : ℕ
  pub state : List ℕ
  pub numbers : List ℕ
  pub tables : Tables

abbrev pub returned : ℕ → List ℕ → List ℕ → Tables → Returned
returned number state numbers t = record { number = number; state = state; numbers = numbers; tables = t }

-- A reply of a call that gives count numbers: its number is returned, and these go to the numbers run.
unfoldable pub replied : ℕ → Reply → List ℕ → List ℕ → Tables → Returned
replied count reply run numbers t = returned reply.number run (with_numbers count numbers reply) t

-- Every call on a state: all but the start, the call that writes a record and the call that walks a page. Question 7 comes first: where a run cannot be
-- lent, it refuses, and changes neither the state run nor a table. A call puts into the state run what it can change, and no other word.
unfoldable pub call_at : List ℕ → List ℕ → Tables → Call → Returned
call_at run numbers t call =
    let o : Outcome = answer (guard_of (state_in run) t) call in
    let count : ℕ = numbers_by call in
    cond (lendable count run numbers)
    (replied count o.reply (run_after run (changed_by call) o.reply o.guard.state) numbers o.guard.tables)
    (replied count (refused 7) run numbers t)

-- The start asks its own questions first, whose last is 7, and then for the lengths of both runs. What the state run holds is not read.
unfoldable pub start_at : Givens → List ℕ → List ℕ → List ℕ → Tables → Returned
start_at given bytes run numbers t =
    let o : Outcome = start_of given bytes t in
    cond (runs_fit answer_numbers run numbers)
    (replied answer_numbers o.reply (run_started run o.reply o.guard.state) numbers o.guard.tables)
    (replied answer_numbers (refused (settle o.reply.number 7 (λ n. n))) run numbers t)

-- What the call that writes a record returns, and the buffer and its numbers run at its exit. It is lent no state.
pub record Recorded : Type 0 where
  pub number : ℕ
  pub buffer : List ℕ
  pub numbers : List ℕ

abbrev pub recorded : ℕ → List ℕ → List ℕ → Recorded
recorded number buffer numbers = record { number = number; buffer = buffer; numbers = numbers }

-- A numbers run of another length gives 7 in its place, and is not written.
unfoldable pub record_at : Policy → List ℕ → List ℕ → Recorded
record_at policy buffer numbers =
    let w : Written = write_record_of (eqb (length numbers) answer_numbers) policy buffer in
    recorded w.reply.number w.buffer (with_numbers answer_numbers numbers w.reply)

-- What the call that walks a page returns, and its numbers run at its exit. It is lent no state.
pub record Walked : Type 0 where
  pub number : ℕ
  pub numbers : List ℕ

abbrev pub walked : ℕ → List ℕ → Walked
walked number numbers = record { number = number; numbers = numbers }

-- A numbers run of another length gives 7, before 17, and is not written.
unfoldable pub walk_at : Tree → ℕ → List ℕ → Walked
walk_at tree page numbers =
    let reply : Reply = walk_reply (eqb (length numbers) answer_numbers) tree page in
    walked reply.number (with_numbers answer_numbers numbers reply)

-- Where both runs can be lent, whatever else they hold, the state run holds after every call the state that the call's definition answers. From an accepted
-- start on the state run can be lent, and holds the state of the list's guard: ExportedLists.
unfoldable pub StateHeld : Type 0
StateHeld =
    (run numbers : List ℕ) (t : Tables) (call : Call) → lendable (numbers_by call) run numbers ≡ true
    → state_in (call_at run numbers t call).state ≡ (answer (guard_of (state_in run) t) call).guard.state
