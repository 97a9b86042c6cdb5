-- `boundary_model::state_held` meets its contract.
use Prim.Native.Nat.{ℕ}
use mathlib.Core.Bool.{true}
use mathlib.Core.List.{List}
use mathlib.Core.Path.{◌≡◌}
use Rattle.model.specs.Guard.{Tables, guard_of}
use Rattle.model.specs.Calls.{Call, answer}
use Rattle.boundary_model.specs.Words.{state_in, numbers_by, lendable}
use Rattle.boundary_model.specs.Boundary.{replied, call_at, StateHeld}
use Rattle.boundary_model.proofs.LentLaws.{lent}
use Rattle.boundary_model.proofs.HeldLaws.{run-held}
use Rattle.boundary_model.proofs.state_held.Goals as goal

whole : (run numbers : List ℕ) (t : Tables) (call : Call) → lendable (numbers_by call) run numbers ≡ true
    → state_in (call_at run numbers t call).state ≡ (answer (guard_of (state_in run) t) call).guard.state
unfolding call_at replied
whole run numbers t call lends = rw lends (run-held run t (lent (numbers_by call) run numbers lends) call).0

pub returns : goal.returns
unfolding StateHeld
returns c = whole
