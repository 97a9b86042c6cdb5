-- The state that a call is lent.
use Rattle.std.specs.Prelude.{ℕ, Bool, cond, List, Result, Ok, Err}
use Rattle.model.specs.declared.Refusal.{Refusal}
use Rattle.model.specs.declared.Refusal.TheVariants.{StateOrTable}
use Rattle.model.specs.declared.State.{State}
use Rattle.model.specs.Basics.{both}
use Rattle.model.specs.Questions.{state_in_order}
use Rattle.boundary_model.specs.Words.{state_in, lendable}

-- Question 7 as the boundary asks it: both runs can be lent, and the state is in order.
abbrev pub usable : ℕ → List ℕ → List ℕ → Bool
usable count run numbers = both (lendable count run numbers) (state_in_order (state_in run))

-- The state in a run, where that is so.
abbrev pub lent_state : ℕ → List ℕ → List ℕ → Result State Refusal
lent_state count run numbers = cond (usable count run numbers) (Ok (state_in run)) (Err StateOrTable)
