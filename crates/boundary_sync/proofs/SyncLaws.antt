-- The laws of an exported call's own answer, by the tables that a call that synchronises or approves is lent.
use Prim.Native.Nat.{ℕ}
use mathlib.Core.List.{List, []}
use mathlib.Core.Path.{◌≡◌}
use Rattle.std.specs.Prelude.{Result, Ok}
use Rattle.model.specs.declared.Refusal.{Refusal}
use Rattle.model.specs.declared.State.{State}
use Rattle.model.specs.Guard.{Tables, with_shadow, with_map, with_exclusion, with_three, guard_of}
use Rattle.model.specs.Calls.{Answer, reply_of, outcome_by, Call, answer}
use Rattle.decode.specs.Lent.{lent_state}
use Rattle.boundary_model.specs.Words.{numbers_by, changed_by, with_numbers}
use Rattle.boundary_model.specs.Boundary.{returned, call_at}
use Rattle.boundary.proofs.BoundaryLaws.{Says, put, called, kept}

module _ (run numbers : List ℕ) (o : Result State Refusal) (call : Call) (s : State) (lent : o ≡ lent_state (numbers_by call) run numbers) (is : o ≡ Ok s)
    (after : List ℕ) (r : ℕ) (a : Answer) where
  -- Of what is pending: all three tables, shadow and map, the vector (K6).
  pub ask-called : (shadow map exclusion exclusion' run' : List ℕ) (s' : State)
      → ((t : Tables) → outcome_by a s' (with_three shadow map exclusion' t) ≡ answer (guard_of s (with_three shadow map exclusion t)) call)
      → Says (numbers_by call) a r numbers after → run' ≡ put run call a s'
      → (t : Tables) → returned r run' after (with_three shadow map exclusion' t) ≡ call_at run numbers (with_three shadow map exclusion t) call
  ask-called shadow map exclusion exclusion' =
      called run numbers o call s lent is after r a (with_three shadow map exclusion) (with_three shadow map exclusion')

  pub commit-called : (shadow map shadow' map' run' : List ℕ) (s' : State)
      → ((t : Tables) → outcome_by a s' (with_shadow shadow' (with_map map' t)) ≡ answer (guard_of s (with_shadow shadow (with_map map t))) call)
      → Says (numbers_by call) a r numbers after → run' ≡ put run call a s'
      → (t : Tables) → returned r run' after (with_shadow shadow' (with_map map' t)) ≡ call_at run numbers (with_shadow shadow (with_map map t)) call
  commit-called shadow map shadow' map' =
      called run numbers o call s lent is after r a (λ t. with_shadow shadow (with_map map t)) (λ t. with_shadow shadow' (with_map map' t))

  pub vector-called : (exclusion exclusion' run' : List ℕ) (s' : State)
      → ((t : Tables) → outcome_by a s' (with_exclusion exclusion' t) ≡ answer (guard_of s (with_exclusion exclusion t)) call)
      → Says (numbers_by call) a r numbers after → run' ≡ put run call a s'
      → (t : Tables) → returned r run' after (with_exclusion exclusion' t) ≡ call_at run numbers (with_exclusion exclusion t) call
  vector-called exclusion exclusion' = called run numbers o call s lent is after r a (with_exclusion exclusion) (with_exclusion exclusion')

  -- Of a synchronisation: all three tables, and no word of the state run.
  pub sync-kept : (shadow map exclusion shadow' map' exclusion' : List ℕ) → changed_by call ≡ []
      → ((t : Tables) → outcome_by a s (with_three shadow' map' exclusion' t) ≡ answer (guard_of s (with_three shadow map exclusion t)) call)
      → r ≡ (reply_of a).number → after ≡ with_numbers (numbers_by call) numbers (reply_of a)
      → (t : Tables) → returned r run after (with_three shadow' map' exclusion' t) ≡ call_at run numbers (with_three shadow map exclusion t) call
  sync-kept shadow map exclusion shadow' map' exclusion' none e n w =
      kept run numbers o call s lent is after r a (with_three shadow map exclusion) (with_three shadow' map' exclusion') none e (n, w)
