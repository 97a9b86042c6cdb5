-- Laws of every synchronisation, from a flat table or from a tree: what question 7 has settled, and what is given. `sync_tree` cites them too.
use Prim.Native.Nat.{ℕ, ◌<◌}
use mathlib.Core.Bool.{Bool, false, not}
use mathlib.Core.List.{List, [], ◌∷◌}
use mathlib.Core.Path.{◌≡◌, sym, ap, ◌∙◌}
use native.Mathlib.Nat.{zero-add}
use lib.Dec.{ltb, eqb}
use lib.ListN.{length, get_or, set}
use borrow.Author.Tests.{eqb-true, ltb-true, not-false}
use Rattle.model.specs.declared.State.{State}
use Rattle.std.specs.Prelude.{Ok}
use Rattle.model.specs.Basics.{differs}
use Rattle.model.specs.Guard.{none, Tables, with_three, Guard, guard_of, vector_bytes}
use Rattle.model.specs.Sync.{Rules, Slot, step, sweep, sweep_from, step_from}
use Rattle.model.specs.Calls.{reply_of, outcome_by, rules_of, page_synced, all_synced, page_from, all_from}
use Rattle.laws.proofs.StateLaws.{Fit}
use Rattle.laws.proofs.SweepLaws.{get_or-inside}
use Rattle.step.specs.Steps.{stored}

-- The answers to question 7 of the guard's tables, of lengths that may be any numbers.
abbrev pub guard_fit : State → ℕ → ℕ → ℕ → List Bool
guard_fit s shadow map exclusion = eqb shadow s.pages ∷ eqb map s.pages ∷ eqb exclusion (vector_bytes s.frames) ∷ []

-- Question 7 answered yes: the tables have V places, so that they have every page below V.
module _ (s : State) (shadow map exclusion : ℕ) (fits : Fit (guard_fit s shadow map exclusion)) where
  pub vector-fits : exclusion ≡ vector_bytes s.frames
  vector-fits = eqb-true _ _ fits.1.1.0

  pub map-matches : map ≡ shadow
  map-matches = eqb-true _ _ fits.1.0 ∙ sym (eqb-true _ _ fits.0)

  pub below-in-shadow : (page : ℕ) → page < s.pages → page < shadow
  below-in-shadow page l = rw (eqb-true shadow s.pages fits.0) l

  pub below-in-map : (page : ℕ) → page < s.pages → page < map
  below-in-map page l = rw (eqb-true map s.pages fits.1.0) l

pub page-below : (s : State) (page : ℕ) (b : Bool) → b ≡ ltb page s.pages → not b ≡ false → page < s.pages
page-below s page b exists there = ltb-true page s.pages (sym exists ∙ not-false b there)

-- What a synchronisation gave, of what gives each page its kernel entry.
module _ (s : State) (shadow map exclusion : List ℕ) (kernel : ℕ → ℕ) where
  abbrev guard : Tables → Guard
  guard t = guard_of s (with_three shadow map exclusion t)

  pub all-given : (r : Rules) (shadow' map' : List ℕ) (x y : ℕ) → r ≡ rules_of s exclusion
      → sweep shadow' map' x y ≡ sweep_from (step_from r kernel) 0 shadow map → (t : Tables)
      → outcome_by (Ok (x, y)) s (with_three shadow' map' exclusion t) ≡ all_from (guard t) kernel
  unfolding all_from all_synced outcome_by reply_of
  all-given r shadow' map' x y q p t = ap (all_synced (guard t)) (rw q at p)

  pub one-given : (r : Rules) (page : ℕ) (shadow' map' : List ℕ) (x y : ℕ) → page < length map → r ≡ rules_of s exclusion
      → sweep shadow' map' x y ≡ stored page (sweep shadow map 0 0) (step r (kernel page) (get_or map page 0)) → (t : Tables)
      → outcome_by (Ok (x, y)) s (with_three shadow' map' exclusion t) ≡ page_from (guard t) kernel page
  unfolding page_from step_from page_synced all_synced stored outcome_by reply_of
  one-given r page shadow' map' x y inside q p t =
      let z : Slot = step (rules_of s exclusion) (kernel page) (get_or map page none) in
      let e
      : sweep shadow' map' x y ≡ sweep (set shadow page z.entry) (set map page z.approval) (differs (get_or shadow page 0) z.entry)
      (differs (get_or map page none) z.approval)
      = simp zero-add at (rw (q, get_or-inside map page 0 none inside) at p) in
      ap (all_synced (guard t)) e
