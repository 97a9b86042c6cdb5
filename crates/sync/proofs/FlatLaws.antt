-- A law for each answer of this crate's functions: a sweep, and the calls from a flat table.
use Prim.Native.Nat.{ℕ, ◌+◌, ◌≤◌, ◌<◌}
use mathlib.Core.Bool.{Bool, true, false, not}
use mathlib.Core.List.{List, ◌∷◌}
use mathlib.Core.Path.{◌≡◌, refl, sym, ◌∙◌}
use native.Mathlib.Omega.{arith}
use lib.Dec.{ltb, eqb}
use lib.ListN.{length, get_or}
use borrow.Author.Tests.{eqb-true, not-false}
use Rattle.model.specs.declared.State.{State}
use Rattle.std.specs.Prelude.{Ok, Err}
use Rattle.model.specs.declared.Refusal.TheVariants.{StateOrTable, DoesNotExist}
use Rattle.model.specs.Guard.{Tables, with_three, Guard, guard_of, vector_bytes}
use Rattle.model.specs.Sync.{Rules, Slot, step, Sweep, sweep, sweep_from, entry_in, step_from}
use Rattle.model.specs.Questions.{state_in_order, in_order, sync_all_questions, sync_page_questions}
use Rattle.model.specs.Calls.{outcome_by, rules_of, sync_page, sync_all, questions_of, effect_of, answer}
use Rattle.laws.proofs.StateLaws.{frames-few, Fit, in_order_lem}
use Rattle.laws.proofs.CallLaws.{passed, stopped, none_left, refused-by, accepted-by}
use Rattle.laws.proofs.SweepLaws.{whole, whole-more, whole-over}
use Rattle.step.specs.Steps.{stored}
use Rattle.sync.proofs.SyncLaws.{guard_fit, vector-fits, map-matches, below-in-shadow, below-in-map, page-below, all-given, one-given}

-- A sweep page by page: after page i, and after the last.
pub sweep-more : (r : Rules) (kernel : List ℕ) (i : ℕ) (shadow map shadow' map' : List ℕ) (changed joined x y : ℕ) (all : Sweep)
    → whole (step_from r (entry_in kernel)) i (sweep shadow map changed joined) ≡ all → i < length kernel → length shadow ≡ length kernel
    → length map ≡ length kernel → sweep shadow' map' x y ≡ stored i (sweep shadow map changed joined) (step r (get_or kernel i 0) (get_or map i 0))
    → whole (step_from r (entry_in kernel)) (i + 1) (sweep shadow' map' x y) ≡ all
unfolding stored step_from
sweep-more r kernel i shadow map shadow' map' changed joined x y all inv l ls lm p =
    let q : Slot = step r (get_or kernel i 0) (get_or map i 0) in
    rw p (whole-more (step_from r (entry_in kernel)) i shadow map changed joined q.entry q.approval _ _ all inv (omega arith) (omega arith) refl refl refl)

pub sweep-over : (r : Rules) (kernel : List ℕ) (i : ℕ) (shadow map : List ℕ) (changed joined : ℕ) (all : Sweep)
    → whole (step_from r (entry_in kernel)) i (sweep shadow map changed joined) ≡ all → length shadow ≡ length kernel → length kernel ≤ i
    → sweep shadow map changed joined ≡ all
sweep-over r kernel i shadow map changed joined all inv ls past = whole-over (step_from r (entry_in kernel)) i shadow map changed joined all inv (omega arith)

-- Of a kernel table besides.
abbrev lent_fit : State → ℕ → ℕ → ℕ → ℕ → List Bool
lent_fit s kernel shadow map exclusion = eqb kernel s.pages ∷ guard_fit s shadow map exclusion

-- Question 7 answered yes.
module _ (s : State) (kernel shadow map exclusion : ℕ) (r : Bool) (asked : r ≡ in_order (state_in_order s) (lent_fit s kernel shadow map exclusion))
    (yes7 : not r ≡ false) where
  fit-flat : (eqb kernel s.pages ≡ true) × Fit (guard_fit s shadow map exclusion)
  fit-flat =
      let each = (in_order_lem (state_in_order s) (lent_fit s kernel shadow map exclusion) (sym asked ∙ not-false r yes7)).1 in
      (each.0, each.1)

  pub flat-covers : shadow ≡ kernel
  flat-covers = eqb-true _ _ fit-flat.1.0 ∙ sym (eqb-true _ _ fit-flat.0)

  pub flat_map : map ≡ kernel
  flat_map = map-matches s shadow map exclusion fit-flat.1 ∙ flat-covers

  pub flat-vector : exclusion ≡ vector_bytes s.frames
  flat-vector = vector-fits s shadow map exclusion fit-flat.1

  pub flat-few : s.frames ≤ 4096
  flat-few = frames-few s (in_order_lem (state_in_order s) (lent_fit s kernel shadow map exclusion) (sym asked ∙ not-false r yes7)).0

  module _ (page : ℕ) (b : Bool) (exists : b ≡ ltb page s.pages) (there : not b ≡ false) where
    pub flat-page-kernel : page < kernel
    flat-page-kernel = rw (eqb-true kernel s.pages fit-flat.0) (page-below s page b exists there)

    pub flat-page-shadow : page < shadow
    flat-page-shadow = below-in-shadow s shadow map exclusion fit-flat.1 page (page-below s page b exists there)

    pub flat-page-map : page < map
    flat-page-map = below-in-map s shadow map exclusion fit-flat.1 page (page-below s page b exists there)

-- The calls from a flat table, refused and accepted.
module _ (s : State) (kernel shadow map exclusion : List ℕ) (r : Bool)
    (asked : r ≡ in_order (state_in_order s) (lent_fit s (length kernel) (length shadow) (length map) (length exclusion))) where
  abbrev before : Tables → Guard
  before t = guard_of s (with_three shadow map exclusion t)

  pub all-refused : not r ≡ true → (t : Tables)
      → outcome_by (Err StateOrTable) s (with_three shadow map exclusion t) ≡ answer (before t) (sync_all kernel)
  unfolding questions_of sync_all_questions
  all-refused p t = refused-by (before t) (sync_all kernel) (Err StateOrTable) s StateOrTable (sym (stopped 7 r _ _ asked p)) refl refl

  pub page-refused : (page : ℕ) → not r ≡ true → (t : Tables)
      → outcome_by (Err StateOrTable) s (with_three shadow map exclusion t) ≡ answer (before t) (sync_page kernel page)
  unfolding questions_of sync_page_questions
  page-refused page p t = refused-by (before t) (sync_page kernel page) (Err StateOrTable) s StateOrTable (sym (stopped 7 r _ _ asked p)) refl refl

  module _ (yes7 : not r ≡ false) where
    pub all-accepted : (given : Rules) (shadow' map' : List ℕ) (x y : ℕ) → given ≡ rules_of s exclusion
        → sweep shadow' map' x y ≡ sweep_from (step_from given (entry_in kernel)) 0 shadow map → (t : Tables)
        → outcome_by (Ok (x, y)) s (with_three shadow' map' exclusion t) ≡ answer (before t) (sync_all kernel)
    unfolding questions_of sync_all_questions effect_of
    all-accepted given shadow' map' x y q p t =
        accepted-by (before t) (sync_all kernel) _ (sym (passed 7 0 r _ _ asked yes7 none_left))
        (all-given s shadow map exclusion (entry_in kernel) given shadow' map' x y q p t)

    module _ (page : ℕ) (b : Bool) (exists : b ≡ ltb page s.pages) where
      pub page-absent : not b ≡ true → (t : Tables)
          → outcome_by (Err DoesNotExist) s (with_three shadow map exclusion t) ≡ answer (before t) (sync_page kernel page)
      unfolding questions_of sync_page_questions
      page-absent p t =
          refused-by (before t) (sync_page kernel page) (Err DoesNotExist) s DoesNotExist (sym (passed 7 9 r _ _ asked yes7 (stopped 9 b _ _ exists p))) refl refl

      pub page-accepted : (given : Rules) (shadow' map' : List ℕ) (c j x y : ℕ) → not b ≡ false → given ≡ rules_of s exclusion → (c ≡ 0) × (j ≡ 0)
          → sweep shadow' map' x y ≡ stored page (sweep shadow map c j) (step given (get_or kernel page 0) (get_or map page 0))
          → (t : Tables)
          → outcome_by (Ok (x, y)) s (with_three shadow' map' exclusion t) ≡ answer (before t) (sync_page kernel page)
      unfolding questions_of sync_page_questions effect_of
      page-accepted given shadow' map' c j x y there q z p t =
          let inside : page < length map = flat-page-map s (length kernel) (length shadow) (length map) (length exclusion) r asked yes7 page b exists there in
          accepted-by (before t) (sync_page kernel page) _ (sym (passed 7 0 r _ _ asked yes7 (passed 9 0 b _ _ exists there none_left)))
          (one-given s shadow map exclusion (entry_in kernel) given page shadow' map' x y inside q (rw (z.0, z.1) at p) t)
