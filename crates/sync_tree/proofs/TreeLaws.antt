-- A law for each answer of the calls from a tree.
use Prim.Native.Nat.{ℕ, ◌<◌, ◌≤◌}
use mathlib.Core.Bool.{Bool, true, false, not}
use mathlib.Core.List.{List}
use mathlib.Core.Path.{◌≡◌, refl, sym, ap, ◌∙◌}
use lib.Dec.{ltb}
use lib.ListN.{length, get_or}
use borrow.Author.Tests.{not-false}
use Rattle.model.specs.declared.State.{State}
use Rattle.std.specs.Prelude.{Ok, Err}
use Rattle.model.specs.declared.Refusal.{Refusal}
use Rattle.model.specs.Refusals.{number_of}
use Rattle.model.specs.declared.Refusal.TheVariants.{StateOrTable, DoesNotExist}
use Rattle.model.specs.Guard.{Tables, with_three, Guard, guard_of, vector_bytes}
use Rattle.model.specs.Bits.{taken_apart}
use Rattle.model.specs.Sync.{Rules, step, sweep, sweep_from, step_from}
use Rattle.model.specs.Tree.{Tree, tree_of, tree_in_order, flat_at}
use Rattle.tree.specs.declared.given.Tree.{Tree as Given}
use Rattle.tree.specs.Parts.{tree_in}
use Rattle.model.specs.Questions.{state_in_order, in_order, sync_all_tree_questions, sync_page_tree_questions}
use Rattle.model.specs.Calls.{outcome_by, rules_of, sync_page_tree, sync_all_tree, questions_of, effect_of, answer}
use Rattle.laws.proofs.StateLaws.{frames-few, Fit, in_order_lem}
use Rattle.laws.proofs.CallLaws.{passed, stopped, none_left, refused-by, accepted-by}
use Rattle.step.specs.Steps.{stored}
use Rattle.sync.proofs.SyncLaws.{guard_fit, vector-fits, map-matches, below-in-shadow, below-in-map, page-below, all-given, one-given}
use Rattle.sync_tree.proofs.SourceLaws.{step_same}

-- Question 7 answered yes.
module _ (s : State) (shadow map exclusion : ℕ) (r : Bool) (asked : r ≡ in_order (state_in_order s) (guard_fit s shadow map exclusion))
    (yes7 : not r ≡ false) where
  fit-tree : Fit (guard_fit s shadow map exclusion)
  fit-tree = (in_order_lem (state_in_order s) (guard_fit s shadow map exclusion) (sym asked ∙ not-false r yes7)).1

  pub tree_map : map ≡ shadow
  tree_map = map-matches s shadow map exclusion fit-tree

  pub tree-vector : exclusion ≡ vector_bytes s.frames
  tree-vector = vector-fits s shadow map exclusion fit-tree

  pub tree-few : s.frames ≤ 4096
  tree-few = frames-few s (in_order_lem (state_in_order s) (guard_fit s shadow map exclusion) (sym asked ∙ not-false r yes7)).0

  module _ (page : ℕ) (b : Bool) (exists : b ≡ ltb page s.pages) (there : not b ≡ false) where
    pub tree-page-shadow : page < shadow
    tree-page-shadow = below-in-shadow s shadow map exclusion fit-tree page (page-below s page b exists there)

    pub tree-page-map : page < map
    tree-page-map = below-in-map s shadow map exclusion fit-tree page (page-below s page b exists there)

-- The calls from a tree: 7, 17 and 9 in this order.
module _ (s : State) (words : List ℕ) (root depth : ℕ) (shadow map exclusion : List ℕ) (r : Bool)
    (asked : r ≡ in_order (state_in_order s) (guard_fit s (length shadow) (length map) (length exclusion))) where
  abbrev tree : Tree
  tree = tree_of words root depth

  abbrev before-tree : Tables → Guard
  before-tree t = guard_of s (with_three shadow map exclusion t)

  pub all-tree-7 : not r ≡ true → (t : Tables)
      → outcome_by (Err StateOrTable) s (with_three shadow map exclusion t) ≡ answer (before-tree t) (sync_all_tree tree)
  unfolding questions_of sync_all_tree_questions
  all-tree-7 p t = refused-by (before-tree t) (sync_all_tree tree) (Err StateOrTable) s StateOrTable (sym (stopped 7 r _ _ asked p)) refl refl

  pub page-tree-7 : (page : ℕ) → not r ≡ true → (t : Tables)
      → outcome_by (Err StateOrTable) s (with_three shadow map exclusion t) ≡ answer (before-tree t) (sync_page_tree tree page)
  unfolding questions_of sync_page_tree_questions
  page-tree-7 page p t = refused-by (before-tree t) (sync_page_tree tree page) (Err StateOrTable) s StateOrTable (sym (stopped 7 r _ _ asked p)) refl refl

  module _ (yes7 : not r ≡ false) where
    pub all-tree-17 : (refusal : Refusal) → number_of refusal ≡ 17 → tree_in_order tree ≡ false → (t : Tables)
        → outcome_by (Err refusal) s (with_three shadow map exclusion t) ≡ answer (before-tree t) (sync_all_tree tree)
    unfolding questions_of sync_all_tree_questions
    all-tree-17 refusal n p t =
        refused-by (before-tree t) (sync_all_tree tree) (Err refusal) s refusal
        (sym (passed 7 17 r _ _ asked yes7 (stopped 17 (tree_in_order tree) _ _ refl (ap not p))) ∙ sym n) refl refl

    pub page-tree-17 : (page : ℕ) (refusal : Refusal) → number_of refusal ≡ 17 → tree_in_order tree ≡ false → (t : Tables)
        → outcome_by (Err refusal) s (with_three shadow map exclusion t) ≡ answer (before-tree t) (sync_page_tree tree page)
    unfolding questions_of sync_page_tree_questions
    page-tree-17 page refusal n p t =
        refused-by (before-tree t) (sync_page_tree tree page) (Err refusal) s refusal
        (sym (passed 7 17 r _ _ asked yes7 (stopped 17 (tree_in_order tree) _ _ refl (ap not p))) ∙ sym n) refl refl

    module _ (made : Given) (same : tree_in made ≡ tree) where
      yes17 : not (tree_in_order tree) ≡ false
      yes17 = ap not (rw same at made.in_order)

      pub all-tree-accepted : (given : Rules) (shadow' map' : List ℕ) (x y : ℕ) → given ≡ rules_of s exclusion
          → sweep shadow' map' x y ≡ sweep_from (step_from given (flat_at (tree_in made))) 0 shadow map → (t : Tables)
          → outcome_by (Ok (x, y)) s (with_three shadow' map' exclusion t) ≡ answer (before-tree t) (sync_all_tree tree)
      unfolding questions_of sync_all_tree_questions effect_of
      all-tree-accepted given shadow' map' x y q p t =
          accepted-by (before-tree t) (sync_all_tree tree) _ (sym (passed 7 0 r _ _ asked yes7 (passed 17 0 (tree_in_order tree) _ _ refl yes17 none_left)))
          (all-given s shadow map exclusion (flat_at tree) given shadow' map' x y q (rw same at p) t)

      module _ (page : ℕ) (b : Bool) (exists : b ≡ ltb page s.pages) where
        pub page-tree-9 : not b ≡ true → (t : Tables)
            → outcome_by (Err DoesNotExist) s (with_three shadow map exclusion t) ≡ answer (before-tree t) (sync_page_tree tree page)
        unfolding questions_of sync_page_tree_questions
        page-tree-9 p t =
            refused-by (before-tree t) (sync_page_tree tree page) (Err DoesNotExist) s DoesNotExist
            (sym (passed 7 9 r _ _ asked yes7 (passed 17 9 (tree_in_order tree) _ _ refl yes17 (stopped 9 b _ _ exists p)))) refl refl

        pub page-tree-accepted : (given : Rules) (k : ℕ) (shadow' map' : List ℕ) (c j x y : ℕ) → not b ≡ false → given ≡ rules_of s exclusion → (c ≡ 0) × (j ≡ 0)
            → taken_apart k ≡ taken_apart (flat_at (tree_in made) page)
            → sweep shadow' map' x y ≡ stored page (sweep shadow map c j) (step given k (get_or map page 0)) → (t : Tables)
            → outcome_by (Ok (x, y)) s (with_three shadow' map' exclusion t) ≡ answer (before-tree t) (sync_page_tree tree page)
        unfolding questions_of sync_page_tree_questions effect_of
        page-tree-accepted given k shadow' map' c j x y there q z apart p t =
            let inside : page < length map = tree-page-map s (length shadow) (length map) (length exclusion) r asked yes7 page b exists there in
            accepted-by (before-tree t) (sync_page_tree tree page) _
            (sym (passed 7 0 r _ _ asked yes7 (passed 17 0 (tree_in_order tree) _ _ refl yes17 (passed 9 0 b _ _ exists there none_left))))
            (one-given s shadow map exclusion (flat_at tree) given page shadow' map' x y inside q
            (rw (z.0, z.1) at p ∙ ap (stored page (sweep shadow map 0 0)) (step_same _ k (flat_at tree page) (get_or map page 0) (rw same at apart))) t)
