-- Question 17: each of its tests answered, and what a yes says.
use Prim.Native.Nat.{ℕ, ◌/◌, ◌%◌, ◌≤◌, ◌<◌}
use mathlib.Core.Bool.{Bool, true, false, not}
use mathlib.Core.List.{List, [], ◌∷◌}
use mathlib.Core.Path.{◌≡◌, refl, sym, ap}
use native.Mathlib.Omega.{arith}
use lib.Dec.{ltb}
use lib.ListN.{length}
use borrow.Author.Tests.{eq-eqb, ne_eqb, lt-leb, ltb-true}
use Rattle.model.specs.Basics.{both, within}
use Rattle.model.specs.declared.Refusal.{Refusal}
use Rattle.model.specs.declared.Refusal.TheVariants.{StateOrTable}
use Rattle.model.specs.Refusals.{number_of}
use Rattle.std.specs.Prelude.{Ok, Err}
use Rattle.model.specs.Tree.{Tree, tree_of, tables_in, tree_in_order, flat_at, reads_at}
use Rattle.tree.specs.declared.given.Tree.{Tree as Given}
use Rattle.model.specs.Questions.{question}
use Rattle.model.specs.Calls.{Answer, reply_of, settle}
use Rattle.model.specs.Walks.{walk_questions, walk_reply}
use Rattle.laws.proofs.CallLaws.{passed, stopped, none_left}
use Rattle.laws.proofs.QuestionLaws.{both-no, both-no-after, both_first, both-second, within-yes, within_low, within-high}

module _ (words : List ℕ) (root depth : ℕ) where
  pub not-whole : (length words % 512 ≡ 0 → ⊥) → false ≡ tree_in_order (tree_of words root depth)
  unfolding tree_in_order
  not-whole h = sym (both-no _ (ne_eqb (length words % 512) 0 h))

  pub too_shallow : depth < 1 → false ≡ tree_in_order (tree_of words root depth)
  unfolding tree_in_order within
  too_shallow h = sym (both-no-after _ (both-no _ (both-no _ (lt-leb 1 depth h))))

  pub too-deep : 3 < depth → false ≡ tree_in_order (tree_of words root depth)
  unfolding tree_in_order within
  too-deep h = sym (both-no-after _ (both-no _ (both-no-after _ (lt-leb depth 3 h))))

  pub root-asked : length words % 512 ≡ 0 → 1 ≤ depth → depth ≤ 3 → ltb root (length words / 512) ≡ tree_in_order (tree_of words root depth)
  unfolding tree_in_order tables_in both
  root-asked whole low high = rw (eq-eqb (length words % 512) 0 whole, within-yes 1 3 depth low high)

  -- A tree in order.
  module _ (fits : tree_in_order (tree_of words root depth) ≡ true) where
    pub depth-least : 1 ≤ depth
    unfolding tree_in_order
    depth-least = within_low 1 3 depth (both_first _ _ (both-second _ _ fits))

    pub depth-most : depth ≤ 3
    unfolding tree_in_order
    depth-most = within-high 1 3 depth (both_first _ _ (both-second _ _ fits))

    pub root_in : root < length words / 512
    unfolding tree_in_order tables_in
    root_in = ltb-true root (length words / 512) (both-second _ _ (both-second _ _ fits))

    pub third-left : (depth ≡ 1 → ⊥) → (depth ≡ 2 → ⊥) → depth ≡ 3
    third-left not-1 not-2 = omega (arith, depth-least, depth-most, not-1, not-2)

-- By the number that its depth is.
module _ (given : Given) (d : ℕ) (same : given.depth ≡ d) where
  pub least-of : 1 ≤ d
  least-of = rw (← same) (depth-least given.words.now given.root given.depth given.in_order)

  pub most-of : d ≤ 3
  most-of = rw (← same) (depth-most given.words.now given.root given.depth given.in_order)

-- The walk as a call: refused with 7, with 17, and accepted.
module _ (fit : Bool) (tree : Tree) (page : ℕ) where
  pub walk-7 : fit ≡ false → reply_of (Err StateOrTable) ≡ walk_reply fit tree page
  unfolding reply_of walk_reply walk_questions settle
  walk-7 p = rw (sym (stopped 7 fit fit (question 17 (tree_in_order tree) ∷ []) refl (ap not p)))

  module _ (fits : fit ≡ true) where
    pub walk-17 : (refusal : Refusal) → number_of refusal ≡ 17 → tree_in_order tree ≡ false → reply_of (Err refusal) ≡ walk_reply fit tree page
    unfolding reply_of walk_reply walk_questions settle
    walk-17 refusal q p =
        let stops = stopped 17 (tree_in_order tree) (tree_in_order tree) [] refl (ap not p) in
        rw (q, sym (passed 7 17 fit fit (question 17 (tree_in_order tree) ∷ []) refl (ap not fits) stops))

    pub walk-done : (given : Tree) → tree_in_order given ≡ true → given ≡ tree → (a : Answer)
        → a ≡ Ok (flat_at given page, reads_at given page) → reply_of a ≡ walk_reply fit tree page
    unfolding reply_of walk_reply walk_questions settle
    walk-done given p same a q =
        let there : tree_in_order tree ≡ true = rw same at p in
        let rest = passed 17 0 (tree_in_order tree) (tree_in_order tree) [] refl (ap not there) none_left in
        rw (q, same, sym (passed 7 0 fit fit (question 17 (tree_in_order tree) ∷ []) refl (ap not fits) rest))
