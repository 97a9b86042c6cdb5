-- Document 02, K4: what ties the calls from a tree to the walk and to the flat table.
use Rattle.std.specs.Prelude.{ℕ, ◌/◌, ◌%◌, ◌≤◌, ◌<◌, Bool, cond, [], ◌∷◌, ◌≡◌, length}
use Rattle.model.specs.Guard.{Guard}
use Rattle.model.specs.Tree.{Tree, reads_at}
use Rattle.model.specs.Questions.{seen, in_order}
use Rattle.model.specs.Calls.{refused_of, sync_page, sync_all, sync_page_tree, sync_all_tree, brought_by, answer}
use Rattle.model.specs.Walks.{flat_table}

-- "the count of entries read, never above the depth".
abbrev pub ReadsWithin : Type 0
ReadsWithin = (tree : Tree) (page : ℕ) → reads_at tree page ≤ tree.depth

-- What 17 asks of a tree, in numbers and not by `tree_in_order`: whole tables of 512, a depth from 1 to 3 and a root in the run.
pub record InOrder (tree : Tree) : Type 0 where
  pub whole : length tree.words % 512 ≡ 0
  pub shallowest : 1 ≤ tree.depth
  pub deepest : tree.depth ≤ 3
  pub inside : tree.root < length tree.words / 512

-- "For every depth, synchronising from a tree equals doing so from the flat table of its walks": answer, both counts, state and tables, of one page
-- and of all, where the tree is in order.
abbrev pub TreeAsFlat : Type 0
TreeAsFlat =
    (g : Guard) (tree : Tree) → InOrder tree
    → ((page : ℕ) → answer g (sync_page_tree tree page) ≡ answer g (sync_page (flat_table tree g.state.pages) page))
    × (answer g (sync_all_tree tree) ≡ answer g (sync_all (flat_table tree g.state.pages)))

-- Question 7 of a synchronisation from a tree: the state, and the guard's three tables.
unfoldable pub guard_fits : Guard → Bool
guard_fits g = in_order (seen g).state_fits ((seen g).shadow_fits ∷ (seen g).map_fits ∷ (seen g).exclusion_fits ∷ [])

-- And else "It refuses with 17, after question 7": with 7 where that is answered no, whatever the page, and nothing is changed.
abbrev pub TreeRefused : Type 0
TreeRefused =
    (g : Guard) (tree : Tree) → (InOrder tree → ⊥)
    → ((page : ℕ) → let call = sync_page_tree tree page in answer g call ≡ refused_of g (brought_by call) (cond (guard_fits g) 17 7))
    × (let call = sync_all_tree tree in answer g call ≡ refused_of g (brought_by call) (cond (guard_fits g) 17 7))
