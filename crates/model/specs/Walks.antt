-- Document 02, K4: the call that walks a page, and the flat table of a tree's walks.
use Rattle.std.specs.Prelude.{ℕ, Bool, List, [], ◌∷◌}
use Rattle.model.specs.Basics.{table}
use Rattle.model.specs.Tree.{Tree, tree_in_order, flat_at, reads_at}
use Rattle.model.specs.Questions.{Question, question, first_no}
use Rattle.model.specs.Calls.{Reply, accepted, refused, settle}

-- The walk as a call is lent no state and no guard table: 7 asks whether the run for its numbers has its length, and is answered yes where it is lent
-- none. There is no 9: a page past the depth's bits is absent.
unfoldable pub walk_questions : Bool → Tree → List Question
walk_questions numbers_fit tree = question 7 numbers_fit ∷ question 17 (tree_in_order tree) ∷ []

-- "A page's walk gives its flat entry [..] and the count of entries read".
unfoldable pub walk_reply : Bool → Tree → ℕ → Reply
walk_reply numbers_fit tree page = settle (first_no (walk_questions numbers_fit tree)) (accepted (flat_at tree page) (reads_at tree page)) refused

-- "the flat table of its walks", of so many pages.
unfoldable pub flat_table : Tree → ℕ → List ℕ
flat_table tree pages = table pages (flat_at tree)
