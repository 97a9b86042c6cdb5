-- The law of the exported call that walks a page: what the call below it answered, with the numbers run.
use Prim.Native.Nat.{ℕ}
use mathlib.Core.List.{List}
use mathlib.Core.Path.{◌≡◌, refl}
use lib.Dec.{eqb}
use lib.ListN.{length}
use Rattle.model.specs.Tree.{Tree}
use Rattle.model.specs.Calls.{Answer, reply_of}
use Rattle.model.specs.Walks.{walk_reply}
use Rattle.boundary_model.specs.Words.{answer_numbers, with_numbers}
use Rattle.boundary_model.specs.Boundary.{walked, walk_at}

pub walk-replied : (tree : Tree) (page : ℕ) (numbers numbers' : List ℕ) (r : ℕ) (a : Answer)
    → reply_of a ≡ walk_reply (eqb (length numbers) answer_numbers) tree page → r ≡ (reply_of a).number
    → numbers' ≡ with_numbers answer_numbers numbers (reply_of a) → walked r numbers' ≡ walk_at tree page numbers
unfolding walk_at
walk-replied tree page numbers numbers' r a e n w = rw (← e, n, w) refl
