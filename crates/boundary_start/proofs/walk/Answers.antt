-- `boundary_start::walk` meets its contract.
use borrow.Author.Rules.{rules}
use Rattle.boundary_start.proofs.WalkLaws.{walk-replied}
use Rattle.boundary_start.proofs.walk.Goals as goal

pub returns : goal.returns
returns c = search (rules, walk-replied)
