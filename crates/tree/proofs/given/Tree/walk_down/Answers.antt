-- Nothing for a page with too many bits, or what the word of the walk from the root says.
use native.Mathlib.Omega.{arith}
use Rattle.tree.proofs.OrderLaws.{least-of, most-of}
use Rattle.tree.proofs.DownLaws.{none-walked, word-walked}
use Rattle.tree.proofs.given.Tree.walk_down.Goals as goal

pub reaches-requires : goal.reaches-requires
reaches-requires g c = most-of c.args.self.now _ c.requires

pub returns-then-not-reaches : goal.returns-then-not-reaches
returns-then-not-reaches g c =
    rw c.requires (none-walked _ _ _ _ (most-of c.args.self.now _ c.requires) _ c.reaches.ensures c.if-not-reaches.true)

pub overflow_cast-walk_from : goal.overflow_cast-walk_from
overflow_cast-walk_from g c = omega (arith, most-of c.args.self.now _ c.requires)

pub walk_from-word-requires : goal.walk_from-word-requires
walk_from-word-requires g c = (
  least-of c.args.self.now _ c.requires,
  omega (arith, most-of c.args.self.now _ c.requires),
  omega arith,
)

pub returns : goal.returns
returns g c =
    rw c.requires (word-walked _ _ _ _ (most-of c.args.self.now _ c.requires) _ c.reaches.ensures c.if-not-reaches.false _ c.walk_from-word.ensures)
