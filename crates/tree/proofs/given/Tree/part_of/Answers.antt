-- A page with too many bits, and the walk from the root.
use mathlib.Core.Path.{refl}
use native.Mathlib.Omega.{arith}
use Rattle.tree.proofs.OrderLaws.{depth-least, depth-most}
use Rattle.tree.proofs.WalkLaws.{too-many-bits, from-root}
use Rattle.tree.proofs.DownLaws.{few-bits-asked, many-bits-asked}
use Rattle.tree.proofs.given.Tree.part_of.Goals as goal

pub reaches-requires : goal.reaches-requires
reaches-requires c = depth-most _ _ _ c.args.self.now.in_order

pub returns-then-not-reaches : goal.returns-then-not-reaches
returns-then-not-reaches c =
    let most = depth-most _ _ _ c.args.self.now.in_order in (
      tt,
      too-many-bits _ _ _ _ (depth-least _ _ _ c.args.self.now.in_order) most (many-bits-asked _ _ most _ c.reaches.ensures c.if-not-reaches.true),
    )

pub overflow_cast-self : goal.overflow_cast-self
overflow_cast-self c = omega (arith, depth-most _ _ _ c.args.self.now.in_order)

pub part_from-requires : goal.part_from-requires
part_from-requires c = (depth-least _ _ _ c.args.self.now.in_order, depth-most _ _ _ c.args.self.now.in_order, (λ l. (refl, refl)), omega arith)

pub returns : goal.returns
returns c =
    let most = depth-most _ _ _ c.args.self.now.in_order in (
      c.part_from.ensures.0,
      from-root _ _ _ _ (depth-least _ _ _ c.args.self.now.in_order) most _ (few-bits-asked _ _ most _ c.reaches.ensures c.if-not-reaches.false)
          c.part_from.ensures.1,
    )
