-- 7, 17, or the walk by the number that the depth is.
use Rattle.tree.proofs.OrderLaws.{walk-7, walk-17, third-left, walk-done}
use Rattle.std.proofs.lemmas.Result.{err_from_is_err_and}
use borrow.Author.Rules.{rules}
use Rattle.tree.proofs.walk.Goals as goal

pub returns-then-not-numbers_fit : goal.returns-then-not-numbers_fit
returns-then-not-numbers_fit c = search (rules, walk-7)

pub returns-in_err-tree : goal.returns-in_err-tree
returns-in_err-tree c =
    let p = err_from_is_err_and c.from_residual.result c.from_residual.ensures.1 in
    rw (p.1, p.2) (walk-17 _ _ _ c.if-not-numbers_fit.false _ c.in_err-tree.ensures.0 c.in_err-tree.ensures.1)

pub walk_down-requires-in_default : goal.walk_down-requires-in_default
walk_down-requires-in_default c = third-left _ _ _ c.in_ok-tree.tree.in_order (search rules) (search rules)

pub returns-in-1 : goal.returns-in-1
returns-in-1 c = walk-done _ _ _ c.if-not-numbers_fit.false _ c.in_ok-tree.tree.in_order c.in_ok-tree.ensures _ c.walk_down.ensures

pub returns-in-2 : goal.returns-in-2
returns-in-2 c = walk-done _ _ _ c.if-not-numbers_fit.false _ c.in_ok-tree.tree.in_order c.in_ok-tree.ensures _ c.walk_down-in-2.ensures

pub returns-in_default : goal.returns-in_default
returns-in_default c =
    walk-done _ _ _ c.if-not-numbers_fit.false _ c.in_ok-tree.tree.in_order c.in_ok-tree.ensures _ c.walk_down-in_default.ensures
