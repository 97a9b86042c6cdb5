-- Questions 7 and 17 refuse, or the tree can be walked, the tables have one length and the vector its own.
use Rattle.std.proofs.Common.{ap, not}
use Rattle.sync_tree.proofs.TreeLaws.{all-tree-7, all-tree-17, tree_map, tree-vector, tree-few, all-tree-accepted}
use Rattle.std.proofs.lemmas.Result.{err_from_is_err_and}
use borrow.Author.Rules.{rules}
use Rattle.sync_tree.proofs.sync_all_tree.Goals as goal

pub returns-then-not-three_tables_in_order : goal.returns-then-not-three_tables_in_order
returns-then-not-three_tables_in_order c = search (rules, all-tree-7)

pub returns-in_err-tree : goal.returns-in_err-tree
returns-in_err-tree c =
    let p = err_from_is_err_and c.from_residual.result c.from_residual.ensures.1 in
    rw (p.1, p.2)
    (all-tree-17 _ _ _ _ _ _ _ _ c.three_tables_in_order.ensures (ap not c.if-not-three_tables_in_order.false) _
    c.in_err-tree.ensures.0 c.in_err-tree.ensures.1)

pub rules_of-rules-requires : goal.rules_of-rules-requires
rules_of-rules-requires c = (
  tree-vector _ _ _ _ _ c.three_tables_in_order.ensures (ap not c.if-not-three_tables_in_order.false),
  tree-few _ _ _ _ _ c.three_tables_in_order.ensures (ap not c.if-not-three_tables_in_order.false),
)

pub sync_pages-all-requires : goal.sync_pages-all-requires
sync_pages-all-requires c = tree_map _ _ _ _ _ c.three_tables_in_order.ensures (ap not c.if-not-three_tables_in_order.false)

pub returns : goal.returns
returns c =
    all-tree-accepted _ _ _ _ _ _ _ _ c.three_tables_in_order.ensures (ap not c.if-not-three_tables_in_order.false)
    c.in_ok-tree.tree c.in_ok-tree.ensures _ _ _ _ _
    c.rules_of-rules.ensures c.sync_pages-all.ensures
