-- Questions 7, 17 and 9 refuse, or the tree can be walked and the page is below V and in every table.
use Rattle.std.proofs.Common.{ap, not}
use Rattle.sync_tree.proofs.TreeLaws.{page-tree-7, page-tree-17, page-tree-9, tree-vector, tree-few, tree-page-shadow, tree-page-map, page-tree-accepted}
use Rattle.std.proofs.lemmas.Result.{err_from_is_err_and}
use borrow.Author.Rules.{rules}
use Rattle.sync_tree.proofs.sync_page_tree.Goals as goal

pub returns-then-not-three_tables_in_order : goal.returns-then-not-three_tables_in_order
returns-then-not-three_tables_in_order c = search (rules, page-tree-7)

pub returns-in_err-tree : goal.returns-in_err-tree
returns-in_err-tree c =
    let p = err_from_is_err_and c.from_residual.result c.from_residual.ensures.1 in
    rw (p.1, p.2)
    (page-tree-17 _ _ _ _ _ _ _ _ c.three_tables_in_order.ensures (ap not c.if-not-three_tables_in_order.false) _ _
    c.in_err-tree.ensures.0 c.in_err-tree.ensures.1)

pub returns-then-not-page_exists : goal.returns-then-not-page_exists
returns-then-not-page_exists c =
    page-tree-9 _ _ _ _ _ _ _ _ c.three_tables_in_order.ensures (ap not c.if-not-three_tables_in_order.false)
    c.in_ok-tree.tree c.in_ok-tree.ensures _ _
    c.page_exists.ensures (ap not c.if-not-page_exists.true)

pub rules_of-rules-requires : goal.rules_of-rules-requires
rules_of-rules-requires c = (
  tree-vector _ _ _ _ _ c.three_tables_in_order.ensures (ap not c.if-not-three_tables_in_order.false),
  tree-few _ _ _ _ _ c.three_tables_in_order.ensures (ap not c.if-not-three_tables_in_order.false),
)

pub sync_at-one-requires : goal.sync_at-one-requires
sync_at-one-requires c = (
  tree-page-shadow _ _ _ _ _ c.three_tables_in_order.ensures (ap not c.if-not-three_tables_in_order.false) _ _ c.page_exists.ensures
      (ap not c.if-not-page_exists.false),
  tree-page-map _ _ _ _ _ c.three_tables_in_order.ensures (ap not c.if-not-three_tables_in_order.false) _ _ c.page_exists.ensures
      (ap not c.if-not-page_exists.false),
  search rules,
  search rules,
  tt,
)

pub returns : goal.returns
returns c =
    page-tree-accepted _ _ _ _ _ _ _ _ c.three_tables_in_order.ensures (ap not c.if-not-three_tables_in_order.false)
    c.in_ok-tree.tree c.in_ok-tree.ensures _ _
    c.page_exists.ensures _ _ _ _ _ _ _ _ (ap not c.if-not-page_exists.false) c.rules_of-rules.ensures c.default.ensures c.word_of-entry.ensures
    c.sync_at-one.ensures.0
