-- Questions 7 and 9 refuse, or the page is below V and in every table.
use Rattle.std.proofs.Common.{ap, not}
use Rattle.sync.proofs.FlatLaws.{page-refused, page-absent, flat-page-kernel, flat-page-shadow, flat-page-map, flat-vector, flat-few, page-accepted}
use borrow.Author.Rules.{rules}
use native.Mathlib.Omega.{arith}
use Rattle.sync.proofs.sync_page.Goals as goal

pub returns-then-not-sync_in_order : goal.returns-then-not-sync_in_order
returns-then-not-sync_in_order c = search (rules, page-refused)

pub returns-then-not-page_exists : goal.returns-then-not-page_exists
returns-then-not-page_exists c = search (rules, page-absent)

pub offset_bounds-kernel-i : goal.offset_bounds-kernel-i
offset_bounds-kernel-i c =
    let inside =
    flat-page-kernel _ _ _ _ _ _ c.sync_in_order.ensures (ap not c.if-not-sync_in_order.false) _ _
    c.page_exists.ensures (ap not c.if-not-page_exists.false) in
    omega arith

pub bounds-kernel-i : goal.bounds-kernel-i
bounds-kernel-i c =
    flat-page-kernel _ _ _ _ _ _ c.sync_in_order.ensures
    (ap not c.if-not-sync_in_order.false) _ _ c.page_exists.ensures (ap not c.if-not-page_exists.false)

pub rules_of-rules-requires : goal.rules_of-rules-requires
rules_of-rules-requires c = (search flat-vector, search flat-few)

pub sync_at-one-requires : goal.sync_at-one-requires
sync_at-one-requires c = (
  flat-page-shadow _ _ _ _ _ _ c.sync_in_order.ensures
      (ap not c.if-not-sync_in_order.false) _ _ c.page_exists.ensures
      (ap not c.if-not-page_exists.false),
  flat-page-map _ _ _ _ _ _ c.sync_in_order.ensures
      (ap not c.if-not-sync_in_order.false) _ _ c.page_exists.ensures
      (ap not c.if-not-page_exists.false),
  search rules,
  search rules,
  tt,
)

pub returns : goal.returns
returns c = search (rules, page-accepted)
