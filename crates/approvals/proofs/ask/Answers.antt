-- The frame fits 16 bits, and question 21 is asked of every page below V.
use native.Mathlib.Omega.{arith}
use Rattle.laws.proofs.AskedLaws.{answered}
use Rattle.approvals.proofs.ApprovalLaws.{asks, asked_21, ask-narrow}
use Rattle.approvals.proofs.ask.Goals as goal

pub overflow_cast-frame : goal.overflow_cast-frame
overflow_cast-frame c = ask-narrow c.args.s.now _ c.args.page _ c.if-not-three_tables_in_order.ensures c.if-not-pair_exists.ensures

pub returns-then-not-none_writable : goal.returns-then-not-none_writable
returns-then-not-none_writable c t =
    let writable =
    asked_21 c.args.s.now c.args.frame c.args.shadow.now _ _ c.if-not-three_tables_in_order.ensures c.if-not-none_writable.ensures in
    grind (arith, answered, asks, writable)

pub returns : goal.returns
returns c t =
    let none_writable =
    asked_21 c.args.s.now c.args.frame c.args.shadow.now _ _ c.if-not-three_tables_in_order.ensures c.if-not-none_writable.ensures in
    grind (arith, answered, asks, none_writable)
