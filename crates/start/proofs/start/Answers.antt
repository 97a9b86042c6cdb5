-- Refused by the record, refused by question 7, or accepted.
use Rattle.std.proofs.Common.{ap, not, length}
use Rattle.model.specs.Policy.{given_of}
use Rattle.model.specs.Questions.{lengths}
use Rattle.start.proofs.StartLaws.{record-refuses, tables-ready, lengths-refuse, start-accepts}
use Rattle.start.proofs.start.Goals as goal

pub returns-in-Err : goal.returns-in-Err
returns-in-Err c = rw c.refuse.ensures.0 (record-refuses _ _ _ _ _ c.refuse.ensures.1 c.in-Err.ensures.question)

pub returns-then-not-start_in_order : goal.returns-then-not-start_in_order
returns-then-not-start_in_order c =
    let read = rw c.in-Ok.ensures.record at c.in-Ok.policy.read in
    rw c.refuse-then-not-start_in_order.ensures.0
    (lengths-refuse _ _ _ c.in-Ok.ensures.question _ _ read.0 read.1 _ c.start_in_order.ensures (ap not c.if-not-start_in_order.true) _
    c.refuse-then-not-start_in_order.ensures.1)

pub set_tables-requires : goal.set_tables-requires
set_tables-requires c =
    let read = rw c.in-Ok.ensures.record at c.in-Ok.policy.read in
    rw c.in-Ok.ensures.record
    (tables-ready (given_of c.args.devices) c.args.bytes.now (lengths (length c.args.shadow.now) (length c.args.map.now) (length c.args.exclusion.now))
    c.in-Ok.ensures.question _ _ read.0 read.1 _ c.start_in_order.ensures (ap not c.if-not-start_in_order.false))

pub returns : goal.returns
returns c =
    let read = rw c.in-Ok.ensures.record at c.in-Ok.policy.read in
    let tables = rw c.in-Ok.ensures.record at c.set_tables.ensures in
    start-accepts _ _ _ c.in-Ok.ensures.question _ _ read.0 read.1 _ c.start_in_order.ensures (ap not c.if-not-start_in_order.false)
    _ _ read.2 read.3 _ (rw c.in-Ok.ensures.record at c.first_state.ensures) _ _ _ tables.0 tables.1 tables.2
