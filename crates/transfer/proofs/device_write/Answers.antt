-- `transfer::device_write` meets its contract.
use mathlib.Core.Path.{sym, ◌∙◌}
use native.Mathlib.Omega.{arith}
use Rattle.model.specs.Guard.{with_exclusion, guard_of}
use Rattle.model.specs.Questions.{seen}
use Rattle.laws.proofs.AskedLaws.{answered}
use Rattle.transfer.proofs.TransferLaws.{placed, transfer_free, transfers}
use Rattle.transfer.proofs.device_write.Goals as goal

pub last_page-last-requires : goal.last_page-last-requires
last_page-last-requires c =
    (placed c.args.s _ c.args.listed _ _ c.if-not-device_write_in_order.ensures c.if-not-device_length-2.ensures c.if-not-transfer_exists.ensures).last

pub in_window-requires : goal.in_window-requires
in_window-requires c =
    rw c.last_page-last.ensures
    (placed c.args.s _ c.args.listed _ _ c.if-not-device_write_in_order.ensures c.if-not-device_length-2.ensures c.if-not-transfer_exists.ensures).rises

pub none_set-requires : goal.none_set-requires
none_set-requires c =
    let p = placed c.args.s _ c.args.listed _ _ c.if-not-device_write_in_order.ensures c.if-not-device_length-2.ensures c.if-not-transfer_exists.ensures in
    rw c.last_page-last.ensures (p.rises, p.has)

pub returns-then-not-none_set : goal.returns-then-not-none_set
returns-then-not-none_set c t devices long is =
    let free =
    transfer_free (seen (guard_of c.args.s (with_exclusion c.args.exclusion.now t))) c.args.address c.args.length
    (sym c.if-not-device_length-2.ensures) (sym c.if-not-transfer_exists.ensures) in
    let excluded = (rw c.last_page-last.ensures at c.if-not-none_set.ensures) ∙ sym free in
    grind (arith, answered, transfers, excluded)

pub returns : goal.returns
returns c t devices long is =
    let free =
    transfer_free (seen (guard_of c.args.s (with_exclusion c.args.exclusion.now t))) c.args.address c.args.length
    (sym c.if-not-device_length-2.ensures) (sym c.if-not-transfer_exists.ensures) in
    let none_excluded = (rw c.last_page-last.ensures at c.if-not-none_set.ensures) ∙ sym free in
    grind (arith, answered, transfers, none_excluded)
