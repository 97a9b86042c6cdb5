-- `access::write` meets its contract.
use Rattle.access.proofs.WriteLaws.{placed}
use Rattle.access.proofs.write.Goals as goal

pub bounds-shadow-address : goal.bounds-shadow-address
bounds-shadow-address c =
    (placed c.args.s _ _ _ _ c.if-not-write_in_order.ensures c.if-not-write_length.ensures c.if-not-write_exists.ensures).first

pub last_page-requires : goal.last_page-requires
last_page-requires c =
    (placed c.args.s _ _ _ _ c.if-not-write_in_order.ensures c.if-not-write_length.ensures c.if-not-write_exists.ensures).last
