-- `boundary::device_write` meets its contract.
use Rattle.std.proofs.Common.{rules, refl}
use Rattle.model.specs.Guard.{with_exclusion}
use Rattle.boundary.proofs.BoundaryLaws.{of-list, read-answered}
use Rattle.boundary.proofs.device_write.Goals as goal

pub returns : goal.returns
returns c t devices long placed =
    read-answered _ _ _ _ _ _ _ (with_exclusion c.args.exclusion.now) refl c.state_of.ensures
    (of-list _ _ c.args.listed c.args.window c.args.device c.args.address c.args.length (with_exclusion c.args.exclusion.now) (search rules) devices long placed)
    (c.reply.ensures.number, c.reply.ensures.both) t
