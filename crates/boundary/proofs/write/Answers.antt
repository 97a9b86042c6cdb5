-- `boundary::write` meets its contract.
use Rattle.std.proofs.Common.{rules, refl}
use Rattle.model.specs.Guard.{with_shadow, with_exclusion}
use Rattle.boundary.proofs.BoundaryLaws.{read-answered}
use Rattle.boundary.proofs.write.Goals as goal

pub returns : goal.returns
returns c =
    read-answered _ _ _ _ _ _ _ (λ t. with_shadow c.args.shadow.now (with_exclusion c.args.exclusion.now t)) refl c.state_of.ensures (search rules)
    (c.reply.ensures.number, c.reply.ensures.both)
