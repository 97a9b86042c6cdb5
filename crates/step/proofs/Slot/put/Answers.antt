-- The entry stored and counted; the number stored and counted where it changed.
use mathlib.Core.Path.{refl, ◌∙◌}
use native.Mathlib.Omega.{arith}
use Rattle.step.proofs.StepLaws.{kept, same-counts, other-counts, counted, stored-step}
use Rattle.step.proofs.Slot.put.Goals as goal
use Rattle.step.proofs.Slot.put.Goals.{then-map-i, else-map-i}

pub returns : goal.returns
returns c =
    let changed = counted c.args.counts.changed _ _ _ c.from.ensures in
    elim c.if-map-i.branch [
      | then-map-i w ↦ (
        stored-step _ _ _ _ _ _ _ _ _ _ _ _ refl refl w.map-is changed.0
            (w.joined-is ∙ other-counts _ _ _ w.if-map-i.true),
        changed.1,
        omega (arith, w.joined-is),
      )
      | else-map-i w ↦ (
        stored-step _ _ _ _ _ _ _ _ _ _ _ _ refl refl (w.map-is ∙ kept _ _ _ w.if-map-i.false) changed.0
            (w.joined-is ∙ same-counts _ _ _ w.if-map-i.false),
        changed.1,
        omega (arith, w.joined-is),
      )
    ]
