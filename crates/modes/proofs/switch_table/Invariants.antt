use Prim.Native.Nat.{◌+◌, ◌≤◌}
use mathlib.Core.Path.{◌≡◌}
use Rattle.model.specs.Switch.{switched_all, changes}
use Rattle.laws.proofs.SwitchLaws.{switched_from, changes_from}
use Rattle.modes.proofs.switch_table.Given as goal

abbrev pub invariant-loop-entry : goal.invariant-loop-entry
invariant-loop-entry l =
    (switched_from l.user l.entry-index l.shadow ≡ switched_all l.user l.initial.shadow)
    × (l.changed + changes_from l.user l.entry-index l.shadow ≡ changes l.initial.shadow (switched_all l.user l.initial.shadow))
    × (l.changed ≤ l.entry-index)
