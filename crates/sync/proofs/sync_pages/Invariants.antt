use Prim.Native.Nat.{◌≤◌}
use mathlib.Core.Path.{◌≡◌}
use lib.ListN.{length}
use Rattle.model.specs.Sync.{sweep, sweep_from, entry_in, step_from}
use Rattle.laws.proofs.SweepLaws.{whole}
use Rattle.step.specs.Steps.{rules_in}
use Rattle.sync.proofs.sync_pages.Given as goal

abbrev pub invariant-loop-i : goal.invariant-loop-i
invariant-loop-i g l =
    (l.i ≤ length l.kernel) × (length l.shadow ≡ length l.kernel) × (length l.map ≡ length l.kernel) × (l.counts.changed ≤ l.i) × (l.counts.joined ≤ l.i)
    × (whole (step_from (rules_in l.rules) (entry_in l.kernel)) l.i (sweep l.shadow l.map l.counts.changed l.counts.joined)
    ≡ sweep_from (step_from (rules_in l.rules) (entry_in l.kernel)) 0 l.initial.shadow l.initial.map)
