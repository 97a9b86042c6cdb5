use Prim.Native.Nat.{◌≤◌}
use mathlib.Core.Path.{◌≡◌}
use Rattle.model.specs.Sync.{sweep, sweep_from}
use Rattle.laws.proofs.SweepLaws.{whole}
use Rattle.approvals.proofs.CommitLaws.{joining}
use Rattle.approvals.proofs.commit_others.Given as goal

abbrev pub invariant-loop-i : goal.invariant-loop-i
invariant-loop-i l =
    (l.counts.changed ≤ l.i) × (l.counts.joined ≤ l.i)
    × (whole (joining l.user l.frame) l.i (sweep l.shadow l.map l.counts.changed l.counts.joined) ≡ sweep_from (joining l.user l.frame) 0 l.initial.shadow l.initial.map)
