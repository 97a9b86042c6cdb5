use Rattle.std.proofs.Common.{◌≡◌, ℕ, ◌-◌, ◌≤◌, length}
use Rattle.model.specs.Sync.{sweep, step_from}
use Rattle.step.specs.Steps.{rules_in}
use Rattle.sync_tree.specs.Runs.{swept_from, Gives}
use Rattle.sync_tree.proofs.sync_run.Given as goal

abbrev pub invariant-loop-i : goal.invariant-loop-i
invariant-loop-i g l =
    (l.first ≤ l.i) × (l.i ≤ l.end) × (length l.shadow ≡ length l.initial.shadow) × (length l.map ≡ length l.initial.shadow) × (l.counts.changed ≤ l.i)
    × (l.counts.joined ≤ l.i)
    × ((kernel : ℕ → ℕ) → Gives (goal.F-post g l.entry_of) l.first l.end kernel
    → swept_from (step_from (rules_in l.rules) kernel) l.i (l.end - l.i) (sweep l.shadow l.map l.counts.changed l.counts.joined)
    ≡ swept_from (step_from (rules_in l.rules) kernel) l.first (l.end - l.first)
    (sweep l.initial.shadow l.initial.map l.initial.counts.changed l.initial.counts.joined))
