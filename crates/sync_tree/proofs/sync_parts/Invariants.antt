use Rattle.std.proofs.Common.{◌≡◌, ◌*◌, ◌-◌, ◌≤◌, length}
use Rattle.model.specs.Tree.{flat_at}
use Rattle.model.specs.Sync.{sweep, step_from}
use Rattle.step.specs.Steps.{rules_in}
use Rattle.tree.specs.Parts.{tree_in}
use Rattle.sync_tree.specs.Runs.{swept_from}
use Rattle.sync_tree.proofs.sync_parts.Given as goal

abbrev pub invariant-loop-number : goal.invariant-loop-number
invariant-loop-number l =
    (length l.shadow ≡ length l.initial.shadow) × (length l.map ≡ length l.initial.shadow) × (l.counts.changed ≤ l.number * 512)
    × (l.counts.joined ≤ l.number * 512)
    × (swept_from (step_from (rules_in l.rules) (flat_at (tree_in l.tree))) (l.number * 512) (length l.initial.shadow - l.number * 512)
    (sweep l.shadow l.map l.counts.changed l.counts.joined)
    ≡ swept_from (step_from (rules_in l.rules) (flat_at (tree_in l.tree))) 0 (length l.initial.shadow - 0)
    (sweep l.initial.shadow l.initial.map 0 0))
