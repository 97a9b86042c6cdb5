-- The bytes read so far are the buffer's first `done` ones.
use Rattle.std.proofs.Common.{length, ◌-◌, ◌≤◌}
use Rattle.drill.proofs.read_full.Given as goal

abbrev pub invariant-loop-done : goal.invariant-loop-done
invariant-loop-done g l = l.done ≤ length l.initial.buffer

abbrev pub decreases-loop-done : goal.decreases-loop-done
decreases-loop-done g l = length l.initial.buffer - l.done
