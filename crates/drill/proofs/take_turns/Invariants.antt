-- Each turn leaves fewer turns.
use Rattle.drill.proofs.take_turns.Given as goal

abbrev pub decreases-loop-input : goal.decreases-loop-input
decreases-loop-input g l = l.left
