-- A loop that goes on has fewer calls left after the next.
use Rattle.std.proofs.Common.{rules}
use Rattle.drill_loop.proofs.LoopLaws.{left-falls}
use Rattle.drill.proofs.take_turns.Goals as goal

pub loop-input-smaller : goal.loop-input-smaller
loop-input-smaller g c = search (rules, left-falls)

pub loop-input-smaller-in-None-1 : goal.loop-input-smaller-in-None-1
loop-input-smaller-in-None-1 g c = search (rules, left-falls)
