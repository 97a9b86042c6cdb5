-- `drill_calls::bytes_lent` meets its contract.
use Rattle.drill_calls.proofs.TurnLaws.{bytes-lent, bytes-bounded, bytes-none}
use borrow.Author.Rules.{rules}
use Rattle.drill_calls.proofs.bytes_lent.Goals as goal

pub returns-then-frames_in_range : goal.returns-then-frames_in_range
returns-then-frames_in_range c = search (rules, bytes-lent, bytes-bounded)

pub returns-else-frames_in_range : goal.returns-else-frames_in_range
returns-else-frames_in_range c = search (rules, bytes-none)
