-- `drill_calls::policy_extent` meets its contract.
use borrow.Author.Rules.{rules}
use Rattle.drill_calls.proofs.TurnLaws.{extent-more, extent-bounded, extent-eight}
use Rattle.drill_calls.proofs.policy_extent.Goals as goal

pub returns-then-in_range : goal.returns-then-in_range
returns-then-in_range c = search (rules, extent-more, extent-bounded)

pub returns-else-in_range : goal.returns-else-in_range
returns-else-in_range c = search (rules, extent-eight)
