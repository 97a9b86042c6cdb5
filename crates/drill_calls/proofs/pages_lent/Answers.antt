-- `drill_calls::pages_lent` meets its contract.
use Rattle.drill_calls.proofs.TurnLaws.{pages-lent, pages-bounded, pages-none}
use borrow.Author.Rules.{rules}
use Rattle.drill_calls.proofs.pages_lent.Goals as goal

pub returns-then-pages_in_range : goal.returns-then-pages_in_range
returns-then-pages_in_range c = search (rules, pages-lent, pages-bounded)

pub returns-else-pages_in_range : goal.returns-else-pages_in_range
returns-else-pages_in_range c = search (rules, pages-none)
