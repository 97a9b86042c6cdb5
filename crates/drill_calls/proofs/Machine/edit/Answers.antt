-- `drill_calls::Machine::edit` meets its contract.
use Rattle.std.proofs.Common.{rules}
use Rattle.drill_calls.proofs.TurnLaws.{edit-refused, edit-done, edit-past}
use Rattle.drill_calls.proofs.Machine.edit.Goals as goal

pub returns-then-not-page_exists : goal.returns-then-not-page_exists
returns-then-not-page_exists c = search (rules, edit-refused)

pub returns-then-page-self : goal.returns-then-page-self
returns-then-page-self c = search (rules, edit-done)

pub returns-else-page-self : goal.returns-else-page-self
returns-else-page-self c = search (rules, edit-past)
