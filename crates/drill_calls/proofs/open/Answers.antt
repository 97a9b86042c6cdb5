-- `drill_calls::open` meets its contract.
use Rattle.std.proofs.Common.{rules}
use Rattle.drill_calls.proofs.TurnLaws.{opening-goes, opening-ends, opened-few}
use Rattle.drill_calls.proofs.open.Goals as goal

pub returns-in-Ok-clause-opened : goal.returns-in-Ok-clause-opened
returns-in-Ok-clause-opened c = search (rules, opening-goes)

pub returns-in-Ok-clause-few : goal.returns-in-Ok-clause-few
returns-in-Ok-clause-few c = search (rules, opened-few)

pub returns-in-Err-clause-opened : goal.returns-in-Err-clause-opened
returns-in-Err-clause-opened c = search (rules, opening-ends)

pub returns-in-Err-clause-few : goal.returns-in-Err-clause-few
returns-in-Err-clause-few c = search (rules, opened-few)
