-- `encode::put_numbers` meets its contract.
use borrow.Author.Rules.{rules}
use Rattle.encode.proofs.RunLaws.{numbers-written, numbers-left}
use Rattle.encode.proofs.put_numbers.Goals as goal

pub returns-in-Some : goal.returns-in-Some
returns-in-Some c = search (rules, numbers-written)

pub returns-in_default : goal.returns-in_default
returns-in_default c = search (rules, numbers-left)
