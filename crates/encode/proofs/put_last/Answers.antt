-- `encode::put_last` meets its contract.
use Rattle.encode.proofs.StateLaws.{last_written}
use borrow.Author.Rules.{rules}
use Rattle.encode.proofs.put_last.Goals as goal

pub returns : goal.returns
returns c = search (rules, last_written)
