-- `encode::put_front` meets its contract.
use Rattle.encode.proofs.StateLaws.{front-written}
use borrow.Author.Rules.{rules}
use Rattle.encode.proofs.put_front.Goals as goal

pub returns : goal.returns
returns c = search (rules, front-written)
