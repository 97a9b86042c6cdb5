-- `encode::RunningPage::put` meets its contract.
use Rattle.encode.proofs.StateLaws.{page-put}
use borrow.Author.Rules.{rules}
use Rattle.encode.proofs.RunningPagePart.put.Goals as goal

pub returns : goal.returns
returns c = search (rules, page-put)
