-- `encode::ModeAndPage::put` meets its contract.
use Rattle.encode.proofs.StateLaws.{mode-put}
use borrow.Author.Rules.{rules}
use Rattle.encode.proofs.ModeAndPagePart.put.Goals as goal

pub returns : goal.returns
returns c = search (rules, mode-put)
