-- `share::share_of` meets its contract.
use borrow.Author.Rules.{rules}
use Rattle.share.proofs.CountLaws.{share-of-none, share-by-count}
use Rattle.share.proofs.share_of.Goals as goal

pub returns-then-frames-eq0 : goal.returns-then-frames-eq0
returns-then-frames-eq0 c = search (rules, share-of-none)

pub returns : goal.returns
returns c = search (rules, share-by-count)
