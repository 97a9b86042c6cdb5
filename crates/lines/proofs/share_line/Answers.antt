-- `lines::share_line` meets its contract.
use Rattle.std.proofs.Common.{rules}
use Rattle.lines.proofs.LineLaws.{share-line-is}
use Rattle.lines.proofs.share_line.Goals as goal

pub returns : goal.returns
returns c = search (rules, share-line-is)
