-- `lines::call_line` meets its contract.
use Rattle.std.proofs.Common.{rules}
use Rattle.lines.proofs.LineLaws.{line-made}
use Rattle.lines.proofs.call_line.Goals as goal

pub returns : goal.returns
returns c = search (rules, line-made)
