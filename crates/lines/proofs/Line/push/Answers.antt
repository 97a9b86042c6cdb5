-- `lines::Line::push` meets its contract.
use Rattle.std.proofs.Common.{rules}
use Rattle.lines.specs.Text.{text}
use Rattle.lines.proofs.LineLaws.{take_more}
use Rattle.lines.proofs.Line.push.Goals as goal

pub returns-clause-bytes : goal.returns-clause-bytes
unfolding text
returns-clause-bytes c = search (rules, take_more)
