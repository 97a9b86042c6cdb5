-- `lines::Line::as_bytes` meets its contract.
use Rattle.std.proofs.Common.{rules}
use Rattle.lines.specs.Text.{text}
use Rattle.lines.proofs.LineLaws.{take-room}
use Rattle.lines.proofs.Line.as_bytes.Goals as goal

pub returns : goal.returns
unfolding text
returns c = search (rules, take-room)
