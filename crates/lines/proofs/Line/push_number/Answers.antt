-- `lines::Line::push_number` meets its contract.
use Rattle.std.proofs.Common.{rules}
use Rattle.lines.proofs.LineLaws.{number-after}
use Rattle.lines.proofs.Line.push_number.Goals as goal

pub returns-clause-bytes : goal.returns-clause-bytes
returns-clause-bytes c = search (rules, number-after)
