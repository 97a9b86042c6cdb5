-- `lines::hex` meets its contract.
use Rattle.std.proofs.Common.{rules}
use Rattle.lines.proofs.LineLaws.{hex_digit-low, hex_digit-high}
use Rattle.lines.proofs.hex.Goals as goal

pub returns-then-d-lt10 : goal.returns-then-d-lt10
returns-then-d-lt10 c = search (rules, hex_digit-low)

pub returns-else-d-lt10 : goal.returns-else-d-lt10
returns-else-d-lt10 c = search (rules, hex_digit-high)
