-- With no room, of a number below 10, and of any other.
use Rattle.std.proofs.Common.{rules}
use Rattle.lines.proofs.LineLaws.{digits-none, digits-one, digits_more}
use Rattle.lines.proofs.Line.+push_digits.Goals as goal

pub returns-then-room-eq0-clause-bytes : goal.returns-then-room-eq0-clause-bytes
returns-then-room-eq0-clause-bytes t c = search (rules, digits-none)

pub returns-then-n-lt10-clause-bytes : goal.returns-then-n-lt10-clause-bytes
returns-then-n-lt10-clause-bytes t c = search (rules, digits-one)

pub returns-clause-bytes : goal.returns-clause-bytes
returns-clause-bytes t c = search (rules, digits_more)
