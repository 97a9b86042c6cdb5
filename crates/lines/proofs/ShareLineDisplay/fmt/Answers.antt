-- The share's line writes its number in decimal.
use Rattle.std.proofs.Common.{rules}
use Rattle.lines.proofs.DisplayLaws.{decimal-is}
use Rattle.lines.proofs.ShareLineDisplay.fmt.Goals as goal

pub returns-clause-writes : goal.returns-clause-writes
returns-clause-writes g c = rw (← decimal-is c.args.self.now.percent (search rules)) c.writeln.ensures.writes
