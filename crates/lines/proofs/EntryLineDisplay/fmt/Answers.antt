-- An entry's line: 16 digits.
use Rattle.std.proofs.Common.{rules}
use Rattle.lines.proofs.HexLaws.{entry-padded}
use Rattle.lines.proofs.EntryLineDisplay.fmt.Goals as goal

pub returns-clause-writes : goal.returns-clause-writes
returns-clause-writes g c = rw (← entry-padded c.args.self.now.0 (search rules)) (rw (c.in_radix.ensures, c.laid_out.ensures) at c.writeln.ensures.writes)
