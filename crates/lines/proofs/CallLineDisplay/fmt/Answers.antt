-- A call's line, by the mode.
use Rattle.std.proofs.Common.{rules}
use Rattle.std.proofs.Output.{has_written_of_eq}
use Rattle.lines.proofs.DisplayLaws.{kernel-written, user-written}
use Rattle.lines.proofs.CallLineDisplay.fmt.Goals as goal

pub returns-in-Kernel-clause-writes : goal.returns-in-Kernel-clause-writes
returns-in-Kernel-clause-writes g c = λ plain ok. has_written_of_eq _ _ _ _ _ (search (rules, kernel-written)) (c.writeln.ensures.writes plain ok)

pub returns-in-User-clause-writes : goal.returns-in-User-clause-writes
returns-in-User-clause-writes g c = λ plain ok. has_written_of_eq _ _ _ _ _ (search (rules, user-written)) (c.writeln-in-User.ensures.writes plain ok)
