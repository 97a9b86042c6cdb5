-- A kind is written as its digit.
use Rattle.std.proofs.Common.{rules}
use Rattle.std.proofs.Output.{has_written_of_eq}
use Rattle.lines.proofs.DisplayLaws.{kind-shown}
use Rattle.lines.proofs.LabelDisplay.fmt.Goals as goal

pub returns-in-Call-clause-writes : goal.returns-in-Call-clause-writes
returns-in-Call-clause-writes g c = λ plain ok. has_written_of_eq _ _ _ _ _ (search (rules, kind-shown)) (c.write.ensures.writes plain ok)
