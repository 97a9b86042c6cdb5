-- K4: a walk goes down a level for each entry that it meets.
use Rattle.laws.proofs.TreeLaws.{reads-within}
use Rattle.laws.proofs.reads_within_depth.Goals as goal

pub returns : goal.returns
returns c = reads-within
