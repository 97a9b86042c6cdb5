-- Each call is one level down.
use Rattle.tree.proofs.+part_from.Given as goal

abbrev pub decreases-part_from : goal.decreases-part_from
decreases-part_from l = l.level
