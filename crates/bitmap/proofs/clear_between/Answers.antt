-- The bits of the byte shifted down.
use Rattle.std.proofs.Common.{◌∙◌}
use Rattle.bitmap.proofs.RangeLaws.{clear_part}
use Rattle.bitmap.proofs.clear_between.Goals as goal

pub returns : goal.returns
returns c = c.clear_up_to.ensures ∙ clear_part _ _ _
