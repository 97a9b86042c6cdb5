-- K7: the share is to the nearest, and no other number is.
use Rattle.drill_model.proofs.ShareLaws.{share-nearest, nearest-fixed}
use Rattle.drill_model.proofs.share_nearest.Goals as goal

pub returns : goal.returns
returns c = (share-nearest, nearest-fixed)
