-- K7: the share is of a frame at least, from the start to the end.
use Rattle.drill_model.proofs.ExcludedLaws.{some-excluded, share-last}
use Rattle.drill_model.proofs.some_excluded.Goals as goal

pub returns : goal.returns
returns c = (some-excluded, share-last)
