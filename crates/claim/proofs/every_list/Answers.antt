-- Demand 3: the claim is proved in ListLaws.
use Rattle.claim.proofs.ListLaws.{claim}
use Rattle.claim.proofs.every_list.Goals as goal

pub returns : goal.returns
returns c = claim
