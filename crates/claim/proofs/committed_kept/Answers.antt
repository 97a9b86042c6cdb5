-- K6: from the claim alone, and its own consequence from it.
use Rattle.claim.proofs.ListLaws.{claim}
use Rattle.claim.proofs.CommittingLaws.{committed-kept, committed-missed}
use Rattle.claim.proofs.committed_kept.Goals as goal

pub returns : goal.returns
returns c = (committed-kept claim, committed-missed (committed-kept claim))
