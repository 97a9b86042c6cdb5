-- What a transfer covers, from the claim alone.
use Rattle.claim.proofs.ListLaws.{claim}
use Rattle.claim.proofs.ConsequenceLaws.{transfer-misses-policy, transfer-in-window}
use Rattle.claim.proofs.transfer_covers.Goals as goal

pub returns : goal.returns
returns c = (transfer-misses-policy claim, transfer-in-window claim)
