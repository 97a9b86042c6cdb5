-- What a write covers and answers, from the claim alone.
use Rattle.claim.proofs.ListLaws.{claim}
use Rattle.claim.proofs.ConsequenceLaws.{write-misses-policy, write-answers-frames}
use Rattle.claim.proofs.write_covers.Goals as goal

pub returns : goal.returns
returns c = (write-misses-policy claim, write-answers-frames claim)
