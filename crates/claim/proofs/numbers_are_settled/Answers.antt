-- The number of an answer, and what a refused call leaves, from the claim alone.
use Rattle.claim.proofs.ListLaws.{claim}
use Rattle.claim.proofs.ConsequenceLaws.{number-is-settled, refused-keeps-tables}
use Rattle.claim.proofs.numbers_are_settled.Goals as goal

pub returns : goal.returns
returns c = (number-is-settled claim, refused-keeps-tables claim)
