-- What a fetch reads, from the claim alone.
use Rattle.claim.proofs.ListLaws.{claim}
use Rattle.claim.proofs.ConsequenceLaws.{fetch-reads-code}
use Rattle.claim.proofs.fetch_reads_code.Goals as goal

pub returns : goal.returns
returns c = fetch-reads-code claim
