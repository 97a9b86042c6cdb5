-- `boundary_model::exported_claim` meets its contract.
use Rattle.boundary_model.proofs.ExportedLaws.{exported-claim}
use Rattle.boundary_model.proofs.exported_claim.Goals as goal

pub returns : goal.returns
returns c = exported-claim
