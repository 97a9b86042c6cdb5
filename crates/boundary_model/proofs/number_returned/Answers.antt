-- `boundary_model::number_returned` meets its contract.
use Rattle.boundary_model.proofs.ExportedLaws.{number-returned}
use Rattle.boundary_model.proofs.number_returned.Goals as goal

pub returns : goal.returns
returns c = number-returned
