-- `boundary_model::refused_leaves` meets its contract.
use Rattle.boundary_model.proofs.ExportedLaws.{refused-leaves}
use Rattle.boundary_model.proofs.refused_leaves.Goals as goal

pub returns : goal.returns
returns c = refused-leaves
