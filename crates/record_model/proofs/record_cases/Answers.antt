-- The cases of a written record: each row's outcome computes to the one that is fixed.
use mathlib.Core.Path.{refl}
use Rattle.model.specs.Cases.{policy_bytes, row}
use Rattle.model.specs.Further.{two_entries}
use Rattle.record_model.specs.RecordCases.{written_into, left_as, sized, listing, record_cases}
use Rattle.record_model.proofs.Computed.{computed}
use Rattle.model.proofs.CaseLaws.{hold}
use Rattle.record_model.proofs.record_cases.Goals as goal

pub returns : goal.returns
unfolding computed row policy_bytes two_entries written_into left_as sized listing record_cases
returns c = hold record_cases refl
