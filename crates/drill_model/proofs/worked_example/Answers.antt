-- The worked example: the drill's definitions compute to every byte of its output.
use mathlib.Core.Path.{refl}
use Rattle.model.specs.Cases.{policy_bytes}
use Rattle.drill_model.specs.Worked.{bytes_of, lines_of, worked_input, worked_output}
use Rattle.drill_model.proofs.Computed.{computed}
use Rattle.drill_model.proofs.worked_example.Goals as goal

pub returns : goal.returns
unfolding computed policy_bytes bytes_of lines_of worked_input worked_output
returns c = refl
