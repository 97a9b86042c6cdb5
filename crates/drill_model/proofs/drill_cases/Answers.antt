-- The drill's cases: each row computes to what is fixed.
use mathlib.Core.List.{◌++◌}
use mathlib.Core.Path.{refl}
use Rattle.model.specs.Cases.{row, policy_bytes}
use Rattle.model.specs.Further.{two_entries}
use Rattle.drill_model.specs.Worked.{bytes_of, lines_of}
use Rattle.drill_model.specs.DrillCases.{little_endian, call_bytes, three_pages, nine_pages, every_kind, sixteen, extent_of, drill_cases, share_cases}
use Rattle.drill_model.specs.DrillCases.{window_cases}
use Rattle.drill_model.proofs.Computed.{computed}
use Rattle.model.proofs.CaseLaws.{hold}
use Rattle.drill_model.proofs.drill_cases.Goals as goal

pub returns : goal.returns
unfolding computed row two_entries policy_bytes bytes_of lines_of little_endian call_bytes three_pages nine_pages every_kind sixteen extent_of drill_cases share_cases
    window_cases
returns c = (hold (drill_cases ++ share_cases) refl, hold window_cases refl)
