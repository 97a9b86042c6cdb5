-- C1 to C12: each row's outcome computes to the one that document 01 fixes.
use mathlib.Core.Path.{refl}
use Rattle.model.specs.Cases.{policy_bytes, two_devices, the_start, started, started_user, only, started_writable, four_pages, holding, shadow_started}
use Rattle.model.specs.Cases.{map_started, row, cases}
use Rattle.model.proofs.Computed.{computed}
use Rattle.model.proofs.CaseLaws.{hold}
use Rattle.model.proofs.twelve_cases.Goals as goal

pub returns : goal.returns
unfolding computed policy_bytes two_devices the_start started started_user only started_writable four_pages holding shadow_started map_started row cases
returns c = hold cases refl
