-- The cases beside the twelve: each row's outcome computes to the one that is fixed.
use mathlib.Core.List.{◌++◌}
use mathlib.Core.Path.{refl}
use Rattle.model.specs.Cases.{policy_bytes, the_start, started, started_user, four_pages, holding, map_started, row}
use Rattle.model.specs.Further.{two_entries, every_page, start_on, zeros, start_refused, three_devices, six_pages, with6, shadow6, started6, at0, at01, stays}
use Rattle.model.specs.Further.{in_state, many_pages, of_lengths, filled, mapped, synced, leaving, left6, reserved_leaving, reserved_left, cached_leaving}
use Rattle.model.specs.Further.{cached_left, start_cases, sync_cases, order_cases, access_cases, switch_cases, answer_cases, apart_cases, vector_cases}
use Rattle.model.proofs.Computed.{computed}
use Rattle.model.proofs.CaseLaws.{hold}
use Rattle.model.proofs.further_cases.Goals as goal

pub returns : goal.returns
unfolding computed policy_bytes the_start started started_user four_pages holding map_started row two_entries every_page start_on zeros start_refused three_devices
    six_pages with6 shadow6 started6 at0 at01 stays in_state many_pages of_lengths filled mapped synced leaving left6 reserved_leaving reserved_left cached_leaving
    cached_left start_cases sync_cases order_cases access_cases switch_cases answer_cases apart_cases vector_cases
returns c = (hold (start_cases ++ sync_cases ++ order_cases ++ access_cases ++ switch_cases ++ answer_cases) refl, hold apart_cases refl, hold vector_cases refl)
