-- The cases of devices: each row's outcome computes to the one that is fixed.
use mathlib.Core.Path.{refl}
use Rattle.model.specs.Cases.{row}
use Rattle.model.specs.Further.{two_entries, three_devices, zeros, start_refused, six_pages, with6, shadow6, started6, left6, stays}
use Rattle.model.specs.DeviceCases.{start_with, of_devices, many_frames, last_of64, cards, windowed, device_cases}
use Rattle.model.proofs.Computed.{computed}
use Rattle.model.proofs.CaseLaws.{hold}
use Rattle.model.proofs.device_cases.Goals as goal

pub returns : goal.returns
unfolding computed row two_entries three_devices zeros start_refused six_pages with6 shadow6 started6 left6 stays start_with of_devices many_frames last_of64 cards
    windowed device_cases
returns c = hold device_cases refl
