-- Document 02, K5: "a list of devices, one record each, with first and last permitted frame".
use Rattle.std.specs.Prelude.{ℕ, Bool, List, get_or}
use Rattle.model.specs.declared.Device.{Device}
use Rattle.model.specs.Basics.{within}

abbrev pub device_of : ℕ → ℕ → Device
device_of first last = record { first = first; last = last }

-- "A device write names its device by its place, from 0." Past the list's end stands an empty window, which no answer shows: question 18 comes
-- before 19.
unfoldable pub device_at : List Device → ℕ → Device
device_at devices device = get_or devices device (device_of 1 0)

-- A frame lies in a device's window, which includes both ends. Where first is above last no frame does.
unfoldable pub in_window : Device → ℕ → Bool
in_window d frame = within d.first d.last frame
