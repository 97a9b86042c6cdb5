-- Document 02, K5: what is claimed of the devices' windows beside the list of demand 3.
use Rattle.std.specs.Prelude.{ℕ, List, ◌≡◌, length, get_or}
use Rattle.model.specs.declared.Device.{Device}
use Rattle.model.specs.Guard.{Guard}
use Rattle.model.specs.Devices.{device_of}
use Rattle.model.specs.Calls.{Call, device_write, answer}

-- Two lists of one length that have the same record at every place but one: said of the lists, not of `device_at`, which a guard with another lookup
-- would change too. Past the end of both stands the same default.
pub record SameBut (changed : ℕ) (before after : List Device) : Type 0 where
  pub long : length before ≡ length after
  pub others : (device : ℕ) → (device ≡ changed → ⊥) → get_or before device (device_of 1 0) ≡ get_or after device (device_of 1 0)

-- "Changing one device's window changes no answer given to another", nor what the call leaves.
unfoldable pub WindowsIndependent : Type 0
WindowsIndependent =
    (g : Guard) (changed : ℕ) (before after : List Device) → SameBut changed before after → (device address size : ℕ) → (device ≡ changed → ⊥)
    → answer g (device_write before device address size) ≡ answer g (device_write after device address size)

-- The number of devices stays the one that the start was given: no call changes it.
unfoldable pub DevicesKept : Type 0
DevicesKept = (g : Guard) (call : Call) → (answer g call).guard.state.devices ≡ g.state.devices
