-- Each kind's number is below 8, and each guard call by its kind: what the call promises of any tables that it is not lent is what the drill answers
-- on its own tables.
use Prim.Native.Nat.{ℕ, ◌<◌}
use mathlib.Core.List.{List}
use mathlib.Core.Path.{◌≡◌, sym, ap}
use lib.ListN.{length}
use native.Mathlib.Omega.{arith}
use Rattle.model.specs.declared.State.{State}
use Rattle.model.specs.declared.Device.{Device}
use Rattle.model.specs.Guard.{Tables, tables, with_shadow, with_map, with_exclusion, guard_of}
use Rattle.model.specs.Devices.{device_at}
use Rattle.model.specs.Calls as calls
use Rattle.model.specs.Calls.{Answer, outcome_by, answer}
use Rattle.drill_model.specs.Drill.{Drill, edited, with_guard, call_of, performed}
use Rattle.lines.specs.declared.Kind.{Kind}
use Rattle.lines.specs.declared.Kind.TheVariants.{Edit, SyncPage, SyncAll, Fetch, Write, Enter, Leave, DeviceWrite}
use Rattle.lines.specs.Text.{kind_number}
use Rattle.drill_calls.specs.Turns.{drill_of, performed_by}

pub kind-below : (kind : Kind) → kind_number kind < 8
kind-below Edit = omega arith
kind-below SyncPage = omega arith
kind-below SyncAll = omega arith
kind-below Fetch = omega arith
kind-below Write = omega arith
kind-below Enter = omega arith
kind-below Leave = omega arith
kind-below DeviceWrite = omega arith

pub edit-performed : (r : Answer) (d d' : Drill) (kind : Kind) (index length value : ℕ) → kind ≡ Edit → performed_by r d' ≡ edited d index value
    → performed_by r d' ≡ performed d (kind_number kind) index length value
unfolding performed
edit-performed r d d' kind index length value p e = rw p e

module _ (s : State) (kernel shadow map exclusion : List ℕ) (devices : List Device) (kind : Kind) (index length value : ℕ) where
  -- A call's promise: the state and the tables before it and after it, with any other tables.
  abbrev Promised : Answer → State → (Tables → Tables) → (Tables → Tables) → calls.Call → Type 0
  Promised r s' before after call = (t : Tables) → outcome_by r s' (after t) ≡ answer (guard_of s (before t)) call

  abbrev Performed : Answer → State → List ℕ → List ℕ → Type 0
  Performed r s' shadow' map' =
      performed_by r (drill_of (guard_of s' (tables shadow' map' exclusion)) kernel devices)
      ≡ performed (drill_of (guard_of s (tables shadow map exclusion)) kernel devices) (kind_number kind) index length value

  -- The tables that the synchronising calls are lent.
  abbrev synced : List ℕ → List ℕ → Tables → Tables
  synced shadow' map' t = with_shadow shadow' (with_map map' (with_exclusion exclusion t))

  abbrev of_writes : Tables → Tables
  of_writes t = with_shadow shadow (with_exclusion exclusion t)

  abbrev drill : Drill
  drill = drill_of (guard_of s (tables shadow map exclusion)) kernel devices

  pub sync-page-performed : (r : Answer) (shadow' map' : List ℕ) → kind ≡ SyncPage
      → Promised r s (synced shadow map) (synced shadow' map') (calls.sync_page kernel index) → Performed r s shadow' map'
  unfolding performed performed_by with_guard outcome_by call_of
  sync-page-performed r shadow' map' p e = rw p (ap (with_guard drill) (e (tables shadow map exclusion)))

  pub sync-all-performed : (r : Answer) (shadow' map' : List ℕ) → kind ≡ SyncAll
      → Promised r s (synced shadow map) (synced shadow' map') (calls.sync_all kernel) → Performed r s shadow' map'
  unfolding performed performed_by with_guard outcome_by call_of
  sync-all-performed r shadow' map' p e = rw p (ap (with_guard drill) (e (tables shadow map exclusion)))

  pub fetch-performed : (r : Answer) (s' : State) → kind ≡ Fetch → Promised r s' (with_shadow shadow) (with_shadow shadow) (calls.fetch index)
      → Performed r s' shadow map
  unfolding performed performed_by with_guard outcome_by call_of
  fetch-performed r s' p e = rw p (ap (with_guard drill) (e (tables shadow map exclusion)))

  pub write-performed : (r : Answer) → kind ≡ Write → Promised r s of_writes of_writes (calls.write value length) → Performed r s shadow map
  unfolding performed performed_by with_guard outcome_by call_of
  write-performed r p e = rw p (ap (with_guard drill) (e (tables shadow map exclusion)))

  pub enter-performed : (r : Answer) (s' : State) (shadow' : List ℕ) → kind ≡ Enter
      → Promised r s' (with_shadow shadow) (with_shadow shadow') (calls.enter index) → Performed r s' shadow' map
  unfolding performed performed_by with_guard outcome_by call_of
  enter-performed r s' shadow' p e = rw p (ap (with_guard drill) (e (tables shadow map exclusion)))

  pub leave-performed : (r : Answer) (s' : State) (shadow' : List ℕ) → kind ≡ Leave
      → Promised r s' (with_shadow shadow) (with_shadow shadow') (calls.leave index) → Performed r s' shadow' map
  unfolding performed performed_by with_guard outcome_by call_of
  leave-performed r s' shadow' p e = rw p (ap (with_guard drill) (e (tables shadow map exclusion)))

  -- A device write promises of every list so long and with this record for its device, and so of the drill's.
  pub device-write-performed : (r : Answer) (listed : ℕ) (d : Device) → kind ≡ DeviceWrite → lib.ListN.length devices ≡ listed → d ≡ device_at devices index
      → ((t : Tables) (ds : List Device) → lib.ListN.length ds ≡ listed → (index < listed → device_at ds index ≡ d)
      → outcome_by r s (with_exclusion exclusion t) ≡ answer (guard_of s (with_exclusion exclusion t)) (calls.device_write ds index value length))
      → Performed r s shadow map
  unfolding performed performed_by with_guard outcome_by call_of
  device-write-performed r listed d p long is promised =
      rw p (ap (with_guard drill) (promised (tables shadow map exclusion) devices long (λ _. sym is)))
