-- The kind of each call with what makes it so, for the laws that need the call's own questions besides.
use Prim.Native.Nat.{ℕ}
use mathlib.Core.List.{List}
use mathlib.Core.Path.{◌≡◌, refl}
use Rattle.model.specs.declared.Device.{Device}
use Rattle.model.specs.Calls.{Call, sync_page, sync_all, sync_page_tree, sync_all_tree, fetch, write, enter, leave, device_write, ask, commit, drop}
use Rattle.claim.specs.CallKinds.{untouched, touch_of, unchanged, term_change_of}

pub data Touching (call : Call) : Type 0 where
  touchless : touch_of call ≡ untouched → Touching call
  fetches : (page : ℕ) → call ≡ fetch page → Touching call
  writes : (address size : ℕ) → call ≡ write address size → Touching call
  transfers : (devices : List Device) (device address size : ℕ) → call ≡ device_write devices device address size → Touching call

pub data Changing (call : Call) : Type 0 where
  keeps : term_change_of call ≡ unchanged → Changing call
  asks : (page frame : ℕ) → call ≡ ask page frame → Changing call
  commits : call ≡ commit → Changing call
  drops : call ≡ drop → Changing call

pub kinds : (call : Call) → Touching call × Changing call
unfolding touch_of term_change_of
kinds (sync_page kernel page) = (touchless refl, keeps refl)
kinds (sync_all kernel) = (touchless refl, keeps refl)
kinds (sync_page_tree tree page) = (touchless refl, keeps refl)
kinds (sync_all_tree tree) = (touchless refl, keeps refl)
kinds (fetch page) = (fetches page refl, keeps refl)
kinds (write address size) = (writes address size refl, keeps refl)
kinds (enter index) = (touchless refl, keeps refl)
kinds (leave page) = (touchless refl, keeps refl)
kinds (device_write devices device address size) = (transfers devices device address size refl, keeps refl)
kinds (ask page frame) = (touchless refl, asks page frame refl)
kinds commit = (touchless refl, commits refl)
kinds drop = (touchless refl, drops refl)
