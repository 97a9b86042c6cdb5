-- The calls of demand 3's list by what they do, each classified once: what an allowed call touches, and what an accepted call does to the terms of
-- frames. What holds of calls goes by these kinds, so that a call that does neither has one clause in each of the two functions.
use Rattle.std.specs.Prelude.{ℕ, get_or}
use Rattle.model.specs.declared.Device.{Device}
use Rattle.model.specs.Devices.{device_of}
use Rattle.model.specs.Calls.{Call, sync_page, sync_all, sync_page_tree, sync_all_tree, fetch, write, enter, leave, device_write, ask, commit, drop}

-- A fetch touches its page, a write the bytes from an address on, and a device write those of memory, by the record at its device's place in the list (K5).
-- That is read off the list, and not by the guard's own lookup; past the list's end stands a window that no frame lies in.
pub data Touch : Type 0 where
  untouched : Touch
  fetched : (page : ℕ) → Touch
  written : (address size : ℕ) → Touch
  transferred : (window : Device) (address size : ℕ) → Touch

unfoldable pub touch_of : Call → Touch
touch_of (sync_page kernel page) = untouched
touch_of (sync_all kernel) = untouched
touch_of (sync_page_tree tree page) = untouched
touch_of (sync_all_tree tree) = untouched
touch_of (fetch page) = fetched page
touch_of (write address size) = written address size
touch_of (enter index) = untouched
touch_of (leave page) = untouched
touch_of (device_write devices device address size) = transferred (get_or devices device (device_of 1 0)) address size
touch_of (ask page frame) = untouched
touch_of commit = untouched
touch_of drop = untouched

-- K6: an ask begins the term of its frame, a commit makes the pending one lasting, and a drop ends it.
pub data TermChange : Type 0 where
  unchanged : TermChange
  begun : (frame : ℕ) → TermChange
  confirmed : TermChange
  ended : TermChange

unfoldable pub term_change_of : Call → TermChange
term_change_of (sync_page kernel page) = unchanged
term_change_of (sync_all kernel) = unchanged
term_change_of (sync_page_tree tree page) = unchanged
term_change_of (sync_all_tree tree) = unchanged
term_change_of (fetch page) = unchanged
term_change_of (write address size) = unchanged
term_change_of (enter index) = unchanged
term_change_of (leave page) = unchanged
term_change_of (device_write devices device address size) = unchanged
term_change_of (ask page frame) = begun frame
term_change_of commit = confirmed
term_change_of drop = ended
