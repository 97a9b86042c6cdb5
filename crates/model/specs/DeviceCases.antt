-- Document 02, K5: the number of devices at the start and in a state, and what a device write answers by its list. The guard is that of Further:
-- V 6, F 8, frames 3 and 5 excluded, three devices.
use Rattle.std.specs.Prelude.{ℕ, List, [], ◌∷◌, ◌++◌, replicate, set, take, None}
use Rattle.model.specs.declared.Device.{Device}
use Rattle.model.specs.declared.Mode.TheVariants.{Kernel, User}
use Rattle.model.specs.Guard.{Guard, guard_of, state_of}
use Rattle.model.specs.Policy.{given_of}
use Rattle.model.specs.Devices.{device_of}
use Rattle.model.specs.Tree.{tree_of}
use Rattle.model.specs.Calls.{Outcome, outcome, accepted, refused, start_of, sync_page, sync_all, sync_page_tree, sync_all_tree, fetch, write, enter, leave}
use Rattle.model.specs.Calls.{device_write}
use Rattle.model.specs.Cases.{row, Case}
use Rattle.model.specs.Further.{two_entries, three_devices, start_refused, with6, shadow6, started6, left6, stays}

-- The start on that policy and on tables that hold ones, given so many devices.
unfoldable pub start_with : ℕ → List ℕ → Outcome
start_with devices bytes =
    start_of (given_of devices) bytes (record { shadow = replicate 6 1; map = replicate 6 1; exclusion = replicate 1 1 })

-- The started guard with so many devices.
unfoldable pub of_devices : ℕ → Guard
of_devices devices = guard_of (state_of 6 8 2 (1 ∷ 2 ∷ replicate 14 0) (Kernel 1) devices None) started6.tables

-- F 4,096, three devices, and the last frame alone excluded.
unfoldable pub many_frames : Guard
many_frames =
    guard_of (state_of 6 4096 2 (1 ∷ 2 ∷ replicate 14 0) (Kernel 1) 3 None)
    (record { shadow = shadow6; map = started6.tables.map; exclusion = set (replicate 512 0) 511 0x80 })

-- Sixty-three devices with empty windows, and one with all frames.
unfoldable pub last_of64 : List Device
last_of64 = replicate 63 (device_of 1 0) ++ (device_of 0 7 ∷ [])

-- A music card with frame 0, a billing card with frame 1, a third with frame 2.
unfoldable pub cards : List Device
cards = device_of 0 0 ∷ device_of 1 1 ∷ device_of 2 2 ∷ []

-- Three devices, of which device 1 has this window and the others all frames.
unfoldable pub windowed : ℕ → ℕ → List Device
windowed first last = device_of 0 7 ∷ device_of first last ∷ device_of 0 7 ∷ []

unfoldable pub device_cases : List Case
device_cases =
    -- "the number of devices, 1 to 64, which the start is given; a number outside that gives 3 at the start". It is not cut.
    row (start_with 0 two_entries) (start_refused 3 6 6 1)
    ∷ row (start_with 1 two_entries) (outcome (accepted 3 2) (of_devices 1))
    ∷ row (start_with 64 two_entries) (outcome (accepted 3 2) (of_devices 64))
    ∷ row (start_with 65 two_entries) (start_refused 3 6 6 1)
    ∷ row (start_with 65537 two_entries) (start_refused 3 6 6 1)
    ∷ row (start_with 9223372036854775809 two_entries) (start_refused 3 6 6 1)
    -- In question 3's place: after 1 and 2 (seven bytes, V 0, F 0), before 4, 5 and 6 (a record cut short, falling pages, frame 8)
    ∷ row (start_with 0 (take 7 two_entries)) (start_refused 1 6 6 1)
    ∷ row (start_with 0 (set two_entries 0 0)) (start_refused 2 6 6 1)
    ∷ row (start_with 65 (set two_entries 2 0)) (start_refused 2 6 6 1)
    ∷ row (start_with 0 (take 19 two_entries)) (start_refused 3 6 6 1)
    ∷ row (start_with 65 (set two_entries 10 0)) (start_refused 3 6 6 1)
    ∷ row (start_with 0 (set two_entries 14 8)) (start_refused 3 6 6 1)
    -- "and 7 later": 0 and 65 devices in a state, of every call; 1 and 64 are in order
    ∷ stays (of_devices 0) (sync_page (replicate 6 0) 0) (refused 7)
    ∷ stays (of_devices 65) (sync_all (replicate 6 0)) (refused 7)
    ∷ stays (of_devices 0) (sync_page_tree (tree_of (replicate 512 0) 0 1) 0) (refused 7)
    ∷ stays (of_devices 65) (sync_all_tree (tree_of (replicate 512 0) 0 1)) (refused 7)
    ∷ stays (of_devices 0) (fetch 1) (refused 7)
    ∷ stays (of_devices 65) (fetch 0) (refused 7)
    ∷ stays (of_devices 65) (write 0 1) (refused 7)
    ∷ stays (of_devices 0) (enter 0) (refused 7)
    ∷ stays (of_devices 65) (leave 0) (refused 7)
    ∷ stays (of_devices 0) (device_write [] 0 0 1) (refused 7)
    ∷ stays (of_devices 65) (device_write (replicate 65 (device_of 0 7)) 0 0 1) (refused 7)
    ∷ stays (of_devices 4097) (fetch 0) (refused 7)
    ∷ stays (of_devices 1) (fetch 0) (refused 11)
    ∷ stays (of_devices 64) (fetch 0) (refused 11)
    ∷ stays (of_devices 1) (device_write (device_of 0 7 ∷ []) 0 0 1) (accepted 0 0)
    -- "a list of another length gives 7": one short, one long, none, and as long as any may be
    ∷ stays started6 (device_write (device_of 0 7 ∷ device_of 0 7 ∷ []) 0 0 1) (refused 7)
    ∷ stays started6 (device_write (replicate 4 (device_of 0 7)) 0 0 1) (refused 7)
    ∷ stays started6 (device_write [] 0 0 1) (refused 7)
    ∷ stays started6 (device_write (replicate 64 (device_of 0 7)) 0 0 1) (refused 7)
    ∷ stays (of_devices 64) (device_write (replicate 63 (device_of 0 7)) 0 0 1) (refused 7)
    -- "18, after 8, a device not in the list": device 63 of 64 is, 64 is not; nor one that 16 or 63 bits would cut
    ∷ stays (of_devices 64) (device_write last_of64 63 0 1) (accepted 0 0)
    ∷ stays (of_devices 64) (device_write last_of64 64 0 1) (refused 18)
    ∷ stays started6 (device_write three_devices 3 0 1) (refused 18)
    ∷ stays started6 (device_write three_devices 65537 0 1) (refused 18)
    ∷ stays started6 (device_write three_devices 9223372036854775809 0 1) (refused 18)
    -- "A device write names its device by its place, from 0": each of the cards has its own window, and no other's
    ∷ stays started6 (device_write cards 0 0 4096) (accepted 0 0)
    ∷ stays started6 (device_write cards 0 4096 1) (refused 19)
    ∷ stays started6 (device_write cards 1 4095 1) (refused 19)
    ∷ stays started6 (device_write cards 1 4096 4096) (accepted 1 1)
    ∷ stays started6 (device_write cards 1 8192 1) (refused 19)
    ∷ stays started6 (device_write cards 2 8191 1) (refused 19)
    ∷ stays started6 (device_write cards 2 8192 4096) (accepted 2 2)
    -- "19, after 9, a transfer outside its window": first and last frame, both ends included
    ∷ stays started6 (device_write (windowed 1 2) 1 4096 8192) (accepted 1 2)
    ∷ stays started6 (device_write (windowed 1 2) 1 4095 2) (refused 19)
    ∷ stays started6 (device_write (windowed 1 1) 1 8191 2) (refused 19)
    ∷ stays started6 (device_write (windowed 1 1) 1 0 12288) (refused 19)
    ∷ stays started6 (device_write (windowed 0 1) 1 0 8193) (refused 19)
    ∷ stays started6 (device_write (windowed 6 7) 1 24576 8192) (accepted 6 7)
    -- A window may reach past F, and its ends may be any numbers
    ∷ stays started6 (device_write (windowed 0 65535) 1 28672 4096) (accepted 7 7)
    ∷ stays started6 (device_write (windowed 0 32768) 1 28672 4096) (accepted 7 7)
    ∷ stays started6 (device_write (windowed 65535 65535) 1 0 1) (refused 19)
    ∷ stays started6 (device_write (windowed 32768 65535) 1 0 1) (refused 19)
    -- F 4,096: windows, frames and the longest transfer are not cut
    ∷ stays many_frames (device_write (windowed 4093 4094) 1 16764928 8192) (accepted 4093 4094)
    ∷ stays many_frames (device_write (windowed 4094 4094) 1 16764928 8192) (refused 19)
    ∷ stays many_frames (device_write (windowed 4093 4093) 1 16764928 8192) (refused 19)
    ∷ stays many_frames (device_write (windowed 0 4095) 1 16769024 8192) (refused 13)
    ∷ stays many_frames (device_write (windowed 0 255) 1 0 1048576) (accepted 0 255)
    ∷ stays many_frames (device_write (windowed 0 254) 1 0 1048576) (refused 19)
    ∷ stays started6 (device_write three_devices 2 9223372036854775808 1) (refused 9)
    ∷ stays started6 (device_write three_devices 2 0 9223372036854775809) (refused 8)
    -- First above last: no frame is in the window
    ∷ stays started6 (device_write (windowed 7 6) 1 24576 1) (refused 19)
    ∷ stays started6 (device_write (windowed 7 6) 1 28672 1) (refused 19)
    ∷ stays started6 (device_write (windowed 7 6) 1 24576 8192) (refused 19)
    ∷ stays started6 (device_write (windowed 2 0) 1 4096 1) (refused 19)
    -- Only the named device's window is asked, and the mode is not
    ∷ stays started6 (device_write (windowed 7 6) 0 28672 1) (accepted 7 7)
    ∷ stays started6 (device_write (windowed 7 6) 2 28672 1) (accepted 7 7)
    ∷ stays started6 (device_write (device_of 1 1 ∷ device_of 0 7 ∷ device_of 0 7 ∷ []) 0 0 1) (refused 19)
    ∷ stays (with6 (User 1) left6) (device_write (windowed 6 6) 1 24576 1) (accepted 6 6)
    ∷ stays (with6 (User 1) left6) (device_write [] 0 0 1) (refused 7)
    ∷ stays (with6 (User 1) left6) (device_write three_devices 0 0 0) (refused 8)
    ∷ stays (with6 (User 1) left6) (device_write three_devices 3 0 1) (refused 18)
    ∷ stays (with6 (User 1) left6) (device_write three_devices 0 32767 2) (refused 9)
    ∷ stays (with6 (User 1) left6) (device_write (windowed 6 6) 1 28672 1) (refused 19)
    ∷ stays (guard_of (state_of 6 8 2 (1 ∷ 2 ∷ replicate 14 0) (User 1) 0 None) started6.tables) (enter 0) (refused 7)
    -- The order of two questions: 7 and 8 by the list's length, 7 and 18, 8 and 18, 18 and 9, 18 and 13, 9 and 19, 19 and 13
    ∷ stays started6 (device_write (replicate 4 (device_of 0 7)) 0 0 0) (refused 7)
    ∷ stays started6 (device_write (device_of 0 7 ∷ device_of 0 7 ∷ []) 2 0 1) (refused 7)
    ∷ stays started6 (device_write three_devices 3 0 0) (refused 8)
    ∷ stays started6 (device_write three_devices 3 32768 1) (refused 18)
    ∷ stays started6 (device_write three_devices 3 20480 1) (refused 18)
    ∷ stays started6 (device_write (windowed 0 6) 1 28672 4097) (refused 9)
    ∷ stays started6 (device_write (windowed 7 6) 1 18446744073709551615 1) (refused 9)
    ∷ stays started6 (device_write (windowed 0 4) 1 20480 1) (refused 19)
    ∷ stays started6 (device_write (windowed 0 5) 1 20480 1) (refused 13)
    ∷ stays started6 (device_write (windowed 5 5) 1 20480 1) (refused 13)
    ∷ []
