-- Document 01, "Questions in order": for each call and each of its questions but the last a row whose input fails that question and every
-- later one of the call. "The first no gives its number", so that the rows of a call fix the order of its questions. The guard is that of Further.
use Rattle.std.specs.Prelude.{ℕ, List, [], ◌∷◌, ◌++◌, replicate, set}
use Rattle.model.specs.declared.Mode.{Mode}
use Rattle.model.specs.declared.Mode.TheVariants.{Kernel, User}
use Rattle.model.specs.Guard.{Guard, guard_of}
use Rattle.model.specs.Devices.{device_of}
use Rattle.model.specs.Calls.{refused, sync_page, fetch, write, enter, leave, device_write}
use Rattle.model.specs.Cases.{Case, row}
use Rattle.model.specs.Further.{three_devices, two_entries, start_on, start_refused, six_pages, with6, shadow6, started6, at0, stays, left6}

-- A guard in a mode with these shadow entries and an exclusion vector that is a byte too long. A shadow table of five entries is one too short.
unfoldable pub misfit : Mode → List ℕ → Guard
misfit mode shadow =
    guard_of (six_pages mode) (record { shadow = shadow; map = started6.tables.map; exclusion = 0x28 ∷ 0 ∷ [] })

unfoldable pub start_order : List Case
start_order =
    -- 1 to 7: seven bytes, V 2,054, F 0, n 3, e 0; the places past the record read as 0, so that the pages do not rise and no frame is below F
    row (start_on (6 ∷ 8 ∷ 0 ∷ 0 ∷ 3 ∷ 0 ∷ 0 ∷ []) 6 6 1) (start_refused 1 6 6 1)
    -- 2 to 7: the same with its eighth byte
    ∷ row (start_on (6 ∷ 8 ∷ 0 ∷ 0 ∷ 3 ∷ 0 ∷ 0 ∷ 0 ∷ []) 6 6 1) (start_refused 2 6 6 1)
    -- 3 to 7: V 6, F 8, n 7, e 2; 24 bytes in place of 36; pages 1, 2, 4, 5, 3 ..; the first frame 8; shadow and map one page short
    ∷ row
    (start_on (6 ∷ 0 ∷ 8 ∷ 0 ∷ 7 ∷ 0 ∷ 2 ∷ 0 ∷ 1 ∷ 0 ∷ 2 ∷ 0 ∷ 4 ∷ 0 ∷ 5 ∷ 0 ∷ 3 ∷ 0 ∷ 5 ∷ 0 ∷ 6 ∷ 0 ∷ 8 ∷ 0 ∷ []) 5 5 2)
    (start_refused 3 5 5 2)
    -- 4 to 7: two bytes too many, page 1 twice, frame 8
    ∷ row (start_on (set (set two_entries 10 1) 14 8 ++ (0 ∷ 0 ∷ [])) 5 5 2) (start_refused 4 5 5 2)
    -- 5 to 7: page 1 twice, frame 8
    ∷ row (start_on (set (set two_entries 10 1) 14 8) 5 5 2) (start_refused 5 5 5 2)
    -- 6 and 7: frame 8
    ∷ row (start_on (set two_entries 14 8) 5 5 2) (start_refused 6 5 5 2)
    ∷ []

unfoldable pub call_order : List Case
call_order =
    -- Synchronise one, 7 and 9: the kernel table is a page too long, and the page does not exist.
    stays started6 (sync_page (replicate 7 0) 6) (refused 7)
    -- Fetch, 7 to 12: page 6 has no entry, and in user mode it lacks bit 2; then 9 to 12, 11 and 12.
    ∷ stays (misfit (User 1) (0 ∷ 0 ∷ 0 ∷ 0 ∷ 0 ∷ [])) (fetch 6) (refused 7)
    ∷ stays (with6 (User 1) shadow6) (fetch 6) (refused 9)
    ∷ stays (with6 (User 1) shadow6) (fetch 0) (refused 11)
    -- Write, 7 to 13: 17 bytes from an absent entry of the excluded frame 5 into page 6; then 8 to 13, 9 to 13, 11 to 13, 12 and 13.
    ∷ stays (misfit (Kernel 1) (set shadow6 5 0x5000)) (write 24570 17) (refused 7)
    ∷ stays (with6 (Kernel 1) (set shadow6 5 0x5000)) (write 24570 17) (refused 8)
    ∷ stays (with6 (Kernel 1) (set shadow6 5 0x5000)) (write 24570 16) (refused 9)
    ∷ stays (at0 (Kernel 1) 0x5000) (write 0 1) (refused 11)
    ∷ stays (at0 (Kernel 1) 0x5001) (write 0 1) (refused 12)
    -- Enter, 7 to 12: in kernel mode, by index 2 of 2, whose page 0 is absent and has no mark; then 9 to 12, 10 to 12, 11 and 12.
    ∷ stays (misfit (Kernel 1) (0 ∷ 0 ∷ 0 ∷ 0 ∷ 0 ∷ [])) (enter 2) (refused 7)
    ∷ stays started6 (enter 2) (refused 9)
    ∷ stays (with6 (Kernel 1) (set shadow6 1 0)) (enter 0) (refused 10)
    ∷ stays (with6 (User 5) (set left6 1 0)) (enter 0) (refused 11)
    -- Leave, 7 to 12: in user mode, to page 6, which has no entry; then 9 to 12, 10 to 12, 11 and 12.
    ∷ stays (misfit (User 5) (0 ∷ 0 ∷ 0 ∷ 0 ∷ 0 ∷ [])) (leave 6) (refused 7)
    ∷ stays (with6 (User 5) left6) (leave 6) (refused 9)
    ∷ stays (with6 (User 5) left6) (leave 0) (refused 10)
    ∷ stays started6 (leave 0) (refused 11)
    -- Device write, 7, 8, 18, 9, 19, 13: 1,048,577 bytes by device 3 of 3 from the excluded frame 5 on; then 8 to 13, 18 to 13, 9 to 13, 19 and 13.
    ∷ stays (misfit (Kernel 1) shadow6) (device_write three_devices 3 20480 1048577) (refused 7)
    ∷ stays started6 (device_write three_devices 3 20480 1048577) (refused 8)
    ∷ stays started6 (device_write three_devices 3 20480 1048576) (refused 18)
    ∷ stays started6 (device_write (replicate 3 (device_of 0 4)) 2 20480 1048576) (refused 9)
    ∷ stays started6 (device_write (replicate 3 (device_of 0 4)) 2 20480 1) (refused 19)
    ∷ []
