-- Cases beside the twelve of document 01, each from one of its sentences or of a request's (K1, K3): a policy with two entry pages and a repeated
-- frame, the calls that C1 to C12 do not make, and refusals with what comes before them. Rows as in Cases.
use Rattle.std.specs.Prelude.{ℕ, true, false, List, [], ◌∷◌, replicate, set, None, Some, Option, Ok, Err}
use Rattle.model.specs.declared.Fields.{Fields}
use Rattle.model.specs.declared.State.{State}
use Rattle.model.specs.declared.Mode.{Mode}
use Rattle.model.specs.declared.Mode.TheVariants.{Kernel, User}
use Rattle.model.specs.declared.Refusal.TheVariants.{RecordTooShort, StateOrTable}
use Rattle.model.specs.declared.Device.{Device}
use Rattle.model.specs.Guard.{tables, with_shadow, with_map, with_exclusion, Guard, guard_of, with_bit, state_of}
use Rattle.model.specs.Policy.{given_of}
use Rattle.model.specs.Devices.{device_of}
use Rattle.model.specs.Bits.{taken_apart}
use Rattle.model.specs.Calls.{Reply, Outcome, outcome, outcome_by, started_by, accepted, refused, start_of, Call, sync_page, sync_all, fetch, write, enter, leave}
use Rattle.model.specs.Calls.{device_write, answer}
use Rattle.model.specs.Cases.{started, started_user, holding, map_started, Row, Case, row}

-- V 6, F 8, n 3, e 2, pages 1, 2 and 4, frames 5, 3 and 5.
unfoldable pub two_entries : List ℕ
two_entries = 6 ∷ 0 ∷ 8 ∷ 0 ∷ 3 ∷ 0 ∷ 2 ∷ 0 ∷ 1 ∷ 0 ∷ 2 ∷ 0 ∷ 4 ∷ 0 ∷ 5 ∷ 0 ∷ 3 ∷ 0 ∷ 5 ∷ 0 ∷ []

-- V 3, F 9, n 3, e 1, pages 0, 1 and 2, frames 8, 0 and 8.
unfoldable pub every_page : List ℕ
every_page = 3 ∷ 0 ∷ 9 ∷ 0 ∷ 3 ∷ 0 ∷ 1 ∷ 0 ∷ 0 ∷ 0 ∷ 1 ∷ 0 ∷ 2 ∷ 0 ∷ 8 ∷ 0 ∷ 0 ∷ 0 ∷ 8 ∷ 0 ∷ []

-- A start on tables of these lengths that hold ones.
unfoldable pub start_on : List ℕ → ℕ → ℕ → ℕ → Outcome
start_on bytes shadow map exclusion =
    start_of (given_of 3) bytes (record { shadow = replicate shadow 1; map = replicate map 1; exclusion = replicate exclusion 1 })

-- "answers a state of zeros in user mode on page 0", number by number.
unfoldable pub zeros : State
zeros =
    record {
      pages = 0;
      frames = 0;
      entry_count = 0;
      entry_pages = 0 ∷ 0 ∷ 0 ∷ 0 ∷ 0 ∷ 0 ∷ 0 ∷ 0 ∷ 0 ∷ 0 ∷ 0 ∷ 0 ∷ 0 ∷ 0 ∷ 0 ∷ 0 ∷ [];
      mode = User 0;
      devices = 0;
      pending = None;
    }

-- A refused start leaves those tables, and answers the state of zeros.
unfoldable pub start_refused : ℕ → ℕ → ℕ → ℕ → Outcome
start_refused number shadow map exclusion =
    outcome (refused number) (guard_of zeros (record { shadow = replicate shadow 1; map = replicate map 1; exclusion = replicate exclusion 1 }))

-- K5: its three devices, each with all frames as window.
unfoldable pub three_devices : List Device
three_devices = replicate 3 (device_of 0 7)

unfoldable pub six_pages : Mode → State
six_pages mode = state_of 6 8 2 (1 ∷ 2 ∷ replicate 14 0) mode 3 None

-- A guard of that policy in a mode, with these shadow entries; map and vector as the start leaves them.
unfoldable pub with6 : Mode → List ℕ → Guard
with6 mode shadow =
    guard_of (six_pages mode) (record { shadow = shadow; map = 65535 ∷ 5 ∷ 3 ∷ 65535 ∷ 5 ∷ 65535 ∷ []; exclusion = 0x28 ∷ [] })

unfoldable pub shadow6 : List ℕ
shadow6 = 0 ∷ 0x5401 ∷ 0x3401 ∷ 0 ∷ 0x5401 ∷ 0 ∷ []

unfoldable pub started6 : Guard
started6 = with6 (Kernel 1) shadow6

-- The started guard with another entry at page 0, and with entries at pages 0 and 1, in a mode.
unfoldable pub at0 : Mode → ℕ → Guard
at0 mode entry = with6 mode (set shadow6 0 entry)

unfoldable pub at01 : Mode → ℕ → ℕ → Guard
at01 mode entry next = with6 mode (set (set shadow6 0 entry) 1 next)

-- A call that leaves the guard as it was: every refused one, every write.
unfoldable pub stays : Guard → Call → Reply → Case
stays g call reply = row (answer g call) (outcome reply g)

-- The started guard with a state of these V, F and e, these entry pages and this mode.
unfoldable pub in_state : ℕ → ℕ → ℕ → List ℕ → Mode → Guard
in_state pages frames entry_count entry_pages mode = guard_of (state_of pages frames entry_count entry_pages mode 3 None) started6.tables

-- A guard of so many pages, none present.
unfoldable pub many_pages : ℕ → Guard
many_pages pages =
    guard_of (state_of pages 8 1 (replicate 16 0) (Kernel 0) 1 None)
    (record { shadow = replicate pages 0; map = []; exclusion = [] })

-- A guard of that policy in a mode, whose tables hold zeros and have these lengths.
unfoldable pub of_lengths : Mode → ℕ → ℕ → ℕ → Guard
of_lengths mode shadow map exclusion =
    guard_of (six_pages mode) (record { shadow = replicate shadow 0; map = replicate map 0; exclusion = replicate exclusion 0 })

-- The started guard in a mode, with ordinary entries at the three pages that are not approved.
unfoldable pub filled : Mode → Guard
filled mode = with6 mode (set (set (set shadow6 0 0x4003) 3 0x6003) 5 0x7003)

-- A guard of that policy in a mode, with these shadow entries, whose map has the same number for every page.
unfoldable pub mapped : Mode → ℕ → List ℕ → Guard
mapped mode number shadow = guard_of (six_pages mode) (tables shadow (replicate 6 number) (0x28 ∷ []))

-- All pages of it synchronised from these kernel entries, over the same shadow entry at every page.
unfoldable pub synced : Mode → ℕ → ℕ → List ℕ → Outcome
synced mode number entry kernel = answer (mapped mode number (replicate 6 entry)) (sync_all kernel)

-- A user page of frame 6 and a kernel page of frame 7, as they stand in each mode.
unfoldable pub leaving : List ℕ
leaving = set (set shadow6 5 0x8000000000006007) 3 0x8000000000007003

unfoldable pub left6 : List ℕ
left6 =
    0 ∷ 0x8000000000005401 ∷ 0x8000000000003401 ∷ 0x8000000000007003 ∷ 0x8000000000005401 ∷ 0x6007 ∷ []

-- The same of entries with reserved bits, and of entries with write-through, cache disable and both.
unfoldable pub reserved_leaving : List ℕ
reserved_leaving =
    0x8010000000004007 ∷ 0x0010000000005401 ∷ 0x4000000000003401 ∷ 0xc000000000007003 ∷ 0x7ff0000000005401 ∷ 0xfff0000000006007 ∷ []

unfoldable pub reserved_left : List ℕ
reserved_left =
    0x0010000000004007 ∷ 0x8010000000005401 ∷ 0xc000000000003401 ∷ 0xc000000000007003 ∷ 0xfff0000000005401 ∷ 0x7ff0000000006007 ∷ []

unfoldable pub cached_leaving : List ℕ
cached_leaving = 0x800000000000400f ∷ 0x5409 ∷ 0x3411 ∷ 0x8000000000007013 ∷ 0x5419 ∷ 0x800000000000601f ∷ []

unfoldable pub cached_left : List ℕ
cached_left =
    0x400f ∷ 0x8000000000005409 ∷ 0x8000000000003411 ∷ 0x8000000000007013 ∷ 0x8000000000005419 ∷ 0x601f ∷ []

unfoldable pub start_cases : List Case
start_cases =
    -- "two parallel arrays"; "frames, which may repeat"; "The first e pages are the entry pages"
    row (start_on two_entries 6 6 1) (outcome (accepted 3 2) started6)
    -- Page 0 first, every page listed up to V - 1, frame F - 1, and a vector of two bytes.
    ∷ row (start_on every_page 3 3 2)
    (outcome (accepted 3 1)
    (guard_of (state_of 3 9 1 (replicate 16 0) (Kernel 0) 3 None)
    (record { shadow = 0x8401 ∷ 0x401 ∷ 0x8401 ∷ []; map = 8 ∷ 0 ∷ 8 ∷ []; exclusion = 1 ∷ 1 ∷ [] })))
    -- 1 to 7, each with all before it yes
    ∷ row (start_on (6 ∷ 0 ∷ 8 ∷ 0 ∷ 3 ∷ 0 ∷ 2 ∷ []) 6 6 1) (start_refused 1 6 6 1)
    ∷ row (start_on (set two_entries 1 8) 6 6 1) (start_refused 2 6 6 1)
    ∷ row (start_on (set two_entries 2 0) 6 6 1) (start_refused 2 6 6 1)
    ∷ row (start_on (set two_entries 4 7) 6 6 1) (start_refused 3 6 6 1)
    ∷ row (start_on (set two_entries 6 4) 6 6 1) (start_refused 3 6 6 1)
    ∷ row (start_on (set two_entries 4 2) 6 6 1) (start_refused 4 6 6 1)
    ∷ row (start_on (set two_entries 10 1) 6 6 1) (start_refused 5 6 6 1)
    ∷ row (start_on (set (set two_entries 12 6) 14 8) 6 6 1) (start_refused 5 6 6 1)
    ∷ row (start_on (set two_entries 14 8) 6 6 1) (start_refused 6 6 6 1)
    ∷ row (start_on (set two_entries 18 8) 6 6 1) (start_refused 6 6 6 1)
    ∷ row (start_on two_entries 5 6 1) (start_refused 7 5 6 1)
    ∷ row (start_on two_entries 7 6 1) (start_refused 7 7 6 1)
    ∷ row (start_on two_entries 6 5 1) (start_refused 7 6 5 1)
    ∷ row (start_on two_entries 6 7 1) (start_refused 7 6 7 1)
    ∷ row (start_on two_entries 6 6 0) (start_refused 7 6 6 0)
    ∷ row (start_on two_entries 6 6 2) (start_refused 7 6 6 2)
    -- The ends of the ranges: V 0 and 2,049, F 4,097; V 2,048 and F 4,096 go on to 3, with n 0
    ∷ row (start_on (set two_entries 0 0) 6 6 1) (start_refused 2 6 6 1)
    ∷ row (start_on (1 ∷ 8 ∷ 8 ∷ 0 ∷ 0 ∷ 0 ∷ 0 ∷ 0 ∷ []) 6 6 1) (start_refused 2 6 6 1)
    ∷ row (start_on (6 ∷ 0 ∷ 1 ∷ 16 ∷ 0 ∷ 0 ∷ 0 ∷ 0 ∷ []) 6 6 1) (start_refused 2 6 6 1)
    ∷ row (start_on (0 ∷ 8 ∷ 0 ∷ 16 ∷ 0 ∷ 0 ∷ 0 ∷ 0 ∷ []) 6 6 1) (start_refused 3 6 6 1)
    -- V 1 and F 1 start
    ∷ row (start_on (1 ∷ 0 ∷ 1 ∷ 0 ∷ 1 ∷ 0 ∷ 1 ∷ 0 ∷ 0 ∷ 0 ∷ 0 ∷ 0 ∷ []) 1 1 1)
    (outcome (accepted 1 1)
    (guard_of (state_of 1 1 1 (replicate 16 0) (Kernel 0) 3 None) (record { shadow = 0x401 ∷ []; map = 0 ∷ []; exclusion = 1 ∷ [] })))
    -- n V and e n go on to 4, e 0 does not; e 16 of 17 goes on to 4, e 17 does not
    ∷ row (start_on (set two_entries 4 6) 6 6 1) (start_refused 4 6 6 1)
    ∷ row (start_on (set (set two_entries 4 2) 6 2) 6 6 1) (start_refused 4 6 6 1)
    ∷ row (start_on (set two_entries 6 0) 6 6 1) (start_refused 3 6 6 1)
    ∷ row (start_on (17 ∷ 0 ∷ 8 ∷ 0 ∷ 17 ∷ 0 ∷ 16 ∷ 0 ∷ []) 6 6 1) (start_refused 4 6 6 1)
    ∷ row (start_on (17 ∷ 0 ∷ 8 ∷ 0 ∷ 17 ∷ 0 ∷ 17 ∷ 0 ∷ []) 6 6 1) (start_refused 3 6 6 1)
    ∷ []

unfoldable pub sync_cases : List Case
sync_cases =
    -- All pages: absent, approved from another frame, approved and absent, an alias that joins, approved from a frame at F, ordinary.
    row (answer started6 (sync_all (0 ∷ 0x7003 ∷ 0x2 ∷ 0x5007 ∷ 0x8003 ∷ 0x8000000000006007 ∷ [])))
    (outcome (accepted 3 1)
    (guard_of (six_pages (Kernel 1))
    (record {
      shadow = 0 ∷ 0x5401 ∷ 0 ∷ 0x5401 ∷ 0x5401 ∷ 0x8000000000006207 ∷ [];
      map = 65535 ∷ 5 ∷ 3 ∷ 5 ∷ 5 ∷ 65535 ∷ [];
      exclusion = 0x28 ∷ [];
    })))
    -- The same in user mode: an alias that joins and two approved pages get bit 63, a read-only entry with every bit from 3 to 11 set stays read-only.
    ∷ row (answer (with6 (User 1) shadow6) (sync_all (0x5003 ∷ 0x7003 ∷ 0 ∷ 0x7ff9 ∷ 0x9003 ∷ 0x6007 ∷ [])))
    (outcome (accepted 6 1)
    (guard_of (six_pages (User 1))
    (record {
      shadow = 0x8000000000005401 ∷ 0x8000000000005401 ∷ 0 ∷ 0x8000000000007019 ∷ 0x8000000000005401 ∷ 0x6007 ∷ [];
      map = 5 ∷ 5 ∷ 3 ∷ 65535 ∷ 5 ∷ 65535 ∷ [];
      exclusion = 0x28 ∷ [];
    })))
    -- A frame past F, and a damaged map's number past F, which counts as a frame
    ∷ stays started6 (sync_page (replicate 6 0x9003) 0) (accepted 0 0)
    ∷ row
    (answer (guard_of (six_pages (Kernel 1)) (tables shadow6 (9 ∷ replicate 5 65535) (0x28 ∷ []))) (sync_page (replicate 6 0x4003) 0))
    (outcome (accepted 1 0) (guard_of (six_pages (Kernel 1)) (tables (set shadow6 0 0x9401) (9 ∷ replicate 5 65535) (0x28 ∷ []))))
    -- K1: "A kernel entry with any of those bits set is now absent, on approved pages too." Bit 52, bit 62 and all of 52 to 62, each on an
    -- alias of an approved frame, which does not join, and on an approved page, which keeps its number
    ∷ row
    (answer (filled (Kernel 1))
    (sync_all
    (0x0010000000005003 ∷ 0x0010000000005003 ∷ 0x4000000000003003 ∷ 0x4000000000003003 ∷ 0x7ff0000000005003 ∷ 0x7ff0000000005003 ∷ [])))
    (outcome (accepted 6 0) (with6 (Kernel 1) (replicate 6 0)))
    -- the same on ordinary pages; an approved page with bit 57 alone, one with bits 52 and 63 and another frame, one that is not present either
    ∷ row
    (answer (filled (User 1))
    (sync_all
    (0x0010000000004007 ∷ 0x0200000000005003 ∷ 0x8010000000006007 ∷ 0x4000000000006007 ∷ 0x7ff0000000005002 ∷ 0x7ff0000000007007 ∷ [])))
    (outcome (accepted 6 0) (with6 (User 1) (replicate 6 0)))
    -- the others, each alone: 53 to 56, 58 and 59, on read-only entries, with bits 3 to 11 set, on an approved page with a frame past F
    ∷ row
    (answer (filled (Kernel 1))
    (sync_all
    (0x0020000000004001 ∷ 0x0040000000009003 ∷ 0x0080000000003ff9 ∷ 0x0100000000005001 ∷ 0x0400000000005ff9 ∷ 0x0800000000007ff9 ∷ [])))
    (outcome (accepted 6 0) (with6 (Kernel 1) (replicate 6 0)))
    -- 60 and 61; beside them bit 50 on an approved page and bits 3 to 11 on an ordinary one, which stay mapped
    ∷ row
    (answer (filled (User 1))
    (sync_all
    (0x1000000000004001 ∷ 0x2000000000005001 ∷ 0x0004000000003003 ∷ 0x1000000000005ff9 ∷ 0x2000000000009003 ∷ 0x7fff ∷ [])))
    (outcome (accepted 6 0) (with6 (User 1) (0 ∷ 0 ∷ 0x8000000000003401 ∷ 0 ∷ 0 ∷ 0x701f ∷ [])))
    -- bits 51 and 63, on either side, are none of these: both on an approved page and bit 63 on an alias, which joins, and on an ordinary page
    ∷ row
    (answer (filled (Kernel 1))
    (sync_all
    (0x8000000000004003 ∷ 0x0008000000005003 ∷ 0x8000000000003003 ∷ 0x8000000000005003 ∷ 0x8008000000005003 ∷ 0x8000000000007007 ∷ [])))
    (outcome (accepted 3 1)
    (guard_of (six_pages (Kernel 1))
    (record {
      shadow = 0x8000000000004203 ∷ 0x5401 ∷ 0x3401 ∷ 0x5401 ∷ 0x5401 ∷ 0x8000000000007207 ∷ [];
      map = 65535 ∷ 5 ∷ 3 ∷ 5 ∷ 5 ∷ 65535 ∷ [];
      exclusion = 0x28 ∷ [];
    })))
    -- one page: an approved one gets entry 0, and its own frame again once the bit is gone
    ∷ row (answer started6 (sync_page (replicate 6 0x0010000000005003) 1)) (outcome (accepted 1 0) (with6 (Kernel 1) (set shadow6 1 0)))
    ∷ row (answer (with6 (Kernel 1) (set shadow6 1 0)) (sync_page (replicate 6 0x7003) 1)) (outcome (accepted 1 0) started6)
    -- K3: "an ordinary shadow entry carries them": C5 to C8 with write-through, cache disable and both. The approved page has neither.
    ∷ row (answer started (sync_all (0x300b ∷ 0x201b ∷ 0x3013 ∷ 0x301b ∷ [])))
    (outcome (accepted 3 0) (holding (Kernel 1) (0x800000000000300b ∷ 0x2401 ∷ 0x8000000000003013 ∷ 0x800000000000301b ∷ []) map_started))
    ∷ row (answer started_user (sync_all (0x300f ∷ 0x200b ∷ 0x3017 ∷ 0x301f ∷ [])))
    (outcome (accepted 4 0) (holding (User 1) (0x300f ∷ 0x8000000000002401 ∷ 0x3017 ∷ 0x301f ∷ []) map_started))
    ∷ row (answer started_user (sync_all (0x800000000000300f ∷ 0x2013 ∷ 0x8000000000003017 ∷ 0x800000000000301f ∷ [])))
    (outcome (accepted 4 0) (holding (User 1) (0x800000000000320f ∷ 0x8000000000002401 ∷ 0x8000000000003217 ∷ 0x800000000000321f ∷ []) map_started))
    ∷ row (answer started_user (sync_all (0x300b ∷ 0x3019 ∷ 0x3013 ∷ 0x301b ∷ [])))
    (outcome (accepted 4 0)
    (holding (User 1) (0x800000000000300b ∷ 0x8000000000002401 ∷ 0x8000000000003013 ∷ 0x800000000000301b ∷ []) map_started))
    -- the same beside every other field: read-only, user, no-execute, frame 0
    ∷ row
    (synced (Kernel 1) 65535 0 (0x1 ∷ 0x100f ∷ 0x8000000000002013 ∷ 0x401b ∷ 0x800000000000601d ∷ 0x8000000000007005 ∷ []))
    (outcome (accepted 6 0)
    (mapped (Kernel 1) 65535
    (0x8000000000000001 ∷ 0x800000000000100f ∷ 0x8000000000002213 ∷ 0x800000000000401b ∷ 0x800000000000621d ∷ 0x8000000000007205 ∷ [])))
    ∷ row
    (synced (User 1) 65535 0 (0x800000000000001f ∷ 0x8000000000001011 ∷ 0x200d ∷ 0x8000000000004005 ∷ 0x6003 ∷ 0x701b ∷ []))
    (outcome (accepted 6 0)
    (mapped (User 1) 65535
    (0x800000000000021f ∷ 0x8000000000001211 ∷ 0x200d ∷ 0x8000000000004205 ∷ 0x8000000000006003 ∷ 0x800000000000701b ∷ [])))
    -- an alias has neither: each page joins
    ∷ row
    (synced (Kernel 1) 65535 0 (0x5001 ∷ 0x500f ∷ 0x8000000000005013 ∷ 0x501b ∷ 0x800000000000501d ∷ 0x8000000000005005 ∷ []))
    (outcome (accepted 6 6) (mapped (Kernel 1) 5 (replicate 6 0x5401)))
    ∷ row
    (synced (User 1) 65535 0 (0x800000000000501f ∷ 0x8000000000005011 ∷ 0x500d ∷ 0x8000000000005005 ∷ 0x5003 ∷ 0x501b ∷ []))
    (outcome (accepted 6 6) (mapped (User 1) 5 (replicate 6 0x8000000000005401)))
    -- an approved page has neither, whatever its kernel entry's frame is and whatever stood there
    ∷ row
    (synced (Kernel 1) 5 0x5419 (0x3001 ∷ 0x300f ∷ 0x8000000000008013 ∷ 0x901b ∷ 0x800000000000401d ∷ 0x8000000000003005 ∷ []))
    (outcome (accepted 6 0) (mapped (Kernel 1) 5 (replicate 6 0x5401)))
    ∷ row (answer started6 (sync_all (0x0 ∷ 0x500b ∷ 0x3013 ∷ 0x0 ∷ 0x501b ∷ 0x0 ∷ []))) (outcome (accepted 0 0) started6)
    ∷ row
    (synced (User 1) 5 0x800000000000600f (0x800000000000801f ∷ 0x8000000000003011 ∷ 0x500d ∷ 0x8000000000003005 ∷ 0x9003 ∷ 0x701b ∷ []))
    (outcome (accepted 6 0) (mapped (User 1) 5 (replicate 6 0x8000000000005401)))
    -- a frame at or past F stays unmapped, and so does a reserved bit or an entry that is not present
    ∷ row
    (synced (Kernel 1) 65535 0x401f (0x8001 ∷ 0x900f ∷ 0x8008000000004013 ∷ 0x801b ∷ 0x800000000000c01d ∷ 0x8000000000008005 ∷ []))
    (outcome (accepted 6 0) (mapped (Kernel 1) 65535 (replicate 6 0)))
    ∷ row
    (synced (User 1) 65535 0x401f (0x800000000000801f ∷ 0x8000000000009011 ∷ 0x000800000000400d ∷ 0x8000000000008005 ∷ 0xc003 ∷ 0x801b ∷ []))
    (outcome (accepted 6 0) (mapped (User 1) 65535 (replicate 6 0)))
    ∷ row
    (synced (Kernel 1) 65535 0x401f (0x4008 ∷ 0x4016 ∷ 0x401e ∷ 0x001000000000400b ∷ 0x4000000000004013 ∷ 0x020000000000401f ∷ []))
    (outcome (accepted 6 0) (mapped (Kernel 1) 65535 (replicate 6 0)))
    -- bits 5 to 11 beside them, and without them
    ∷ row (answer (filled (Kernel 1)) (sync_all (0x4ff9 ∷ 0x5fe1 ∷ 0x3ff9 ∷ 0x6fe7 ∷ 0x5fff ∷ 0x7fff ∷ [])))
    (outcome (accepted 3 0)
    (with6 (Kernel 1) (0x8000000000004019 ∷ 0x5401 ∷ 0x3401 ∷ 0x8000000000006007 ∷ 0x5401 ∷ 0x800000000000701f ∷ [])))
    -- an entry that changes by these bits alone is counted, of all pages and of one; the same again is no change
    ∷ row
    (answer (mapped (User 1) 65535 (0x4007 ∷ 0x400f ∷ 0x4017 ∷ 0x400f ∷ 0x4017 ∷ 0x401f ∷ []))
    (sync_all (0x400f ∷ 0x401f ∷ 0x4007 ∷ 0x4017 ∷ 0x4017 ∷ 0x4007 ∷ [])))
    (outcome (accepted 5 0) (mapped (User 1) 65535 (0x400f ∷ 0x401f ∷ 0x4007 ∷ 0x4017 ∷ 0x4017 ∷ 0x4007 ∷ [])))
    ∷ row (answer (at0 (User 1) 0x4007) (sync_page (replicate 6 0x400f) 0)) (outcome (accepted 1 0) (at0 (User 1) 0x400f))
    ∷ row (answer (at0 (User 1) 0x400f) (sync_page (replicate 6 0x4017) 0)) (outcome (accepted 1 0) (at0 (User 1) 0x4017))
    ∷ row (answer (at0 (User 1) 0x401f) (sync_page (replicate 6 0x4007) 0)) (outcome (accepted 1 0) (at0 (User 1) 0x4007))
    ∷ stays (at0 (User 1) 0x401f) (sync_page (replicate 6 0x4fff) 0) (accepted 0 0)
    ∷ row (answer (mapped (Kernel 1) 65535 (replicate 6 0x800000000000400f)) (sync_page (replicate 6 0x401f) 3))
    (outcome (accepted 1 0) (mapped (Kernel 1) 65535 (set (replicate 6 0x800000000000400f) 3 0x800000000000401f)))
    ∷ row (answer (at0 (Kernel 1) 0x800000000000401f) (sync_page (replicate 6 0x501f) 0))
    (outcome (accepted 1 1)
    (guard_of (six_pages (Kernel 1)) (tables (set shadow6 0 0x5401) (5 ∷ 5 ∷ 3 ∷ 65535 ∷ 5 ∷ 65535 ∷ []) (0x28 ∷ []))))
    -- 7 of the kernel table's length, and of each part of the state; 9 of the page
    ∷ stays started6 (sync_all (replicate 5 0)) (refused 7)
    ∷ stays started6 (sync_page (replicate 7 0) 0) (refused 7)
    ∷ stays started6 (sync_page (replicate 6 0) 6) (refused 9)
    ∷ stays (in_state 6 4097 2 (replicate 16 0) (Kernel 1)) (fetch 1) (refused 7)
    ∷ stays (in_state 6 8 0 (replicate 16 0) (Kernel 1)) (fetch 1) (refused 7)
    ∷ stays (in_state 6 8 17 (replicate 16 0) (Kernel 1)) (fetch 1) (refused 7)
    ∷ stays (in_state 6 8 2 (replicate 16 0) (Kernel 6)) (fetch 1) (refused 7)
    ∷ stays (in_state 5 8 2 (replicate 16 0) (Kernel 1)) (fetch 1) (refused 7)
    ∷ stays (in_state 6 0 2 (replicate 16 0) (Kernel 1)) (fetch 1) (refused 7)
    ∷ stays (many_pages 2049) (fetch 0) (refused 7)
    ∷ stays (many_pages 2048) (fetch 0) (refused 11)
    -- e 1 and 16, the running page V - 1 and F 4,096 are in order; e is not compared with V, and what an entry page holds is not asked
    ∷ stays (in_state 6 4096 16 (replicate 16 9) (User 5)) (fetch 0) (refused 11)
    ∷ stays (in_state 6 1 1 (replicate 16 9) (Kernel 5)) (fetch 0) (refused 11)
    ∷ []

-- Question 7 of each call: the state, whose running page is V, and each table that the call is lent, alone. The others may have any length.
unfoldable pub order_cases : List Case
order_cases =
    stays (with6 (Kernel 6) shadow6) (sync_page (replicate 6 0) 0) (refused 7)
    ∷ stays (with6 (Kernel 6) shadow6) (sync_all (replicate 6 0)) (refused 7)
    ∷ stays (with6 (Kernel 6) shadow6) (write 0 1) (refused 7)
    ∷ stays (with6 (User 6) left6) (enter 0) (refused 7)
    ∷ stays (with6 (Kernel 6) leaving) (leave 5) (refused 7)
    ∷ stays (with6 (Kernel 6) shadow6) (device_write three_devices 2 0 1) (refused 7)
    ∷ stays (of_lengths (Kernel 1) 6 6 1) (sync_page (replicate 5 0) 0) (refused 7)
    ∷ stays (of_lengths (Kernel 1) 7 6 1) (sync_page (replicate 6 0) 0) (refused 7)
    ∷ stays (of_lengths (Kernel 1) 6 7 1) (sync_page (replicate 6 0) 0) (refused 7)
    ∷ stays (of_lengths (Kernel 1) 6 6 2) (sync_page (replicate 6 0) 0) (refused 7)
    ∷ stays (of_lengths (Kernel 1) 6 6 1) (sync_all (replicate 7 0)) (refused 7)
    ∷ stays (of_lengths (Kernel 1) 5 6 1) (sync_all (replicate 6 0)) (refused 7)
    ∷ stays (of_lengths (Kernel 1) 6 5 1) (sync_all (replicate 6 0)) (refused 7)
    ∷ stays (of_lengths (Kernel 1) 6 6 0) (sync_all (replicate 6 0)) (refused 7)
    ∷ stays (of_lengths (Kernel 1) 7 0 0) (fetch 0) (refused 7)
    ∷ stays (of_lengths (Kernel 1) 6 0 0) (fetch 0) (refused 11)
    ∷ stays (of_lengths (Kernel 1) 5 6 1) (write 0 1) (refused 7)
    ∷ stays (of_lengths (Kernel 1) 6 6 0) (write 0 1) (refused 7)
    ∷ stays (of_lengths (Kernel 1) 6 0 1) (write 0 1) (refused 11)
    ∷ stays (of_lengths (User 1) 7 0 0) (enter 0) (refused 7)
    ∷ stays (of_lengths (User 1) 6 0 0) (enter 0) (refused 11)
    ∷ stays (of_lengths (Kernel 1) 7 0 0) (leave 0) (refused 7)
    ∷ stays (of_lengths (Kernel 1) 6 0 0) (leave 0) (refused 11)
    ∷ stays (of_lengths (Kernel 1) 0 0 2) (device_write three_devices 2 0 1) (refused 7)
    ∷ stays (of_lengths (Kernel 1) 0 0 1) (device_write three_devices 2 0 1) (accepted 0 0)
    ∷ []

unfoldable pub access_cases : List Case
access_cases =
    -- "Fetch a page: its frame, twice; that page is now running. Needs bit 63 clear and, in user mode, bit 2."
    row (answer started6 (fetch 2)) (outcome (accepted 3 3) (with6 (Kernel 2) shadow6))
    ∷ row (answer (at0 (User 1) 0x4005) (fetch 0)) (outcome (accepted 4 4) (at0 (User 0) 0x4005))
    -- page V - 1 with bit 9 set in user mode; in kernel mode an entry without the mark, whose frame has its highest bit set
    ∷ row (answer (with6 (User 1) (set shadow6 5 0x6207)) (fetch 5)) (outcome (accepted 6 6) (with6 (User 5) (set shadow6 5 0x6207)))
    ∷ row (answer (at0 (Kernel 1) 0x0018000000004001) (fetch 0)) (outcome (accepted 549755813892 549755813892) (at0 (Kernel 0) 0x0018000000004001))
    -- K1 asks kernel entries alone: a shadow entry with all of bits 52 to 62 is fetched and written as one without
    ∷ row (answer (at0 (Kernel 1) 0x7ff0000000004001) (fetch 0)) (outcome (accepted 4 4) (at0 (Kernel 0) 0x7ff0000000004001))
    ∷ stays (at0 (User 1) 0x7ff0000000006007) (write 0 1) (accepted 6 6)
    -- K3: no access asks for the cache bits: with either and with both it is accepted, and refused with 11, 12 and 13, as without
    ∷ row (answer (at0 (User 1) 0x401d) (fetch 0)) (outcome (accepted 4 4) (at0 (User 0) 0x401d))
    ∷ row (answer (at0 (Kernel 1) 0x4409) (fetch 0)) (outcome (accepted 4 4) (at0 (Kernel 0) 0x4409))
    ∷ row (answer (at0 (Kernel 1) 0x4413) (fetch 0)) (outcome (accepted 4 4) (at0 (Kernel 0) 0x4413))
    ∷ stays (at01 (User 1) 0x600f 0x7017) (write 4095 2) (accepted 6 7)
    ∷ stays (at01 (Kernel 1) 0x800000000000601b 0x8000000000007013) (write 4095 2) (accepted 6 7)
    ∷ stays (at0 (User 1) 0x401c) (fetch 0) (refused 11)
    ∷ stays (at0 (User 1) 0x401b) (fetch 0) (refused 12)
    ∷ stays (at0 (Kernel 1) 0x800000000000400f) (fetch 0) (refused 12)
    ∷ stays (at0 (Kernel 1) 0x8000000000004017) (fetch 0) (refused 12)
    ∷ stays (at0 (Kernel 1) 0x800000000000401a) (write 0 1) (refused 11)
    ∷ stays (at0 (User 1) 0x400d) (write 0 1) (refused 12)
    ∷ stays (at0 (User 1) 0x4015) (write 0 1) (refused 12)
    ∷ stays (at0 (Kernel 1) 0x800000000000401d) (write 0 1) (refused 12)
    ∷ stays (at0 (Kernel 1) 0x800000000000501b) (write 0 1) (refused 13)
    ∷ stays started6 (fetch 6) (refused 9)
    ∷ stays started6 (fetch 0) (refused 11)
    ∷ stays (at0 (User 1) 0x4001) (fetch 0) (refused 12)
    ∷ stays (at0 (Kernel 1) 0x8000000000004001) (fetch 0) (refused 12)
    -- A write that crosses into the next page: "first and last frame"; 11 of both pages, then 12 of both, then 13 of both.
    ∷ stays (at01 (Kernel 1) 0x8000000000006003 0x8000000000007003) (write 4095 2) (accepted 6 7)
    ∷ stays (at01 (User 1) 0x6007 0x7007) (write 4095 2) (accepted 6 7)
    ∷ stays (at01 (Kernel 1) 0x8000000000006001 0) (write 4095 2) (refused 11)
    ∷ stays (at01 (Kernel 1) 0x8000000000006002 0x8000000000007003) (write 4095 2) (refused 11)
    ∷ stays (at01 (Kernel 1) 0x8000000000006001 0x8000000000007003) (write 4095 2) (refused 12)
    ∷ stays (at01 (User 1) 0x8000000000006003 0x8000000000007007) (write 4095 2) (refused 12)
    ∷ stays (at01 (Kernel 1) 0x8000000000005003 0x8000000000007001) (write 4095 2) (refused 12)
    ∷ stays (at01 (Kernel 1) 0x8000000000005003 0x8000000000007003) (write 4095 2) (refused 13)
    ∷ stays (at01 (Kernel 1) 0x8000000000006003 0x8000000000007001) (write 4095 2) (refused 12)
    ∷ stays (at01 (User 1) 0x8000000000006007 0x8000000000007003) (write 4095 2) (refused 12)
    ∷ stays (at01 (Kernel 1) 0x8000000000006003 0x8000000000005003) (write 4095 2) (refused 13)
    ∷ stays (at01 (Kernel 1) 0x8000000000006003 0x8000000000008003) (write 4095 2) (refused 13)
    ∷ stays (at01 (Kernel 1) 0x8000000000006003 0x8000000000008003) (write 4094 2) (accepted 6 6)
    ∷ stays (with6 (Kernel 1) leaving) (write 24575 1) (accepted 6 6)
    ∷ stays started6 (write 24575 2) (refused 9)
    ∷ stays started6 (write 18446744073709551615 16) (refused 9)
    -- Device write: "all touched frames"; 8 before 9; sums are exact
    ∷ stays started6 (device_write three_devices 2 1 12287) (accepted 0 2)
    ∷ stays started6 (device_write three_devices 2 1 12288) (refused 13)
    ∷ stays started6 (device_write three_devices 2 16384 4097) (refused 13)
    ∷ stays started6 (device_write three_devices 2 20480 4097) (refused 13)
    ∷ stays started6 (device_write three_devices 2 8192 12288) (refused 13)
    ∷ stays started6 (device_write three_devices 2 32767 1) (accepted 7 7)
    ∷ stays started6 (device_write three_devices 2 0 0) (refused 8)
    ∷ stays started6 (device_write three_devices 2 0 1048577) (refused 8)
    ∷ stays started6 (device_write three_devices 2 18446744073709551615 1048576) (refused 9)
    ∷ []

unfoldable pub switch_cases : List Case
switch_cases =
    -- "Leave to a page: it needs bit 2 set and bit 9 clear." "Both switch the mode, run that page, and give the count of changed shadow
    -- entries and 0."
    row (answer (with6 (Kernel 1) leaving) (leave 5)) (outcome (accepted 4 0) (with6 (User 5) left6))
    -- neither bit 63 nor the mark is asked; bit 9 keeps a page from running in user mode, and the mark does whatever the other bits say
    ∷ row (answer (with6 (Kernel 1) (set shadow6 5 0x6c07)) (leave 5))
    (outcome (accepted 4 0) (with6 (User 5) (set (set left6 3 0) 5 0x8000000000006c07)))
    ∷ row (answer (with6 (Kernel 1) (set (set leaving 0 0x8000000000006207) 3 0x4000000000007dff)) (leave 5))
    (outcome (accepted 5 0) (with6 (User 5) (set (set left6 0 0x8000000000006207) 3 0xc000000000007dff)))
    ∷ stays (with6 (Kernel 1) leaving) (leave 6) (refused 9)
    ∷ stays (with6 (User 5) left6) (leave 6) (refused 9)
    ∷ stays (with6 (User 5) left6) (leave 5) (refused 10)
    ∷ stays (with6 (Kernel 1) leaving) (leave 0) (refused 11)
    ∷ stays (with6 (Kernel 1) leaving) (leave 3) (refused 12)
    ∷ stays (at0 (Kernel 1) 0x8000000000006207) (leave 0) (refused 12)
    -- "Enter by entry index: the page needs bit 10."
    ∷ row (answer (with6 (User 5) left6) (enter 1)) (outcome (accepted 4 0) (with6 (Kernel 2) leaving))
    ∷ row (answer (with6 (User 5) (set left6 2 0x3401)) (enter 1)) (outcome (accepted 3 0) (with6 (Kernel 2) leaving))
    ∷ stays (with6 (User 5) left6) (enter 2) (refused 9)
    ∷ stays started6 (enter 2) (refused 9)
    -- "entry index below e with its page below V", each index by its own page
    ∷ stays (in_state 6 8 2 (1 ∷ 6 ∷ replicate 14 0) (User 1)) (enter 1) (refused 9)
    ∷ stays (in_state 6 8 1 (5 ∷ replicate 15 0) (User 1)) (enter 0) (refused 11)
    ∷ stays (in_state 6 8 1 (6 ∷ replicate 15 0) (User 1)) (enter 0) (refused 9)
    ∷ stays started6 (enter 0) (refused 10)
    ∷ stays (with6 (User 5) (set left6 2 0x3400)) (enter 1) (refused 11)
    ∷ stays (with6 (User 5) (set left6 2 0x8000000000003001)) (enter 1) (refused 12)
    -- "sets bit 63 of each present shadow entry [..], approved mark and bits 2 and 9 as found, other bits kept": an absent entry keeps all bits
    ∷ row (answer (with6 (User 5) (set (set left6 0 0x8000000000006006) 3 0x8000000000007e1f)) (enter 1))
    (outcome (accepted 5 0) (with6 (Kernel 2) (set (set leaving 0 0x8000000000006006) 3 0x7e1f)))
    -- K1 asks kernel entries alone: a switch keeps bit 52, bit 62 and all of 52 to 62 of a shadow entry as found, the page's that is run too
    ∷ row (answer (with6 (Kernel 1) reserved_leaving) (leave 5)) (outcome (accepted 5 0) (with6 (User 5) reserved_left))
    ∷ row (answer (with6 (User 5) reserved_left) (enter 1)) (outcome (accepted 5 0) (with6 (Kernel 2) reserved_leaving))
    -- K3: a switch keeps write-through, cache disable and both, on ordinary entries, the page's that is run too, and on entries with the mark
    ∷ row (answer (with6 (Kernel 1) cached_leaving) (leave 5)) (outcome (accepted 5 0) (with6 (User 5) cached_left))
    ∷ row (answer (with6 (User 5) cached_left) (enter 1)) (outcome (accepted 5 0) (with6 (Kernel 2) cached_leaving))
    -- with bit 9 set they do not make a page run, and an entry that is not present keeps them
    ∷ row
    (answer
    (with6 (Kernel 1)
    (0x800000000000400f ∷ 0x800000000000420f ∷ 0x8000000000004217 ∷ 0x800000000000421b ∷ 0x701c ∷ 0x800000000000601e ∷ []))
    (leave 0))
    (outcome (accepted 1 0)
    (with6 (User 0) (0x400f ∷ 0x800000000000420f ∷ 0x8000000000004217 ∷ 0x800000000000421b ∷ 0x701c ∷ 0x800000000000601e ∷ [])))
    ∷ row (answer (with6 (Kernel 1) (0x4209 ∷ 0x421f ∷ 0x340b ∷ 0x8000000000007017 ∷ 0x6016 ∷ 0x8000000000006008 ∷ [])) (leave 3))
    (outcome (accepted 4 0)
    (with6 (User 3) (0x8000000000004209 ∷ 0x800000000000421f ∷ 0x800000000000340b ∷ 0x7017 ∷ 0x6016 ∷ 0x8000000000006008 ∷ [])))
    ∷ row (answer (with6 (User 3) (0x420f ∷ 0x800000000000540b ∷ 0x3409 ∷ 0x4217 ∷ 0x601e ∷ 0x8000000000006018 ∷ [])) (enter 0))
    (outcome (accepted 3 0)
    (with6 (Kernel 1) (0x800000000000420f ∷ 0x540b ∷ 0x3409 ∷ 0x8000000000004217 ∷ 0x601e ∷ 0x8000000000006018 ∷ [])))
    -- and no switch asks for them
    ∷ stays (at0 (Kernel 1) 0x800000000000401e) (leave 0) (refused 11)
    ∷ stays (at0 (Kernel 1) 0x800000000000401b) (leave 0) (refused 12)
    ∷ stays (at0 (Kernel 1) 0x800000000000420f) (leave 0) (refused 12)
    ∷ stays (at0 (Kernel 1) 0x8000000000004217) (leave 0) (refused 12)
    ∷ stays (with6 (User 5) (set left6 2 0x3418)) (enter 1) (refused 11)
    ∷ stays (with6 (User 5) (set left6 2 0x8000000000003019)) (enter 1) (refused 12)
    ∷ []

-- What an answer gives, with the tables that a call left.
unfoldable pub answer_cases : List Case
answer_cases =
    row (outcome_by (Ok (1, 2)) zeros (tables (3 ∷ []) (4 ∷ []) (5 ∷ [])))
    (outcome (record { allowed = true; number = 0; first = 1; second = 2 })
    (guard_of zeros (record { shadow = 3 ∷ []; map = 4 ∷ []; exclusion = 5 ∷ [] })))
    -- one table in its place, and the others as they were
    ∷ row (outcome (accepted 0 0) (guard_of zeros (with_shadow (6 ∷ []) (tables (3 ∷ []) (4 ∷ []) (5 ∷ [])))))
    (outcome (accepted 0 0) (guard_of zeros (record { shadow = 6 ∷ []; map = 4 ∷ []; exclusion = 5 ∷ [] })))
    ∷ row (outcome (accepted 0 0) (guard_of zeros (with_map (6 ∷ []) (tables (3 ∷ []) (4 ∷ []) (5 ∷ [])))))
    (outcome (accepted 0 0) (guard_of zeros (record { shadow = 3 ∷ []; map = 6 ∷ []; exclusion = 5 ∷ [] })))
    ∷ row (outcome (accepted 0 0) (guard_of zeros (with_exclusion (6 ∷ []) (tables (3 ∷ []) (4 ∷ []) (5 ∷ [])))))
    (outcome (accepted 0 0) (guard_of zeros (record { shadow = 3 ∷ []; map = 4 ∷ []; exclusion = 6 ∷ [] })))
    ∷ row (outcome_by (Err StateOrTable) zeros (tables [] [] []))
    (outcome (record { allowed = false; number = 7; first = 0; second = 0 }) (guard_of zeros (record { shadow = []; map = []; exclusion = [] })))
    -- of a start: the state that it answers, and where it is refused a state of zeros in user mode
    ∷ row (started_by (Ok (six_pages (Kernel 1), (1, 2))) (tables (3 ∷ []) (4 ∷ []) (5 ∷ [])))
    (outcome (accepted 1 2) (guard_of (six_pages (Kernel 1)) (tables (3 ∷ []) (4 ∷ []) (5 ∷ []))))
    ∷ row (started_by (Err RecordTooShort) (tables (3 ∷ []) (4 ∷ []) (5 ∷ [])))
    (outcome (refused 1) (guard_of (state_of 0 0 0 (replicate 16 0) (User 0) 0 None) (tables (3 ∷ []) (4 ∷ []) (5 ∷ []))))
    ∷ []

-- K3: "Taking a kernel entry apart now yields both bits".
abbrev pub ApartCase : Type 0
ApartCase = Row (Option Fields)

unfoldable pub apart_cases : List ApartCase
apart_cases =
    row (taken_apart 0x300b)
    (Some (record { writable = true; user = false; write_through = true; cache_disable = false; no_execute = false; frame = 3 }))
    ∷ row (taken_apart 0x8000000000003015)
    (Some (record { writable = false; user = true; write_through = false; cache_disable = true; no_execute = true; frame = 3 }))
    ∷ row (taken_apart 0x3018) None
    ∷ []

-- A vector with a bit set, cleared, and past its end.
abbrev pub VectorCase : Type 0
VectorCase = Row (List ℕ)

unfoldable pub vector_cases : List VectorCase
vector_cases =
    row (with_bit true (0 ∷ 1 ∷ []) 9) (0 ∷ 3 ∷ [])
    ∷ row (with_bit false (255 ∷ 3 ∷ []) 9) (255 ∷ 1 ∷ [])
    ∷ row (with_bit true (0 ∷ []) 9) (0 ∷ [])
    ∷ []
