-- Document 02, K6: what ask, commit and drop answer and leave, and what the other calls do while a pair is pending. The guard is that of Further: V 6, F 8,
-- pages 1, 2 and 4 approved with frames 5, 3 and 5, which are excluded, and three devices.
use Rattle.std.specs.Prelude.{ℕ, List, [], ◌∷◌, replicate, set, None, Option}
use Rattle.model.specs.Guard.{pair}
use Rattle.model.specs.declared.Pending.{Pending}
use Rattle.model.specs.declared.Mode.{Mode}
use Rattle.model.specs.declared.Mode.TheVariants.{Kernel, User}
use Rattle.model.specs.Guard.{tables, Guard, guard_of, state_of}
use Rattle.model.specs.Calls.{outcome, accepted, refused, sync_page, sync_all, sync_page_tree, sync_all_tree, fetch, write, enter, leave, device_write, ask}
use Rattle.model.specs.Calls.{commit, drop, answer}
use Rattle.model.specs.Cases.{Case, row}
use Rattle.model.specs.Further.{three_devices, with6, shadow6, left6, started6, at0, stays, in_state}
use Rattle.model.specs.Orders.{misfit}
use Rattle.model.specs.DeviceCases.{of_devices}
use Rattle.model.specs.TreeCases.{one_table}

unfoldable pub map6 : List ℕ
map6 = 65535 ∷ 5 ∷ 3 ∷ 65535 ∷ 5 ∷ 65535 ∷ []

-- A guard in a mode, with what is pending, these shadow entries, this map and this byte of the exclusion vector.
unfoldable pub pending_with : Mode → Option Pending → List ℕ → List ℕ → ℕ → Guard
pending_with mode pending shadow map byte = guard_of (state_of 6 8 2 (1 ∷ 2 ∷ replicate 14 0) mode 3 pending) (tables shadow map (byte ∷ []))

-- The guard in a mode with these shadow entries, after an ask for frame 6 for page 3; and after its commit, with these shadow entries and this map.
unfoldable pub asked6 : Mode → List ℕ → Guard
asked6 mode shadow = pending_with mode (pair 3 6) shadow map6 0x68

unfoldable pub committed6 : Mode → List ℕ → List ℕ → Guard
committed6 mode shadow map = pending_with mode None shadow map 0x68

-- The same in kernel mode, with page 3 alone approved by the commit.
unfoldable pub alone6 : List ℕ → Guard
alone6 shadow = committed6 (Kernel 1) (set shadow 3 0x6401) (set map6 3 6)

-- The started guard with this pair pending and this byte of the vector.
unfoldable pub paired : ℕ → ℕ → ℕ → Guard
paired page frame byte = pending_with (Kernel 1) (pair page frame) shadow6 map6 byte

-- The guard with no page approved, in a mode, with the pair and these shadow entries.
unfoldable pub bare : Mode → List ℕ → Guard
bare mode shadow = pending_with mode (pair 3 6) shadow (replicate 6 65535) 0x40

-- The started guard's entries in user mode.
unfoldable pub user6 : List ℕ
user6 = 0 ∷ 0x8000000000005401 ∷ 0x8000000000003401 ∷ 0 ∷ 0x8000000000005401 ∷ 0 ∷ []

-- A page synchronised from a user entry of the pending frame, and one that was read-only before the ask.
unfoldable pub inspected6 : List ℕ
inspected6 = set shadow6 0 0x8000000000006205

unfoldable pub read_only6 : List ℕ
read_only6 = set shadow6 0 0x8000000000006005

-- Entries that do not map frame 6 writable: bit 0 clear, read-only, another frame; another frame, frame 65,542, bit 0 clear and every other bit set.
unfoldable pub harmless6 : List ℕ
harmless6 = 0x6002 ∷ 0x5401 ∷ 0x3401 ∷ 0x8000000000006005 ∷ 0x5401 ∷ 0x8000000000007003 ∷ []

unfoldable pub other_harmless6 : List ℕ
other_harmless6 = 0x8000000000004003 ∷ 0x5401 ∷ 0x3401 ∷ 0x10006003 ∷ 0x5401 ∷ 0xfff0000000006ffe ∷ []

-- Entries that a commit for page 3 leaves: bit 0 clear, an approved page's with the frame, a higher frame; a lower one, frame 65,542.
unfoldable pub others6 : List ℕ
others6 = 0x6ffe ∷ 0x8000000000006005 ∷ 0x3401 ∷ 0 ∷ 0x6007 ∷ 0x8000000000007005 ∷ []

unfoldable pub more_others6 : List ℕ
more_others6 = 0x8000000000004005 ∷ 0x5401 ∷ 0 ∷ 0 ∷ 0x5401 ∷ 0x10006005 ∷ []

-- F 9, with these two bytes of the vector.
unfoldable pub nine_with : Option Pending → ℕ → ℕ → Guard
nine_with pending low high = guard_of (state_of 6 9 2 (1 ∷ 2 ∷ replicate 14 0) (Kernel 1) 3 pending) (tables shadow6 map6 (low ∷ high ∷ []))

-- F 4,096, with this in the vector's last byte, and these shadow entries and this map.
unfoldable pub many_with : Option Pending → List ℕ → List ℕ → ℕ → Guard
many_with pending shadow map byte =
    guard_of (state_of 6 4096 2 (1 ∷ 2 ∷ replicate 14 0) (Kernel 1) 3 pending) (tables shadow map (set (replicate 512 0) 511 byte))

-- Tables of these lengths, and what is pending.
unfoldable pub lent_with : Option Pending → ℕ → ℕ → ℕ → Guard
lent_with pending shadow map exclusion =
    guard_of (state_of 6 8 2 (1 ∷ 2 ∷ replicate 14 0) (Kernel 1) 3 pending) (tables (replicate shadow 0) (replicate map 65535) (replicate exclusion 0))

unfoldable pub ask_cases : List Case
ask_cases =
    -- "Ask names a page and a frame"; "Ask sets the frame's exclusion bit", and the others stay. 0 and 0, in both modes
    row (answer started6 (ask 3 6)) (outcome (accepted 0 0) (asked6 (Kernel 1) shadow6))
    ∷ row (answer (with6 (User 5) left6) (ask 0 4)) (outcome (accepted 0 0) (pending_with (User 5) (pair 0 4) left6 map6 0x38))
    -- the first and the last page and frame; the second byte of two, whose spare bits stay; the last byte of 512
    ∷ row (answer started6 (ask 0 0)) (outcome (accepted 0 0) (paired 0 0 0x29))
    ∷ row (answer started6 (ask 5 7)) (outcome (accepted 0 0) (paired 5 7 0xa8))
    ∷ row (answer (nine_with None 0x29 0xfe) (ask 3 8)) (outcome (accepted 0 0) (nine_with (pair 3 8) 0x29 0xff))
    ∷ row (answer (nine_with None 0x28 0x1) (ask 3 0)) (outcome (accepted 0 0) (nine_with (pair 3 0) 0x29 0x1))
    ∷ row (answer (many_with None shadow6 map6 0x40) (ask 3 4095)) (outcome (accepted 0 0) (many_with (pair 3 4095) shadow6 map6 0xc0))
    -- "question 9 the named frame below F", and its page below V. Neither number is cut
    ∷ stays started6 (ask 6 6) (refused 9)
    ∷ stays started6 (ask 3 8) (refused 9)
    ∷ stays (nine_with None 0x28 0) (ask 3 9) (refused 9)
    ∷ stays (many_with None shadow6 map6 0) (ask 3 4096) (refused 9)
    ∷ stays started6 (ask 65539 6) (refused 9)
    ∷ stays started6 (ask 3 65542) (refused 9)
    ∷ stays started6 (ask 3 65535) (refused 9)
    ∷ stays started6 (ask 4294967299 6) (refused 9)
    ∷ stays started6 (ask 9223372036854775811 6) (refused 9)
    ∷ stays started6 (ask 3 9223372036854775814) (refused 9)
    -- 20, "an ask while one is pending", for another page and frame, in both modes; for the same, where the vector lacks its bit
    ∷ stays (asked6 (Kernel 1) shadow6) (ask 0 4) (refused 20)
    ∷ stays (asked6 (User 1) user6) (ask 0 4) (refused 20)
    ∷ stays (paired 3 6 0x28) (ask 3 6) (refused 20)
    -- "whose page has an approval": the map's word, whatever number it has, and not bit 10's
    ∷ stays started6 (ask 1 6) (refused 20)
    ∷ stays (with6 (Kernel 1) (set shadow6 2 0)) (ask 2 6) (refused 20)
    ∷ stays (pending_with (Kernel 1) None shadow6 (set map6 0 0) 0x28) (ask 0 6) (refused 20)
    ∷ stays (pending_with (Kernel 1) None shadow6 (set map6 5 65534) 0x28) (ask 5 6) (refused 20)
    ∷ row (answer (at0 (Kernel 1) 0x7401) (ask 0 6)) (outcome (accepted 0 0) (pending_with (Kernel 1) (pair 0 6) (set shadow6 0 0x7401) map6 0x68))
    -- "for an excluded frame": a policy's, a committed one, one of the second byte and of the last
    ∷ stays started6 (ask 3 5) (refused 20)
    ∷ stays (alone6 shadow6) (ask 0 6) (refused 20)
    ∷ stays (nine_with None 0x29 0) (ask 3 0) (refused 20)
    ∷ stays (nine_with None 0x28 1) (ask 3 8) (refused 20)
    ∷ stays (many_with None shadow6 map6 0x80) (ask 3 4095) (refused 20)
    -- 21, "a frame that a present shadow entry maps writable": at the first, the asked, an approved and the last page, beside a read-only one, whatever other
    -- bits it has; in user mode; at the last of six pages where F is 2
    ∷ stays (at0 (Kernel 1) 0x8000000000006003) (ask 3 6) (refused 21)
    ∷ stays (with6 (Kernel 1) (set shadow6 3 0x6003)) (ask 3 6) (refused 21)
    ∷ stays (with6 (Kernel 1) (set shadow6 1 0x6003)) (ask 3 6) (refused 21)
    ∷ stays (with6 (Kernel 1) (set read_only6 5 0xfff0000000006fff)) (ask 3 6) (refused 21)
    ∷ stays (with6 (User 5) left6) (ask 0 6) (refused 21)
    ∷ stays (guard_of (state_of 6 2 2 (replicate 16 0) (Kernel 1) 3 None) (tables (set shadow6 5 0x1003) map6 (0 ∷ []))) (ask 3 1) (refused 21)
    -- none of these entries counts
    ∷ row (answer (with6 (Kernel 1) harmless6) (ask 3 6)) (outcome (accepted 0 0) (asked6 (Kernel 1) harmless6))
    ∷ row (answer (with6 (Kernel 1) other_harmless6) (ask 3 6)) (outcome (accepted 0 0) (asked6 (Kernel 1) other_harmless6))
    -- 7: the state's V, e, running page and number of devices, and each table that is lent
    ∷ stays (in_state 5 8 2 (replicate 16 0) (Kernel 1)) (ask 3 6) (refused 7)
    ∷ stays (in_state 6 8 17 (replicate 16 0) (Kernel 1)) (ask 3 6) (refused 7)
    ∷ stays (with6 (Kernel 6) shadow6) (ask 3 6) (refused 7)
    ∷ stays (of_devices 65) (ask 3 6) (refused 7)
    ∷ stays (lent_with None 5 6 1) (ask 3 6) (refused 7)
    ∷ stays (lent_with None 7 6 1) (ask 3 6) (refused 7)
    ∷ stays (lent_with None 6 5 1) (ask 3 6) (refused 7)
    ∷ stays (lent_with None 6 7 1) (ask 3 6) (refused 7)
    ∷ stays (lent_with None 6 6 0) (ask 3 6) (refused 7)
    ∷ stays (lent_with None 6 6 2) (ask 3 6) (refused 7)
    ∷ row (answer (lent_with None 6 6 1) (ask 3 6)) (outcome (accepted 0 0) (bare (Kernel 1) (replicate 6 0)))
    -- The order of two questions: 7 and 9, 7 and 20, 7 and 21; 9 and 20 by page and frame, 9 and 21; 20 and 21 by each way into 20
    ∷ stays (misfit (Kernel 1) shadow6) (ask 6 8) (refused 7)
    ∷ stays (misfit (Kernel 1) shadow6) (ask 1 5) (refused 7)
    ∷ stays (misfit (Kernel 1) (set shadow6 0 0x6003)) (ask 3 6) (refused 7)
    ∷ stays started6 (ask 6 5) (refused 9)
    ∷ stays started6 (ask 1 8) (refused 9)
    ∷ stays (asked6 (Kernel 1) shadow6) (ask 6 4) (refused 9)
    ∷ stays (at0 (Kernel 1) 0x6003) (ask 6 6) (refused 9)
    ∷ stays (at0 (Kernel 1) 0x8003) (ask 3 8) (refused 9)
    ∷ stays (asked6 (Kernel 1) (set shadow6 0 0x4003)) (ask 0 4) (refused 20)
    ∷ stays (at0 (Kernel 1) 0x6003) (ask 1 6) (refused 20)
    ∷ stays (at0 (Kernel 1) 0x5003) (ask 3 5) (refused 20)
    ∷ []

unfoldable pub commit_cases : List Case
commit_cases =
    -- "Commit approves the asked page with its frame, in map and shadow"; "both clear the pending pair"; the vector stays. With no other page of that frame:
    -- the asked page's entry was 0, had bit 0 clear, had another frame, or has the frame
    row (answer (asked6 (Kernel 1) shadow6) commit) (outcome (accepted 1 1) (alone6 shadow6))
    ∷ row (answer (asked6 (Kernel 1) (set shadow6 3 0x7ffe)) commit) (outcome (accepted 1 1) (alone6 shadow6))
    ∷ row (answer (asked6 (Kernel 1) (set shadow6 3 0x8000000000007003)) commit) (outcome (accepted 1 1) (alone6 shadow6))
    ∷ row (answer (asked6 (Kernel 1) (set shadow6 3 0x800000000000621d)) commit) (outcome (accepted 1 1) (alone6 shadow6))
    -- by the current mode
    ∷ row (answer (asked6 (User 1) user6) commit) (outcome (accepted 1 1) (committed6 (User 1) (set user6 3 0x8000000000006401) (set map6 3 6)))
    -- "and so every unapproved page whose present shadow entry has that frame": one, and two, synchronised while pending and read-only before; in user mode
    ∷ row (answer (asked6 (Kernel 1) inspected6) commit)
    (outcome (accepted 2 2) (committed6 (Kernel 1) (set (set shadow6 0 0x6401) 3 0x6401) (set (set map6 0 6) 3 6)))
    ∷ row (answer (asked6 (Kernel 1) (set read_only6 5 0x8000000000006201)) commit)
    (outcome (accepted 3 3) (committed6 (Kernel 1) (0x6401 ∷ 0x5401 ∷ 0x3401 ∷ 0x6401 ∷ 0x5401 ∷ 0x6401 ∷ []) (6 ∷ 5 ∷ 3 ∷ 6 ∷ 5 ∷ 6 ∷ [])))
    ∷ row (answer (asked6 (User 0) (set user6 0 0x6005)) commit)
    (outcome (accepted 2 2) (committed6 (User 0) (set (set user6 0 0x8000000000006401) 3 0x8000000000006401) (set (set map6 0 6) 3 6)))
    ∷ row (answer (asked6 (User 5) (set (set user6 0 0x8000000000006205) 5 0x6005)) commit)
    (outcome (accepted 3 3)
    (committed6 (User 5)
    (0x8000000000006401 ∷ 0x8000000000005401 ∷ 0x8000000000003401 ∷ 0x8000000000006401 ∷ 0x8000000000005401 ∷ 0x8000000000006401 ∷ [])
    (6 ∷ 5 ∷ 3 ∷ 6 ∷ 5 ∷ 6 ∷ [])))
    -- not a page with another number in the map, or with that one, whatever its entry has; not an entry with bit 0 clear or of another frame
    ∷ row (answer (asked6 (Kernel 1) others6) commit) (outcome (accepted 1 1) (alone6 others6))
    ∷ row (answer (asked6 (Kernel 1) more_others6) commit) (outcome (accepted 1 1) (alone6 more_others6))
    ∷ row (answer (pending_with (Kernel 1) (pair 3 6) inspected6 (set map6 0 6) 0x68) commit)
    (outcome (accepted 1 1) (committed6 (Kernel 1) (set inspected6 3 0x6401) (set (set map6 0 6) 3 6)))
    -- "the changed shadow entries and the joined pages, the asked one included": an entry that was the approved one already, of this mode and of the other,
    -- at the asked page and at another
    ∷ row (answer (asked6 (Kernel 1) (set shadow6 3 0x6401)) commit) (outcome (accepted 0 1) (alone6 shadow6))
    ∷ row (answer (asked6 (Kernel 1) (set shadow6 3 0x8000000000006401)) commit) (outcome (accepted 1 1) (alone6 shadow6))
    ∷ row (answer (asked6 (Kernel 1) (set shadow6 5 0x6401)) commit)
    (outcome (accepted 1 2) (committed6 (Kernel 1) (set (set shadow6 3 0x6401) 5 0x6401) (set (set map6 3 6) 5 6)))
    -- The first page and frame, beside entries of 0, which are not present; the last page and frame; frame 4,095 of 4,096
    ∷ row (answer (paired 0 0 0x29) commit) (outcome (accepted 1 1) (pending_with (Kernel 1) None (set shadow6 0 0x401) (set map6 0 0) 0x29))
    ∷ row (answer (paired 5 7 0xa8) commit) (outcome (accepted 1 1) (pending_with (Kernel 1) None (set shadow6 5 0x7401) (set map6 5 7) 0xa8))
    ∷ row (answer (many_with (pair 3 4095) shadow6 map6 0x80) commit)
    (outcome (accepted 1 1) (many_with None (set shadow6 3 0xfff401) (set map6 3 4095) 0x80))
    -- 20, a "commit whose page has an approval": it joined with a policy's frame while pending, in each mode; whatever number it has
    ∷ stays (pending_with (Kernel 1) (pair 3 6) (set shadow6 3 0x5401) (set map6 3 5) 0x68) commit (refused 20)
    ∷ stays (pending_with (User 1) (pair 0 6) user6 (set map6 0 0) 0x68) commit (refused 20)
    ∷ stays (pending_with (Kernel 1) (pair 3 6) shadow6 (set map6 3 6) 0x68) commit (refused 20)
    ∷ stays (pending_with (Kernel 1) (pair 5 6) shadow6 (set map6 5 65534) 0x68) commit (refused 20)
    -- 22, "a commit or drop with nothing pending", after a commit too
    ∷ stays started6 commit (refused 22)
    ∷ stays (with6 (User 5) left6) commit (refused 22)
    ∷ stays (alone6 shadow6) commit (refused 22)
    -- 7: the state, and both tables that are lent. The vector is not, and stays as it is
    ∷ stays (pending_with (Kernel 6) (pair 3 6) shadow6 map6 0x68) commit (refused 7)
    ∷ stays (lent_with (pair 3 6) 5 6 1) commit (refused 7)
    ∷ stays (lent_with (pair 3 6) 7 6 1) commit (refused 7)
    ∷ stays (lent_with (pair 3 6) 6 5 1) commit (refused 7)
    ∷ stays (lent_with (pair 3 6) 6 7 1) commit (refused 7)
    ∷ row (answer (lent_with (pair 3 6) 6 6 0) commit)
    (outcome (accepted 1 1)
    (guard_of (state_of 6 8 2 (1 ∷ 2 ∷ replicate 14 0) (Kernel 1) 3 None) (tables (set (replicate 6 0) 3 0x6401) (set (replicate 6 65535) 3 6) [])))
    -- The order of two questions: 7 and 20 by the shadow and the running page; 7 and 22 by the map, the number of devices and e. 20 and 22 cannot fail together
    ∷ stays (pending_with (Kernel 1) (pair 3 6) (replicate 5 0) (set map6 3 5) 0x68) commit (refused 7)
    ∷ stays (pending_with (Kernel 6) (pair 3 6) shadow6 (set map6 3 5) 0x68) commit (refused 7)
    ∷ stays (lent_with None 6 5 1) commit (refused 7)
    ∷ stays (of_devices 0) commit (refused 7)
    ∷ stays (in_state 6 8 17 (replicate 16 0) (Kernel 1)) commit (refused 7)
    ∷ []

unfoldable pub drop_cases : List Case
drop_cases =
    -- "Drop clears the exclusion bit; both clear the pending pair", in each mode. Shadow and map stay, and so does an entry synchronised while pending
    row (answer (asked6 (Kernel 1) shadow6) drop) (outcome (accepted 0 0) started6)
    ∷ row (answer (asked6 (User 5) left6) drop) (outcome (accepted 0 0) (with6 (User 5) left6))
    ∷ row (answer (asked6 (Kernel 1) inspected6) drop) (outcome (accepted 0 0) (with6 (Kernel 1) inspected6))
    -- the other bits stay: of the first, a middle and the last frame of a byte, of a second byte with spare bits, of the last of 512
    ∷ row (answer (paired 0 0 0xff) drop) (outcome (accepted 0 0) (pending_with (Kernel 1) None shadow6 map6 0xfe))
    ∷ row (answer (paired 3 6 0xff) drop) (outcome (accepted 0 0) (pending_with (Kernel 1) None shadow6 map6 0xbf))
    ∷ row (answer (paired 5 7 0xff) drop) (outcome (accepted 0 0) (pending_with (Kernel 1) None shadow6 map6 0x7f))
    ∷ row (answer (nine_with (pair 3 8) 0xff 0xff) drop) (outcome (accepted 0 0) (nine_with None 0xff 0xfe))
    ∷ row (answer (many_with (pair 3 4095) shadow6 map6 0xff) drop) (outcome (accepted 0 0) (many_with None shadow6 map6 0x7f))
    -- a damaged vector that lacks the bit
    ∷ row (answer (paired 3 6 0x28) drop) (outcome (accepted 0 0) started6)
    -- ask, drop, and ask again, for another page
    ∷ row (answer (answer (answer started6 (ask 3 6)).guard drop).guard (ask 0 6)) (outcome (accepted 0 0) (paired 0 6 0x68))
    -- whether the page has an approval by now is not asked
    ∷ row (answer (pending_with (Kernel 1) (pair 3 6) (set shadow6 3 0x5401) (set map6 3 5) 0x68) drop)
    (outcome (accepted 0 0) (pending_with (Kernel 1) None (set shadow6 3 0x5401) (set map6 3 5) 0x28))
    -- 22, with nothing pending, after a drop and after a commit
    ∷ stays started6 drop (refused 22)
    ∷ stays (with6 (User 5) left6) drop (refused 22)
    ∷ stays (alone6 shadow6) drop (refused 22)
    -- 7: the state, and the vector. The others are not lent
    ∷ stays (pending_with (Kernel 6) (pair 3 6) shadow6 map6 0x68) drop (refused 7)
    ∷ stays (lent_with (pair 3 6) 6 6 0) drop (refused 7)
    ∷ stays (lent_with (pair 3 6) 6 6 2) drop (refused 7)
    ∷ row (answer (lent_with (pair 3 6) 7 0 1) drop) (outcome (accepted 0 0) (lent_with None 7 0 1))
    -- 7 and 22: the vector, the running page, e, the number of devices and V, of which 2,048 is in order
    ∷ stays (lent_with None 6 6 2) drop (refused 7)
    ∷ stays (with6 (Kernel 6) shadow6) drop (refused 7)
    ∷ stays (in_state 6 8 0 (replicate 16 0) (Kernel 1)) drop (refused 7)
    ∷ stays (of_devices 65) drop (refused 7)
    ∷ stays (in_state 2049 8 2 (replicate 16 0) (Kernel 1)) drop (refused 7)
    ∷ stays (in_state 2048 8 2 (replicate 16 0) (Kernel 1)) drop (refused 22)
    ∷ []

unfoldable pub pending_cases : List Case
pending_cases =
    -- "while pending, synchronising an ordinary entry for it clears writable and sets bit 9": user and cache bits stay, bit 63 is set by the ordinary rule, and
    -- no page joins; in each mode, of all pages and of one; the same again is no change
    row (answer (bare (Kernel 1) (replicate 6 0)) (sync_all (0x6001 ∷ 0x6003 ∷ 0x6007 ∷ 0x600b ∷ 0x8000000000006013 ∷ 0x6fff ∷ [])))
    (outcome (accepted 6 0)
    (bare (Kernel 1)
    (0x8000000000006201 ∷ 0x8000000000006201 ∷ 0x8000000000006205 ∷ 0x8000000000006209 ∷ 0x8000000000006211 ∷ 0x800000000000621d ∷ [])))
    ∷ row (answer (bare (User 1) (replicate 6 0x6007)) (sync_all (0x6fff ∷ 0x6015 ∷ 0x600d ∷ 0x8000000000006005 ∷ 0x6007 ∷ 0x6001 ∷ [])))
    (outcome (accepted 6 0)
    (bare (User 1)
    (0x800000000000621d ∷ 0x8000000000006215 ∷ 0x800000000000620d ∷ 0x8000000000006205 ∷ 0x8000000000006205 ∷ 0x8000000000006201 ∷ [])))
    ∷ row (answer (asked6 (Kernel 1) shadow6) (sync_page (replicate 6 0x6007) 0)) (outcome (accepted 1 0) (asked6 (Kernel 1) inspected6))
    ∷ row (answer (asked6 (User 1) user6) (sync_page (replicate 6 0x6007) 3)) (outcome (accepted 1 0) (asked6 (User 1) (set user6 3 0x8000000000006205)))
    ∷ stays (asked6 (Kernel 1) inspected6) (sync_page (replicate 6 0x6005) 0) (accepted 0 0)
    -- "this comes before step 4", and after step 3: ordinary; approved, which keeps the map's frame; approved and absent; absent by a reserved bit; approved; an
    -- alias of a policy's frame, which joins
    ∷ row (answer (asked6 (Kernel 1) shadow6) (sync_all (0x8000000000006003 ∷ 0x6007 ∷ 0x6006 ∷ 0x0010000000006003 ∷ 0x5003 ∷ 0x5003 ∷ [])))
    (outcome (accepted 3 1)
    (pending_with (Kernel 1) (pair 3 6) (0x8000000000006201 ∷ 0x5401 ∷ 0 ∷ 0 ∷ 0x5401 ∷ 0x5401 ∷ []) (65535 ∷ 5 ∷ 3 ∷ 65535 ∷ 5 ∷ 5 ∷ []) 0x68))
    -- in user mode: another ordinary frame; approved; approved, mapped to a policy's frame; an alias, which joins; approved and absent; frame 14, past F
    ∷ row (answer (asked6 (User 1) user6) (sync_all (0x7007 ∷ 0x6003 ∷ 0x5003 ∷ 0x3007 ∷ 0 ∷ 0xe007 ∷ [])))
    (outcome (accepted 3 1)
    (pending_with (User 1) (pair 3 6) (0x7007 ∷ 0x8000000000005401 ∷ 0x8000000000003401 ∷ 0x8000000000003401 ∷ 0 ∷ 0 ∷ []) (65535 ∷ 5 ∷ 3 ∷ 3 ∷ 5 ∷ 65535 ∷ []) 0x68))
    -- one page: the asked one joins with a policy's frame; an approved one keeps its own; one past F and one of frame 65,542 are not mapped
    ∷ row (answer (asked6 (Kernel 1) shadow6) (sync_page (replicate 6 0x5003) 3))
    (outcome (accepted 1 1) (pending_with (Kernel 1) (pair 3 6) (set shadow6 3 0x5401) (set map6 3 5) 0x68))
    ∷ stays (asked6 (Kernel 1) shadow6) (sync_page (replicate 6 0x6007) 1) (accepted 0 0)
    ∷ stays (asked6 (Kernel 1) shadow6) (sync_page (replicate 6 0x8003) 3) (accepted 0 0)
    ∷ stays (asked6 (Kernel 1) shadow6) (sync_page (replicate 6 0x10006003) 3) (accepted 0 0)
    -- by the pair, where a damaged vector lacks its bit; frame 0
    ∷ row (answer (paired 3 6 0x28) (sync_page (replicate 6 0x6007) 0)) (outcome (accepted 1 0) (pending_with (Kernel 1) (pair 3 6) inspected6 map6 0x28))
    ∷ row (answer (paired 0 0 0x29) (sync_page (replicate 6 0x7) 3))
    (outcome (accepted 1 0) (pending_with (Kernel 1) (pair 0 0) (set shadow6 3 0x8000000000000205) map6 0x29))
    -- from a tree
    ∷ row (answer (asked6 (Kernel 1) shadow6) (sync_page_tree (one_table 512 0x6007) 0)) (outcome (accepted 1 0) (asked6 (Kernel 1) inspected6))
    ∷ row (answer (asked6 (User 1) user6) (sync_all_tree (one_table 512 0x6017)))
    (outcome (accepted 3 0) (asked6 (User 1) (set (set (set user6 0 0x8000000000006215) 3 0x8000000000006215) 5 0x8000000000006215)))
    -- With nothing pending: an alias of a committed frame joins, one of a dropped frame is ordinary, and frame 65535 is past F
    ∷ row (answer (alone6 shadow6) (sync_page (replicate 6 0x6007) 0))
    (outcome (accepted 1 1) (committed6 (Kernel 1) (set (set shadow6 0 0x6401) 3 0x6401) (set (set map6 0 6) 3 6)))
    ∷ row (answer (with6 (Kernel 1) inspected6) (sync_page (replicate 6 0x6007) 0)) (outcome (accepted 1 0) (at0 (Kernel 1) 0x8000000000006007))
    ∷ stays started6 (sync_page (replicate 6 0xffff003) 0) (accepted 0 0)
    -- "Kernel fetches now read policy or committed frames": not the pending one, synchronised while pending or before
    ∷ row (answer (alone6 shadow6) (fetch 3)) (outcome (accepted 6 6) (committed6 (Kernel 3) (set shadow6 3 0x6401) (set map6 3 6)))
    ∷ stays (asked6 (Kernel 1) inspected6) (fetch 0) (refused 12)
    ∷ stays (asked6 (Kernel 1) read_only6) (fetch 0) (refused 12)
    -- user code fetches from a page that was read-only before the ask, until it is synchronised or the frame committed
    ∷ row (answer (asked6 (User 1) (set user6 0 0x6005)) (fetch 0)) (outcome (accepted 6 6) (asked6 (User 0) (set user6 0 0x6005)))
    ∷ stays (asked6 (User 1) (set user6 0 0x8000000000006205)) (fetch 0) (refused 12)
    ∷ stays (committed6 (User 1) (set user6 0 0x8000000000006401) (set map6 0 6)) (fetch 0) (refused 12)
    -- A write to the pending frame: 12 where its page was synchronised, 13 on a made-up table whose entry is writable, of its last byte too; 12 once it is
    -- committed. Allowed before the ask, and to another frame
    ∷ stays (asked6 (Kernel 1) inspected6) (write 0 1) (refused 12)
    ∷ stays (asked6 (Kernel 1) (set shadow6 0 0x8000000000006003)) (write 0 1) (refused 13)
    ∷ stays (asked6 (Kernel 1) (set (set shadow6 0 0x4003) 1 0x6003)) (write 4095 2) (refused 13)
    ∷ stays (alone6 shadow6) (write 12288 1) (refused 12)
    ∷ stays (at0 (Kernel 1) 0x8000000000006003) (write 0 1) (accepted 6 6)
    ∷ stays (asked6 (Kernel 1) (set shadow6 0 0x8000000000007003)) (write 0 16) (accepted 7 7)
    -- A transfer to it, pending and committed, in both modes: 13. Allowed beside it, and before the ask
    ∷ stays (asked6 (Kernel 1) shadow6) (device_write three_devices 0 24576 1) (refused 13)
    ∷ stays (asked6 (User 1) user6) (device_write three_devices 2 28671 2) (refused 13)
    ∷ stays (alone6 shadow6) (device_write three_devices 1 24576 4096) (refused 13)
    ∷ stays (asked6 (Kernel 1) shadow6) (device_write three_devices 0 28672 4096) (accepted 7 7)
    ∷ stays started6 (device_write three_devices 0 24576 8192) (accepted 6 7)
    -- Leave to a page of it: 12 where it was synchronised while pending, allowed where it was read-only before. A switch, as a fetch, keeps the pair
    ∷ stays (asked6 (Kernel 1) inspected6) (leave 0) (refused 12)
    ∷ row (answer (asked6 (Kernel 1) (set read_only6 3 0x8000000000006205)) (leave 0))
    (outcome (accepted 4 0) (asked6 (User 0) (set (set user6 0 0x6005) 3 0x8000000000006205)))
    ∷ row (answer (asked6 (User 0) (set (set user6 0 0x6005) 3 0x8000000000006205)) (enter 1))
    (outcome (accepted 4 0) (asked6 (Kernel 2) (set read_only6 3 0x8000000000006205)))
    ∷ row (answer (asked6 (Kernel 1) shadow6) (fetch 2)) (outcome (accepted 3 3) (asked6 (Kernel 2) shadow6))
    -- "Question 7 wants a pending pair below V and F": page 6 and frame 8, of every call
    ∷ stays (paired 6 6 0x68) (sync_page (replicate 6 0) 0) (refused 7)
    ∷ stays (paired 3 8 0x68) (sync_page (replicate 6 0) 0) (refused 7)
    ∷ stays (paired 6 6 0x68) (sync_all (replicate 6 0)) (refused 7)
    ∷ stays (paired 3 8 0x68) (sync_all (replicate 6 0)) (refused 7)
    ∷ stays (paired 6 6 0x68) (sync_page_tree (one_table 512 0) 0) (refused 7)
    ∷ stays (paired 3 8 0x68) (sync_page_tree (one_table 512 0) 0) (refused 7)
    ∷ stays (paired 6 6 0x68) (sync_all_tree (one_table 512 0)) (refused 7)
    ∷ stays (paired 3 8 0x68) (sync_all_tree (one_table 512 0)) (refused 7)
    ∷ stays (paired 6 6 0x68) (fetch 1) (refused 7)
    ∷ stays (paired 3 8 0x68) (fetch 1) (refused 7)
    ∷ stays (paired 6 6 0x68) (write 0 1) (refused 7)
    ∷ stays (paired 3 8 0x68) (write 0 1) (refused 7)
    ∷ stays (pending_with (User 1) (pair 6 6) user6 map6 0x68) (enter 0) (refused 7)
    ∷ stays (pending_with (User 1) (pair 3 8) user6 map6 0x68) (enter 0) (refused 7)
    ∷ stays (paired 6 6 0x68) (leave 0) (refused 7)
    ∷ stays (paired 3 8 0x68) (leave 0) (refused 7)
    ∷ stays (paired 6 6 0x68) (device_write three_devices 0 0 1) (refused 7)
    ∷ stays (paired 3 8 0x68) (device_write three_devices 0 0 1) (refused 7)
    ∷ stays (paired 6 6 0x68) (ask 0 4) (refused 7)
    ∷ stays (paired 3 8 0x68) (ask 0 4) (refused 7)
    ∷ stays (paired 6 6 0x68) commit (refused 7)
    ∷ stays (paired 3 8 0x68) commit (refused 7)
    ∷ stays (paired 6 6 0x68) drop (refused 7)
    ∷ stays (paired 3 8 0x68) drop (refused 7)
    -- Numbers of a pair are not cut; page 5 and frame 7 are in order, and so is frame 4,095 of 4,096
    ∷ stays (paired 65539 6 0x68) (fetch 0) (refused 7)
    ∷ stays (paired 3 65542 0x68) (fetch 0) (refused 7)
    ∷ stays (paired 3 65535 0x68) (fetch 0) (refused 7)
    ∷ stays (paired 5 7 0xa8) (fetch 0) (refused 11)
    ∷ stays (many_with (pair 3 4095) shadow6 map6 0x80) (fetch 0) (refused 11)
    ∷ stays (many_with (pair 3 4096) shadow6 map6 0x80) (fetch 0) (refused 7)
    ∷ []
