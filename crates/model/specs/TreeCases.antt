-- Document 02, K4: what walks give, and what synchronising from a tree gives. A row of a walk fixes its answer, the flat entry and the count of
-- entries read, and the entries themselves; a row of a call fixes its whole outcome. The guard is that of Further: V 6, F 8, pages 1, 2 and 4 approved
-- for frames 5, 3 and 5.
use Rattle.std.specs.Prelude.{ℕ, suc, ◌+◌, ◌-◌, ◌*◌, true, false, List, [], ◌∷◌, ◌++◌, length, replicate, set, None}
use Rattle.model.specs.declared.Mode.TheVariants.{Kernel, User}
use Rattle.model.specs.Guard.{tables, Guard, guard_of, state_of}
use Rattle.model.specs.Tree.{Tree, tree_of, Walk, walk_of}
use Rattle.model.specs.Calls.{Reply, Outcome, accepted, refused, outcome, sync_page_tree, sync_all_tree, answer}
use Rattle.model.specs.Walks.{walk_reply}
use Rattle.model.specs.Cases.{Row, row, Case}
use Rattle.model.specs.Further.{six_pages, with6, shadow6, started6, stays, in_state, of_lengths, filled}
use Rattle.model.specs.Orders.{misfit}

-- An entry at a place of a table.
pub record Word : Type 0 where
  pub number : ℕ
  pub place : ℕ
  pub entry : ℕ

abbrev pub at : ℕ → ℕ → ℕ → Word
at number place entry = record { number = number; place = place; entry = entry }

-- A run of so many tables that has these entries, in rising order, and 0 elsewhere: from a word of the run on, up to its end.
unfoldable pub run_from : ℕ → ℕ → List Word → List ℕ
run_from end from [] = replicate (end - from) 0
run_from end from (w ∷ ws) =
    let place : ℕ = w.number * 512 + w.place in
    replicate (place - from) 0 ++ (w.entry ∷ run_from end (suc place) ws)

unfoldable pub run_of : ℕ → List Word → List ℕ
run_of count ws = run_from (count * 512) 0 ws

-- One table, with an entry at place 5.
unfoldable pub one : ℕ → Tree
one entry = tree_of (run_of 1 (at 0 5 entry ∷ [])) 0 1

-- Two tables: the root's entry at place 3, and table 1's entry at place 511. Page 2,047 goes by both.
unfoldable pub two : ℕ → ℕ → Tree
two upper last = tree_of (run_of 2 (at 0 3 upper ∷ at 1 511 last ∷ [])) 0 2

-- Three tables: the root's entry at place 1, table 1's at place 2, table 2's at place 3. Page 2^18 + 2 × 2^9 + 3 goes by all three.
unfoldable pub three : ℕ → ℕ → ℕ → Tree
three top upper last = tree_of (run_of 3 (at 0 1 top ∷ at 1 2 upper ∷ at 2 3 last ∷ [])) 0 3

abbrev pub by_three : ℕ
by_three = 263171

-- What a walk gives: its flat entry, the count of entries read, and these entries.
pub record Walked : Type 0 where
  pub flat : ℕ
  pub reads : ℕ
  pub met : List ℕ

unfoldable pub gives : ℕ → ℕ → List ℕ → Walked
gives flat reads met = record { flat = flat; reads = reads; met = met }

unfoldable pub given : Walk → Walked
given walk = gives walk.flat (length walk.met) walk.met

unfoldable pub walked : Tree → ℕ → Walked
walked tree page = given (walk_of tree page)

abbrev pub WalkCase : Type 0
WalkCase = Row Walked

unfoldable pub walk_cases : List WalkCase
walk_cases =
    -- Depth 1: "Level 1 is chosen by page bits 0 to 8"; the root is a table of level 1, and each named bit comes from its entry
    row (walked (one 0x7007) 5) (gives 0x7007 1 (0x7007 ∷ []))
    ∷ row (walked (one 0x7001) 5) (gives 0x7001 1 (0x7001 ∷ []))
    ∷ row (walked (one 0x7003) 5) (gives 0x7003 1 (0x7003 ∷ []))
    ∷ row (walked (one 0x7005) 5) (gives 0x7005 1 (0x7005 ∷ []))
    ∷ row (walked (one 0x7009) 5) (gives 0x7009 1 (0x7009 ∷ []))
    ∷ row (walked (one 0x7011) 5) (gives 0x7011 1 (0x7011 ∷ []))
    ∷ row (walked (one 0x8000000000007001) 5) (gives 0x8000000000007001 1 (0x8000000000007001 ∷ []))
    -- "of the named bits alone": bits 5 to 11 are left out, bit 7 at level 1 among them; a frame of all 40 bits
    ∷ row (walked (one 0x8000000000007fff) 5) (gives 0x800000000000701f 1 (0x8000000000007fff ∷ []))
    ∷ row (walked (one 0x7081) 5) (gives 0x7001 1 (0x7081 ∷ []))
    ∷ row (walked (one 0x000ffffffffff001) 5) (gives 0x000ffffffffff001 1 (0x000ffffffffff001 ∷ []))
    -- "0 if absent": an entry that proves absent was read; K1's markers
    ∷ row (walked (one 0x7006) 5) (gives 0 1 (0x7006 ∷ []))
    ∷ row (walked (one 0x0010000000007007) 5) (gives 0 1 (0x0010000000007007 ∷ []))
    ∷ row (walked (one 0x4000000000007007) 5) (gives 0 1 (0x4000000000007007 ∷ []))
    ∷ row (walked (one 0x7007) 4) (gives 0 1 (0 ∷ []))
    -- Another root, the run's last word; "A page whose number needs more bits than the depth has is absent", and nothing is read
    ∷ row (walked (tree_of (run_of 2 (at 0 511 0x6007 ∷ at 1 511 0x7007 ∷ [])) 1 1) 511) (gives 0x7007 1 (0x7007 ∷ []))
    ∷ row (walked (tree_of (run_of 1 (at 0 0 0x7007 ∷ [])) 0 1) 512) (gives 0 0 [])
    ∷ row (walked (one 0x7007) 517) (gives 0 0 [])
    -- A table of level 1 holds no large page: bit 7 is left out where the frame field's low nine bits are 0 too, and nothing is added
    ∷ row (walked (one 0x600087) 5) (gives 0x600007 1 (0x600087 ∷ []))
    -- Depth 2: "each level above by the next nine bits"; page 2,047; "Writable and user need every level, no-execute needs one"
    ∷ row (walked (two 0x1007 0x7007) 2047) (gives 0x7007 2 (0x1007 ∷ 0x7007 ∷ []))
    ∷ row (walked (two 0x1005 0x7007) 2047) (gives 0x7005 2 (0x1005 ∷ 0x7007 ∷ []))
    ∷ row (walked (two 0x1003 0x7007) 2047) (gives 0x7003 2 (0x1003 ∷ 0x7007 ∷ []))
    ∷ row (walked (two 0x1007 0x7005) 2047) (gives 0x7005 2 (0x1007 ∷ 0x7005 ∷ []))
    ∷ row (walked (two 0x1007 0x7003) 2047) (gives 0x7003 2 (0x1007 ∷ 0x7003 ∷ []))
    ∷ row (walked (two 0x1003 0x7005) 2047) (gives 0x7001 2 (0x1003 ∷ 0x7005 ∷ []))
    ∷ row (walked (two 0x8000000000001007 0x7007) 2047) (gives 0x8000000000007007 2 (0x8000000000001007 ∷ 0x7007 ∷ []))
    ∷ row (walked (two 0x1007 0x8000000000007007) 2047) (gives 0x8000000000007007 2 (0x1007 ∷ 0x8000000000007007 ∷ []))
    ∷ row (walked (two 0x8000000000001007 0x8000000000007007) 2047) (gives 0x8000000000007007 2 (0x8000000000001007 ∷ 0x8000000000007007 ∷ []))
    -- "Cache bits come from the last entry"
    ∷ row (walked (two 0x101f 0x7007) 2047) (gives 0x7007 2 (0x101f ∷ 0x7007 ∷ []))
    ∷ row (walked (two 0x1007 0x701f) 2047) (gives 0x701f 2 (0x1007 ∷ 0x701f ∷ []))
    ∷ row (walked (two 0x100f 0x7017) 2047) (gives 0x7017 2 (0x100f ∷ 0x7017 ∷ []))
    -- An upper entry's other bits, 5, 6 and 8 to 11, neither count nor reach the flat entry; the last one's frame field has all 40 bits
    ∷ row (walked (two 0x1f7f 0x7007) 2047) (gives 0x7007 2 (0x1f7f ∷ 0x7007 ∷ []))
    ∷ row (walked (two 0x1007 0x000ffffffffff001) 2047) (gives 0x000ffffffffff001 2 (0x1007 ∷ 0x000ffffffffff001 ∷ []))
    -- Bit 7 below a level 2 that has it clear: level 1 ignores it
    ∷ row (walked (two 0x1007 0x7087) 2047) (gives 0x7007 2 (0x1007 ∷ 0x7087 ∷ []))
    -- "An absent entry [..] makes the page absent": an upper one is no table, nor is one that K1 rejects
    ∷ row (walked (two 0x1006 0x7007) 2047) (gives 0 1 (0x1006 ∷ []))
    ∷ row (walked (two 0x0010000000001007 0x7007) 2047) (gives 0 1 (0x0010000000001007 ∷ []))
    ∷ row (walked (two 0x4000000000001007 0x7007) 2047) (gives 0 1 (0x4000000000001007 ∷ []))
    ∷ row (walked (two 0x3fe0000000001007 0x7007) 2047) (gives 0 1 (0x3fe0000000001007 ∷ []))
    ∷ row (walked (two 0x1007 0x7006) 2047) (gives 0 2 (0x1007 ∷ 0x7006 ∷ []))
    ∷ row (walked (two 0x1007 0x0010000000007007) 2047) (gives 0 2 (0x1007 ∷ 0x0010000000007007 ∷ []))
    -- "a table number outside the run": just outside, 2^40 - 1, and 1 in the lower 39 bits alone
    ∷ row (walked (two 0x2007 0x7007) 2047) (gives 0 1 (0x2007 ∷ []))
    ∷ row (walked (two 0x000ffffffffff007 0x7007) 2047) (gives 0 1 (0x000ffffffffff007 ∷ []))
    ∷ row (walked (two 0x0008000000001007 0x7007) 2047) (gives 0 1 (0x0008000000001007 ∷ []))
    -- A table may be named at both levels
    ∷ row (walked (tree_of (run_of 1 (at 0 3 0x0007 ∷ [])) 0 2) 1539) (gives 0x0007 2 (0x0007 ∷ 0x0007 ∷ []))
    -- "The frame field of an upper entry is the number of the next table in the run", wherever the root stands: a table before the root
    ∷ row (walked (tree_of (run_of 3 (at 1 511 0x7007 ∷ at 2 3 0x1007 ∷ [])) 2 2) 2047) (gives 0x7007 2 (0x1007 ∷ 0x7007 ∷ []))
    -- The last page of depth 2, and those past it
    ∷ row (walked (tree_of (run_of 2 (at 0 511 0x1007 ∷ at 1 511 0x7007 ∷ [])) 0 2) 262143) (gives 0x7007 2 (0x1007 ∷ 0x7007 ∷ []))
    ∷ row (walked (tree_of (run_of 2 (at 0 0 0x1007 ∷ at 1 0 0x7007 ∷ [])) 0 2) 262144) (gives 0 0 [])
    ∷ row (walked (two 0x1007 0x7007) 264191) (gives 0 0 [])
    -- "Bit 7 at level 2 means a large page", its read the last, with its own rights and cache bits; the page number's low nine bits are added, and
    -- with bit 7 off the frame field is a table's number, outside the run and in it
    ∷ row (walked (two 0x600087 0x7007) 1536) (gives 0x600007 1 (0x600087 ∷ []))
    ∷ row (walked (two 0x600087 0x7007) 1541) (gives 0x605007 1 (0x600087 ∷ []))
    ∷ row (walked (two 0x600087 0x7007) 2047) (gives 0x7ff007 1 (0x600087 ∷ []))
    ∷ row (walked (two 0x600007 0x7007) 2047) (gives 0 1 (0x600007 ∷ []))
    ∷ row (walked (two 0x0087 0x7007) 2047) (gives 0x1ff007 1 (0x0087 ∷ []))
    ∷ row (walked (two 0x0007 0x7007) 1539) (gives 0x0007 2 (0x0007 ∷ 0x0007 ∷ []))
    ∷ row (walked (two 0x600081 0x7007) 1541) (gives 0x605001 1 (0x600081 ∷ []))
    ∷ row (walked (two 0x600083 0x7007) 1541) (gives 0x605003 1 (0x600083 ∷ []))
    ∷ row (walked (two 0x600085 0x7007) 1541) (gives 0x605005 1 (0x600085 ∷ []))
    ∷ row (walked (two 0x60008f 0x7007) 1541) (gives 0x60500f 1 (0x60008f ∷ []))
    ∷ row (walked (two 0x600097 0x7007) 1541) (gives 0x605017 1 (0x600097 ∷ []))
    ∷ row (walked (two 0x8000000000600fff 0x7007) 1541) (gives 0x800000000060501f 1 (0x8000000000600fff ∷ []))
    ∷ row (walked (two 0x000fffffffe00087 0x7007) 2047) (gives 0x000ffffffffff007 1 (0x000fffffffe00087 ∷ []))
    ∷ row (walked (two 0x600086 0x7007) 1541) (gives 0 1 (0x600086 ∷ []))
    ∷ row (walked (two 0x0010000000600087 0x7007) 1541) (gives 0 1 (0x0010000000600087 ∷ []))
    ∷ row (walked (two 0x4000000000600087 0x7007) 1541) (gives 0 1 (0x4000000000600087 ∷ []))
    -- "the low nine bits of its frame field must be 0, else the page is absent": each of the nine alone, and one that is a table's number
    ∷ row (walked (two 0x601087 0x7007) 1536) (gives 0 1 (0x601087 ∷ []))
    ∷ row (walked (two 0x602087 0x7007) 1536) (gives 0 1 (0x602087 ∷ []))
    ∷ row (walked (two 0x604087 0x7007) 1536) (gives 0 1 (0x604087 ∷ []))
    ∷ row (walked (two 0x608087 0x7007) 1536) (gives 0 1 (0x608087 ∷ []))
    ∷ row (walked (two 0x610087 0x7007) 1536) (gives 0 1 (0x610087 ∷ []))
    ∷ row (walked (two 0x620087 0x7007) 1536) (gives 0 1 (0x620087 ∷ []))
    ∷ row (walked (two 0x640087 0x7007) 1536) (gives 0 1 (0x640087 ∷ []))
    ∷ row (walked (two 0x680087 0x7007) 1536) (gives 0 1 (0x680087 ∷ []))
    ∷ row (walked (two 0x700087 0x7007) 1536) (gives 0 1 (0x700087 ∷ []))
    ∷ row (walked (two 0x1087 0x7007) 2047) (gives 0 1 (0x1087 ∷ []))
    -- Depth 3: "at level 3 these three bits do not count"; the cache bits and bit 7 neither, nor any other bit that is not of the frame field
    ∷ row (walked (three 0x1007 0x2007 0x7007) by_three) (gives 0x7007 3 (0x1007 ∷ 0x2007 ∷ 0x7007 ∷ []))
    ∷ row (walked (three 0x1001 0x2007 0x7007) by_three) (gives 0x7007 3 (0x1001 ∷ 0x2007 ∷ 0x7007 ∷ []))
    ∷ row (walked (three 0x8000000000001001 0x2007 0x7007) by_three) (gives 0x7007 3 (0x8000000000001001 ∷ 0x2007 ∷ 0x7007 ∷ []))
    ∷ row (walked (three 0x1099 0x2007 0x7007) by_three) (gives 0x7007 3 (0x1099 ∷ 0x2007 ∷ 0x7007 ∷ []))
    ∷ row (walked (three 0x8000000000001fff 0x2007 0x7007) by_three) (gives 0x7007 3 (0x8000000000001fff ∷ 0x2007 ∷ 0x7007 ∷ []))
    -- Level 2's rights count; its cache bits and its other bits do not
    ∷ row (walked (three 0x1007 0x2001 0x7007) by_three) (gives 0x7001 3 (0x1007 ∷ 0x2001 ∷ 0x7007 ∷ []))
    ∷ row (walked (three 0x1007 0x2005 0x7007) by_three) (gives 0x7005 3 (0x1007 ∷ 0x2005 ∷ 0x7007 ∷ []))
    ∷ row (walked (three 0x1007 0x2003 0x7007) by_three) (gives 0x7003 3 (0x1007 ∷ 0x2003 ∷ 0x7007 ∷ []))
    ∷ row (walked (three 0x1007 0x8000000000002007 0x7007) by_three) (gives 0x8000000000007007 3 (0x1007 ∷ 0x8000000000002007 ∷ 0x7007 ∷ []))
    ∷ row (walked (three 0x1007 0x2007 0x8000000000007019) by_three) (gives 0x8000000000007019 3 (0x1007 ∷ 0x2007 ∷ 0x8000000000007019 ∷ []))
    ∷ row (walked (three 0x1007 0x2f7f 0x7007) by_three) (gives 0x7007 3 (0x1007 ∷ 0x2f7f ∷ 0x7007 ∷ []))
    -- Each level's table is the one that the entry above it names: the root last in the run, then table 1, then table 0
    ∷ row (walked (tree_of (run_of 3 (at 0 3 0x7007 ∷ at 1 2 0x0007 ∷ at 2 1 0x1007 ∷ [])) 2 3) by_three) (gives 0x7007 3 (0x1007 ∷ 0x0007 ∷ 0x7007 ∷ []))
    -- Absent at each level, and by a marker; a table number outside at levels 3 and 2, one of them 1 in the lower 39 bits alone
    ∷ row (walked (three 0x1006 0x2007 0x7007) by_three) (gives 0 1 (0x1006 ∷ []))
    ∷ row (walked (three 0x0010000000001007 0x2007 0x7007) by_three) (gives 0 1 (0x0010000000001007 ∷ []))
    ∷ row (walked (three 0x4000000000001007 0x2007 0x7007) by_three) (gives 0 1 (0x4000000000001007 ∷ []))
    ∷ row (walked (three 0x1007 0x2006 0x7007) by_three) (gives 0 2 (0x1007 ∷ 0x2006 ∷ []))
    ∷ row (walked (three 0x1007 0x0010000000002007 0x7007) by_three) (gives 0 2 (0x1007 ∷ 0x0010000000002007 ∷ []))
    ∷ row (walked (three 0x1007 0x2007 0x7006) by_three) (gives 0 3 (0x1007 ∷ 0x2007 ∷ 0x7006 ∷ []))
    ∷ row (walked (three 0x1007 0x2007 0x4000000000007007) by_three) (gives 0 3 (0x1007 ∷ 0x2007 ∷ 0x4000000000007007 ∷ []))
    ∷ row (walked (three 0x3007 0x2007 0x7007) by_three) (gives 0 1 (0x3007 ∷ []))
    ∷ row (walked (three 0x000ffffffffff007 0x2007 0x7007) by_three) (gives 0 1 (0x000ffffffffff007 ∷ []))
    ∷ row (walked (three 0x0008000000001007 0x2007 0x7007) by_three) (gives 0 1 (0x0008000000001007 ∷ []))
    ∷ row (walked (three 0x1007 0x3007 0x7007) by_three) (gives 0 2 (0x1007 ∷ 0x3007 ∷ []))
    ∷ row (walked (three 0x1007 0x000ffffffffff007 0x7007) by_three) (gives 0 2 (0x1007 ∷ 0x000ffffffffff007 ∷ []))
    -- A large page below level 3, whose own bit 7 and low nine bits do not matter; a misaligned one is absent; one entry met at level 3 as a table's
    -- and at level 2 as a large page
    ∷ row (walked (three 0x1081 0x600087 0x7007) by_three) (gives 0x603007 2 (0x1081 ∷ 0x600087 ∷ []))
    ∷ row (walked (three 0x8000000000001001 0x600085 0x7007) by_three) (gives 0x603005 2 (0x8000000000001001 ∷ 0x600085 ∷ []))
    ∷ row (walked (three 0x1007 0x601087 0x7007) by_three) (gives 0 2 (0x1007 ∷ 0x601087 ∷ []))
    ∷ row (walked (tree_of (run_of 1 (at 0 0 0x0087 ∷ [])) 0 3) 0) (gives 0x0007 2 (0x0087 ∷ 0x0087 ∷ []))
    -- The last page of depth 3, and those past it: one that would be mapped modulo 2^27, 2^27 itself, and 2^63; page 0 of the same tree is mapped
    ∷ row (walked (tree_of (run_of 3 (at 0 511 0x1007 ∷ at 1 511 0x2007 ∷ at 2 511 0x7007 ∷ [])) 0 3) 134217727) (gives 0x7007 3 (0x1007 ∷ 0x2007 ∷ 0x7007 ∷ []))
    ∷ row (walked (three 0x1007 0x2007 0x7007) 134480899) (gives 0 0 [])
    ∷ row (walked (tree_of (run_of 1 (at 0 0 0x0007 ∷ [])) 0 3) 134217728) (gives 0 0 [])
    ∷ row (walked (tree_of (run_of 1 (at 0 0 0x0007 ∷ [])) 0 3) 9223372036854775808) (gives 0 0 [])
    ∷ row (walked (tree_of (run_of 1 (at 0 0 0x0007 ∷ [])) 0 3) 0) (gives 0x0007 3 (0x0007 ∷ 0x0007 ∷ 0x0007 ∷ []))
    ∷ []

abbrev pub WalkReplyCase : Type 0
WalkReplyCase = Row Reply

-- The walk of page 5 of a tree, as a call with a numbers run that fits.
unfoldable pub walked_in : List ℕ → ℕ → ℕ → Reply
walked_in words root depth = walk_reply true (tree_of words root depth) 5

unfoldable pub walk_refusals : List WalkReplyCase
walk_refusals =
    -- 17, "a run that is not whole tables of 512": none, one word short, one too long, half a table too long; at depth 2 too
    row (walked_in [] 0 1) (refused 17)
    ∷ row (walked_in (replicate 511 0x7007) 0 1) (refused 17)
    ∷ row (walked_in (replicate 512 0x7007) 0 1) (accepted 0x7007 1)
    ∷ row (walked_in (replicate 513 0x7007) 0 1) (refused 17)
    ∷ row (walked_in (replicate 768 0x7007) 0 1) (refused 17)
    ∷ row (walked_in (replicate 1023 0x7007) 0 1) (refused 17)
    ∷ row (walked_in (replicate 513 0x0007) 0 2) (refused 17)
    -- "a depth outside 1 to 3"; a number is not cut to 8, 16, 32 or 63 bits
    ∷ row (walked_in (replicate 512 0x0007) 0 0) (refused 17)
    ∷ row (walked_in (replicate 512 0x0007) 0 3) (accepted 0x0007 3)
    ∷ row (walked_in (replicate 512 0x0007) 0 4) (refused 17)
    ∷ row (walked_in (replicate 512 0x0007) 0 257) (refused 17)
    ∷ row (walked_in (replicate 512 0x0007) 0 65537) (refused 17)
    ∷ row (walked_in (replicate 512 0x0007) 0 4294967297) (refused 17)
    ∷ row (walked_in (replicate 512 0x0007) 0 9223372036854775809) (refused 17)
    -- "a root outside the run", at every depth: just outside, and one that would lie in it if it were cut or its place wrapped; the last of four tables
    -- is in it
    ∷ row (walked_in (replicate 512 0x7007) 1 1) (refused 17)
    ∷ row (walked_in (replicate 512 0x0007) 1 2) (refused 17)
    ∷ row (walked_in (replicate 512 0x0007) 1 3) (refused 17)
    ∷ row (walked_in (replicate 1024 0x7007) 1 1) (accepted 0x7007 1)
    ∷ row (walked_in (replicate 1024 0x7007) 2 1) (refused 17)
    ∷ row (walked_in (replicate 2048 0x7007) 3 1) (accepted 0x7007 1)
    ∷ row (walked_in (replicate 512 0x7007) 4294967296 1) (refused 17)
    ∷ row (walked_in (replicate 512 0x7007) 36028797018963968 1) (refused 17)
    ∷ row (walked_in (replicate 512 0x7007) 9223372036854775808 1) (refused 17)
    -- The call answers the flat entry and the count of entries read, which the depth does not settle
    ∷ row (walk_reply true (two 0x1007 0x8000000000007005) 2047) (accepted 0x8000000000007005 2)
    ∷ row (walk_reply true (three 0x1007 0x2006 0x7007) by_three) (accepted 0 2)
    ∷ row (walk_reply true (three 0x1007 0x600087 0x7007) by_three) (accepted 0x603007 2)
    ∷ row (walk_reply true (three 0x3007 0x2007 0x7007) by_three) (accepted 0 1)
    -- 7 before 17; there is no 9
    ∷ row (walk_reply false (tree_of [] 0 0) 5) (refused 7)
    ∷ row (walk_reply false (tree_of (replicate 512 0x7007) 0 1) 5) (refused 7)
    ∷ row (walk_reply true (tree_of (replicate 512 0x7007) 0 1) 18446744073709551615) (accepted 0 0)
    ∷ []

-- Entries in a row from a table's place on; and a tree of each depth whose table of level 1, the last of the run, begins with them.
unfoldable pub in_row : ℕ → ℕ → List ℕ → List Word
in_row number place [] = []
in_row number place (entry ∷ entries) = at number place entry ∷ in_row number (suc place) entries

unfoldable pub flat_tree : List ℕ → Tree
flat_tree entries = tree_of (run_of 1 (in_row 0 0 entries)) 0 1

unfoldable pub two_tree : ℕ → List ℕ → Tree
two_tree upper entries = tree_of (run_of 2 (at 0 0 upper ∷ in_row 1 0 entries)) 0 2

unfoldable pub three_tree : ℕ → ℕ → List ℕ → Tree
three_tree top upper entries = tree_of (run_of 3 (at 0 0 top ∷ at 1 0 upper ∷ in_row 2 0 entries)) 0 3

-- A tree of depth 1 of so many words that hold one entry.
unfoldable pub one_table : ℕ → ℕ → Tree
one_table count entry = tree_of (replicate count entry) 0 1

-- A guard of so many pages with these shadow entries, none approved, no frame excluded; and with entry 1 at each.
unfoldable pub shadowed : ℕ → List ℕ → Guard
shadowed pages shadow =
    guard_of (state_of pages 8 1 (replicate 16 0) (Kernel 0) 1 None) (tables shadow (replicate pages 65535) (0 ∷ []))

unfoldable pub ones : ℕ → Guard
ones pages = shadowed pages (replicate pages 1)

-- Absent, approved from another frame, approved and absent, an alias that joins, approved from a frame at F, ordinary: the first row of sync_cases
-- (Further), and what it leaves.
unfoldable pub six_entries : List ℕ
six_entries = 0 ∷ 0x7003 ∷ 0x2 ∷ 0x5007 ∷ 0x8003 ∷ 0x8000000000006007 ∷ []

unfoldable pub six_synced : Outcome
six_synced =
    outcome (accepted 3 1)
    (guard_of (six_pages (Kernel 1))
    (tables (0 ∷ 0x5401 ∷ 0 ∷ 0x5401 ∷ 0x5401 ∷ 0x8000000000006207 ∷ []) (65535 ∷ 5 ∷ 3 ∷ 5 ∷ 5 ∷ 65535 ∷ []) (0x28 ∷ [])))

unfoldable pub tree_cases : List Case
tree_cases =
    -- "For every depth, synchronising from a tree equals doing so from the flat table of its walks."
    row (answer started6 (sync_all_tree (flat_tree six_entries))) six_synced
    ∷ row (answer started6 (sync_all_tree (two_tree 0x1007 six_entries))) six_synced
    ∷ row (answer started6 (sync_all_tree (three_tree 0x1007 0x2007 six_entries))) six_synced
    -- level 3's rights do not count; level 2's do, in user mode
    ∷ row (answer started6 (sync_all_tree (three_tree 0x8000000000001081 0x2007 six_entries))) six_synced
    ∷ row (answer (with6 (User 1) shadow6) (sync_all_tree (two_tree 0x8000000000001001 (0x4007 ∷ 0x5007 ∷ 0 ∷ 0x700f ∷ 0 ∷ 0x6007 ∷ []))))
    (outcome (accepted 6 0)
    (with6 (User 1)
    (0x8000000000004201 ∷ 0x8000000000005401 ∷ 0 ∷ 0x8000000000007209 ∷ 0 ∷ 0x8000000000006201 ∷ [])))
    ∷ row (answer (with6 (User 1) shadow6) (sync_all_tree (three_tree 0x1001 0x2005 (0x4007 ∷ 0x5007 ∷ 0 ∷ 0x7003 ∷ 0 ∷ 0x6007 ∷ []))))
    (outcome (accepted 6 0)
    (with6 (User 1)
    (0x4005 ∷ 0x8000000000005401 ∷ 0 ∷ 0x8000000000007001 ∷ 0 ∷ 0x6005 ∷ [])))
    -- Another root than table 0, for all pages and for one
    ∷ row (answer started6 (sync_all_tree (tree_of (run_of 2 (in_row 1 0 six_entries)) 1 1))) six_synced
    ∷ row (answer started6 (sync_page_tree (tree_of (run_of 2 (at 0 5 0x6007 ∷ at 1 5 0x7003 ∷ [])) 1 1) 5))
    (outcome (accepted 1 0) (with6 (Kernel 1) (set shadow6 5 0x8000000000007003)))
    -- Page 513 of a tree of depth 3: level 3's place 0, level 2's place 1, level 1's place 1
    ∷ row (answer (ones 514) (sync_page_tree (tree_of (run_of 3 (at 0 0 0x1007 ∷ at 1 1 0x2007 ∷ at 2 1 0x7005 ∷ [])) 0 3) 513))
    (outcome (accepted 1 0) (shadowed 514 (set (replicate 514 1) 513 0x8000000000007005)))
    -- A large page over all six: frames 0 to 5, of which 3 and 5 are excluded, so that pages 3 and 5 join; a large page past F
    ∷ row (answer started6 (sync_all_tree (tree_of (run_of 1 (at 0 0 0x0087 ∷ [])) 0 2)))
    (outcome (accepted 3 2)
    (guard_of (six_pages (Kernel 1))
    (tables (0x8000000000000007 ∷ 0x5401 ∷ 0x3401 ∷ 0x3401 ∷ 0x5401 ∷ 0x5401 ∷ []) (65535 ∷ 5 ∷ 3 ∷ 3 ∷ 5 ∷ 5 ∷ []) (0x28 ∷ []))))
    ∷ stays started6 (sync_all_tree (tree_of (run_of 1 (at 0 0 0x200087 ∷ [])) 0 2)) (accepted 0 0)
    -- Upper entries that are absent, K1's markers, table numbers outside the run and misaligned large pages: every page is absent, approved ones
    -- keep their numbers
    ∷ row (answer (filled (Kernel 1)) (sync_all_tree (two_tree 0x1006 six_entries))) (outcome (accepted 6 0) (with6 (Kernel 1) (replicate 6 0)))
    ∷ row (answer (filled (Kernel 1)) (sync_all_tree (two_tree 0x0010000000001007 six_entries))) (outcome (accepted 6 0) (with6 (Kernel 1) (replicate 6 0)))
    ∷ row (answer (filled (Kernel 1)) (sync_all_tree (three_tree 0x4000000000001007 0x2007 six_entries)))
    (outcome (accepted 6 0) (with6 (Kernel 1) (replicate 6 0)))
    ∷ row (answer (filled (Kernel 1)) (sync_all_tree (two_tree 0x2007 six_entries))) (outcome (accepted 6 0) (with6 (Kernel 1) (replicate 6 0)))
    ∷ row (answer (filled (Kernel 1)) (sync_all_tree (two_tree 0x1087 six_entries))) (outcome (accepted 6 0) (with6 (Kernel 1) (replicate 6 0)))
    -- One page: an alias that joins, an ordinary one, one in user mode with both cache bits, one that a marker makes absent, one of a large page that
    -- joins, an approved one; the others stay
    ∷ row (answer started6 (sync_page_tree (two_tree 0x1007 six_entries) 3))
    (outcome (accepted 1 1)
    (guard_of (six_pages (Kernel 1)) (tables (set shadow6 3 0x5401) (65535 ∷ 5 ∷ 3 ∷ 5 ∷ 5 ∷ 65535 ∷ []) (0x28 ∷ []))))
    ∷ row (answer started6 (sync_page_tree (three_tree 0x1001 0x2005 six_entries) 5))
    (outcome (accepted 1 0) (with6 (Kernel 1) (set shadow6 5 0x8000000000006205)))
    ∷ row (answer (with6 (User 1) shadow6) (sync_page_tree (two_tree 0x1005 (0 ∷ 0 ∷ 0 ∷ 0 ∷ 0 ∷ 0x601f ∷ [])) 5))
    (outcome (accepted 1 0) (with6 (User 1) (set shadow6 5 0x601d)))
    ∷ row (answer (filled (Kernel 1)) (sync_page_tree (two_tree 0x4000000000001007 six_entries) 5))
    (outcome (accepted 1 0) (with6 (Kernel 1) (set (set shadow6 0 0x4003) 3 0x6003)))
    ∷ row (answer started6 (sync_page_tree (tree_of (run_of 1 (at 0 0 0x0087 ∷ [])) 0 2) 5))
    (outcome (accepted 1 1)
    (guard_of (six_pages (Kernel 1)) (tables (set shadow6 5 0x5401) (65535 ∷ 5 ∷ 3 ∷ 65535 ∷ 5 ∷ 5 ∷ []) (0x28 ∷ []))))
    ∷ stays started6 (sync_page_tree (flat_tree six_entries) 1) (accepted 0 0)
    -- Pages past the depth's bits are absent: page 512 of 514 at depth 1. At depth 2 the last page that a guard can have, 2,047, is
    -- mapped
    ∷ row (answer (ones 514) (sync_page_tree (one_table 512 0x7007) 512)) (outcome (accepted 1 0) (shadowed 514 (set (replicate 514 1) 512 0)))
    ∷ row (answer (ones 2048) (sync_page_tree (two 0x1007 0x7005) 2047))
    (outcome (accepted 1 0) (shadowed 2048 (set (replicate 2048 1) 2047 0x8000000000007005)))
    -- 7: the state, its e of 0 and its running page, and each table that is lent; no kernel table is
    ∷ stays (in_state 6 8 0 (replicate 16 0) (Kernel 1)) (sync_all_tree (one_table 512 0)) (refused 7)
    ∷ stays (in_state 6 8 2 (replicate 16 0) (Kernel 6)) (sync_all_tree (one_table 512 0)) (refused 7)
    ∷ stays (in_state 6 8 2 (replicate 16 0) (Kernel 6)) (sync_page_tree (one_table 512 0) 0) (refused 7)
    ∷ stays (of_lengths (Kernel 1) 5 6 1) (sync_all_tree (one_table 512 0)) (refused 7)
    ∷ stays (of_lengths (Kernel 1) 7 6 1) (sync_page_tree (one_table 512 0) 0) (refused 7)
    ∷ stays (of_lengths (Kernel 1) 6 5 1) (sync_page_tree (one_table 512 0) 0) (refused 7)
    ∷ stays (of_lengths (Kernel 1) 6 7 1) (sync_all_tree (one_table 512 0)) (refused 7)
    ∷ stays (of_lengths (Kernel 1) 6 6 0) (sync_all_tree (one_table 512 0)) (refused 7)
    ∷ stays (of_lengths (Kernel 1) 6 6 2) (sync_page_tree (one_table 512 0) 0) (refused 7)
    -- 17 of each call: an empty run, one of 511 words, a root outside. What else 17 asks stands in walk_refusals, and `TreeRefused` carries it over.
    ∷ stays started6 (sync_all_tree (tree_of [] 0 1)) (refused 17)
    ∷ stays started6 (sync_all_tree (one_table 511 0x7007)) (refused 17)
    ∷ stays started6 (sync_all_tree (tree_of (replicate 512 0x7007) 1 1)) (refused 17)
    ∷ stays started6 (sync_page_tree (tree_of [] 0 1) 0) (refused 17)
    ∷ stays started6 (sync_page_tree (tree_of (replicate 512 0x7007) 9223372036854775808 1) 0) (refused 17)
    -- 9: page V, and one that is not cut
    ∷ stays started6 (sync_page_tree (one_table 512 0x7007) 6) (refused 9)
    ∷ stays started6 (sync_page_tree (one_table 512 0x7007) 9223372036854775808) (refused 9)
    -- 7, 17 and 9 together, by the state and by each table: 511 words and page V
    ∷ stays (misfit (Kernel 1) shadow6) (sync_page_tree (one_table 511 0x7007) 6) (refused 7)
    ∷ stays (with6 (Kernel 6) shadow6) (sync_page_tree (one_table 511 0x7007) 6) (refused 7)
    ∷ stays (of_lengths (Kernel 1) 5 6 1) (sync_page_tree (one_table 511 0x7007) 6) (refused 7)
    ∷ stays (of_lengths (Kernel 1) 6 7 1) (sync_page_tree (one_table 511 0x7007) 6) (refused 7)
    ∷ stays (of_lengths (Kernel 1) 6 6 0) (sync_page_tree (one_table 511 0x7007) 6) (refused 7)
    -- 7 and 17 together, of all pages
    ∷ stays (misfit (Kernel 1) shadow6) (sync_all_tree (one_table 511 0x7007)) (refused 7)
    ∷ stays (with6 (Kernel 6) shadow6) (sync_all_tree (one_table 511 0x7007)) (refused 7)
    ∷ stays (of_lengths (Kernel 1) 7 6 1) (sync_all_tree (one_table 511 0x7007)) (refused 7)
    ∷ stays (of_lengths (Kernel 1) 6 5 1) (sync_all_tree (one_table 511 0x7007)) (refused 7)
    -- 17 and 9 together
    ∷ stays started6 (sync_page_tree (one_table 511 0x7007) 6) (refused 17)
    ∷ []
