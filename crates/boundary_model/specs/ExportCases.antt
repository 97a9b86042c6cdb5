-- Document 02, K2 and K4: what the exported calls that write a record and that walk a page return and leave, by their numbers run: of two words, of one
-- and of three. The state run, word by word: what a start writes there, and what a call reads of it and writes, the number of devices (K5) and what is
-- pending (K6) last. The lengths of both runs, and the words that are asked at the boundary alone. Each exported call, accepted and refused.
use Rattle.std.specs.Prelude.{ℕ, List, [], ◌∷◌, ◌++◌, replicate, set, take}
use Rattle.model.specs.Guard.{Tables, tables, with_shadow, with_map, with_exclusion}
use Rattle.model.specs.Policy.{Policy, given_of}
use Rattle.model.specs.Calls.{sync_page, sync_all, sync_page_tree, sync_all_tree, fetch, write, enter, leave, device_write, ask, commit, drop}
use Rattle.record_model.specs.Record.{policy_by}
use Rattle.model.specs.Cases.{Row, row}
use Rattle.model.specs.Further.{two_entries, three_devices, shadow6, started6, leaving, left6}
use Rattle.model.specs.Tree.{Tree, tree_of}
use Rattle.model.specs.TreeCases.{one_table, two_tree, six_entries}
use Rattle.boundary_model.specs.Boundary.{Returned, returned, start_at, call_at, Recorded, recorded, record_at, Walked, walked, walk_at}

-- The policy of two_entries (Further).
unfoldable pub listed3 : Policy
listed3 = policy_by 6 8 3 2 (1 ∷ 2 ∷ 4 ∷ []) (5 ∷ 3 ∷ 5 ∷ [])

abbrev pub ExportCase : Type 0
ExportCase = Row Recorded

unfoldable pub export_cases : List ExportCase
export_cases =
    -- Accepted: the length and 0. Refused: zeros.
    row (record_at listed3 (replicate 21 9) (7 ∷ 7 ∷ [])) (recorded 0 (two_entries ++ (9 ∷ [])) (20 ∷ 0 ∷ []))
    ∷ row (record_at listed3 (replicate 19 9) (7 ∷ 7 ∷ [])) (recorded 16 (replicate 19 9) (0 ∷ 0 ∷ []))
    -- A numbers run of another length gives 7, after 6 and before 16, and nothing is written.
    ∷ row (record_at listed3 (replicate 19 9) (7 ∷ [])) (recorded 7 (replicate 19 9) (7 ∷ []))
    ∷ row (record_at listed3 (replicate 20 9) (7 ∷ 7 ∷ 7 ∷ [])) (recorded 7 (replicate 20 9) (7 ∷ 7 ∷ 7 ∷ []))
    ∷ row (record_at (policy_by 6 8 1 1 (1 ∷ []) (8 ∷ [])) (replicate 12 9) []) (recorded 6 (replicate 12 9) [])
    ∷ []

-- A tree of one table that holds one entry throughout, walked at three levels; and a run one word short.
unfoldable pub last_table : Tree
last_table = tree_of (replicate 512 0x0007) 0 3

unfoldable pub short_table : Tree
short_table = tree_of (replicate 511 0x0007) 0 3

abbrev pub WalkExportCase : Type 0
WalkExportCase = Row Walked

unfoldable pub walk_export_cases : List WalkExportCase
walk_export_cases =
    -- Accepted: the flat entry and the entries read, for a page with too many bits both 0. Refused: zeros.
    row (walk_at last_table 5 (9 ∷ 9 ∷ [])) (walked 0 (0x0007 ∷ 3 ∷ []))
    ∷ row (walk_at last_table 134217728 (9 ∷ 9 ∷ [])) (walked 0 (0 ∷ 0 ∷ []))
    ∷ row (walk_at short_table 5 (9 ∷ 9 ∷ [])) (walked 17 (0 ∷ 0 ∷ []))
    -- A numbers run of another length gives 7, before 17, and is not written.
    ∷ row (walk_at last_table 5 (9 ∷ [])) (walked 7 (9 ∷ []))
    ∷ row (walk_at short_table 5 (9 ∷ 9 ∷ 9 ∷ [])) (walked 7 (9 ∷ 9 ∷ 9 ∷ []))
    ∷ row (walk_at short_table 5 []) (walked 7 [])
    ∷ []

-- The state run of the started guard of Further: V, F, e, sixteen entry pages, kernel mode on page 1, so many devices and what is pending.
unfoldable pub run_with : ℕ → ℕ → ℕ → ℕ → List ℕ
run_with devices pending page frame = 6 ∷ 8 ∷ 2 ∷ 1 ∷ 2 ∷ (replicate 14 0 ++ (0 ∷ 1 ∷ devices ∷ pending ∷ page ∷ frame ∷ []))

abbrev pub CallExportCase : Type 0
CallExportCase = Row Returned

unfoldable pub call_export_cases : List CallExportCase
call_export_cases =
    -- An accepted start writes every word; a refused one none, and so does one that is lent a run of the old length
    row (start_at (given_of 3) two_entries (replicate 25 9) (9 ∷ 9 ∷ []) (tables (replicate 6 1) (replicate 6 1) (replicate 1 1)))
    (returned 0 (run_with 3 0 0 0) (3 ∷ 2 ∷ []) started6.tables)
    ∷ row (start_at (given_of 65) two_entries (replicate 25 9) (9 ∷ 9 ∷ []) started6.tables)
    (returned 3 (replicate 25 9) (0 ∷ 0 ∷ []) started6.tables)
    ∷ row (start_at (given_of 3) two_entries (replicate 22 9) (9 ∷ 9 ∷ []) started6.tables)
    (returned 7 (replicate 22 9) (0 ∷ 0 ∷ []) started6.tables)
    -- A call reads the number of devices, which is not cut; a run of the old length gives 7
    ∷ row (call_at (run_with 3 0 0 0) (9 ∷ 9 ∷ []) started6.tables (device_write three_devices 2 4095 2))
    (returned 0 (run_with 3 0 0 0) (0 ∷ 1 ∷ []) started6.tables)
    ∷ row (call_at (run_with 65539 0 0 0) (9 ∷ 9 ∷ []) started6.tables (device_write three_devices 2 4095 2))
    (returned 7 (run_with 65539 0 0 0) (0 ∷ 0 ∷ []) started6.tables)
    ∷ row (call_at (take 22 (run_with 3 0 0 0)) (9 ∷ 9 ∷ []) started6.tables (fetch 2))
    (returned 7 (take 22 (run_with 3 0 0 0)) (0 ∷ 0 ∷ []) started6.tables)
    -- A fetch writes the page that runs, and no other word: the pair's words are not read where none is pending, and stay
    ∷ row (call_at (run_with 3 0 6 65536) (9 ∷ 9 ∷ []) started6.tables (fetch 2))
    (returned 0 (set (run_with 3 0 6 65536) 20 2) (3 ∷ 3 ∷ []) started6.tables)
    ∷ row (call_at (run_with 3 1 0 6) (9 ∷ 9 ∷ []) started6.tables (fetch 2))
    (returned 0 (set (run_with 3 1 0 6) 20 2) (3 ∷ 3 ∷ []) started6.tables)
    -- An ask writes what is pending, over whatever stood there; a refused one no word
    ∷ row (call_at (run_with 3 0 6 65536) (9 ∷ 9 ∷ []) started6.tables (ask 3 6))
    (returned 0 (run_with 3 1 3 6) (0 ∷ 0 ∷ []) (with_exclusion (0x68 ∷ []) started6.tables))
    ∷ row (call_at (run_with 3 1 3 6) (9 ∷ 9 ∷ []) started6.tables (ask 0 7))
    (returned 20 (run_with 3 1 3 6) (0 ∷ 0 ∷ []) started6.tables)
    -- Neither a page nor a frame of an ask is cut
    ∷ row (call_at (run_with 3 0 0 0) (9 ∷ 9 ∷ []) started6.tables (ask 65539 6))
    (returned 9 (run_with 3 0 0 0) (0 ∷ 0 ∷ []) started6.tables)
    ∷ row (call_at (run_with 3 0 0 0) (9 ∷ 9 ∷ []) started6.tables (ask 3 65542))
    (returned 9 (run_with 3 0 0 0) (0 ∷ 0 ∷ []) started6.tables)
    -- A commit and a drop write 0 to all three words
    ∷ row (call_at (run_with 3 1 3 6) (9 ∷ 9 ∷ []) started6.tables commit)
    (returned 0 (run_with 3 0 0 0) (1 ∷ 1 ∷ []) (with_shadow (set shadow6 3 0x6401) (with_map (65535 ∷ 5 ∷ 3 ∷ 6 ∷ 5 ∷ 65535 ∷ []) started6.tables)))
    ∷ row (call_at (run_with 3 1 3 6) (9 ∷ 9 ∷ []) (with_exclusion (0x68 ∷ []) started6.tables) drop)
    (returned 0 (run_with 3 0 0 0) (0 ∷ 0 ∷ []) started6.tables)
    -- With nothing pending they write none
    ∷ row (call_at (run_with 3 0 6 65536) (9 ∷ 9 ∷ []) started6.tables commit)
    (returned 22 (run_with 3 0 6 65536) (0 ∷ 0 ∷ []) started6.tables)
    ∷ row (call_at (run_with 3 0 6 65536) (9 ∷ 9 ∷ []) started6.tables drop)
    (returned 22 (run_with 3 0 6 65536) (0 ∷ 0 ∷ []) started6.tables)
    -- A pending word of 2, and a pair with a page or a frame out of range or too wide, give 7
    ∷ row (call_at (run_with 3 2 3 6) (9 ∷ 9 ∷ []) started6.tables (fetch 2))
    (returned 7 (run_with 3 2 3 6) (0 ∷ 0 ∷ []) started6.tables)
    ∷ row (call_at (run_with 3 1 6 6) (9 ∷ 9 ∷ []) started6.tables (fetch 2))
    (returned 7 (run_with 3 1 6 6) (0 ∷ 0 ∷ []) started6.tables)
    ∷ row (call_at (run_with 3 1 3 8) (9 ∷ 9 ∷ []) started6.tables (fetch 2))
    (returned 7 (run_with 3 1 3 8) (0 ∷ 0 ∷ []) started6.tables)
    ∷ row (call_at (run_with 3 1 65539 6) (9 ∷ 9 ∷ []) started6.tables (fetch 2))
    (returned 7 (run_with 3 1 65539 6) (0 ∷ 0 ∷ []) started6.tables)
    ∷ row (call_at (run_with 3 1 3 65542) (9 ∷ 9 ∷ []) started6.tables (fetch 2))
    (returned 7 (run_with 3 1 3 65542) (0 ∷ 0 ∷ []) started6.tables)
    -- No word is cut, at 16 bits or at 32: V, F, e or the running page gives 7, and an entry page 9 where it is entered
    ∷ row (call_at (set (run_with 3 0 0 0) 0 65542) (9 ∷ 9 ∷ []) started6.tables (fetch 2))
    (returned 7 (set (run_with 3 0 0 0) 0 65542) (0 ∷ 0 ∷ []) started6.tables)
    ∷ row (call_at (set (run_with 3 0 0 0) 1 65544) (9 ∷ 9 ∷ []) started6.tables (device_write three_devices 2 4095 2))
    (returned 7 (set (run_with 3 0 0 0) 1 65544) (0 ∷ 0 ∷ []) started6.tables)
    ∷ row (call_at (set (run_with 3 0 0 0) 2 65538) (9 ∷ 9 ∷ []) started6.tables (fetch 2))
    (returned 7 (set (run_with 3 0 0 0) 2 65538) (0 ∷ 0 ∷ []) started6.tables)
    ∷ row (call_at (set (run_with 3 0 0 0) 20 65537) (9 ∷ 9 ∷ []) started6.tables (fetch 2))
    (returned 7 (set (run_with 3 0 0 0) 20 65537) (0 ∷ 0 ∷ []) started6.tables)
    ∷ row (call_at (set (run_with 3 0 0 0) 0 4294967302) (9 ∷ 9 ∷ []) started6.tables (fetch 2))
    (returned 7 (set (run_with 3 0 0 0) 0 4294967302) (0 ∷ 0 ∷ []) started6.tables)
    ∷ row (call_at (set (set (run_with 3 0 0 0) 19 1) 3 65537) (9 ∷ 9 ∷ []) started6.tables (enter 0))
    (returned 9 (set (set (run_with 3 0 0 0) 19 1) 3 65537) (0 ∷ 0 ∷ []) started6.tables)
    ∷ []

-- The run of that guard with another mode word and another page that runs, and one with another entry page in user mode.
unfoldable pub run_in : ℕ → ℕ → List ℕ
run_in mode page = set (set (run_with 3 0 0 0) 19 mode) 20 page

unfoldable pub entry_run : ℕ → ℕ → List ℕ
entry_run at page = set (run_in 1 5) at page

-- Its tables with another shadow table.
unfoldable pub shadowed6 : List ℕ → Tables
shadowed6 shadow = with_shadow shadow started6.tables

unfoldable pub lent_export_cases : List CallExportCase
lent_export_cases =
    -- The start: a state run and a numbers run one short, one long and empty give 7, and nothing is written but zeros to a numbers run of two words
    row (start_at (given_of 3) two_entries (replicate 24 9) (9 ∷ 9 ∷ []) started6.tables)
    (returned 7 (replicate 24 9) (0 ∷ 0 ∷ []) started6.tables)
    ∷ row (start_at (given_of 3) two_entries (replicate 26 9) (9 ∷ 9 ∷ []) started6.tables)
    (returned 7 (replicate 26 9) (0 ∷ 0 ∷ []) started6.tables)
    ∷ row (start_at (given_of 3) two_entries [] (9 ∷ 9 ∷ []) started6.tables) (returned 7 [] (0 ∷ 0 ∷ []) started6.tables)
    ∷ row (start_at (given_of 3) two_entries (replicate 25 9) (9 ∷ []) started6.tables) (returned 7 (replicate 25 9) (9 ∷ []) started6.tables)
    ∷ row (start_at (given_of 3) two_entries (replicate 25 9) (9 ∷ 9 ∷ 9 ∷ []) started6.tables)
    (returned 7 (replicate 25 9) (9 ∷ 9 ∷ 9 ∷ []) started6.tables)
    ∷ row (start_at (given_of 3) two_entries (replicate 25 9) [] started6.tables) (returned 7 (replicate 25 9) [] started6.tables)
    -- Its own no comes first, and 7 of its tables is its own
    ∷ row (start_at (given_of 65) two_entries (replicate 24 9) (9 ∷ []) started6.tables) (returned 3 (replicate 24 9) (9 ∷ []) started6.tables)
    ∷ row (start_at (given_of 3) two_entries (replicate 25 9) (9 ∷ 9 ∷ []) (shadowed6 (replicate 5 1)))
    (returned 7 (replicate 25 9) (0 ∷ 0 ∷ []) (shadowed6 (replicate 5 1)))
    -- A call: the same of both runs
    ∷ row (call_at (take 24 (run_with 3 0 0 0)) (9 ∷ 9 ∷ []) started6.tables (fetch 2))
    (returned 7 (take 24 (run_with 3 0 0 0)) (0 ∷ 0 ∷ []) started6.tables)
    ∷ row (call_at (run_with 3 0 0 0 ++ (0 ∷ [])) (9 ∷ 9 ∷ []) started6.tables (fetch 2))
    (returned 7 (run_with 3 0 0 0 ++ (0 ∷ [])) (0 ∷ 0 ∷ []) started6.tables)
    ∷ row (call_at [] (9 ∷ 9 ∷ []) started6.tables (fetch 2)) (returned 7 [] (0 ∷ 0 ∷ []) started6.tables)
    ∷ row (call_at (run_with 3 0 0 0) (9 ∷ []) started6.tables (fetch 2)) (returned 7 (run_with 3 0 0 0) (9 ∷ []) started6.tables)
    ∷ row (call_at (run_with 3 0 0 0) (9 ∷ 9 ∷ 9 ∷ []) started6.tables (fetch 2))
    (returned 7 (run_with 3 0 0 0) (9 ∷ 9 ∷ 9 ∷ []) started6.tables)
    ∷ row (call_at (run_with 3 0 0 0) [] started6.tables (fetch 2)) (returned 7 (run_with 3 0 0 0) [] started6.tables)
    -- 7 comes before what the guard would refuse, and a call that would change tables changes none
    ∷ row (call_at (run_with 3 0 0 0) (9 ∷ []) started6.tables (fetch 0)) (returned 7 (run_with 3 0 0 0) (9 ∷ []) started6.tables)
    ∷ row (call_at (run_in 0 1) (9 ∷ 9 ∷ 9 ∷ []) (shadowed6 leaving) (leave 5)) (returned 7 (run_in 0 1) (9 ∷ 9 ∷ 9 ∷ []) (shadowed6 leaving))
    ∷ row (call_at (run_in 0 1 ++ (0 ∷ [])) (9 ∷ 9 ∷ []) (shadowed6 leaving) (leave 5))
    (returned 7 (run_in 0 1 ++ (0 ∷ [])) (0 ∷ 0 ∷ []) (shadowed6 leaving))
    -- Mode words of 0 and 1 are kernel and user; 2 and more give 7, and no bit of a word is left out
    ∷ row (call_at (run_in 0 1) (9 ∷ 9 ∷ []) (shadowed6 (set shadow6 0 0x4001)) (fetch 0))
    (returned 0 (run_in 0 0) (4 ∷ 4 ∷ []) (shadowed6 (set shadow6 0 0x4001)))
    ∷ row (call_at (run_in 1 1) (9 ∷ 9 ∷ []) (shadowed6 (set shadow6 0 0x4001)) (fetch 0))
    (returned 12 (run_in 1 1) (0 ∷ 0 ∷ []) (shadowed6 (set shadow6 0 0x4001)))
    ∷ row (call_at (run_in 1 1) (9 ∷ 9 ∷ []) (shadowed6 (set shadow6 5 0x6207)) (fetch 5))
    (returned 0 (run_in 1 5) (6 ∷ 6 ∷ []) (shadowed6 (set shadow6 5 0x6207)))
    ∷ row (call_at (run_in 2 1) (9 ∷ 9 ∷ []) (shadowed6 leaving) (leave 5)) (returned 7 (run_in 2 1) (0 ∷ 0 ∷ []) (shadowed6 leaving))
    ∷ row (call_at (run_in 9223372036854775808 1) (9 ∷ 9 ∷ []) (shadowed6 leaving) (leave 5))
    (returned 7 (run_in 9223372036854775808 1) (0 ∷ 0 ∷ []) (shadowed6 leaving))
    ∷ row (call_at (run_in 9223372036854775809 5) (9 ∷ 9 ∷ []) (shadowed6 left6) (enter 1))
    (returned 7 (run_in 9223372036854775809 5) (0 ∷ 0 ∷ []) (shadowed6 left6))
    -- So are pending words
    ∷ row (call_at (run_with 3 2 3 6) (9 ∷ 9 ∷ []) started6.tables (ask 3 6)) (returned 7 (run_with 3 2 3 6) (0 ∷ 0 ∷ []) started6.tables)
    ∷ row (call_at (run_with 3 9223372036854775808 3 6) (9 ∷ 9 ∷ []) started6.tables (ask 3 6))
    (returned 7 (run_with 3 9223372036854775808 3 6) (0 ∷ 0 ∷ []) started6.tables)
    ∷ row (call_at (run_with 3 9223372036854775809 3 6) (9 ∷ 9 ∷ []) started6.tables commit)
    (returned 7 (run_with 3 9223372036854775809 3 6) (0 ∷ 0 ∷ []) started6.tables)
    -- An entry page is asked where it is entered, and is never cut; elsewhere its word stays
    ∷ row (call_at (entry_run 3 65535) (9 ∷ 9 ∷ []) (shadowed6 left6) (enter 0))
    (returned 9 (entry_run 3 65535) (0 ∷ 0 ∷ []) (shadowed6 left6))
    ∷ row (call_at (entry_run 3 65536) (9 ∷ 9 ∷ []) (shadowed6 left6) (enter 0))
    (returned 9 (entry_run 3 65536) (0 ∷ 0 ∷ []) (shadowed6 left6))
    ∷ row (call_at (entry_run 3 65537) (9 ∷ 9 ∷ []) (shadowed6 left6) (enter 0))
    (returned 9 (entry_run 3 65537) (0 ∷ 0 ∷ []) (shadowed6 left6))
    ∷ row (call_at (entry_run 3 65537) (9 ∷ 9 ∷ []) (shadowed6 left6) (enter 1))
    (returned 0 (set (set (entry_run 3 65537) 19 0) 20 2) (4 ∷ 0 ∷ []) (shadowed6 leaving))
    -- The sixteenth entry page
    ∷ row (call_at (set (entry_run 18 2) 2 16) (9 ∷ 9 ∷ []) (shadowed6 left6) (enter 15))
    (returned 0 (set (set (set (entry_run 18 2) 2 16) 19 0) 20 2) (4 ∷ 0 ∷ []) (shadowed6 leaving))
    ∷ []

-- A guard of 513 pages, none approved and no frame excluded, and a tree for it of depth 2 with three tables: page 511 is the last of table 1, page 512
-- the first of table 2. Its words are written in a row, in which the prover computes 513 walks in half the time that a run made from places takes.
unfoldable pub run513 : List ℕ
run513 = 513 ∷ 8 ∷ 1 ∷ (replicate 16 0 ++ (0 ∷ 0 ∷ 1 ∷ 0 ∷ 0 ∷ 0 ∷ []))

unfoldable pub shadowed513 : List ℕ → Tables
shadowed513 shadow = tables shadow (replicate 513 65535) (0 ∷ [])

unfoldable pub tree513 : Tree
tree513 = tree_of (0x1007 ∷ 0x2007 ∷ (replicate 1021 0 ++ (0x7005 ∷ 0x6007 ∷ replicate 511 0))) 0 2

-- Each exported call on a state, accepted and refused; of a device write, an ask, a commit and a drop call_export_cases has what is not here.
unfoldable pub each_export_cases : List CallExportCase
each_export_cases =
    -- Synchronise one and all, from a table and from a tree
    row (call_at (run_with 3 0 0 0) (9 ∷ 9 ∷ []) (shadowed6 (set shadow6 1 0)) (sync_page (replicate 6 0x7003) 1))
    (returned 0 (run_with 3 0 0 0) (1 ∷ 0 ∷ []) started6.tables)
    ∷ row (call_at (run_with 3 0 0 0) (9 ∷ 9 ∷ []) started6.tables (sync_page (replicate 6 0x7003) 6))
    (returned 9 (run_with 3 0 0 0) (0 ∷ 0 ∷ []) started6.tables)
    ∷ row (call_at (run_with 3 0 0 0) (9 ∷ 9 ∷ []) started6.tables (sync_all six_entries))
    (returned 0 (run_with 3 0 0 0) (3 ∷ 1 ∷ [])
    (tables (0 ∷ 0x5401 ∷ 0 ∷ 0x5401 ∷ 0x5401 ∷ 0x8000000000006207 ∷ []) (65535 ∷ 5 ∷ 3 ∷ 5 ∷ 5 ∷ 65535 ∷ []) (0x28 ∷ [])))
    ∷ row (call_at (run_with 3 0 0 0) (9 ∷ 9 ∷ []) started6.tables (sync_all (replicate 5 0x7003)))
    (returned 7 (run_with 3 0 0 0) (0 ∷ 0 ∷ []) started6.tables)
    ∷ row (call_at (run_with 3 0 0 0) (9 ∷ 9 ∷ []) started6.tables (sync_page_tree (two_tree 0x1007 six_entries) 3))
    (returned 0 (run_with 3 0 0 0) (1 ∷ 1 ∷ []) (tables (set shadow6 3 0x5401) (65535 ∷ 5 ∷ 3 ∷ 5 ∷ 5 ∷ 65535 ∷ []) (0x28 ∷ [])))
    ∷ row (call_at (run_with 3 0 0 0) (9 ∷ 9 ∷ []) started6.tables (sync_page_tree (one_table 511 0x7003) 3))
    (returned 17 (run_with 3 0 0 0) (0 ∷ 0 ∷ []) started6.tables)
    ∷ row (call_at run513 (9 ∷ 9 ∷ []) (shadowed513 (replicate 513 1)) (sync_all_tree tree513))
    (returned 0 run513 (513 ∷ 0 ∷ []) (shadowed513 (replicate 511 0 ++ (0x8000000000007005 ∷ 0x8000000000006007 ∷ []))))
    ∷ row (call_at run513 (9 ∷ 9 ∷ []) (shadowed513 (replicate 513 1)) (sync_all_tree (one_table 513 0x7003)))
    (returned 17 run513 (0 ∷ 0 ∷ []) (shadowed513 (replicate 513 1)))
    -- Fetch and write; a fetch in user mode is above
    ∷ row (call_at (run_with 3 0 0 0) (9 ∷ 9 ∷ []) started6.tables (fetch 4))
    (returned 0 (run_in 0 4) (5 ∷ 5 ∷ []) started6.tables)
    ∷ row (call_at (run_with 3 0 0 0) (9 ∷ 9 ∷ []) started6.tables (fetch 0))
    (returned 11 (run_with 3 0 0 0) (0 ∷ 0 ∷ []) started6.tables)
    ∷ row (call_at (run_with 3 0 0 0) (9 ∷ 9 ∷ []) (shadowed6 (0x8000000000006003 ∷ 0x8000000000007003 ∷ replicate 4 0)) (write 4095 2))
    (returned 0 (run_with 3 0 0 0) (6 ∷ 7 ∷ []) (shadowed6 (0x8000000000006003 ∷ 0x8000000000007003 ∷ replicate 4 0)))
    ∷ row (call_at (run_with 3 0 0 0) (9 ∷ 9 ∷ []) (shadowed6 (0x8000000000006003 ∷ 0x8000000000005003 ∷ replicate 4 0)) (write 4095 2))
    (returned 13 (run_with 3 0 0 0) (0 ∷ 0 ∷ []) (shadowed6 (0x8000000000006003 ∷ 0x8000000000005003 ∷ replicate 4 0)))
    -- Leave and enter, with a pair pending, which stays
    ∷ row (call_at (run_with 3 1 3 6) (9 ∷ 9 ∷ []) (shadowed6 leaving) (leave 5))
    (returned 0 (set (set (run_with 3 1 3 6) 19 1) 20 5) (4 ∷ 0 ∷ []) (shadowed6 left6))
    ∷ row (call_at (run_in 1 5) (9 ∷ 9 ∷ []) (shadowed6 left6) (leave 5)) (returned 10 (run_in 1 5) (0 ∷ 0 ∷ []) (shadowed6 left6))
    ∷ row (call_at (set (set (run_with 3 1 3 6) 19 1) 20 5) (9 ∷ 9 ∷ []) (shadowed6 left6) (enter 1))
    (returned 0 (set (run_with 3 1 3 6) 20 2) (4 ∷ 0 ∷ []) (shadowed6 leaving))
    ∷ row (call_at (run_in 0 1) (9 ∷ 9 ∷ []) (shadowed6 leaving) (enter 1)) (returned 10 (run_in 0 1) (0 ∷ 0 ∷ []) (shadowed6 leaving))
    -- A device write to an excluded frame
    ∷ row (call_at (run_with 3 0 0 0) (9 ∷ 9 ∷ []) started6.tables (device_write three_devices 2 12288 1))
    (returned 13 (run_with 3 0 0 0) (0 ∷ 0 ∷ []) started6.tables)
    ∷ []
