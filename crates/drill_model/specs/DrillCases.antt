-- Document 01, "The drill program": small inputs with every byte that the drill writes, on policies whose V is not their F; a call's fields and
-- the drill's numbers by themselves; the share (K7); the drill's windows (K5); and the limit of calls.
use Rattle.std.specs.Prelude.{ℕ, zero, suc, ◌/◌, ◌%◌, List, [], ◌∷◌, ◌++◌, ◌≡◌, replicate}
use Rattle.model.specs.declared.Device.{Device}
use Rattle.model.specs.Devices.{device_of}
use Rattle.model.specs.Cases.{Row, row, policy_bytes}
use Rattle.model.specs.Further.{two_entries}
use Rattle.drill_model.specs.Drill.{policy_extent, windows_of, kind_of, index_of, length_of, value_of, decimal, entry_lines, share_line, drill_output}
use Rattle.drill_model.specs.Worked.{bytes_of, lines_of}

-- So many bytes of a number, the lowest first.
unfoldable pub little_endian : ℕ → ℕ → List ℕ
little_endian zero n = []
little_endian (suc bytes) n = n % 256 ∷ little_endian bytes (n / 256)

-- The 16 bytes of a call of this kind, index, length and value. Byte 1, which is ignored, is 255.
unfoldable pub call_bytes : ℕ → ℕ → ℕ → ℕ → List ℕ
call_bytes kind index length value = (kind ∷ 255 ∷ little_endian 2 index) ++ little_endian 4 length ++ little_endian 8 value

-- V 3, F 9, n 1, e 1, page 1, frame 8.
unfoldable pub three_pages : List ℕ
three_pages = 3 ∷ 0 ∷ 9 ∷ 0 ∷ 1 ∷ 0 ∷ 1 ∷ 0 ∷ 1 ∷ 0 ∷ 8 ∷ 0 ∷ []

-- V 9, F 3, n 1, e 1, page 8, frame 2.
unfoldable pub nine_pages : List ℕ
nine_pages = 9 ∷ 0 ∷ 3 ∷ 0 ∷ 1 ∷ 0 ∷ 1 ∷ 0 ∷ 8 ∷ 0 ∷ 2 ∷ 0 ∷ []

-- Every kind once, an edit past the last page, and one byte of an unknown kind as the last call.
unfoldable pub every_kind : List ℕ
every_kind =
    three_pages
    ++ call_bytes 0 0 0 0x4007
    ++ call_bytes 2 0 0 0
    ++ call_bytes 0 3 0 0x4007
    ++ call_bytes 3 0 0 0
    ++ call_bytes 4 0 2 1
    ++ call_bytes 6 0 0 0
    ++ call_bytes 5 0 0 0
    ++ call_bytes 7 0 4096 28672
    ++ call_bytes 1 1 0 0
    ++ (9 ∷ [])

-- A call of the bytes 16 to 31, and the policy's extent where n is this.
unfoldable pub sixteen : List ℕ
sixteen = 16 ∷ 17 ∷ 18 ∷ 19 ∷ 20 ∷ 21 ∷ 22 ∷ 23 ∷ 24 ∷ 25 ∷ 26 ∷ 27 ∷ 28 ∷ 29 ∷ 30 ∷ 31 ∷ []

unfoldable pub extent_of : ℕ → ℕ
extent_of count = policy_extent (replicate 4 0 ++ little_endian 2 count ++ replicate 2 0)

abbrev pub DrillCase : Type 0
DrillCase = Row (List ℕ)

unfoldable pub drill_cases : List DrillCase
drill_cases =
    row (drill_output every_kind)
    (lines_of
    ("S 0 1 1 K 1"
    ∷ "0 0 0 0 K 1"
    ∷ "2 0 2 0 K 1"
    ∷ "0 9 0 0 K 1"
    ∷ "3 12 0 0 K 1"
    ∷ "4 0 4 4 K 1"
    ∷ "6 0 1 0 U 0"
    ∷ "5 11 0 0 U 0"
    ∷ "7 0 7 7 U 0"
    ∷ "1 0 0 0 U 0"
    ∷ "X 14 0 0 U 0\n0000000000004007\n0000000000000000\n0000000000000000\nshare 11"
    ∷ []))
    -- A policy with two entry pages, and in each call other numbers in the fields that its kind does not have; of a device write the index is its
    -- device (K5).
    ∷ row
    (drill_output
    (two_entries
    ++ call_bytes 3 4 9 9
    ++ call_bytes 0 0 9 0x6007
    ++ call_bytes 0 3 9 0x7007
    ++ call_bytes 2 9 9 9
    ++ call_bytes 1 0 9 9
    ++ call_bytes 4 9 17 12288
    ++ call_bytes 4 9 4097 12288
    ++ call_bytes 4 9 16 12288
    ++ call_bytes 4 9 16 16368
    ++ call_bytes 6 3 9 9
    ++ call_bytes 0 2 9 0x3001
    ++ call_bytes 1 2 9 9
    ++ call_bytes 5 1 9 9
    ++ call_bytes 7 9 8192 24576))
    (lines_of
    ("S 0 3 2 K 1"
    ∷ "3 0 5 5 K 4"
    ∷ "0 0 0 0 K 4"
    ∷ "0 0 0 0 K 4"
    ∷ "2 0 5 0 K 4"
    ∷ "1 0 0 0 K 4"
    ∷ "4 8 0 0 K 4"
    ∷ "4 8 0 0 K 4"
    ∷ "4 0 7 7 K 4"
    ∷ "4 0 7 7 K 4"
    ∷ "6 0 2 0 U 3"
    ∷ "0 0 0 0 U 3"
    ∷ "1 0 1 0 U 3"
    ∷ "5 0 3 0 K 2"
    ∷ "7 0 6 7 K 2"
    ∷ "8000000000006007\n0000000000000000\n0000000000003401\n8000000000007007\n0000000000000000\n0000000000000000\nshare 25"
    ∷ []))
    -- More pages than frames; an unknown kind ends the calls, and the call after it is not made.
    ∷ row (drill_output (nine_pages ++ call_bytes 0 8 0 0x1003 ++ call_bytes 2 0 0 0 ++ call_bytes 8 0 0 0 ++ call_bytes 3 8 0 0))
    (lines_of
    ("S 0 1 1 K 8"
    ∷ "0 0 0 0 K 8"
    ∷ "2 0 0 0 K 8"
    ∷ "X 15 0 0 K 8"
    ∷ replicate 7 "0000000000000000"
    ++ ("0000000000000000\n0000000000002401\nshare 33" ∷ [])))
    -- K5: 64 devices, and the index of a device write is its device: 63, 64 and one that 8 bits would cut; each may write the last frame
    ∷ row (drill_output (policy_bytes ++ call_bytes 7 63 1 16383 ++ call_bytes 7 64 1 0 ++ call_bytes 7 256 1 0 ++ call_bytes 7 0 4096 12288))
    (lines_of
    ("S 0 1 1 K 1"
    ∷ "7 0 3 3 K 1"
    ∷ "7 18 0 0 K 1"
    ∷ "7 18 0 0 K 1"
    ∷ "7 0 3 3 K 1\n0000000000000000\n0000000000002401\n0000000000000000\n0000000000000000\nshare 25"
    ∷ []))
    -- 15 of a call's 16 bytes, and no call at all
    ∷ row (drill_output (policy_bytes ++ replicate 15 0))
    (lines_of
    ("S 0 1 1 K 1"
    ∷ "X 14 0 0 K 1\n0000000000000000\n0000000000002401\n0000000000000000\n0000000000000000\nshare 25"
    ∷ []))
    ∷ row (drill_output (1 ∷ 0 ∷ 1 ∷ 0 ∷ 1 ∷ 0 ∷ 1 ∷ 0 ∷ 0 ∷ 0 ∷ 0 ∷ 0 ∷ [])) (lines_of ("S 0 1 1 K 0\n0000000000000401\nshare 100" ∷ []))
    -- "A refused start prints its line alone": V 0, and calls follow; a record cut short; no byte at all
    ∷ row (drill_output ((0 ∷ 0 ∷ 9 ∷ 0 ∷ 1 ∷ 0 ∷ 1 ∷ 0 ∷ 1 ∷ 0 ∷ 8 ∷ 0 ∷ []) ++ call_bytes 3 1 0 0)) (lines_of ("S 2 0 0 U 0" ∷ []))
    ∷ row (drill_output (3 ∷ 0 ∷ 9 ∷ 0 ∷ 1 ∷ 0 ∷ 1 ∷ 0 ∷ 1 ∷ 0 ∷ 8 ∷ [])) (lines_of ("S 4 0 0 U 0" ∷ []))
    ∷ row (drill_output []) (lines_of ("S 1 0 0 U 0" ∷ []))
    -- "byte 0 kind, byte 1 ignored, 2 to 3 index, 4 to 7 length, 8 to 15 value", of the bytes 16 to 31
    ∷ row (kind_of sixteen ∷ index_of sixteen ∷ length_of sixteen ∷ value_of sixteen ∷ [])
    (0x10 ∷ 0x1312 ∷ 0x17161514 ∷ 0x1f1e1d1c1b1a1918 ∷ [])
    -- "8 bytes, and 4 × n more if n is 1 to 2,048": n 0, 1, 2,048 and 2,049
    ∷ row (extent_of 0 ∷ extent_of 1 ∷ extent_of 2048 ∷ extent_of 2049 ∷ []) (8 ∷ 12 ∷ 8200 ∷ 8 ∷ [])
    -- Decimal numbers and hexadecimal digits
    ∷ row (decimal 10 ++ decimal 0 ++ decimal 18446744073709551615) (bytes_of "10018446744073709551615")
    ∷ row (entry_lines (0xfedcba9876543210 ∷ 0xf ∷ [])) (lines_of ("fedcba9876543210" ∷ "000000000000000f" ∷ []))
    ∷ []

-- K7: "to the nearest, an exact half to the even number".
unfoldable pub share_cases : List DrillCase
share_cases =
    -- "One excluded frame of eight prints 12, three of eight print 38": exact halves, between two numbers of which either is the even one
    row (share_line 8 (0x01 ∷ [])) (lines_of ("share 12" ∷ []))
    ∷ row (share_line 8 (0x07 ∷ [])) (lines_of ("share 38" ∷ []))
    ∷ row (share_line 8 (0x1f ∷ [])) (lines_of ("share 62" ∷ []))
    ∷ row (share_line 8 (0x7f ∷ [])) (lines_of ("share 88" ∷ []))
    ∷ row (share_line 200 (0x01 ∷ replicate 24 0)) (lines_of ("share 0" ∷ []))
    ∷ row (share_line 200 (0x07 ∷ replicate 24 0)) (lines_of ("share 2" ∷ []))
    ∷ row (share_line 200 (0x1f ∷ replicate 24 0)) (lines_of ("share 2" ∷ []))
    ∷ row (share_line 200 (0x7f ∷ replicate 24 0)) (lines_of ("share 4" ∷ []))
    -- 199 of 200, the greatest exact half; all of F
    ∷ row (share_line 200 (0xfe ∷ replicate 24 0xff)) (lines_of ("share 100" ∷ []))
    ∷ row (share_line 200 (replicate 25 0xff)) (lines_of ("share 100" ∷ []))
    ∷ row (share_line 8 (0xff ∷ [])) (lines_of ("share 100" ∷ []))
    ∷ row (share_line 1 (0x01 ∷ [])) (lines_of ("share 100" ∷ []))
    -- F 512: three eighths of the frames, at the vector's end, and all; no frames
    ∷ row (share_line 512 (replicate 40 0 ++ replicate 24 0xff)) (lines_of ("share 38" ∷ []))
    ∷ row (share_line 512 (replicate 64 0xff)) (lines_of ("share 100" ∷ []))
    ∷ row (share_line 0 []) (lines_of ("share 0" ∷ []))
    -- Below a half and above it: 1 and 2 of 3, 2 and 5 of 7; and no rest: 2 and 6 of 8
    ∷ row (share_line 3 (0x04 ∷ [])) (lines_of ("share 33" ∷ []))
    ∷ row (share_line 3 (0x05 ∷ [])) (lines_of ("share 67" ∷ []))
    ∷ row (share_line 7 (0x41 ∷ [])) (lines_of ("share 29" ∷ []))
    ∷ row (share_line 7 (0x1f ∷ [])) (lines_of ("share 71" ∷ []))
    ∷ row (share_line 8 (0x84 ∷ [])) (lines_of ("share 25" ∷ []))
    ∷ row (share_line 8 (0x7e ∷ [])) (lines_of ("share 75" ∷ []))
    -- The bits past frame F - 1 do not count: all of 3, 1 of 4, and 1 of 9
    ∷ row (share_line 3 (0xff ∷ [])) (lines_of ("share 100" ∷ []))
    ∷ row (share_line 4 (0xf2 ∷ [])) (lines_of ("share 25" ∷ []))
    ∷ row (share_line 9 (0x00 ∷ 0xff ∷ [])) (lines_of ("share 11" ∷ []))
    -- A drill of F 8 whose three pages list two frames, one of them twice; one whose three pages list three
    ∷ row (drill_output (3 ∷ 0 ∷ 8 ∷ 0 ∷ 3 ∷ 0 ∷ 1 ∷ 0 ∷ 0 ∷ 0 ∷ 1 ∷ 0 ∷ 2 ∷ 0 ∷ 5 ∷ 0 ∷ 7 ∷ 0 ∷ 5 ∷ 0 ∷ []))
    (lines_of ("S 0 3 1 K 0\n0000000000005401\n0000000000007401\n0000000000005401\nshare 25" ∷ []))
    ∷ row (drill_output (3 ∷ 0 ∷ 8 ∷ 0 ∷ 3 ∷ 0 ∷ 1 ∷ 0 ∷ 0 ∷ 0 ∷ 1 ∷ 0 ∷ 2 ∷ 0 ∷ 5 ∷ 0 ∷ 7 ∷ 0 ∷ 0 ∷ 0 ∷ []))
    (lines_of ("S 0 3 1 K 0\n0000000000005401\n0000000000007401\n0000000000000401\nshare 38" ∷ []))
    -- 0 of F cannot happen: n 0 is refused, and prints no share
    ∷ row (drill_output (3 ∷ 0 ∷ 8 ∷ 0 ∷ 0 ∷ 0 ∷ 0 ∷ 0 ∷ [])) (lines_of ("S 3 0 0 U 0" ∷ []))
    ∷ []

-- The drill's windows.
abbrev pub WindowCase : Type 0
WindowCase = Row (List Device)

unfoldable pub window_cases : List WindowCase
window_cases =
    row (windows_of 4) (replicate 64 (device_of 0 3))
    ∷ row (windows_of 1) (replicate 64 (device_of 0 0))
    ∷ []

-- A list so many times over.
unfoldable pub times : ℕ → List ℕ → List ℕ
times zero xs = []
times (suc n) xs = xs ++ times n xs

-- "then at most 1,024 calls": on the worked example's policy 1,024 refused edits have a line each, and whatever follows them is not read.
abbrev pub Limit : Type 0
Limit =
    (rest : List ℕ) →
    drill_output (policy_bytes ++ (times 1024 (call_bytes 0 4 0 0) ++ rest))
    ≡ lines_of ("S 0 1 1 K 1" ∷ [])
    ++ (times 1024 (lines_of ("0 9 0 0 K 1" ∷ []))
    ++ lines_of ("0000000000000000\n0000000000002401\n0000000000000000\n0000000000000000\nshare 25" ∷ []))
