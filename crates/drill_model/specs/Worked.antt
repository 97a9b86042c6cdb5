-- Document 01, "The drill program", the worked example: its input and every byte of its output.
use Rattle.std.specs.Prelude.{ℕ, List, [], ◌∷◌, ◌++◌}
use Prim.Native.Char.{code}
use Prim.Native.String.{String}
use Prim.Native.String as Text
use Rattle.model.specs.Cases.{policy_bytes}

-- The bytes of a text that is written in ASCII.
unfoldable pub bytes_of : String → List ℕ
bytes_of Text.[] = []
bytes_of (Text.◌∷◌ c text) = code c ∷ bytes_of text

-- The bytes of whole lines: 10 ends a line.
unfoldable pub lines_of : List String → List ℕ
lines_of [] = []
lines_of (text ∷ texts) = bytes_of text ++ (10 ∷ lines_of texts)

-- "Policy V 4, F 4, n 1, e 1, page 1, frame 2. Calls: edit 0 to 0x2003; synchronise 0; write 1 byte at 0; edit 3 to 0x3007; synchronise 3;
-- leave to 3; device write 1 byte at 8192."
unfoldable pub worked_input : List ℕ
worked_input =
    policy_bytes
    -- edit 0 to 0x2003
    ++ (0 ∷ 0 ∷ 0 ∷ 0 ∷ 0 ∷ 0 ∷ 0 ∷ 0 ∷ 3 ∷ 32 ∷ 0 ∷ 0 ∷ 0 ∷ 0 ∷ 0 ∷ 0 ∷ [])
    -- synchronise 0
    ++ (1 ∷ 0 ∷ 0 ∷ 0 ∷ 0 ∷ 0 ∷ 0 ∷ 0 ∷ 0 ∷ 0 ∷ 0 ∷ 0 ∷ 0 ∷ 0 ∷ 0 ∷ 0 ∷ [])
    -- write 1 byte at 0
    ++ (4 ∷ 0 ∷ 0 ∷ 0 ∷ 1 ∷ 0 ∷ 0 ∷ 0 ∷ 0 ∷ 0 ∷ 0 ∷ 0 ∷ 0 ∷ 0 ∷ 0 ∷ 0 ∷ [])
    -- edit 3 to 0x3007
    ++ (0 ∷ 0 ∷ 3 ∷ 0 ∷ 0 ∷ 0 ∷ 0 ∷ 0 ∷ 7 ∷ 48 ∷ 0 ∷ 0 ∷ 0 ∷ 0 ∷ 0 ∷ 0 ∷ [])
    -- synchronise 3
    ++ (1 ∷ 0 ∷ 3 ∷ 0 ∷ 0 ∷ 0 ∷ 0 ∷ 0 ∷ 0 ∷ 0 ∷ 0 ∷ 0 ∷ 0 ∷ 0 ∷ 0 ∷ 0 ∷ [])
    -- leave to 3
    ++ (6 ∷ 0 ∷ 3 ∷ 0 ∷ 0 ∷ 0 ∷ 0 ∷ 0 ∷ 0 ∷ 0 ∷ 0 ∷ 0 ∷ 0 ∷ 0 ∷ 0 ∷ 0 ∷ [])
    -- device write 1 byte at 8192
    ++ (7 ∷ 0 ∷ 0 ∷ 0 ∷ 1 ∷ 0 ∷ 0 ∷ 0 ∷ 0 ∷ 32 ∷ 0 ∷ 0 ∷ 0 ∷ 0 ∷ 0 ∷ 0 ∷ [])

unfoldable pub worked_output : List ℕ
worked_output =
    lines_of
    ("S 0 1 1 K 1"
    ∷ "0 0 0 0 K 1"
    ∷ "1 0 1 1 K 1"
    ∷ "4 12 0 0 K 1"
    ∷ "0 0 0 0 K 1"
    ∷ "1 0 1 0 K 1"
    ∷ "6 0 3 0 U 3"
    ∷ "7 13 0 0 U 3\n8000000000002401\n8000000000002401\n0000000000000000\n0000000000003007\nshare 25"
    ∷ [])
