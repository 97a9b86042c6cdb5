-- The limit of calls, on the worked example's policy: so many refused edits have a line each, and what follows them is not read.
use Prim.Native.Nat.{ℕ, zero, suc}
use mathlib.Core.List.{List, [], ◌∷◌, ◌++◌}
use mathlib.Core.Path.{◌≡◌, refl, ap}
use Rattle.model.specs.Cases.{policy_bytes}
use Rattle.drill_model.specs.Drill.{Drill, begun, drill_start, call_limit, call_lines, drill_output}
use Rattle.drill_model.specs.Worked.{bytes_of, lines_of}
use Rattle.drill_model.specs.DrillCases.{little_endian, call_bytes, times}
use Rattle.drill_model.proofs.Computed.{computed}

-- The drill after its start, an edit of page 4, its line, and the closing lines.
unfoldable pub opened : Drill
opened = begun (drill_start policy_bytes).guard

unfoldable pub edit : List ℕ
edit = call_bytes 0 4 0 0

unfoldable pub edit_line : List ℕ
edit_line = lines_of ("0 9 0 0 K 1" ∷ [])

unfoldable pub closing_lines : List ℕ
closing_lines =
    lines_of ("0000000000000000\n0000000000002401\n0000000000000000\n0000000000000000\nshare 25" ∷ [])

pub opening : (calls : List ℕ) → drill_output (policy_bytes ++ calls) ≡ lines_of ("S 0 1 1 K 1" ∷ []) ++ call_lines call_limit opened calls
unfolding computed policy_bytes bytes_of lines_of opened
opening calls = refl

pub edits : (n : ℕ) (rest : List ℕ) → call_lines n opened (times n edit ++ rest) ≡ times n edit_line ++ closing_lines
unfolding computed policy_bytes bytes_of lines_of little_endian call_bytes times opened edit edit_line closing_lines
edits zero rest = refl
edits (suc n) rest = ap (λ xs. edit_line ++ xs) (edits n rest)
