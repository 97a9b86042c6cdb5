-- The decisions of the loop over the drill's calls, and that a loop of these makes the drill's lines as they are defined.
use Rattle.std.specs.Prelude.{ℕ, ◌-◌, Bool, cond, List, ◌++◌, ◌≡◌, ltb, take, drop}
use Rattle.drill_model.specs.Drill.{Drill, Turn, turn, closing, call_lines}

-- Whether a call is made where so many are left, and how many are left after it: none where it ended the calls.
unfoldable pub goes_on : ℕ → Bool
goes_on left = ltb 0 left

unfoldable pub left_after : ℕ → Bool → ℕ
left_after left goes = cond goes (left - 1) 0

-- A loop that asks these makes the lines of `call_lines`: while it goes on, the line of a turn and what the calls left after it make; then the
-- closing lines.
unfoldable pub LoopsAsDefined : Type 0
LoopsAsDefined =
    (left : ℕ) (d : Drill) (rest : List ℕ) →
    let t : Turn = turn d (take 16 rest) in
    call_lines left d rest
    ≡ cond (goes_on left) (t.line ++ call_lines (left_after left t.goes) t.drill (drop 16 rest)) (closing d.guard)
