-- The tables after each of the start's loops: places set one by one, frames excluded one by one.
-- These stand in the promises of the functions below the start. Its own promise names the model's definitions alone.
use Rattle.std.specs.Prelude.{ℕ, ◌+◌, ◌*◌, true, false, cond, List, [], ◌∷◌, map, ltb, set}
use Rattle.model.specs.Basics.{table}
use Rattle.model.specs.Guard.{with_bit}
use Rattle.model.specs.Policy.{number_at}
use Rattle.model.specs.Bits.{approved}

-- The table with a value stored at each of the places, in their order.
unfoldable pub stored_each : List ℕ → List ℕ → List ℕ → List ℕ
stored_each [] values t = t
stored_each (p ∷ places) [] t = t
stored_each (p ∷ places) (v ∷ values) t = stored_each places values (set t p v)

-- The approved entry of each frame, in kernel mode.
unfoldable pub approved_each : List ℕ → List ℕ
approved_each frames = map (approved false) frames

-- The vector with each of the frames excluded too.
unfoldable pub with_each : List ℕ → List ℕ → List ℕ
with_each [] vector = vector
with_each (f ∷ frames) vector = with_each frames (with_bit true vector f)

-- The sixteen entry pages: the first of the numbers from byte 8 on, as many as there are entries, and else 0.
unfoldable pub entry_table : List ℕ → ℕ → List ℕ
entry_table bytes entries = table 16 (λ i. cond (ltb i entries) (number_at bytes (8 + 2 * i)) 0)
