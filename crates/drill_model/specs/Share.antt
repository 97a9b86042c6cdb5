-- Document 02, K7, "to the nearest, an exact half to the even number": what that asks of a number, that the share is such a number, that no other
-- is one, and that it is the share of one frame at least.
use Rattle.std.specs.Prelude.{ℕ, zero, suc, ◌+◌, ◌-◌, ◌*◌, ◌/◌, ◌%◌, ◌^◌, ◌≤◌, cond, List, ◌++◌, ◌≡◌, take, get_or, eqb}
use Rattle.model.specs.Calls.{Outcome}
use Rattle.drill_model.specs.Drill.{policy_extent, drill_start, share, share_line, drill_output}

-- How far apart two numbers are: of the two differences one is 0.
unfoldable pub distance : ℕ → ℕ → ℕ
distance a b = (a - b) + (b - a)

-- s is within one half of n / d, and where it is exactly one half from it, s is even: all of it times 2 × d, so that there is no fraction.
unfoldable pub IsNearest : ℕ → ℕ → ℕ → Type 0
IsNearest n d s = (2 * distance n (s * d) ≤ d) × (2 * distance n (s * d) ≡ d → s % 2 ≡ 0)

-- How many of the first frames have their bit set in a vector, "bit f mod 8 (0 lowest) of byte f/8": by arithmetic, and not by `has_bit` and
-- `count_from`, by which the drill counts.
unfoldable pub excluded_below : ℕ → List ℕ → ℕ
excluded_below zero exclusion = 0
excluded_below (suc f) exclusion = cond (eqb (get_or exclusion (f / 8) 0 / 2 ^ (f % 8) % 2) 1) 1 0 + excluded_below f exclusion

-- The number that the drill prints is such a number for 100 × excluded frames / F.
unfoldable pub ShareNearest : Type 0
ShareNearest = (frames : ℕ) (exclusion : List ℕ) → IsNearest (100 * excluded_below frames exclusion) frames (share frames exclusion)

-- These two fix the number, where there is a frame at all.
unfoldable pub NearestFixed : Type 0
NearestFixed = (n d s t : ℕ) → 1 ≤ d → IsNearest n d s → IsNearest n d t → s ≡ t

-- 0 of F cannot happen: n is at least 1, so that an accepted start excludes a frame.
unfoldable pub SomeExcluded : Type 0
SomeExcluded =
    (bytes : List ℕ) → (drill_start bytes).reply.number ≡ 0
    → 1 ≤ excluded_below (drill_start bytes).guard.state.frames (drill_start bytes).guard.tables.exclusion

-- A list that ends with another.
pub record EndsWith (last whole : List ℕ) : Type 0 where
  pub front : List ℕ
  pub same : whole ≡ front ++ last

-- Whatever the calls of a started drill are, its output ends with the start's share: no call of the drill changes the vector or F.
unfoldable pub ShareLast : Type 0
ShareLast =
    (input : List ℕ) → let start : Outcome = drill_start (take (policy_extent input) input) in
    start.reply.number ≡ 0 → EndsWith (share_line start.guard.state.frames start.guard.tables.exclusion) (drill_output input)
