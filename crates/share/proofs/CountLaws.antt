-- Laws of a count over a filter, and of a quotient to the nearest.
use Prim.Native.Nat.{ℕ, zero, suc, ◌+◌, ◌*◌, ◌/◌, ◌%◌, ◌≤◌, ◌<◌}
use mathlib.Core.Bool.{Bool, true, false}
use mathlib.Core.List.{List}
use lib.ListN.{length}
use mathlib.Core.Path.{◌≡◌, refl}
use borrow.Author.Tests.{lt-ltb, le-ltb}
use native.Mathlib.Numerals.{add-one}
use native.Mathlib.Omega.{arith}
use Rattle.std.specs.List.{filter, range_with_len}
use Rattle.model.specs.Guard.{has_bit}
use Rattle.drill_model.specs.Drill.{count_from, nearest, share}

-- As many numbers pass a filter as are counted, and no more than there are.
abbrev Kept : (ℕ → Bool) → ℕ → ℕ → Type 0
Kept test first n = (length (filter test (range_with_len first n)) ≡ count_from test first n) × (count_from test first n ≤ n)

count-kept : (test : ℕ → Bool) (first n : ℕ) → Kept test first n
unfolding count_from
count-kept test first zero = (refl, omega arith)
count-kept test first (suc n) = at (test first) refl (count-kept test (suc first) n)
  where
    at : (b : Bool) → test first ≡ b → Kept test (suc first) n → Kept test first (suc n)
    at true e h = rw (e, add-one) (let (p, q) = h in (omega arith, omega arith))
    at false e h = rw (e, add-one) (let (p, q) = h in (omega arith, omega arith))

pub count-filtered : (test : ℕ → Bool) {r : ℕ} (n : ℕ) → r ≡ length (filter test (range_with_len 0 n)) → (r ≡ count_from test 0 n) × (r ≤ n)
count-filtered test n e = rw e (let (p, q) = count-kept test 0 n in (p, omega arith))

-- The share of excluded frames: of no frames, and by their count.
pub share-of-none : {frames : ℕ} (exclusion : List ℕ) → frames ≡ 0 → 0 ≡ share frames exclusion
unfolding share nearest count_from
share-of-none exclusion p = rw p

pub share-by-count : {count r : ℕ} (frames : ℕ) (exclusion : List ℕ) → r ≡ nearest (100 * count) frames
    → count ≡ count_from (has_bit exclusion) 0 frames → r ≡ share frames exclusion
unfolding share
share-by-count frames exclusion e p = rw (e, p)

-- A quotient to the nearest, by what the division leaves: twice that below the divisor, above it, and neither.
pub nearest-down : (n d : ℕ) → 2 * (n % d) < d → n / d ≡ nearest n d
unfolding nearest
nearest-down n d p = rw (lt-ltb (2 * (n % d)) d p)

pub nearest-up : (n d : ℕ) → d < 2 * (n % d) → n / d + 1 ≡ nearest n d
unfolding nearest
nearest-up n d p = rw (le-ltb (2 * (n % d)) d (omega arith), lt-ltb d (2 * (n % d)) p)

-- At an exact half, by whether the quotient is even.
pub nearest-even : (n d : ℕ) → 2 * (n % d) ≡ d → n / d % 2 ≡ 0 → n / d ≡ nearest n d
unfolding nearest
nearest-even n d p e = rw (le-ltb (2 * (n % d)) d (omega arith), le-ltb d (2 * (n % d)) (omega arith)) (omega arith)

pub nearest-odd : (n d : ℕ) → 2 * (n % d) ≡ d → (n / d % 2 ≡ 0 → ⊥) → n / d + 1 ≡ nearest n d
unfolding nearest
nearest-odd n d p e = rw (le-ltb (2 * (n % d)) d (omega arith), le-ltb d (2 * (n % d)) (omega arith)) (omega arith)
