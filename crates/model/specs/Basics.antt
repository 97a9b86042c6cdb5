-- What the sections of document 01 use: answers, ranges, lists and tables of numbers, bits.
use Rattle.std.specs.Prelude.{ℕ, zero, suc, ◌/◌, ◌%◌, ◌^◌, Bool, true, false, cond, List, [], ◌∷◌, leb, eqb}

-- Both answers are yes.
unfoldable pub both : Bool → Bool → Bool
both true b = b
both false b = false

-- One answer at least is yes.
unfoldable pub either : Bool → Bool → Bool
either true b = true
either false b = b

-- x is from low to high, both ends included.
unfoldable pub within : ℕ → ℕ → ℕ → Bool
within low high x = both (leb low x) (leb x high)

-- The test holds of each of the count numbers from first on.
unfoldable pub every_from : (ℕ → Bool) → ℕ → ℕ → Bool
every_from test first zero = true
every_from test first (suc count) = both (test first) (every_from test (suc first) count)

-- What f gives for each of the count numbers from first on.
unfoldable pub table_from : (ℕ → ℕ) → ℕ → ℕ → List ℕ
table_from f first zero = []
table_from f first (suc count) = f first ∷ table_from f (suc first) count

-- A table of count places, with f of its number at each place.
unfoldable pub table : ℕ → (ℕ → ℕ) → List ℕ
table count f = table_from f 0 count

-- x is one of the numbers.
unfoldable pub member : ℕ → List ℕ → Bool
member x [] = false
member x (y ∷ ys) = either (eqb x y) (member x ys)

-- Bit k of x, 0 the lowest.
unfoldable pub bit : ℕ → ℕ → Bool
bit k x = eqb (x / 2 ^ k % 2) 1

-- The weight of bit k where b holds, and else 0.
unfoldable pub flag : Bool → ℕ → ℕ
flag b k = cond b (2 ^ k) 0

-- 1 where two values differ: "shadow entries whose value changed", "pages that joined the map".
unfoldable pub differs : ℕ → ℕ → ℕ
differs a b = cond (eqb a b) 0 1
