-- K7: a quotient to the nearest is within one half of the exact one, and even at an exact half; and these two fix a number.
use Prim.Native.Nat.{ℕ, zero, suc, ◌+◌, ◌*◌, ◌/◌, ◌%◌, ◌≤◌, ◌<◌}
use mathlib.Core.Bool.{Bool, true, false, cond}
use mathlib.Core.List.{List}
use mathlib.Core.Path.{◌≡◌, refl, ◌∙◌}
use lib.Dec.{ltb}
use borrow.Author.Tests.{ltb-true, ltb-false}
use native.Mathlib.Nat.{add-zero, zero-add, div-add-mod, mod-lt, mul-le-mul_right, lt_of_not-le}
use native.Mathlib.Omega.{arith}
use Rattle.model.specs.Basics.{bit}
use Rattle.model.specs.Guard.{has_bit}
use Rattle.drill_model.specs.Drill.{count_from, nearest, share}
use Rattle.drill_model.specs.Share.{distance, IsNearest, excluded_below, ShareNearest, NearestFixed}

-- What is left of the division, twice: below the divisor, above it, or the divisor itself, by whether the quotient is even.
module _ (n d q r : ℕ) (e : d * q + r ≡ n) (h : r < d) where
  exactly : (m : ℕ) → q % 2 ≡ m → 2 * r ≡ d → IsNearest n d (q + m)
  unfolding IsNearest distance
  exactly zero f g = omega arith
  exactly (suc zero) f g = omega arith
  exactly (suc (suc m)) f g = absurd (omega arith)

  above : (b : Bool) → ltb d (2 * r) ≡ b → d ≤ 2 * r → IsNearest n d (cond b (q + 1) (q + q % 2))
  unfolding IsNearest distance
  above true f g = omega (arith, ltb-true)
  above false f g = exactly (q % 2) refl (omega (arith, ltb-false))

  near : (b : Bool) → ltb (2 * r) d ≡ b → IsNearest n d (cond b q (cond (ltb d (2 * r)) (q + 1) (q + q % 2)))
  unfolding IsNearest distance
  near true f = omega (arith, ltb-true)
  near false f = above (ltb d (2 * r)) refl (ltb-false (2 * r) d f)

pub nearest-is : (n d : ℕ) → 1 ≤ d → IsNearest n d (nearest n d)
unfolding nearest
nearest-is n d p = near n d (n / d) (n % d) (div-add-mod n d) (mod-lt n p) (ltb (2 * (n % d)) d) refl

-- One number more at the end, in place of one more in front.
count-last : (test : ℕ → Bool) (first count : ℕ) → count_from test first (suc count) ≡ cond (test (first + count)) 1 0 + count_from test first count
unfolding count_from
count-last test first zero = rw (add-zero first)
count-last test first (suc count) =
    let next : first + suc count ≡ suc first + count = omega arith in
    rw next (let rest : _ = count-last test (suc first) count in omega (arith, rest))

-- What the drill counts is what stands in the vector.
pub counted : (frames : ℕ) (exclusion : List ℕ) → count_from (has_bit exclusion) 0 frames ≡ excluded_below frames exclusion
unfolding excluded_below count_from has_bit bit
counted zero exclusion = refl
counted (suc f) exclusion = count-last (has_bit exclusion) 0 f ∙ rw (zero-add, counted f exclusion)

-- Of no frames none is excluded, and the share is 0.
near-counted : (frames : ℕ) (exclusion : List ℕ) → IsNearest (100 * count_from (has_bit exclusion) 0 frames) frames (share frames exclusion)
unfolding IsNearest distance share nearest count_from
near-counted zero exclusion = omega arith
near-counted (suc f) exclusion = nearest-is (100 * count_from (has_bit exclusion) 0 (suc f)) (suc f) (omega arith)

pub share-nearest : ShareNearest
unfolding ShareNearest
share-nearest frames exclusion = rw (← counted frames exclusion) (near-counted frames exclusion)

-- Of two such numbers none is below the other: the next one is the farthest that t can be, and then both are at an exact half, so that both are even.
not-below : (n d s t : ℕ) → 1 ≤ d → IsNearest n d s → IsNearest n d t → s < t → ⊥
unfolding IsNearest distance
not-below n d s t p x y h =
    let more : (s + 1) * d ≤ t * d = mul-le-mul_right d (omega arith) in
    let near : t < s + 2 = lt_of_not-le (λ far. let most : (s + 2) * d ≤ t * d = mul-le-mul_right d far in omega arith) in
    let even : s % 2 ≡ 0 = x.1 (omega arith) in
    let even' : t % 2 ≡ 0 = y.1 (omega arith) in
    omega arith

pub nearest-fixed : NearestFixed
unfolding NearestFixed
nearest-fixed n d s t p x y =
    let least : t < s + 1 = lt_of_not-le (λ h. not-below n d s t p x y (omega arith)) in
    let most : s < t + 1 = lt_of_not-le (λ h. not-below n d t s p y x (omega arith)) in
    omega arith
