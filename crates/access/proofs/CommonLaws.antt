-- Laws of the bits that two entries have in common.
use Prim.Native.Nat.{ℕ, zero, suc, ◌/◌, ◌%◌, ◌^◌, ◌<◌}
use mathlib.Core.Bool.{Bool, true, false, not}
use mathlib.Core.Path.{◌≡◌, refl, ap, ◌∙◌}
use native.Mathlib.Omega.{arith}
use lib.Bits.{bit_and, and_shr, and_mod}
use lib.Dec.{eqb}
use Rattle.model.specs.Basics.{both, either, bit}
use Rattle.model.specs.Bits.{present, writable, user_bit}
use Rattle.model.specs.Questions.{write_permitted}

-- Of two numbers below 2.
common-low : (x y : ℕ) → x < 2 → y < 2 → eqb (bit_and x y) 1 ≡ both (eqb x 1) (eqb y 1)
unfolding both
common-low zero zero p q = refl
common-low zero (suc zero) p q = refl
common-low (suc zero) zero p q = refl
common-low (suc zero) (suc zero) p q = refl
common-low (suc (suc x)) y p q = absurd (omega arith)
common-low zero (suc (suc y)) p q = absurd (omega arith)
common-low (suc zero) (suc (suc y)) p q = absurd (omega arith)

common-bit : (k a b : ℕ) → bit k (bit_and a b) ≡ both (bit k a) (bit k b)
unfolding bit
common-bit k a b =
    ap (λ x. eqb (x % 2) 1) (and_shr a b k)
    ∙ ap (λ x. eqb x 1) (and_mod (a / 2 ^ k) (b / 2 ^ k) 1)
    ∙ common-low (a / 2 ^ k % 2) (b / 2 ^ k % 2) (omega arith) (omega arith)

pub common-present : (a b : ℕ) → present (bit_and a b) ≡ both (present a) (present b)
unfolding present
common-present a b = common-bit 0 a b

pub common-permitted : (user : Bool) (a b : ℕ) → write_permitted user (bit_and a b) ≡ both (write_permitted user a) (write_permitted user b)
unfolding write_permitted writable user_bit both either
common-permitted user a b = rw (common-bit 1 a b, common-bit 2 a b) (by user (bit 1 a) (bit 1 b) (bit 2 a) (bit 2 b))
  where
    by : (u w x y z : Bool) → both (both w x) (either (not u) (both y z)) ≡ both (both w (either (not u) y)) (both x (either (not u) z))
    by u false x y z = refl
    by true true false true z = refl
    by true true false false z = refl
    by true true true true z = refl
    by true true true false z = refl
    by false true false y z = refl
    by false true true y z = refl

pub ruleset in_common = (common-present, common-permitted)
