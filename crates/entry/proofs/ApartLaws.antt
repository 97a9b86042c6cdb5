-- Kernel entries taken apart: the test of bit 0 and the reserved bits together, the frame and the other fields.
use Rattle.std.proofs.Common.{◌≡◌, ℕ, zero, suc, ◌+◌, ◌-◌, ◌*◌, ◌/◌, ◌%◌, ◌^◌, ◌<◌, true, eqb, refl, ap, ◌∙◌, ap₂, arith}
use lib.Bits.{bit_and, and_mask, and_high, and_block}
use Rattle.model.specs.Basics.{bit, both}
use Rattle.model.specs.Bits.{present, frame_of, reserved, valid}
use Rattle.std.proofs.lemmas.Bool.Decides.{nat_tests}
use Rattle.laws.proofs.BitLaws.{valid-parts}

-- Bit 1 and bits 53 to 63 of a number of 64 bits, as the mask of both takes them.
masked : (x : ℕ) → x < 2 ^ 64 → bit_and x 0xffe0000000000002 ≡ x / 2 ^ 53 * 2 ^ 53 + x / 2 % 2 * 2
masked x h =
    let parts : x ≡ x / 2 ^ 53 * 2 ^ 53 + x % 2 ^ 53 = omega arith in
    let low : x % 2 ^ 53 / 2 % 2 ≡ x / 2 % 2 = omega arith in
    let high : x / 2 ^ 53 % 2 ^ 11 ≡ x / 2 ^ 53 = omega arith in
    ap (λ (y : ℕ). bit_and y 0xffe0000000000002) parts
    ∙ and_block 53 (x / 2 ^ 53) (2 ^ 11 - 1) (x % 2 ^ 53) (2 ^ (1 + 1) - 2 ^ 1) (omega arith) (omega arith)
    ∙ ap₂ (λ (a b : ℕ). a * 2 ^ 53 + b) (and_mask (x / 2 ^ 53) 11 ∙ high) (and_high (x % 2 ^ 53) 1 1 ∙ ap (λ (d : ℕ). d * 2) low)

-- Of a number above 0: it is odd and its bits from 52 on are 0 just where twice the number before it has none of the mask's bits.
none_of : (z : ℕ) → eqb (z / 2 ^ 52 * 2 ^ 53 + z % 2 * 2) 0 ≡ both (eqb (suc z % 2) 1) (eqb (suc z / 2 ^ 52) 0)
unfolding both
none_of z = grind (arith, nat_tests)

-- An entry shifted left once, less 2, is twice one less than the entry without its bit 63, or where that is 0 the highest even number.
doubled : (entry : ℕ) → entry * 2 % 2 ^ 64 ≡ entry % 2 ^ 63 * 2
doubled entry = omega arith

shifted-is : (entry x z : ℕ) → x < 2 ^ 64 → (x + 2) % 2 ^ 64 ≡ entry * 2 % 2 ^ 64 → entry % 2 ^ 63 ≡ suc z → x ≡ z * 2
shifted-is entry x z h e p = omega (arith, doubled entry)

shifted-zero : (entry x : ℕ) → x < 2 ^ 64 → (x + 2) % 2 ^ 64 ≡ entry * 2 % 2 ^ 64 → entry % 2 ^ 63 ≡ 0 → x ≡ 2 ^ 64 - 2
shifted-zero entry x h e p = omega (arith, doubled entry)

-- The test of bit 0 and the reserved bits together, on the shifted entry.
pub valid_is : (entry x : ℕ) → x < 2 ^ 64 → (x + 2) % 2 ^ 64 ≡ entry * 2 % 2 ^ 64 → eqb (bit_and x 0xffe0000000000002) 0 ≡ valid entry
unfolding valid present reserved bit both
valid_is entry x h e = rw (masked x h, bit-0, high) (by (entry % 2 ^ 63) refl)
  where
    bit-0 : entry / 2 ^ 0 % 2 ≡ entry % 2 ^ 63 % 2
    bit-0 = omega arith

    high : entry / 2 ^ 52 % 2 ^ 11 ≡ entry % 2 ^ 63 / 2 ^ 52
    high = omega arith

    by : (y : ℕ) → entry % 2 ^ 63 ≡ y → eqb (x / 2 ^ 53 * 2 ^ 53 + x / 2 % 2 * 2) 0 ≡ both (eqb (entry % 2 ^ 63 % 2) 1) (eqb (entry % 2 ^ 63 / 2 ^ 52) 0)
    by zero p = rw (p, shifted-zero entry x h e p)
    by (suc z) p =
        let low : z * 2 / 2 % 2 ≡ z % 2 = omega arith in
        let up : z * 2 / 2 ^ 53 ≡ z / 2 ^ 52 = omega arith in
        rw (p, shifted-is entry x z h e p, low, up) (none_of z)

-- What a valid entry has from bit 12 on: a frame of 40 bits, and bit 63.
pub above-12 : (entry : ℕ) → valid entry ≡ true → entry / 2 ^ 12 ≡ entry / 2 ^ 63 * 2 ^ 51 + frame_of entry
unfolding frame_of
above-12 entry p =
    let at-52 : entry / 2 ^ 12 / 2 ^ 40 ≡ entry / 2 ^ 52 = omega arith in
    let at-63 : entry / 2 ^ 12 / 2 ^ 51 ≡ entry / 2 ^ 63 = omega arith in
    parts (entry / 2 ^ 12) (ap (λ (x : ℕ). x % 2 ^ 11) at-52 ∙ (valid-parts entry p).1)
    ∙ ap (λ (x : ℕ). x * 2 ^ 51 + entry / 2 ^ 12 % 2 ^ 40) at-63
  where
    parts : (y : ℕ) → y / 2 ^ 40 % 2 ^ 11 ≡ 0 → y ≡ y / 2 ^ 51 * 2 ^ 51 + y % 2 ^ 40
    parts y p = omega arith

-- The frame of a valid entry, from the shifted entry.
pub frame_is : (entry x : ℕ) → x < 2 ^ 64 → (x + 2) % 2 ^ 64 ≡ entry * 2 % 2 ^ 64 → valid entry ≡ true → x / 2 ^ 13 ≡ frame_of entry
unfolding frame_of
frame_is entry x h e p = by (entry % 2 ^ 63) refl
  where
    odd : entry % 2 ≡ 1
    odd = (valid-parts entry p).0

    above : entry / 2 ^ 12 % 2 ^ 40 ≡ entry % 2 ^ 63 / 2 ^ 12
    above =
        let parts : entry / 2 ^ 12 ≡ entry / 2 ^ 63 * 2 ^ 51 + entry / 2 ^ 12 % 2 ^ 40 = above-12 entry p in
        let down : entry % 2 ^ 63 / 2 ^ 12 ≡ entry / 2 ^ 12 - entry / 2 ^ 63 * 2 ^ 51 = omega arith in
        omega (arith, parts, down)

    by : (y : ℕ) → entry % 2 ^ 63 ≡ y → x / 2 ^ 13 ≡ entry / 2 ^ 12 % 2 ^ 40
    by zero q = absurd (omega (arith, odd))
    by (suc z) q =
        let low : z * 2 / 2 ^ 13 ≡ z / 2 ^ 12 = omega arith in
        let even : z % 2 ≡ 0 = omega (arith, odd) in
        let same : suc z / 2 ^ 12 ≡ z / 2 ^ 12 = omega arith in
        rw (shifted-is entry x z h e q, low, above, q, same)
