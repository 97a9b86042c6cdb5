-- An ordinary entry made of a valid kernel entry, and one whose frame is pending.
use Prim.Native.Nat.{ℕ, zero, suc, ◌+◌, ◌*◌, ◌/◌, ◌%◌, ◌^◌, ◌≤◌, ◌<◌}
use mathlib.Core.Bool.{Bool, true, false, not, cond, ◌||◌}
use mathlib.Core.Path.{◌≡◌, refl, ap, ap₂, ◌∙◌}
use native.Mathlib.Omega.{arith}
use lib.Bits.{bit_or, or_block, or_zero_r}
use Rattle.model.specs.Basics.{bit, either, flag}
use Rattle.model.specs.Bits.{writable, user_bit, write_through, cache_disable, no_execute, frame_of, fields_of, valid, ordinary_no_execute, ordinary, inspected}
use Rattle.laws.proofs.VectorLaws.{flag-weight, flag_small, flag-bit}
use Rattle.laws.proofs.BitLaws.{valid-parts, lowest, lowest-of}
use Rattle.entry.proofs.ApartLaws.{above-12}

-- Bit 63 set beside what it was.
top_set : (c : ℕ) (b t : Bool) → c / 2 ^ 63 ≡ flag t 0 → bit_or c (cond b (2 ^ 63) 0) ≡ c % 2 ^ 63 + flag (either t b) 63
unfolding flag either
top_set c false true p = or_zero_r c ∙ omega arith
top_set c false false p = or_zero_r c ∙ omega arith
top_set c true t p =
    let parts : c ≡ flag t 0 * 2 ^ 63 + c % 2 ^ 63 = omega arith in
    ap (λ (x : ℕ). bit_or x (2 ^ 63)) parts ∙ or_block 63 (flag t 0) 1 (c % 2 ^ 63) 0 (omega arith) (omega arith)
    ∙ by t
  where
    by : (t : Bool) → bit_or (flag t 0) 1 * 2 ^ 63 + bit_or (c % 2 ^ 63) 0 ≡ c % 2 ^ 63 + flag (either t true) 63
    by true = rw (or_zero_r (c % 2 ^ 63)) (omega arith)
    by false = rw (or_zero_r (c % 2 ^ 63)) (omega arith)

-- Bit 63 of an ordinary entry: the kernel entry's own, and set in kernel mode and where bit 2 is clear.
ordinary-bit : (user bit9 bit2 : Bool) → either bit9 (not user || not bit2) ≡ ordinary_no_execute user bit9 bit2
unfolding ordinary_no_execute either
ordinary-bit false true bit2 = refl
ordinary-bit false false bit2 = refl
ordinary-bit true true bit2 = refl
ordinary-bit true false bit2 = refl

-- A top bit t, a frame f, r below bit 5 and t again at bit 9, taken apart at bit 63.
parts-63 : (t f r : ℕ) → t < 2 → f < 2 ^ 40 → r < 2 ^ 5
    → (((t * 2 ^ 51 + f) * 2 ^ 12 + r + t * 2 ^ 9) / 2 ^ 63 ≡ t) × (((t * 2 ^ 51 + f) * 2 ^ 12 + r + t * 2 ^ 9) % 2 ^ 63 ≡ r + t * 2 ^ 9 + f * 2 ^ 12)
parts-63 zero f r a b c = (omega arith, omega arith)
parts-63 (suc zero) f r a b c = (omega arith, omega arith)
parts-63 (suc (suc t)) f r a b c = absurd (omega arith)

-- A number shifted by 12, with what stands below it, fits 64 bits.
pub copied_fits : (y r w : ℕ) → y < 2 ^ 52 → r < 2 ^ 5 → w < 2 ^ 10 → y * 2 ^ 12 + r + w < 2 ^ 64
copied_fits y r w a b c = omega arith

-- A valid entry has nothing between its frame and bit 63, so that a shift brings bit 63 to bit 9 and nothing else with it.
top-to-9 : (entry : ℕ) → entry < 2 ^ 64 → valid entry ≡ true → entry / 2 ^ 54 ≡ entry / 2 ^ 63 * 2 ^ 9
unfolding frame_of
top-to-9 entry h p = let parts : entry / 2 ^ 12 ≡ entry / 2 ^ 63 * 2 ^ 51 + frame_of entry = above-12 entry p in omega (arith, parts)

-- An ordinary entry: what a valid entry has at bits 0 to 4 and from bit 12 on, and bit 63 copied to bit 9.
pub ordinary_is : (user : Bool) (entry : ℕ) (u : Bool) (w : ℕ) → entry < 2 ^ 64 → valid entry ≡ true → u ≡ user_bit entry
    → w ≡ cond (not user || not u) (2 ^ 63) 0
    → bit_or (entry / 2 ^ 12 * 2 ^ 12 + entry % 2 ^ 5 + entry / 2 ^ 54) w ≡ ordinary user (fields_of entry)
unfolding ordinary fields_of writable user_bit write_through cache_disable no_execute frame_of
ordinary_is user entry u w h p q r =
    let t : ℕ = entry / 2 ^ 63 in
    let f : ℕ = frame_of entry in
    let odd : entry % 2 ≡ 1 = (valid-parts entry p).0 in
    let top : t ≡ flag (bit 63 entry) 0 = omega (arith, flag-bit 63 entry) in
    let (high, low) = parts-63 t f (entry % 2 ^ 5) (omega arith) (omega arith) (omega arith) in
    let flags : entry % 2 ^ 5 + t * 2 ^ 9 + f * 2 ^ 12 ≡ lowest (fields_of entry) + flag (bit 63 entry) 9 + f * 2 ^ 12 =
    rw (flag-weight (bit 63 entry) 9, top, lowest-of entry odd) in
    let set : Bool = not user || not (bit 2 entry) in
    rw (r, q, top-to-9 entry h p)
    (ap (λ (y : ℕ). bit_or (y * 2 ^ 12 + entry % 2 ^ 5 + t * 2 ^ 9) (cond set (2 ^ 63) 0)) (above-12 entry p)
    ∙ top_set ((t * 2 ^ 51 + f) * 2 ^ 12 + entry % 2 ^ 5 + t * 2 ^ 9) set (bit 63 entry) (high ∙ top)
    ∙ ap₂ (λ (a : ℕ) (b : Bool). a + flag b 63) (low ∙ flags) (ordinary-bit user (bit 63 entry) (bit 2 entry)))

-- One whose frame is pending: bit 1 clear, bits 9 and 63 set.
parts-pending : (t f r : ℕ) → t < 2 → f < 2 ^ 40 → r < 2 ^ 10
    → (((t * 2 ^ 51 + f) * 2 ^ 12 + r) / 2 ^ 63 ≡ t) × (((t * 2 ^ 51 + f) * 2 ^ 12 + r) % 2 ^ 63 ≡ r + f * 2 ^ 12)
parts-pending zero f r a b c = (omega arith, omega arith)
parts-pending (suc zero) f r a b c = (omega arith, omega arith)
parts-pending (suc (suc t)) f r a b c = absurd (omega arith)

top-on : (t : Bool) → either t true ≡ true
unfolding either
top-on true = refl
top-on false = refl

-- Bits 2 to 4 of a number by its digits.
bits-kept : (r w u t c : ℕ) → w ≤ 1 → r ≡ 1 + w * 2 + u * 4 + t * 8 + c * 16 → r / 4 * 4 ≡ u * 4 + t * 8 + c * 16
bits-kept r w u t c h e = omega arith

pub inspected_is : (entry : ℕ) → entry < 2 ^ 64 → valid entry ≡ true
    → bit_or (entry / 2 ^ 12 * 2 ^ 12 + entry % 2 ^ 5 / 2 ^ 2 * 2 ^ 2 + 2 ^ 0 + 2 ^ 9) (2 ^ 63) ≡ ordinary true (inspected (fields_of entry))
unfolding ordinary inspected fields_of writable user_bit write_through cache_disable no_execute frame_of ordinary_no_execute either flag
inspected_is entry h p =
    let t : ℕ = entry / 2 ^ 63 in
    let f : ℕ = frame_of entry in
    let r : ℕ = entry % 2 ^ 5 / 4 * 4 + 1 + 2 ^ 9 in
    let odd : entry % 2 ≡ 1 = (valid-parts entry p).0 in
    let top : t ≡ flag (bit 63 entry) 0 = omega (arith, flag-bit 63 entry) in
    let (high, low) = parts-pending t f r (omega arith) (omega arith) (omega arith) in
    let shape : entry / 2 ^ 12 * 2 ^ 12 + entry % 2 ^ 5 / 4 * 4 + 1 + 2 ^ 9 ≡ (t * 2 ^ 51 + f) * 2 ^ 12 + r =
    ap (λ (y : ℕ). y * 2 ^ 12 + entry % 2 ^ 5 / 4 * 4 + 1 + 2 ^ 9) (above-12 entry p) ∙ omega arith in
    let low_bits : entry % 2 ^ 5 / 4 * 4 ≡ flag (bit 2 entry) 2 + flag (bit 3 entry) 3 + flag (bit 4 entry) 4 =
    bits-kept (entry % 2 ^ 5) (flag (bit 1 entry) 0) (flag (bit 2 entry) 0) (flag (bit 3 entry) 0) (flag (bit 4 entry) 0) (flag_small (bit 1 entry))
    (lowest-of entry odd ∙ omega (arith, flag-weight (bit 1 entry) 1, flag-weight (bit 2 entry) 2, flag-weight (bit 3 entry) 3, flag-weight (bit 4 entry) 4))
    ∙ omega (arith, flag-weight (bit 2 entry) 2, flag-weight (bit 3 entry) 3, flag-weight (bit 4 entry) 4) in
    ap (λ (x : ℕ). bit_or x (2 ^ 63)) shape
    ∙ top_set ((t * 2 ^ 51 + f) * 2 ^ 12 + r) true (bit 63 entry) (high ∙ top)
    ∙ omega (arith, low, low_bits, ap (λ (b : Bool). flag b 63) (top-on (bit 63 entry)))
