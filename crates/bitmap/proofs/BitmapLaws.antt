-- A law for each answer of this crate's functions: a frame's bit read, set and cleared, in a byte of the vector and past its end.
use Prim.Native.Nat.{ℕ, ◌+◌, ◌-◌, ◌*◌, ◌/◌, ◌%◌, ◌^◌, ◌≤◌, ◌<◌}
use mathlib.Core.Bool.{Bool, true, false, cond}
use mathlib.Core.List.{List}
use mathlib.Core.Path.{◌≡◌, sym, ap}
use native.Mathlib.Nat.{zero-div}
use native.Mathlib.Omega.{arith}
use Rattle.std.proofs.lemmas.Nat.{and-not}
use lib.Bits.{bit_and, bit_or, or_add_and, and_high, and_comm}
use lib.Dec.{eqb}
use lib.ListN.{length, get_or, set, get_or-eq_default}
use lib.Seq.{set_out}
use Rattle.model.specs.Basics.{bit, flag}
use Rattle.model.specs.Guard.{has_bit, byte_of, with_bit}
use Rattle.laws.proofs.VectorLaws.{below8, flag-bit, byte_of-sum, byte_of-bits}

-- The or of a byte with the weight of bit k sets bit k and keeps the others.
module _ (b : ℕ) (small : b < 256) where
  set_bit : ℕ → ℕ → Bool
  set_bit k j = cond (eqb j k) true (bit j b)

  or-sum : (k : ℕ) → bit_or b (2 ^ (1 + k) - 2 ^ k) + flag (bit k b) 0 * 2 ^ k ≡ b + (2 ^ (1 + k) - 2 ^ k)
  or-sum k = rw (flag-bit, ← and_high b 1 k) (or_add_and b (2 ^ (1 + k) - 2 ^ k))

  pub or-bit : (k : ℕ) → k < 8 → bit_or b (1 * 2 ^ k % 256) ≡ byte_of (λ j. cond (eqb j k) true (bit j b))
  unfolding set_bit flag
  or-bit =
      let whole : byte_of (λ j. bit j b) ≡ b = byte_of-bits b small in
      let old = (byte_of-sum (λ j. bit j b)).0 in
      below8 (λ k. bit_or b (1 * 2 ^ k % 256) ≡ byte_of (set_bit k))
      (omega (arith, or-sum 0, (byte_of-sum (set_bit 0)).0)) (omega (arith, or-sum 1, (byte_of-sum (set_bit 1)).0))
      (omega (arith, or-sum 2, (byte_of-sum (set_bit 2)).0)) (omega (arith, or-sum 3, (byte_of-sum (set_bit 3)).0))
      (omega (arith, or-sum 4, (byte_of-sum (set_bit 4)).0)) (omega (arith, or-sum 5, (byte_of-sum (set_bit 5)).0))
      (omega (arith, or-sum 6, (byte_of-sum (set_bit 6)).0)) (omega (arith, or-sum 7, (byte_of-sum (set_bit 7)).0))

  -- The and with all bits but that one clears it.
  clear_bit : ℕ → ℕ → Bool
  clear_bit k j = cond (eqb j k) false (bit j b)

  but-bit : (k : ℕ) → 2 ^ (1 + k) - 2 ^ k < 256 → bit_and b (255 - (2 ^ (1 + k) - 2 ^ k)) + flag (bit k b) 0 * 2 ^ k ≡ b
  but-bit k h =
      let w : ℕ = 2 ^ (1 + k) - 2 ^ k in
      rw (flag-bit, ← and_high b 1 k, and_comm b (255 - w), and_comm b w) (and-not 8 w b h small)

  pub and-bit : (k : ℕ) → k < 8 → bit_and b (255 - 1 * 2 ^ k % 256) ≡ byte_of (λ j. cond (eqb j k) false (bit j b))
  unfolding clear_bit flag
  and-bit =
      let whole : byte_of (λ j. bit j b) ≡ b = byte_of-bits b small in
      let old = (byte_of-sum (λ j. bit j b)).0 in
      below8 (λ k. bit_and b (255 - 1 * 2 ^ k % 256) ≡ byte_of (clear_bit k))
      (omega (arith, but-bit 0 (omega arith), (byte_of-sum (clear_bit 0)).0)) (omega (arith, but-bit 1 (omega arith), (byte_of-sum (clear_bit 1)).0))
      (omega (arith, but-bit 2 (omega arith), (byte_of-sum (clear_bit 2)).0)) (omega (arith, but-bit 3 (omega arith), (byte_of-sum (clear_bit 3)).0))
      (omega (arith, but-bit 4 (omega arith), (byte_of-sum (clear_bit 4)).0)) (omega (arith, but-bit 5 (omega arith), (byte_of-sum (clear_bit 5)).0))
      (omega (arith, but-bit 6 (omega arith), (byte_of-sum (clear_bit 6)).0)) (omega (arith, but-bit 7 (omega arith), (byte_of-sum (clear_bit 7)).0))

-- A frame's bit, in a byte of the vector and past its end.
pub no_bit_past : (x : List ℕ) (f : ℕ) → length x ≤ f / 8 → has_bit x f ≡ false
unfolding has_bit bit
no_bit_past x f past = rw (get_or-eq_default x 0 past, zero-div)

pub with_bit_past : (b : Bool) (x : List ℕ) (f : ℕ) → length x ≤ f / 8 → with_bit b x f ≡ x
unfolding with_bit
with_bit_past b x f past = set_out x (f / 8) _ past

pub bit_set : (x : List ℕ) (f : ℕ) → get_or x (f / 8) 0 < 256
    → with_bit true x f ≡ set x (f / 8) (bit_or (get_or x (f / 8) 0) (1 * 2 ^ (f % 8) % 256))
unfolding with_bit
bit_set x f small = sym (ap (set x (f / 8)) (or-bit (get_or x (f / 8) 0) small (f % 8) (omega arith)))

pub bit_cleared : (x : List ℕ) (f : ℕ) → get_or x (f / 8) 0 < 256
    → with_bit false x f ≡ set x (f / 8) (bit_and (get_or x (f / 8) 0) (255 - 1 * 2 ^ (f % 8) % 256))
unfolding with_bit
bit_cleared x f small = sym (ap (set x (f / 8)) (and-bit (get_or x (f / 8) 0) small (f % 8) (omega arith)))
