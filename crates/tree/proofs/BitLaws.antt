-- The bits of rights gathered in words, of a flat entry and of a large page's entry.
use Rattle.std.specs.Prelude.{None, Some, Option}
use Prim.Native.Nat.{ℕ, zero, suc, ◌+◌, ◌*◌, ◌/◌, ◌%◌, ◌^◌, ◌<◌}
use mathlib.Core.Bool.{Bool, true, false, cond}
use mathlib.Core.Logic.{◌⊎◌, inl, inr}
use mathlib.Core.Path.{◌≡◌, refl, sym, ap, ap₂, ◌∙◌}
use native.Mathlib.Omega.{arith}
use lib.Bits.{bit_and, bit_or, and_shr, or_shr, and_mod, or_mod, or_lt, or_comm, or_zero_r, or_block}
use lib.Dec.{eqb}
use Rattle.model.specs.declared.Fields.{Fields}
use Rattle.model.specs.Basics.{both, either, bit, flag}
use Rattle.model.specs.Bits.{present, writable, user_bit, write_through, cache_disable, no_execute, frame_of, fields_of, reserved, valid, taken_apart}
use Rattle.model.specs.Tree.{Rights, gathered, flat_entry}
use Rattle.laws.proofs.VectorLaws.{flag-weight, flag-bit}
use Rattle.laws.proofs.BitLaws.{bits_below, taken-apart, present-valid, valid-parts}
use Rattle.tree.specs.Parts.{rights_by, last_flat}

-- What is made of two digits, by the four cases.
two_digits : (f : ℕ → ℕ → ℕ) (g : Bool → Bool → Bool) → eqb (f 0 0) 1 ≡ g false false → eqb (f 0 1) 1 ≡ g false true → eqb (f 1 0) 1 ≡ g true false
    → eqb (f 1 1) 1 ≡ g true true → (x y : ℕ) → x < 2 → y < 2 → eqb (f x y) 1 ≡ g (eqb x 1) (eqb y 1)
two_digits f g a b c d zero zero p q = a
two_digits f g a b c d zero (suc zero) p q = b
two_digits f g a b c d (suc zero) zero p q = c
two_digits f g a b c d (suc zero) (suc zero) p q = d
two_digits f g a b c d (suc (suc x)) y p q = absurd (omega arith)
two_digits f g a b c d zero (suc (suc y)) p q = absurd (omega arith)
two_digits f g a b c d (suc zero) (suc (suc y)) p q = absurd (omega arith)

-- A bit of what two words have together, and of what either has.
bit-both : (k a b : ℕ) → bit k (bit_and a b) ≡ both (bit k a) (bit k b)
unfolding bit both
bit-both k a b =
    ap (λ (d : ℕ). eqb d 1) (ap (λ (x : ℕ). x % 2) (and_shr a b k) ∙ and_mod (a / 2 ^ k) (b / 2 ^ k) 1)
    ∙ two_digits bit_and both refl refl refl refl (a / 2 ^ k % 2) (b / 2 ^ k % 2) (omega arith) (omega arith)

bit-either : (k a b : ℕ) → bit k (bit_or a b) ≡ either (bit k a) (bit k b)
unfolding bit either
bit-either k a b =
    ap (λ (d : ℕ). eqb d 1) (ap (λ (x : ℕ). x % 2) (or_shr a b k) ∙ or_mod (a / 2 ^ k) (b / 2 ^ k) 1)
    ∙ two_digits bit_or either refl refl refl refl (a / 2 ^ k % 2) (b / 2 ^ k % 2) (omega arith) (omega arith)

-- The rights that an entry of level 1 or 2 leaves, gathered in words.
pub gathered-by : (level all any entry : ℕ) → eqb level 3 ≡ false
    → gathered level (rights_by all any) (fields_of entry) ≡ rights_by (bit_and all entry) (bit_or any entry)
unfolding gathered rights_by fields_of writable user_bit no_execute
gathered-by level all any entry e = rw (e, bit-both 1 all entry, bit-both 2 all entry, bit-either 63 any entry)

-- A bit's weight where it is set, as a digit of the word.
weight : (k x : ℕ) → flag (bit k x) k ≡ x / 2 ^ k % 2 * 2 ^ k
weight k x = flag-weight (bit k x) k ∙ ap (λ (d : ℕ). d * 2 ^ k) (flag-bit k x)

-- A flat entry's bits: those of an entry, of what all entries have, and of what any has.
sums : (a o entry : ℕ) → o < 2 ^ 64
    → frame_of entry * 2 ^ 12 + entry / 2 ^ 3 % 4 * 2 ^ 3 + a / 2 % 4 * 2 + 1 + o / 2 ^ 63 * 2 ^ 63
    ≡ flat_entry (rights_by a o) (fields_of entry) (fields_of entry).frame
unfolding flat_entry rights_by fields_of write_through cache_disable
sums a o entry h =
    let caches : entry / 2 ^ 3 % 4 * 2 ^ 3 ≡ entry / 2 ^ 3 % 2 * 2 ^ 3 + entry / 2 ^ 4 % 2 * 2 ^ 4 = omega arith in
    let rights : a / 2 % 4 * 2 ≡ a / 2 ^ 1 % 2 * 2 ^ 1 + a / 2 ^ 2 % 2 * 2 ^ 2 = omega arith in
    let top : o / 2 ^ 63 * 2 ^ 63 ≡ o / 2 ^ 63 % 2 * 2 ^ 63 = omega arith in
    rw (weight 1 a, weight 2 a, weight 3 entry, weight 4 entry, weight 63 o, caches, rights, top)
    (total (frame_of entry * 2 ^ 12) (entry / 2 ^ 3 % 2 * 2 ^ 3) (entry / 2 ^ 4 % 2 * 2 ^ 4) (a / 2 ^ 1 % 2 * 2 ^ 1) (a / 2 ^ 2 % 2 * 2 ^ 2)
    (o / 2 ^ 63 % 2 * 2 ^ 63))
  where
    total : (f t c w u n : ℕ) → f + (t + c) + (w + u) + 1 + n ≡ 2 ^ 0 + w + u + t + c + f + n
    total f t c w u n = omega arith

-- The flat entry of a last entry that is present.
flat-present : (all any entry : ℕ) → any < 2 ^ 64 → entry < 2 ^ 64 → taken_apart entry ≡ Some (fields_of entry)
    → frame_of entry * 2 ^ 12 + entry / 2 ^ 3 % 4 * 2 ^ 3 + bit_and all entry / 2 % 4 * 2 + 1 + bit_or any entry / 2 ^ 63 * 2 ^ 63
    ≡ last_flat (rights_by all any) (taken_apart entry)
unfolding last_flat fields_of
flat-present all any entry l m there =
    let top : bit_or any entry < 2 ^ 64 = or_lt 64 any entry l m in
    rw (there, gathered-by 1 all any entry refl) (sums (bit_and all entry) (bit_or any entry) entry top)

-- The flat entry of a valid last entry: bit 63 is set beside what it was, and below it stand the frame and the low bits.
pub flat_made : (all any entry : ℕ) → any < 2 ^ 64 → entry < 2 ^ 64 → valid entry ≡ true
    → bit_or (entry / 2 ^ 12 * 2 ^ 12 + entry / 2 ^ 3 % 4 * 2 ^ 3 + bit_and all entry / 2 % 4 * 2 + entry % 2) (any / 2 ^ 63 * 2 ^ 63)
    ≡ last_flat (rights_by all any) (taken_apart entry)
unfolding taken_apart fields_of frame_of
flat_made all any entry l m fits =
    let parts : (entry % 2 ≡ 1) × (entry / 2 ^ 52 % 2 ^ 11 ≡ 0) = valid-parts entry fits in
    let r : ℕ = bit_and all entry / 2 % 4 in
    let t : ℕ = entry / 2 ^ 3 % 4 in
    let low : ℕ = entry / 2 ^ 12 % 2 ^ 40 * 2 ^ 12 + t * 2 ^ 3 + r * 2 + 1 in
    let there : taken_apart entry ≡ Some (fields_of entry) = rw fits in
    let split : entry / 2 ^ 12 * 2 ^ 12 + t * 2 ^ 3 + r * 2 + entry % 2 ≡ entry / 2 ^ 63 * 2 ^ 63 + low = pieces entry t r parts.0 parts.1 in
    let small : low < 2 ^ 63 = under (entry / 2 ^ 12 % 2 ^ 40) t r (omega arith) (omega arith) (omega arith) in
    let zeros : any / 2 ^ 63 * 2 ^ 63 ≡ any / 2 ^ 63 * 2 ^ 63 + 0 = omega arith in
    let top : bit_or (entry / 2 ^ 63) (any / 2 ^ 63) ≡ bit_or any entry / 2 ^ 63 = or_comm (entry / 2 ^ 63) (any / 2 ^ 63) ∙ sym (or_shr any entry 63) in
    ap₂ bit_or split zeros ∙ or_block 63 (entry / 2 ^ 63) (any / 2 ^ 63) low 0 small (omega arith) ∙ ap₂ (λ (a b : ℕ). a * 2 ^ 63 + b) top (or_zero_r low)
    ∙ swap (bit_or any entry / 2 ^ 63 * 2 ^ 63) low ∙ flat-present all any entry l m there
  where
    pieces : (e t r : ℕ) → e % 2 ≡ 1 → e / 2 ^ 52 % 2 ^ 11 ≡ 0
        → e / 2 ^ 12 * 2 ^ 12 + t * 2 ^ 3 + r * 2 + e % 2 ≡ e / 2 ^ 63 * 2 ^ 63 + (e / 2 ^ 12 % 2 ^ 40 * 2 ^ 12 + t * 2 ^ 3 + r * 2 + 1)
    pieces e t r odd none =
        let a : e / 2 ^ 12 ≡ e / 2 ^ 52 * 2 ^ 40 + e / 2 ^ 12 % 2 ^ 40 = omega arith in
        let b : e / 2 ^ 52 ≡ e / 2 ^ 63 * 2 ^ 11 + e / 2 ^ 52 % 2 ^ 11 = omega arith in
        omega (arith, a, b, odd, none)

    under : (f t r : ℕ) → f < 2 ^ 40 → t < 4 → r < 4 → f * 2 ^ 12 + t * 2 ^ 3 + r * 2 + 1 < 2 ^ 63
    under f t r p q s = omega arith

    swap : (a b : ℕ) → a + b ≡ b + a
    swap a b = omega arith

-- A large page's entry with a page's low nine bits added to its frame, whose own low nine bits are 0.
module _ (entry q : ℕ) (aligned : entry % 2 ^ 21 < 2 ^ 12) (small : q < 512) where
  abbrev added : ℕ
  added = entry + q * 2 ^ 12

  added-low : (k : ℕ) → k < 12 → bit k added ≡ bit k entry
  added-low k l = bits_below 12 added entry (omega arith) k l

  added-high : added / 2 ^ 21 ≡ entry / 2 ^ 21
  added-high = omega arith

  added-52 : added / 2 ^ 52 ≡ entry / 2 ^ 52
  added-52 =
      let a : added / 2 ^ 52 ≡ added / 2 ^ 21 / 2 ^ 31 = omega arith in
      let b : entry / 2 ^ 52 ≡ entry / 2 ^ 21 / 2 ^ 31 = omega arith in
      a ∙ ap (λ (x : ℕ). x / 2 ^ 31) added-high ∙ sym b

  added-63 : added / 2 ^ 63 ≡ entry / 2 ^ 63
  added-63 =
      let a : added / 2 ^ 63 ≡ added / 2 ^ 52 / 2 ^ 11 = omega arith in
      let b : entry / 2 ^ 63 ≡ entry / 2 ^ 52 / 2 ^ 11 = omega arith in
      a ∙ ap (λ (x : ℕ). x / 2 ^ 11) added-52 ∙ sym b

  added-top : bit 63 added ≡ bit 63 entry
  unfolding bit
  added-top = rw added-63

  added-frame : frame_of added ≡ frame_of entry + q
  unfolding frame_of
  added-frame =
      let a : added / 2 ^ 12 ≡ entry / 2 ^ 21 * 2 ^ 9 + q = omega arith in
      let b : entry / 2 ^ 12 ≡ entry / 2 ^ 21 * 2 ^ 9 = omega arith in
      rw (a, b) (place (entry / 2 ^ 21))
    where
      place : (z : ℕ) → (z * 2 ^ 9 + q) % 2 ^ 40 ≡ z * 2 ^ 9 % 2 ^ 40 + q
      place z = omega arith

  added-valid : valid added ≡ valid entry
  unfolding valid present reserved
  added-valid = rw (added-low 0 (omega arith), added-52)

  pub added-last : (rights : Rights) → valid entry ≡ true
      → last_flat rights (taken_apart added) ≡ flat_entry (gathered 1 rights (fields_of entry)) (fields_of entry) ((fields_of entry).frame + q)
  unfolding last_flat taken_apart fields_of flat_entry gathered writable user_bit write_through cache_disable no_execute
  added-last rights p =
      rw (added-valid, p)
      (rw (added-low 1 (omega arith), added-low 2 (omega arith), added-low 3 (omega arith), added-low 4 (omega arith), added-frame, added-top))

bit-63 : (x y : ℕ) → x / 2 ^ 63 ≡ y / 2 ^ 63 → bit 63 x ≡ bit 63 y
unfolding bit
bit-63 x y e = ap (λ (d : ℕ). eqb (d % 2) 1) e

-- Two entries with the same bits 0 to 4, 52 to 63 and frame are taken apart alike.
pub apart-by-bits : (x y : ℕ) → x % 2 ^ 5 ≡ y % 2 ^ 5 → x / 2 ^ 12 % 2 ^ 40 ≡ y / 2 ^ 12 % 2 ^ 40 → x / 2 ^ 52 % 2 ^ 11 ≡ y / 2 ^ 52 % 2 ^ 11
    → bit 63 x ≡ bit 63 y → taken_apart x ≡ taken_apart y
unfolding taken_apart valid present reserved fields_of writable user_bit write_through cache_disable no_execute frame_of
apart-by-bits x y low frame high top =
    rw (
      bits_below 5 x y low 0 (omega arith),
      bits_below 5 x y low 1 (omega arith),
      bits_below 5 x y low 2 (omega arith),
      bits_below 5 x y low 3 (omega arith),
      bits_below 5 x y low 4 (omega arith),
      frame,
      high,
      top,
    )

pub apart-same : (x y : ℕ) → x % 2 ^ 5 ≡ y % 2 ^ 5 → x / 2 ^ 12 % 2 ^ 40 ≡ y / 2 ^ 12 % 2 ^ 40 → x / 2 ^ 52 % 2 ^ 11 ≡ y / 2 ^ 52 % 2 ^ 11
    → x / 2 ^ 63 ≡ y / 2 ^ 63 → taken_apart x ≡ taken_apart y
apart-same x y low frame high top = apart-by-bits x y low frame high (bit-63 x y top)

-- What stands below bit 63, and what from bit 3 on, of a number.
module _ (x : ℕ) where
  frame_below : x % 2 ^ 63 / 2 ^ 12 % 2 ^ 40 ≡ x / 2 ^ 12 % 2 ^ 40
  frame_below = omega arith

  reserved-below : x % 2 ^ 63 / 2 ^ 52 % 2 ^ 11 ≡ x / 2 ^ 52 % 2 ^ 11
  reserved-below = omega arith

  low_below : x % 2 ^ 63 % 2 ^ 5 ≡ x % 2 ^ 5
  low_below = omega arith

  frame-from : x / 2 ^ 12 % 2 ^ 40 ≡ x / 2 ^ 3 / 2 ^ 9 % 2 ^ 40
  frame-from = omega arith

  reserved-from : x / 2 ^ 52 % 2 ^ 11 ≡ x / 2 ^ 3 / 2 ^ 49 % 2 ^ 11
  reserved-from = omega arith

  top_from : x / 2 ^ 63 ≡ x / 2 ^ 3 / 2 ^ 60
  top_from = omega arith

-- The digits of a flat entry.
flat-digits : (f t r o : ℕ) → f < 2 ^ 40 → t < 4 → r < 4 → o < 2
    → let flat : ℕ = f * 2 ^ 12 + t * 2 ^ 3 + r * 2 + 1 + o * 2 ^ 63 in
    (flat % 2 ^ 5 ≡ t * 2 ^ 3 + r * 2 + 1) × (flat / 2 ^ 12 % 2 ^ 40 ≡ f) × (flat / 2 ^ 52 % 2 ^ 11 ≡ 0) × (flat / 2 ^ 63 ≡ o)
flat-digits f t r o a b c d = (omega arith, omega arith, omega arith, omega arith)

-- An entry that is valid where an absent one is, is absent.
there : Option Fields → Bool
there None = false
there (Some x) = true

absent-same : (x y : ℕ) → valid x ≡ valid y → taken_apart y ≡ None → taken_apart x ≡ taken_apart 0
unfolding taken_apart valid present reserved bit both there
absent-same x y e p = rw (e ∙ by (valid y) ∙ ap there p)
  where
    by : (b : Bool) → b ≡ there (cond b (Some (fields_of y)) None)
    by true = refl
    by false = refl

-- An entry narrowed to the rights from above.
module _ (all any entry : ℕ) (l : any < 2 ^ 64) (m : entry < 2 ^ 64) where
  abbrev kept : ℕ
  kept = entry / 2 ^ 3 * 2 ^ 3 + bit_and all entry / 2 % 4 * 2 + entry % 2

  abbrev narrowed : ℕ
  narrowed = bit_or kept (any / 2 ^ 63 * 2 ^ 63)

  -- Below bit 63 it is what is kept, and bit 63 is set beside what it was.
  kept_high : kept / 2 ^ 3 ≡ entry / 2 ^ 3
  kept_high = omega arith

  below-63 : narrowed % 2 ^ 63 ≡ kept % 2 ^ 63
  below-63 =
      let none : any / 2 ^ 63 * 2 ^ 63 % 2 ^ 63 ≡ 0 = omega arith in
      or_mod kept (any / 2 ^ 63 * 2 ^ 63) 63 ∙ ap (bit_or (kept % 2 ^ 63)) none ∙ or_zero_r (kept % 2 ^ 63)

  at-63 : narrowed / 2 ^ 63 ≡ bit_or any entry / 2 ^ 63
  at-63 =
      let a : kept / 2 ^ 63 ≡ entry / 2 ^ 63 = top_from kept ∙ ap (λ (x : ℕ). x / 2 ^ 60) kept_high ∙ sym (top_from entry) in
      let b : any / 2 ^ 63 * 2 ^ 63 / 2 ^ 63 ≡ any / 2 ^ 63 = omega arith in
      or_shr kept (any / 2 ^ 63 * 2 ^ 63) 63 ∙ ap₂ bit_or a b ∙ or_comm (entry / 2 ^ 63) (any / 2 ^ 63) ∙ sym (or_shr any entry 63)

  narrowed-frame : narrowed / 2 ^ 12 % 2 ^ 40 ≡ entry / 2 ^ 12 % 2 ^ 40
  narrowed-frame =
      sym (frame_below narrowed) ∙ ap (λ (x : ℕ). x / 2 ^ 12 % 2 ^ 40) below-63 ∙ frame_below kept
      ∙ frame-from kept ∙ ap (λ (x : ℕ). x / 2 ^ 9 % 2 ^ 40) kept_high ∙ sym (frame-from entry)

  narrowed-reserved : narrowed / 2 ^ 52 % 2 ^ 11 ≡ entry / 2 ^ 52 % 2 ^ 11
  narrowed-reserved =
      sym (reserved-below narrowed) ∙ ap (λ (x : ℕ). x / 2 ^ 52 % 2 ^ 11) below-63 ∙ reserved-below kept
      ∙ reserved-from kept ∙ ap (λ (x : ℕ). x / 2 ^ 49 % 2 ^ 11) kept_high ∙ sym (reserved-from entry)

  abbrev lowest-kept : ℕ
  lowest-kept = entry / 2 ^ 3 % 4 * 2 ^ 3 + bit_and all entry / 2 % 4 * 2 + entry % 2

  narrowed_low : narrowed % 2 ^ 5 ≡ lowest-kept
  narrowed_low =
      let low : kept % 2 ^ 5 ≡ lowest-kept = omega arith in
      sym (low_below narrowed) ∙ ap (λ (x : ℕ). x % 2 ^ 5) below-63 ∙ low_below kept ∙ low

  -- A present entry: the flat entry has the same bits 0 to 4 and 63 and frame, and neither has a reserved bit.
  narrowed-present : taken_apart entry ≡ Some (fields_of entry) → taken_apart narrowed ≡ taken_apart (last_flat (rights_by all any) (taken_apart entry))
  unfolding fields_of frame_of
  narrowed-present there =
      let parts : (entry % 2 ≡ 1) × (entry / 2 ^ 52 % 2 ^ 11 ≡ 0) = valid-parts entry (present-valid entry (fields_of entry) there) in
      let flat : ℕ = frame_of entry * 2 ^ 12 + entry / 2 ^ 3 % 4 * 2 ^ 3 + bit_and all entry / 2 % 4 * 2 + 1 + bit_or any entry / 2 ^ 63 * 2 ^ 63 in
      let o : bit_or any entry < 2 ^ 64 = or_lt 64 any entry l m in
      let same : flat ≡ last_flat (rights_by all any) (taken_apart entry) = flat-present all any entry l m there in
      let d =
      flat-digits (frame_of entry) (entry / 2 ^ 3 % 4) (bit_and all entry / 2 % 4) (bit_or any entry / 2 ^ 63) (omega arith) (omega arith) (omega arith)
      (omega arith) in
      apart-same narrowed flat (narrowed_low ∙ ap (λ (x : ℕ). entry / 2 ^ 3 % 4 * 2 ^ 3 + bit_and all entry / 2 % 4 * 2 + x) parts.0 ∙ sym d.0)
      (narrowed-frame ∙ sym d.1) (narrowed-reserved ∙ parts.1 ∙ sym d.2) (at-63 ∙ sym d.3)
      ∙ ap taken_apart same

  -- An absent one: it has the same bit 0 and the same reserved bits.
  narrowed-valid : valid narrowed ≡ valid entry
  unfolding valid present reserved
  narrowed-valid =
      let low : narrowed % 2 ^ 1 ≡ entry % 2 ^ 1 = omega (arith, narrowed_low) in
      rw (bits_below 1 narrowed entry low 0 (omega arith), narrowed-reserved)

  pub narrowed_apart : taken_apart narrowed ≡ taken_apart (last_flat (rights_by all any) (taken_apart entry))
  unfolding last_flat
  narrowed_apart = by (taken-apart entry)
    where
      by : (taken_apart entry ≡ None) ⊎ (taken_apart entry ≡ Some (fields_of entry))
          → taken_apart narrowed ≡ taken_apart (last_flat (rights_by all any) (taken_apart entry))
      by (inl absent) = rw absent (absent-same narrowed entry narrowed-valid absent)
      by (inr there) = narrowed-present there
