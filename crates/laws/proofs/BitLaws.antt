-- Laws of the bits of entries: those of an approved and of an ordinary entry, and those that a mode switch keeps and sets. What is said of several
-- bits is said once, of the bit.
use Rattle.std.specs.Prelude.{None, Some, Option}
use Prim.Native.Nat.{ℕ, zero, suc, ◌+◌, ◌-◌, ◌*◌, ◌/◌, ◌%◌, ◌^◌, ◌≤◌, ◌<◌}
use mathlib.Core.Bool.{Bool, true, false, cond}
use mathlib.Core.Logic.{◌⊎◌, inl, inr}
use mathlib.Core.Path.{◌≡◌, refl, sym, ap, ◌∙◌}
use native.Mathlib.Omega.{arith}
use lib.Pow.{pow-lt, shr_lt, field, mod-mod-pow}
use lib.Dec.{eqb}
use borrow.Author.Tests.{eqb-true}
use Rattle.model.specs.declared.Fields.{Fields}
use Rattle.model.specs.Basics.{bit, flag}
use Rattle.model.specs.Bits.{present, writable, user_bit, write_through, cache_disable, no_execute, frame_of, kernel_no_execute, approved_mark}
use Rattle.model.specs.Bits.{approved_no_execute, approved, fields_of}
use Rattle.model.specs.Bits.{reserved, valid, taken_apart, ordinary_no_execute, ordinary, inspected}
use Rattle.model.specs.Switch.{no_execute_in, switched}
use Rattle.laws.proofs.VectorLaws.{flag-weight, flag_small, flag-test, bits-to}
use Rattle.laws.proofs.QuestionLaws.{both_first, both-second}

-- A bit that is a Boolean's digit, one that is 1 and one that is 0.
pub bit_is : (k x : ℕ) (b : Bool) → x / 2 ^ k % 2 ≡ flag b 0 → bit k x ≡ b
unfolding bit
bit_is k x b h = flag-test b (x / 2 ^ k % 2) h

pub bit-on : (k x : ℕ) → x / 2 ^ k % 2 ≡ 1 → bit k x ≡ true
unfolding flag
bit-on k x h = bit_is k x true h

pub bit-off : (k x : ℕ) → x / 2 ^ k % 2 ≡ 0 → bit k x ≡ false
unfolding flag
bit-off k x h = bit_is k x false h

-- A number has no bit from its length on.
pub bit-above : (k x : ℕ) → x < 2 ^ k → bit k x ≡ false
bit-above k x l =
    let same : 0 + k ≡ k = omega arith in
    let none : x / 2 ^ k < 2 ^ 0 = shr_lt 0 k (rw same l) in
    bit-off k x (omega arith)

-- Two numbers that are the same below bit n agree at each bit there.
pub bits_below : (n x y : ℕ) → x % 2 ^ n ≡ y % 2 ^ n → (k : ℕ) → k < n → bit k x ≡ bit k y
unfolding bit
bits_below n x y e k l = by (n - suc k) (omega arith)
  where
    of : (j z : ℕ) → z % 2 ^ (j + 1 + k) / 2 ^ k % 2 ≡ z / 2 ^ k % 2
    of j z = ap (λ (d : ℕ). d % 2) (field z (j + 1) k) ∙ mod-mod-pow (z / 2 ^ k) j 1

    by : (j : ℕ) → n ≡ j + 1 + k → eqb (x / 2 ^ k % 2) 1 ≡ eqb (y / 2 ^ k % 2) 1
    by j p = ap (λ (d : ℕ). eqb d 1) (sym (of j x) ∙ ap (λ (d : ℕ). d / 2 ^ k % 2) (rw p at e) ∙ of j y)

-- A flag is a digit, 0 or 1, times its weight.
record Digit (b : Bool) (k : ℕ) : Type 0 where
  small : flag b 0 ≤ 1
  weight : flag b k ≡ flag b 0 * 2 ^ k

flag_is : (b : Bool) (k : ℕ) → Digit b k
flag_is b k = record { small = flag_small b; weight = flag-weight b k }

bit-flag : (b : Bool) (x : ℕ) → x < 2 ^ 63 → bit 63 (x + flag b 63) ≡ b
unfolding flag
bit-flag true x h = bit-on 63 (x + 2 ^ 63) (omega arith)
bit-flag false x h = bit-off 63 (x + 0) (omega arith)

-- A kernel entry is taken apart as absent, or as present with its own fields.
pub taken-apart : (entry : ℕ) → (taken_apart entry ≡ None) ⊎ (taken_apart entry ≡ Some (fields_of entry))
unfolding taken_apart
taken-apart entry = by (valid entry)
  where
    by : (b : Bool) → (cond b (Some (fields_of entry)) None ≡ None) ⊎ (cond b (Some (fields_of entry)) None ≡ Some (fields_of entry))
    by true = inr refl
    by false = inl refl

is_present : Option Fields → Bool
is_present None = false
is_present (Some x) = true

pub present-valid : (entry : ℕ) (x : Fields) → taken_apart entry ≡ Some x → valid entry ≡ true
unfolding taken_apart is_present
present-valid entry x p = by (valid entry) ∙ ap is_present p
  where
    by : (b : Bool) → b ≡ is_present (cond b (Some (fields_of entry)) None)
    by true = refl
    by false = refl

-- The fields of a present entry.
held : Fields → Option Fields → Fields
held d None = d
held d (Some x) = x

pub fields-apart : (entry : ℕ) (x : Fields) → taken_apart entry ≡ Some x → fields_of entry ≡ x
unfolding held
fields-apart entry x p = by (taken-apart entry)
  where
    by : (taken_apart entry ≡ None) ⊎ (taken_apart entry ≡ Some (fields_of entry)) → fields_of entry ≡ x
    by (inl e) = ap (held (fields_of entry)) (sym e ∙ p)
    by (inr e) = ap (held (fields_of entry)) (sym e ∙ p)

-- A valid entry is odd, and its reserved bits are 0.
pub valid-parts : (entry : ℕ) → valid entry ≡ true → (entry % 2 ≡ 1) × (entry / 2 ^ 52 % 2 ^ 11 ≡ 0)
unfolding valid present reserved bit
valid-parts entry p =
    let odd : entry / 2 ^ 0 % 2 ≡ 1 = eqb-true (entry / 2 ^ 0 % 2) 1 (both_first _ _ p) in
    (omega arith, eqb-true (entry / 2 ^ 52 % 2 ^ 11) 0 (both-second (eqb (entry / 2 ^ 0 % 2) 1) _ p))

-- An approved entry: "bits 0 and 10, the frame; bit 63 set in user mode only".
module _ (user : Bool) (f : ℕ) where
  pub present-approved : present (approved user f) ≡ true
  unfolding present approved approved_no_execute
  present-approved = bit-on 0 (approved user f) (omega (arith, flag_is user 63))

  pub approved_mark-approved : approved_mark (approved user f) ≡ true
  unfolding approved_mark approved approved_no_execute
  approved_mark-approved = bit-on 10 (approved user f) (omega (arith, flag_is user 63))

  pub frame_of-approved : f < 2 ^ 40 → frame_of (approved user f) ≡ f
  unfolding frame_of approved approved_no_execute
  frame_of-approved h = omega (arith, flag_is user 63)

  pub no_execute-approved : f < 2 ^ 40 → no_execute (approved user f) ≡ user
  unfolding no_execute approved approved_no_execute
  no_execute-approved h = bit-flag user (2 ^ 0 + 2 ^ 10 + f * 2 ^ 12) (omega arith)

  pub approved-none : (k : ℕ) → 1 ≤ k → k < 10 → bit k (approved user f) ≡ false
  unfolding approved approved_no_execute
  approved-none k l h = bits_below 10 (approved user f) 1 (omega (arith, flag_is user 63)) k h ∙ bit-above k 1 (pow-lt l)

-- What fields say of bits 0 to 4.
module _ (x : Fields) where
  abbrev pub lowest : ℕ
  lowest = 2 ^ 0 + flag x.writable 1 + flag x.user 2 + flag x.write_through 3 + flag x.cache_disable 4

  pub lowest-lt : lowest < 2 ^ 5
  lowest-lt =
      omega (arith, flag_is x.writable 1, flag_is x.user 2, flag_is x.write_through 3, flag_is x.cache_disable 4)

-- Bits 0 to 4 of a kernel entry that is present are those that its fields say.
pub lowest-of : (entry : ℕ) → entry % 2 ≡ 1 → entry % 2 ^ 5 ≡ lowest (fields_of entry)
unfolding fields_of writable user_bit write_through cache_disable
lowest-of entry odd =
    rw (bits-to entry 4, bits-to entry 3, bits-to entry 2, bits-to entry 1) (omega arith)

-- Numbers of an ordinary entry: r below bit 5, bit 9, a frame, and bit 63.
module _ (r f : ℕ) (n d : Bool) where
  abbrev whole : ℕ
  whole = r + flag n 9 + f * 2 ^ 12 + flag d 63

  whole-low : r < 2 ^ 5 → whole % 2 ^ 5 ≡ r
  whole-low h = omega (arith, flag_is n 9, flag_is d 63)

  whole-10 : r < 2 ^ 5 → bit 10 whole ≡ false
  whole-10 h = bit-off 10 whole (omega (arith, flag_is n 9, flag_is d 63))

  whole-9 : r < 2 ^ 5 → bit 9 whole ≡ n
  whole-9 h = bit_is 9 whole n (omega (arith, flag-weight n 9, flag_small n, flag_is d 63))

  whole-frame : r < 2 ^ 5 → f < 2 ^ 40 → whole / 2 ^ 12 % 2 ^ 40 ≡ f
  whole-frame h k = omega (arith, flag_is n 9, flag_is d 63)

  whole-63 : r < 2 ^ 5 → f < 2 ^ 40 → bit 63 whole ≡ d
  whole-63 h k = bit-flag d (r + flag n 9 + f * 2 ^ 12) (omega (arith, flag_is n 9))

-- An ordinary entry has these: bits 0 to 4 by its fields, no approved mark, and bit 63 by its own rule.
module _ (user : Bool) (x : Fields) where
  ordinary-low : ordinary user x % 2 ^ 5 ≡ lowest x
  unfolding ordinary
  ordinary-low = whole-low (lowest x) x.frame _ _ (lowest-lt x)

  pub approved_mark-ordinary : approved_mark (ordinary user x) ≡ false
  unfolding approved_mark ordinary
  approved_mark-ordinary = whole-10 (lowest x) x.frame _ _ (lowest-lt x)

  pub no_execute-ordinary : x.frame < 2 ^ 40 → no_execute (ordinary user x) ≡ ordinary_no_execute user x.no_execute x.user
  unfolding no_execute ordinary
  no_execute-ordinary h = whole-63 (lowest x) x.frame _ _ (lowest-lt x) h

  pub kernel_no_execute-ordinary : kernel_no_execute (ordinary user x) ≡ x.no_execute
  unfolding kernel_no_execute ordinary
  kernel_no_execute-ordinary = whole-9 (lowest x) x.frame _ _ (lowest-lt x)

  pub frame_of-ordinary : x.frame < 2 ^ 40 → frame_of (ordinary user x) ≡ x.frame
  unfolding frame_of ordinary
  frame_of-ordinary h = whole-frame (lowest x) x.frame _ _ (lowest-lt x) h

  -- Bits 0 to 4, each by its field.
  ordinary-digits : (k : ℕ) (b : Bool) → ordinary user x % 2 ^ 5 / 2 ^ k % 2 ≡ flag b 0 → k < 5 → bit k (ordinary user x) ≡ b
  ordinary-digits k b e l =
      let same : bit k (ordinary user x) ≡ bit k (ordinary user x % 2 ^ 5) = bits_below 5 (ordinary user x) (ordinary user x % 2 ^ 5) (omega arith) k l in
      same ∙ bit_is k (ordinary user x % 2 ^ 5) b e

  pub present-ordinary : present (ordinary user x) ≡ true
  unfolding present flag
  present-ordinary =
      ordinary-digits 0 true
      (omega (arith, ordinary-low, flag_is x.writable 1, flag_is x.user 2, flag_is x.write_through 3, flag_is x.cache_disable 4)) (omega arith)

  pub writable-ordinary : writable (ordinary user x) ≡ x.writable
  unfolding writable
  writable-ordinary =
      ordinary-digits 1 x.writable
      (omega (arith, ordinary-low, flag_is x.writable 1, flag_is x.user 2, flag_is x.write_through 3, flag_is x.cache_disable 4)) (omega arith)

  pub user_bit-ordinary : user_bit (ordinary user x) ≡ x.user
  unfolding user_bit
  user_bit-ordinary =
      let above : ordinary user x % 2 ^ 5 / 2 ^ 2 ≡ flag x.user 0 + 2 * (flag x.write_through 0 + 2 * flag x.cache_disable 0) =
      omega (arith, ordinary-low, flag_is x.writable 1, flag_is x.user 2, flag_is x.write_through 3, flag_is x.cache_disable 4) in
      ordinary-digits 2 x.user (omega (arith, flag_small x.user)) (omega arith)

-- K6: an entry whose frame is pending has bits 2 to 4 as it would have them else.
same-digit : (k a b : ℕ) → a / 2 ^ k % 2 ≡ b / 2 ^ k % 2 → bit k a ≡ bit k b
unfolding bit
same-digit k a b e = rw e refl

bits-2-to-4 : (a b : ℕ) → a % 2 ^ 5 / 4 ≡ b % 2 ^ 5 / 4 → (k : ℕ) → 2 ≤ k → k < 5 → bit k a ≡ bit k b
bits-2-to-4 a b e zero l h = absurd (omega arith)
bits-2-to-4 a b e (suc zero) l h = absurd (omega arith)
bits-2-to-4 a b e (suc (suc zero)) l h = same-digit 2 a b (omega arith)
bits-2-to-4 a b e (suc (suc (suc zero))) l h = same-digit 3 a b (omega arith)
bits-2-to-4 a b e (suc (suc (suc (suc zero)))) l h = same-digit 4 a b (omega arith)
bits-2-to-4 a b e (suc (suc (suc (suc (suc k))))) l h = absurd (omega arith)

pub inspected-keeps : (user : Bool) (x : Fields) (k : ℕ) → 2 ≤ k → k < 5 → bit k (ordinary user (inspected x)) ≡ bit k (ordinary user x)
unfolding inspected flag
inspected-keeps user x =
    bits-2-to-4 (ordinary user (inspected x)) (ordinary user x)
    (rw (ordinary-low user (inspected x), ordinary-low user x)
    (omega (arith, flag_is x.writable 1, flag_is x.user 2, flag_is x.write_through 3, flag_is x.cache_disable 4)))

-- K3: of a present kernel entry, bits 0 to 4.
pub ordinary-carries : (user : Bool) (entry k : ℕ) → entry % 2 ≡ 1 → k < 5 → bit k (ordinary user (fields_of entry)) ≡ bit k entry
ordinary-carries user entry k p l =
    bits_below 5 (ordinary user (fields_of entry)) entry (ordinary-low user (fields_of entry) ∙ sym (lowest-of entry p)) k l

-- A mode switch: the frame and every bit but 63 are kept.
pub switch-keeps : (user : Bool) (entry k : ℕ) → k < 63 → bit k (switched user entry) ≡ bit k entry
unfolding switched
switch-keeps user entry k l = bits_below 63 _ entry (at (present entry) _) k l
  where
    at : (b c : Bool) → cond b (entry % 2 ^ 63 + flag c 63) entry % 2 ^ 63 ≡ entry % 2 ^ 63
    at true c = omega (arith, flag_is c 63)
    at false c = refl

pub present-switched : (user : Bool) (entry : ℕ) → present (switched user entry) ≡ present entry
unfolding present
present-switched user entry = switch-keeps user entry 0 (omega arith)

pub approved_mark-switched : (user : Bool) (entry : ℕ) → approved_mark (switched user entry) ≡ approved_mark entry
unfolding approved_mark
approved_mark-switched user entry = switch-keeps user entry 10 (omega arith)

pub frame_of-switched : (user : Bool) (entry : ℕ) → frame_of (switched user entry) ≡ frame_of entry
unfolding frame_of switched
frame_of-switched user entry = at (present entry) _
  where
    at : (b c : Bool) → cond b (entry % 2 ^ 63 + flag c 63) entry / 2 ^ 12 % 2 ^ 40 ≡ entry / 2 ^ 12 % 2 ^ 40
    at true c = omega (arith, flag_is c 63)
    at false c = refl

pub switched-absent : (user : Bool) (entry : ℕ) → present entry ≡ false → switched user entry ≡ entry
unfolding switched
switched-absent user entry e = rw e refl

pub no_execute-switched : (user : Bool) (entry : ℕ) → present entry ≡ true → no_execute (switched user entry) ≡ no_execute_in user entry
unfolding no_execute switched
no_execute-switched user entry h = rw h (bit-flag (no_execute_in user entry) (entry % 2 ^ 63) (omega arith))
