-- Laws of a range of frames looked at by bytes: the bits of a byte at once, whole bytes, and a range in its three parts.
use Prim.Native.Nat.{ℕ, zero, suc, ◌+◌, ◌-◌, ◌*◌, ◌/◌, ◌%◌, ◌^◌, ◌≤◌, ◌<◌}
use mathlib.Core.Bool.{Bool, true, false, not}
use mathlib.Core.List.{List}
use mathlib.Core.Path.{◌≡◌, refl, sym, ap, ◌∙◌}
use native.Mathlib.Nat.{zero-add, add-zero, suc-add, add_comm}
use native.Mathlib.Numerals.{add-one}
use native.Mathlib.Omega.{arith}
use lib.Bits.{bit_or, or_add_and, and_le_l, and_le_r}
use lib.Dec.{eqb}
use lib.ListN.{length, get_or, take, drop}
use Rattle.std.specs.List.{fold}
use Rattle.std.proofs.Math.Seq.{drop-cons}
use lib.Pow.{mod-pow-add, shr-shr, shr_mod}
use borrow.Author.Tests.{eq-eqb}
use Rattle.std.proofs.lemmas.Bool.Decides.{nat_tests}
use Rattle.model.specs.Basics.{both, bit, every_from}
use Rattle.model.specs.Guard.{has_bit}
use Rattle.laws.proofs.QuestionLaws.{both_true}
use Rattle.laws.proofs.VectorLaws.{below8}

both-swap : (a b : Bool) → both a b ≡ both b a
unfolding both
both-swap true true = refl
both-swap true false = refl
both-swap false true = refl
both-swap false false = refl

both-assoc : (a b c : Bool) → both a (both b c) ≡ both (both a b) c
unfolding both
both-assoc true b c = refl
both-assoc false b c = refl

-- A number is 0 where its lowest bit and the rest are.
halves-zero : (m r : ℕ) → both (not (eqb (m % 2) 1)) (eqb r 0) ≡ eqb (r * 2 + m % 2) 0
unfolding both
halves-zero m r = grind (arith, nat_tests)

abbrev pub clear_bits : ℕ → ℕ → ℕ → Bool
clear_bits n first count = every_from (λ j. not (bit j n)) first count

-- Bits of a number are all 0 where the number that they make is 0.
clear-is : (n first count : ℕ) → clear_bits n first count ≡ eqb (n / 2 ^ first % 2 ^ count) 0
unfolding every_from bit
clear-is n first zero =
    let z : n / 2 ^ first % 1 ≡ 0 = omega arith in
    sym (eq-eqb _ 0 z)
clear-is n first (suc count) =
    let m : ℕ = n / 2 ^ first in
    let rest : clear_bits n (suc first) count ≡ eqb (n / 2 ^ suc first % 2 ^ count) 0 = clear-is n (suc first) count in
    let half : n / 2 ^ suc first ≡ m / 2 = rw (← add-one first) (sym (shr-shr n first 1)) in
    let parts : m % 2 ^ suc count ≡ (m / 2 % 2 ^ count) * 2 + m % 2 = rw (← add-one count) (mod-pow-add m count 1) in
    rw (rest, half, parts) (halves-zero m (m / 2 % 2 ^ count))

-- A byte shifted down has the bits from there on, and shifted up those up to there.
pub clear_above : (n first : ℕ) → n < 256 → first < 8 → eqb (n / 2 ^ first) 0 ≡ clear_bits n first (8 - first)
clear_above n first small h =
    let whole : first + (8 - first) ≡ 8 = omega arith in
    let fits : n / 2 ^ first % 2 ^ (8 - first) ≡ n / 2 ^ first = shr_mod (8 - first) first (rw (add_comm (8 - first) first, whole) small) in
    sym (clear-is n first (8 - first) ∙ ap (λ x. eqb x 0) fits)

-- The weight above a bit of a byte fits 64 bits.
weight-above : (last : ℕ) → last < 8 → 2 * 2 ^ last % 2 ^ 64 ≡ 2 ^ suc last
weight-above last h = below8 (λ l. 2 * 2 ^ l % 2 ^ 64 ≡ 2 ^ suc l) refl refl refl refl refl refl refl refl last h

pub weight_positive : (last : ℕ) → last < 8 → 0 < 2 * 2 ^ last % 2 ^ 64
weight_positive last h =
    below8 (λ l. 0 < 2 * 2 ^ l % 2 ^ 64) (omega arith) (omega arith) (omega arith) (omega arith) (omega arith) (omega arith) (omega arith) (omega arith) last h

pub clear_below : (n last : ℕ) → last < 8 → eqb (n % (2 * 2 ^ last % 2 ^ 64)) 0 ≡ clear_bits n 0 (suc last)
clear_below n last h =
    let one : n / 1 ≡ n = omega arith in
    ap (λ v. eqb (n % v) 0) (weight-above last h) ∙ ap (λ x. eqb (x % 2 ^ suc last) 0) (sym one) ∙ sym (clear-is n 0 (suc last))

pub clear_part : (n first last : ℕ) → clear_bits (n / 2 ^ first) 0 (suc (last - first)) ≡ clear_bits n first (suc (last - first))
clear_part n first last =
    let count : ℕ = suc (last - first) in
    let m : ℕ = n / 2 ^ first in
    let one : m / 1 ≡ m = omega arith in
    clear-is m 0 count ∙ ap (λ x. eqb (x % 2 ^ count) 0) one ∙ sym (clear-is n first count)

-- Frames of the vector.
abbrev pub free_from : List ℕ → ℕ → ℕ → Bool
free_from exclusion first count = every_from (λ f. not (has_bit exclusion f)) first count

-- Those of one byte are its bits.
frame-of-byte : (x : List ℕ) (q j f : ℕ) → f / 8 ≡ q → f % 8 ≡ j → has_bit x f ≡ bit j (get_or x q 0)
unfolding has_bit
frame-of-byte x q j f p r = rw (p, r) refl

frames-of-byte : (x : List ℕ) (q first count : ℕ) → first + count ≤ 8 → free_from x (q * 8 + first) count ≡ clear_bits (get_or x q 0) first count
unfolding every_from
frames-of-byte x q first zero h = refl
frames-of-byte x q first (suc count) h =
    let at : (q * 8 + first) / 8 ≡ q = omega arith in
    let bits : (q * 8 + first) % 8 ≡ first = omega arith in
    let here : has_bit x (q * 8 + first) ≡ bit first (get_or x q 0) = frame-of-byte x q first (q * 8 + first) at bits in
    let next : suc (q * 8 + first) ≡ q * 8 + suc first = omega arith in
    let rest : free_from x (q * 8 + suc first) count ≡ clear_bits (get_or x q 0) (suc first) count = frames-of-byte x q (suc first) count (omega arith) in
    rw (here, next, rest) refl

-- Two ranges, one behind the other.
every_more : (test : ℕ → Bool) (first m n : ℕ) → every_from test first (m + n) ≡ both (every_from test first m) (every_from test (first + m) n)
unfolding every_from both
every_more test first zero n = rw (zero-add n, add-zero first) refl
every_more test first (suc m) n =
    let next : suc first + m ≡ first + suc m = omega arith in
    let rest : every_from test (suc first) (m + n) ≡ both (every_from test (suc first) m) (every_from test (suc first + m) n) = every_more test (suc first) m n in
    rw (suc-add m n, rest, next) (both-assoc (test first) (every_from test (suc first) m) (every_from test (first + suc m) n))

-- Frames of whole bytes: a byte is 0, and then the bytes behind it.
pub byte-clear : (x : List ℕ) (q : ℕ) → get_or x q 0 < 256 → eqb (get_or x q 0) 0 ≡ free_from x (q * 8) 8
byte-clear x q small =
    let b : ℕ = get_or x q 0 in
    let one : b / 1 % 256 ≡ b = omega arith in
    let start : q * 8 + 0 ≡ q * 8 = omega arith in
    ap (λ v. eqb v 0) (sym one) ∙ sym (clear-is b 0 8) ∙ sym (frames-of-byte x q 0 8 (omega arith)) ∙ ap (λ f. free_from x f 8) start

-- The or of two bytes is 0 where both are.
or-clear : (a b : ℕ) → eqb (bit_or a b) 0 ≡ both (eqb a 0) (eqb b 0)
unfolding both
or-clear a b = grind (arith, nat_tests, or_add_and a b, and_le_l a b, and_le_r a b)

-- Bytes joined one by one are 0 together where what was joined before is 0 and no frame of them is set.
joined : (x : List ℕ) (n i all : ℕ) → ((k : ℕ) → get_or x k 0 < 256) → i + n ≤ length x
    → eqb (fold (λ a b. bit_or a b) all (take n (drop i x))) 0 ≡ both (eqb all 0) (free_from x (i * 8) (n * 8))
unfolding every_from
joined x zero i all small h = sym (both_true (eqb all 0))
joined x (suc n) i all small h =
    let b : ℕ = get_or x i 0 in
    let next : i * 8 + 8 ≡ suc i * 8 = omega arith in
    let parts : free_from x (i * 8) (suc n * 8) ≡ both (free_from x (i * 8) 8) (free_from x (suc i * 8) (n * 8)) =
    ap (free_from x (i * 8)) (let e : suc n * 8 ≡ 8 + n * 8 = omega arith in e)
    ∙ every_more _ (i * 8) 8 (n * 8) ∙ ap (λ f. both (free_from x (i * 8) 8) (free_from x f (n * 8))) next in
    let inside : i < length x = omega arith in
    ap (λ l. eqb (fold (λ a b. bit_or a b) all (take (suc n) l)) 0) (drop-cons x i 0 inside)
    ∙ joined x n (suc i) (bit_or all b) small (omega arith)
    ∙ ap (λ t. both t (free_from x (suc i * 8) (n * 8))) (or-clear all b ∙ ap (both (eqb all 0)) (byte-clear x i (small i)))
    ∙ sym (both-assoc (eqb all 0) (free_from x (i * 8) 8) (free_from x (suc i * 8) (n * 8)))
    ∙ ap (both (eqb all 0)) (sym parts)

pub joined_clear : (x : List ℕ) (from to : ℕ) → ((k : ℕ) → get_or x k 0 < 256) → from ≤ to → to ≤ length x
    → eqb (fold (λ a b. bit_or a b) 0 (take (to - from) (drop from x))) 0 ≡ free_from x (from * 8) ((to - from) * 8)
unfolding both
joined_clear x from to small up h = joined x (to - from) from 0 small (omega arith)

-- A range in one byte, and one in its first byte, its last byte and the bytes between.
module _ (x : List ℕ) (first last : ℕ) (up : first ≤ last) where
  pub in_one_byte : first / 8 ≡ last / 8
      → free_from x first (suc (last - first)) ≡ clear_bits (get_or x (first / 8) 0) (first % 8) (suc (last % 8 - first % 8))
  in_one_byte same =
      let at : first / 8 * 8 + first % 8 ≡ first = omega arith in
      let count : last % 8 - first % 8 ≡ last - first = omega arith in
      ap (λ f. free_from x f (suc (last - first))) (sym at)
      ∙ ap (λ n. free_from x (first / 8 * 8 + first % 8) (suc n)) (sym count)
      ∙ frames-of-byte x (first / 8) (first % 8) (suc (last % 8 - first % 8)) (omega arith)

  pub in_three_parts : (first / 8 ≡ last / 8 → ⊥)
      → free_from x first (suc (last - first))
      ≡ both (clear_bits (get_or x (first / 8) 0) (first % 8) (8 - first % 8))
      (both (clear_bits (get_or x (last / 8) 0) 0 (suc (last % 8))) (free_from x ((first / 8 + 1) * 8) ((last / 8 - (first / 8 + 1)) * 8)))
  in_three_parts differ =
      let q : ℕ = last / 8 - (first / 8 + 1) in
      let a : ℕ = 8 - first % 8 in
      let c : ℕ = suc (last % 8) in
      let count : suc (last - first) ≡ a + (q * 8 + c) = omega arith in
      let at : first ≡ first / 8 * 8 + first % 8 = omega arith in
      let middle : first + a ≡ (first / 8 + 1) * 8 = omega arith in
      let end : (first / 8 + 1) * 8 + q * 8 ≡ last / 8 * 8 + 0 = omega arith in
      let head : free_from x first a ≡ clear_bits (get_or x (first / 8) 0) (first % 8) a =
      ap (λ f. free_from x f a) at ∙ frames-of-byte x (first / 8) (first % 8) a (omega arith) in
      let tail : free_from x ((first / 8 + 1) * 8 + q * 8) c ≡ clear_bits (get_or x (last / 8) 0) 0 c =
      ap (λ f. free_from x f c) end ∙ frames-of-byte x (last / 8) 0 c (omega arith) in
      ap (free_from x first) count
      ∙ every_more _ first a (q * 8 + c)
      ∙ ap (λ f. both (free_from x first a) (free_from x f (q * 8 + c))) middle
      ∙ ap (both (free_from x first a)) (every_more _ ((first / 8 + 1) * 8) (q * 8) c)
      ∙ ap (λ t. both (free_from x first a) (both (free_from x ((first / 8 + 1) * 8) (q * 8)) t)) tail
      ∙ ap (λ h. both h (both (free_from x ((first / 8 + 1) * 8) (q * 8)) (clear_bits (get_or x (last / 8) 0) 0 c))) head
      ∙ ap (both (clear_bits (get_or x (first / 8) 0) (first % 8) a)) (both-swap (free_from x ((first / 8 + 1) * 8) (q * 8)) (clear_bits (get_or x (last / 8) 0) 0 c))

-- Three answers in turn: the first no decides, and then the last one.
pub all_yes : (r a b c : Bool) → r ≡ both a (both b c) → a ≡ true → b ≡ true → c ≡ r
unfolding both
all_yes r a b c e p q = cc

pub first-no : (r a b c : Bool) → r ≡ both a (both b c) → a ≡ false → false ≡ r
unfolding both
first-no r a b c e p = cc

pub second-no : (r a b c : Bool) → r ≡ both a (both b c) → a ≡ true → b ≡ false → false ≡ r
unfolding both
second-no r a b c e p q = cc
