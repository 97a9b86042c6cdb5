-- An entry in hexadecimal: std's digits behind so many zeros as fill 16 places, and the definition's 16 digits.
use Prim.Native.Nat.{ℕ, zero, suc, ◌+◌, ◌-◌, ◌/◌, ◌%◌, ◌^◌, ◌<◌}
use mathlib.Core.Bool.{Bool, true, false}
use mathlib.Core.List.{List, [], ◌∷◌, ◌++◌, append_assoc, append-nil}
use mathlib.Core.Path.{◌≡◌, refl, sym, ap, ◌∙◌}
use lib.Dec.{eqb}
use borrow.Author.Tests.{eqb-true}
use lib.ListN.{length, replicate}
use native.Mathlib.Nat.{sub-zero, zero-div, div-one, div-div-eq-div-mul, pow-succ', pow-suc}
use native.Mathlib.Omega.{arith}
use Rattle.std.specs.Fmt.{digits, digits_onto, padded_integral, char_count, format_spec}
use Rattle.drill_model.specs.Drill.{hex_digit, hex_digits}

-- The last digit, by a place fewer of the rest.
hex-last : (m n : ℕ) → hex_digits (suc m) n ≡ hex_digits m (n / 16) ++ (hex_digit (n % 16) ∷ [])
unfolding hex_digits
hex-last zero n = ap (λ k. hex_digit (k % 16) ∷ []) (div-one n)
hex-last (suc m) n = λ i. hex_digit (place i % 16) ∷ hex-last m n i
  where
    place : n / 16 ^ suc m ≡ n / 16 / 16 ^ m
    place = rw (pow-succ' 16 m) (sym (div-div-eq-div-mul n 16 (16 ^ m)))

hex-zeros : (m : ℕ) → hex_digits m 0 ≡ replicate m 48
unfolding hex_digits hex_digit
hex-zeros zero = refl
hex-zeros (suc m) = λ i. hex_digit (zero-div (16 ^ m) i % 16) ∷ hex-zeros m i

-- A number of one digit.
hex-short : (m n : ℕ) → n < 16 → hex_digits (suc m) n ≡ replicate m 48 ++ (hex_digit n ∷ [])
hex-short m n p =
    hex-last m n ∙ (let q : n / 16 ≡ 0 = omega arith in let r : n % 16 ≡ n = omega arith in rw (q, r, hex-zeros m) refl)

module _ (n : ℕ) (acc : List ℕ) where
  onto-last : (k : ℕ) → n / 16 ≡ 0 → digits_onto (suc k) 16 false n acc ≡ hex_digit (n % 16) ∷ acc
  unfolding hex_digit
  onto-last k e = rw e refl

  onto-next : (k : ℕ) → eqb (n / 16) 0 ≡ false → digits_onto (suc k) 16 false n acc ≡ digits_onto k 16 false (n / 16) (hex_digit (n % 16) ∷ acc)
  unfolding hex_digit
  onto-next k e = rw e refl

-- Zeros before the digits up to m of them.
abbrev Filled : ℕ → ℕ → ℕ → List ℕ → Type 0
Filled k m n acc = replicate (suc m + length acc - length (digits_onto k 16 false n acc)) 48 ++ digits_onto k 16 false n acc ≡ hex_digits (suc m) n ++ acc

filled-last : (k m n : ℕ) (acc : List ℕ) → n / 16 ≡ 0 → Filled (suc k) m n acc
filled-last k m n acc z =
    let s : n < 16 = omega arith in
    let r : n % 16 ≡ n = omega arith in
    let d : suc m + length acc - suc (length acc) ≡ m = omega arith in
    rw (onto-last n acc k z, d, r, hex-short m n s) (sym (append_assoc (replicate m 48) (hex_digit n ∷ []) acc))

filled : (k m n : ℕ) (acc : List ℕ) → m < k → n < 16 ^ suc m → Filled k m n acc
filled zero m n acc p q = absurd (omega arith)
filled (suc k) zero n acc p q = filled-last k zero n acc (omega arith)
filled (suc k) (suc m) n acc p q =
    let s : n / 16 < 16 ^ suc m = omega (arith, pow-suc 16 (suc m)) in
    by (filled k m (n / 16) (hex_digit (n % 16) ∷ acc) (omega arith) s) (eqb (n / 16) 0) refl
  where
    by : Filled k m (n / 16) (hex_digit (n % 16) ∷ acc) → (b : Bool) → eqb (n / 16) 0 ≡ b → Filled (suc k) (suc m) n acc
    by h true e = filled-last k (suc m) n acc (eqb-true _ _ e)
    by h false e =
        let d : suc m + suc (length acc) ≡ suc (suc m) + length acc = omega arith in
        rw (onto-next n acc k e, hex-last (suc m) n, append_assoc, ← d) h

digits-onto : (n : ℕ) → digits_onto 64 16 false n [] ≡ digits 16 false n
unfolding digits
digits-onto n = refl

-- What std puts around the digits of a hole of 16 places.
padded-is : (ds : List ℕ) → padded_integral (format_spec 32 0 4 16 (2 ^ 64 - 1)) false [] ds ≡ replicate (16 - length ds) 48 ++ ds
unfolding padded_integral char_count
padded-is ds = rw (append-nil, sub-zero, sub-zero) refl

pub entry-padded : (n : ℕ) → n < 2 ^ 64 → padded_integral (format_spec 32 0 4 16 (2 ^ 64 - 1)) false [] (digits 16 false n) ≡ hex_digits 16 n
entry-padded n p = padded-is (digits 16 false n) ∙ rw (← digits-onto n) (filled 64 15 n [] (omega arith) p) ∙ append-nil (hex_digits 16 n)
