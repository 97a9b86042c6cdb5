-- A switch of a shadow entry in bit operations: each is looked at by bit 63, its quotient by 2^63, and by the bits below, its remainder.
use Prim.Native.Nat.{ℕ, zero, suc, ◌+◌, ◌-◌, ◌*◌, ◌/◌, ◌%◌, ◌^◌, ◌≤◌, ◌<◌}
use mathlib.Core.Bool.{Bool, true, false, not, cond}
use mathlib.Core.Path.{◌≡◌, refl, sym, ap, ap₂, ◌∙◌}
use native.Mathlib.Omega.{arith}
use lib.Bits.{bit_and, bit_or, bit_xor, and_shr, or_shr, xor_shr, and_mod, xor_mod, or_lt, xor_lt, and_le_r, and_zero_r, xor_zero_r}
use lib.Dec.{eqb}
use borrow.Author.Tests.{eq-eqb, ne_eqb}
use Rattle.model.specs.Basics.{bit, either, flag, differs}
use Rattle.model.specs.Bits.{present, user_bit, no_execute, kernel_no_execute, approved_mark, approved_no_execute, ordinary_no_execute}
use Rattle.model.specs.Switch.{no_execute_in, switched}

-- A digit is the flag of its test.
below-2 : (n : ℕ) → n < 2 → n ≡ flag (eqb n 1) 0
unfolding flag
below-2 zero h = refl
below-2 (suc zero) h = refl
below-2 (suc (suc n)) h = absurd (omega arith)

digit : (x n : ℕ) → x ≡ n % 2 → x ≡ flag (eqb (n % 2) 1) 0
digit x n e = e ∙ below-2 (n % 2) (omega arith)

-- Bit 63 of a number of 64 bits, of numbers that are shifted left, and of a complement.
top : (x : ℕ) → x < 2 ^ 64 → x / 2 ^ 63 ≡ flag (no_execute x) 0
unfolding no_execute bit
top x h = digit _ (x / 2 ^ 63) (omega arith)

top-of-10 : (x : ℕ) → (x * 2 ^ 53) % 2 ^ 64 / 2 ^ 63 ≡ flag (approved_mark x) 0
unfolding approved_mark bit
top-of-10 x = digit _ (x / 2 ^ 10) (omega arith)

top-of-9 : (x : ℕ) → (x * 2 ^ 54) % 2 ^ 64 / 2 ^ 63 ≡ flag (kernel_no_execute x) 0
unfolding kernel_no_execute bit
top-of-9 x = digit _ (x / 2 ^ 9) (omega arith)

top-of-2 : (x : ℕ) → (x * 2 ^ 61) % 2 ^ 64 / 2 ^ 63 ≡ flag (user_bit x) 0
unfolding user_bit bit
top-of-2 x = digit _ (x / 2 ^ 2) (omega arith)

top-of-0 : (x : ℕ) → (x * 2 ^ 63) % 2 ^ 64 / 2 ^ 63 ≡ flag (present x) 0
unfolding present bit
top-of-0 x = digit _ (x / 2 ^ 0) (omega arith)

top-not : (x : ℕ) → x < 2 ^ 64 → ((2 ^ 64 - 1) - x) / 2 ^ 63 ≡ 1 - x / 2 ^ 63
top-not x h = omega arith

-- What may be executed: in user mode by bits 10, 9 and 2, in kernel mode by bit 10.
runs-in-user : (a n u : Bool) → bit_and (flag u 0) (1 - bit_or (flag a 0) (flag n 0)) ≡ flag (not (cond a true (either n (not u)))) 0
unfolding flag either
runs-in-user true true true = refl
runs-in-user true true false = refl
runs-in-user true false true = refl
runs-in-user true false false = refl
runs-in-user false true true = refl
runs-in-user false true false = refl
runs-in-user false false true = refl
runs-in-user false false false = refl

runs-in-kernel : (a : Bool) → flag a 0 ≡ flag (not (cond a false true)) 0
runs-in-kernel true = refl
runs-in-kernel false = refl

pub executable_user : (user : Bool) (entry : ℕ) → user ≡ true
    → bit_and ((entry * 2 ^ 61) % 2 ^ 64) ((2 ^ 64 - 1) - bit_or ((entry * 2 ^ 53) % 2 ^ 64) ((entry * 2 ^ 54) % 2 ^ 64)) / 2 ^ 63
    ≡ flag (not (no_execute_in user entry)) 0
unfolding no_execute_in approved_no_execute ordinary_no_execute
executable_user user entry t =
    let mark : ℕ = (entry * 2 ^ 53) % 2 ^ 64 in
    let never : ℕ = (entry * 2 ^ 54) % 2 ^ 64 in
    let e : bit_or mark never / 2 ^ 63 ≡ bit_or (flag (approved_mark entry) 0) (flag (kernel_no_execute entry) 0) =
    or_shr mark never 63 ∙ ap₂ bit_or (top-of-10 entry) (top-of-9 entry) in
    let n : ((2 ^ 64 - 1) - bit_or mark never) / 2 ^ 63 ≡ 1 - bit_or mark never / 2 ^ 63 =
    top-not (bit_or mark never) (or_lt 64 mark never (omega arith) (omega arith)) in
    rw t
    (and_shr ((entry * 2 ^ 61) % 2 ^ 64) ((2 ^ 64 - 1) - bit_or mark never) 63
    ∙ ap₂ bit_and (top-of-2 entry) (n ∙ ap (λ (x : ℕ). 1 - x) e)
    ∙ runs-in-user (approved_mark entry) (kernel_no_execute entry) (user_bit entry))

pub executable_kernel : (user : Bool) (entry : ℕ) → user ≡ false → (entry * 2 ^ 53) % 2 ^ 64 / 2 ^ 63 ≡ flag (not (no_execute_in user entry)) 0
unfolding no_execute_in approved_no_execute ordinary_no_execute
executable_kernel user entry t = rw t (top-of-10 entry ∙ runs-in-kernel (approved_mark entry))

-- Whether bit 63 is turned: where the entry is present (p) and the bit (n) is what may be executed (the contrary of m).
flip : (p n m : Bool) → ℕ
flip p n m = bit_and (1 - bit_xor (flag n 0) (flag (not m) 0)) (flag p 0)

flipped : (p n m : Bool) (low : ℕ) → bit_xor (flag n 0) (flip p n m) * 2 ^ 63 + low ≡ cond p (low + flag m 63) (flag n 0 * 2 ^ 63 + low)
unfolding flag flip
flipped true true true low = omega arith
flipped true true false low = omega arith
flipped true false true low = omega arith
flipped true false false low = omega arith
flipped false true true low = refl
flipped false true false low = refl
flipped false false true low = refl
flipped false false false low = refl

same-counts : (a b : ℕ) → a ≡ b → 0 ≡ differs a b
unfolding differs
same-counts a b p = rw (eq-eqb a b p)

other-counts : (a b : ℕ) → (a ≡ b → ⊥) → 1 ≡ differs a b
unfolding differs
other-counts a b p = rw (ne_eqb a b p)

flip-counts : (p n m : Bool) (low a b : ℕ) → a ≡ flag n 0 * 2 ^ 63 + low → b ≡ bit_xor (flag n 0) (flip p n m) * 2 ^ 63 + low
    → flip p n m ≡ differs a b
unfolding flag flip
flip-counts true true true low a b e f = same-counts a b (omega arith)
flip-counts true true false low a b e f = other-counts a b (λ h. omega arith)
flip-counts true false true low a b e f = other-counts a b (λ h. omega arith)
flip-counts true false false low a b e f = same-counts a b (omega arith)
flip-counts false true true low a b e f = same-counts a b (omega arith)
flip-counts false true false low a b e f = same-counts a b (omega arith)
flip-counts false false true low a b e f = same-counts a b (omega arith)
flip-counts false false false low a b e f = same-counts a b (omega arith)

abbrev change : ℕ → ℕ → ℕ
change entry x = bit_and ((2 ^ 64 - 1) - bit_xor entry x) ((entry * 2 ^ 63) % 2 ^ 64)

module _ (user : Bool) (entry x : ℕ) (fits : entry < 2 ^ 64) (small : x < 2 ^ 64)
    (runs : x / 2 ^ 63 ≡ flag (not (no_execute_in user entry)) 0) where
  change-top : change entry x / 2 ^ 63 ≡ flip (present entry) (no_execute entry) (no_execute_in user entry)
  unfolding flip
  change-top =
      let e : bit_xor entry x / 2 ^ 63 ≡ bit_xor (flag (no_execute entry) 0) (flag (not (no_execute_in user entry)) 0) =
      xor_shr entry x 63 ∙ ap₂ bit_xor (top entry fits) runs in
      let n : ((2 ^ 64 - 1) - bit_xor entry x) / 2 ^ 63 ≡ 1 - bit_xor entry x / 2 ^ 63 = top-not (bit_xor entry x) (xor_lt 64 entry x fits small) in
      and_shr ((2 ^ 64 - 1) - bit_xor entry x) ((entry * 2 ^ 63) % 2 ^ 64) 63
      ∙ ap₂ bit_and (n ∙ ap (λ (y : ℕ). 1 - y) e) (top-of-0 entry)

  change-low : change entry x % 2 ^ 63 ≡ 0
  change-low =
      let z : (entry * 2 ^ 63) % 2 ^ 64 % 2 ^ 63 ≡ 0 = omega arith in
      and_mod ((2 ^ 64 - 1) - bit_xor entry x) ((entry * 2 ^ 63) % 2 ^ 64) 63
      ∙ ap (bit_and (((2 ^ 64 - 1) - bit_xor entry x) % 2 ^ 63)) z ∙ and_zero_r (((2 ^ 64 - 1) - bit_xor entry x) % 2 ^ 63)

  entry-parts : entry ≡ flag (no_execute entry) 0 * 2 ^ 63 + entry % 2 ^ 63
  entry-parts =
      let t : entry / 2 ^ 63 ≡ flag (no_execute entry) 0 = top entry fits in
      omega arith

  result_parts : bit_xor entry (change entry x)
      ≡ bit_xor (flag (no_execute entry) 0) (flip (present entry) (no_execute entry) (no_execute_in user entry)) * 2 ^ 63 + entry % 2 ^ 63
  result_parts =
      let high : bit_xor entry (change entry x) / 2 ^ 63
      ≡ bit_xor (flag (no_execute entry) 0) (flip (present entry) (no_execute entry) (no_execute_in user entry)) =
      xor_shr entry (change entry x) 63 ∙ ap₂ bit_xor (top entry fits) change-top in
      let low : bit_xor entry (change entry x) % 2 ^ 63 ≡ entry % 2 ^ 63 =
      xor_mod entry (change entry x) 63 ∙ ap (bit_xor (entry % 2 ^ 63)) change-low ∙ xor_zero_r (entry % 2 ^ 63) in
      omega arith

  change-switches : bit_xor entry (change entry x) ≡ switched user entry
  unfolding switched
  change-switches =
      result_parts ∙ flipped (present entry) (no_execute entry) (no_execute_in user entry) (entry % 2 ^ 63)
      ∙ ap (cond (present entry) (entry % 2 ^ 63 + flag (no_execute_in user entry) 63)) (sym entry-parts)

  change-counts : change entry x / 2 ^ 63 ≡ differs entry (switched user entry)
  change-counts =
      change-top
      ∙ flip-counts (present entry) (no_execute entry) (no_execute_in user entry) (entry % 2 ^ 63) entry (switched user entry) entry-parts
      (sym change-switches ∙ result_parts)

  pub change_is : (bit_xor entry (change entry x) ≡ switched user entry)
      × (change entry x / 2 ^ 63 ≡ differs entry (switched user entry))
      × (change entry x / 2 ^ 63 ≤ 1)
  change_is =
      (change-switches, change-counts, omega (arith, and_le_r ((2 ^ 64 - 1) - bit_xor entry x) ((entry * 2 ^ 63) % 2 ^ 64)))
