-- Laws of numbers as texts: in decimal and in hexadecimal, as std writes them and as the drill's definitions have them.
use Prim.Native.Nat.{ℕ, ◌^◌, ◌<◌}
use mathlib.Core.Bool.{cond}
use mathlib.Core.List.{List, [], ◌∷◌, ◌++◌, append_assoc}
use mathlib.Core.Path.{◌≡◌, refl, sym}
use borrow.Author.Tests.{lt-ltb, le-ltb}
use native.Mathlib.Omega.{arith}
use Rattle.std.specs.Fmt as std
use Rattle.std.proofs.lemmas.Fmt.{AppendsLastDigit, decimal_from_appends, length-decimal-le, decimal_digit}
use Rattle.model.specs.declared.Mode.TheVariants.{Kernel, User}
use Rattle.model.specs.Guard.{in_user, running}
use Rattle.model.specs.Calls.{reply_of}
use Rattle.drill_model.specs.Drill.{digits, decimal, line}
use Rattle.lines.specs.declared.CallLine.{CallLine}
use Rattle.lines.specs.declared.Kind.{Kind}
use Rattle.lines.specs.declared.Kind.TheVariants.{Edit, SyncPage, SyncAll, Fetch, Write, Enter, Leave, DeviceWrite}
use Rattle.lines.specs.declared.Label.{Label}
use Rattle.lines.specs.declared.Label.TheVariants.{Call}
use Rattle.lines.specs.Text.{kind_number, label_byte, call_text}

-- A number of 64 bits in decimal.
appends : AppendsLastDigit digits
unfolding digits
appends = record { one = λ k n p. rw (lt-ltb n 10 p); more = λ k n p. rw (le-ltb n 10 p) }

pub decimal-is : (n : ℕ) → n < 2 ^ 64 → std.decimal n ≡ decimal n
unfolding decimal
decimal-is n p = sym (decimal_from_appends digits appends 20 n p (length-decimal-le 20 n (omega arith) (omega arith) p))

-- A kind's digit.
small : (kind : Kind) → kind_number kind < 10
small Edit = omega arith
small SyncPage = omega arith
small SyncAll = omega arith
small Fetch = omega arith
small Write = omega arith
small Enter = omega arith
small Leave = omega arith
small DeviceWrite = omega arith

pub kind-shown : (l : Label) (kind : Kind) (n : ℕ) → l ≡ Call kind → n ≡ kind_number kind → std.decimal n ≡ label_byte l ∷ []
kind-shown l kind n e f = rw (e, f) (decimal_digit (kind_number kind) (small kind))

-- The text that a call's line writes, with std's digits, by the mode.
module _ (l : CallLine) (number first second page : ℕ) where
  abbrev written : ℕ → List ℕ
  written letter =
      label_byte l.label ∷ 32 ∷ (std.decimal number ++ (32 ∷ (std.decimal first ++ (32 ∷ (std.decimal second
      ++ (32 ∷ letter ∷ 32 ∷ (std.decimal page ++ (10 ∷ []))))))))

  abbrev Columns : Type 0
  Columns = (number ≡ (reply_of l.answer).number) × (first ≡ (reply_of l.answer).first) × (second ≡ (reply_of l.answer).second)

  abbrev Fits : Type 0
  Fits = (number < 2 ^ 64) × (first < 2 ^ 64) × (second < 2 ^ 64) × (page < 2 ^ 64)

  line-written : (letter : ℕ) → Fits → Columns → letter ≡ cond (in_user l.mode) 85 75 → page ≡ running l.mode → written letter ≡ call_text l
  unfolding line
  line-written letter (a, b, c, d) (e, f, g) h i =
      rw (decimal-is number a, decimal-is first b, decimal-is second c, decimal-is page d, e, f, g, h, i) (simp append_assoc)

  pub kernel-written : l.mode ≡ Kernel page → Fits → Columns → written 75 ≡ call_text l
  unfolding in_user running
  kernel-written m p e = line-written 75 p e (rw m refl) (rw m refl)

  pub user-written : l.mode ≡ User page → Fits → Columns → written 85 ≡ call_text l
  unfolding in_user running
  user-written m p e = line-written 85 p e (rw m refl) (rw m refl)
