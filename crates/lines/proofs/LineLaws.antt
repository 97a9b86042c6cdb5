-- Laws of lines as lists of bytes: a byte more, the digits of a number, and the parts of a line put together.
use Prim.Native.Nat.{ℕ, zero, suc, ◌+◌, ◌-◌, ◌/◌, ◌%◌, ◌≤◌, ◌<◌}
use mathlib.Core.Bool.{cond}
use mathlib.Core.Path.{◌≡◌, refl, sym, ◌∙◌}
use mathlib.Core.List.{List, [], ◌∷◌, ◌++◌, append_assoc, append-nil}
use lib.ListN.{length, take, set}
use lib.Seq.{take-suc-set, take_all}
use borrow.Author.Tests.{lt-ltb, le-ltb}
use native.Mathlib.Nat.{mod-eq_of_lt}
use native.Mathlib.Numerals.{add-one, sub-one}
use native.Mathlib.Omega.{arith}
use Rattle.model.specs.declared.Mode.{Mode}
use Rattle.model.specs.Guard.{in_user, running}
use Rattle.model.specs.Calls.{Reply}
use Rattle.drill_model.specs.Drill.{digits, decimal, line, hex_digit, share, share_line}

-- A byte stored behind the first len ones.
pub take_more : (bytes : List ℕ) (len b : ℕ) → len < length bytes → take (len + 1) (set bytes len b) ≡ take len bytes ++ (b ∷ [])
take_more bytes len b p = rw (add-one, take-suc-set bytes len b p)

-- All the bytes of the room, where a line would have more.
pub take-room : (bytes : List ℕ) (len room : ℕ) → length bytes ≡ room → room ≤ len → take room bytes ≡ take len bytes
take-room bytes len room e p = take_all room bytes (omega arith) ∙ sym (take_all len bytes (omega arith))

-- The digits of a number behind a text: with no room, of a number below 10, and of any other.
pub digits-none : (l : List ℕ) (room n : ℕ) → room ≡ 0 → l ≡ l ++ digits room n
unfolding digits
digits-none l room n p = rw p (sym (append-nil l))

pub digits-one : {r : List ℕ} {d : ℕ} (l : List ℕ) (room n : ℕ) → r ≡ l ++ (d ∷ []) → d ≡ 48 + n % 10 → (room ≡ 0 → ⊥) → n < 10 → r ≡ l ++ digits room n
unfolding digits
digits-one l zero n e f p q = absurd (p refl)
digits-one l (suc room) n e f p q = rw (e, f, lt-ltb n 10 q, mod-eq_of_lt {n = n} {m = 10} q)

pub digits_more : {r m : List ℕ} {d : ℕ} (l : List ℕ) (room n : ℕ) → r ≡ m ++ (d ∷ []) → m ≡ l ++ digits (room - 1) (n / 10) → d ≡ 48 + n % 10
    → (room ≡ 0 → ⊥) → 10 ≤ n → r ≡ l ++ digits room n
unfolding digits
digits_more l zero n e g f p q = absurd (p refl)
digits_more l (suc room) n e g f p q = rw (e, g, f, le-ltb n 10 q, sub-one, append_assoc)

-- A space and a number behind a text.
pub number-after : {r m : List ℕ} (l : List ℕ) (n : ℕ) → r ≡ m ++ digits 20 n → m ≡ l ++ (32 ∷ []) → r ≡ l ++ (32 ∷ decimal n)
unfolding decimal
number-after l n e f = rw (e, f, append_assoc)

-- The line of a call: what it begins with, its answer's number and two values, each behind the bytes before it, and the mode.
pub line-made : {r m k j i h : List ℕ} (kind number first second : ℕ) (reply : Reply) (mode : Mode)
    → r ≡ m ++ (32 ∷ cond (in_user mode) 85 75 ∷ 32 ∷ decimal (running mode)) ++ (10 ∷ []) → m ≡ k ++ (32 ∷ decimal second) → k ≡ j ++ (32 ∷ decimal first)
    → j ≡ i ++ (32 ∷ decimal number) → i ≡ h ++ (kind ∷ []) → h ≡ [] → number ≡ reply.number → first ≡ reply.first → second ≡ reply.second
    → r ≡ line kind reply mode
unfolding line
line-made kind number first second reply mode a b c d e f p q s = rw (a, b, c, d, e, f, ← p, ← q, ← s)

-- A hexadecimal digit, below 10 and from 10 on.
pub hex_digit-low : (n : ℕ) → n < 10 → 48 + n ≡ hex_digit n
unfolding hex_digit
hex_digit-low n p = rw (lt-ltb n 10 p)

pub hex_digit-high : (n : ℕ) → 10 ≤ n → 87 + n ≡ hex_digit n
unfolding hex_digit
hex_digit-high n p = rw (le-ltb n 10 p)

-- The word share, a number and the line's end.
pub share-line-is : {r m w : List ℕ} {s : ℕ} (frames : ℕ) (exclusion : List ℕ) → r ≡ m ++ (10 ∷ []) → m ≡ w ++ digits 20 s
    → w ≡ 115 ∷ 104 ∷ 97 ∷ 114 ∷ 101 ∷ 32 ∷ [] → s ≡ share frames exclusion → r ≡ share_line frames exclusion
unfolding share_line decimal
share-line-is frames exclusion e f g h = rw (e, f, g, h)
