-- Laws of answers and questions: both, either, within, the first no, a question looked up by its number, and what settles a call.
use Prim.Native.Nat.{ℕ, zero, suc, ◌≤◌}
use mathlib.Core.Bool.{Bool, true, false, not, cond}
use mathlib.Core.List.{List, [], ◌∷◌, ◌++◌}
use mathlib.Core.Path.{◌≡◌, refl, sym, ◌∙◌}
use lib.Dec.{leb, eqb}
use native.Mathlib.Omega.{arith}
use borrow.Author.Tests.{leb-true, le-leb, eq-eqb}
use Rattle.model.specs.Basics.{both, either, within}
use Rattle.model.specs.Questions.{Question, question, first_no}
use Rattle.model.specs.Calls.{settle}

-- Both answers are yes where each is, and a no of either is a no.
pub both_yes : {a b : Bool} → a ≡ true → b ≡ true → both a b ≡ true
unfolding both
both_yes p q = rw p q

pub both-no : {a : Bool} (b : Bool) → a ≡ false → both a b ≡ false
unfolding both
both-no b p = rw p refl

pub both-no-after : (a : Bool) {b : Bool} → b ≡ false → both a b ≡ false
unfolding both
both-no-after true p = p
both-no-after false p = refl

pub both_first : (a b : Bool) → both a b ≡ true → a ≡ true
unfolding both
both_first true b p = refl
both_first false b p = p

pub both-second : (a b : Bool) → both a b ≡ true → b ≡ true
unfolding both
both-second true b p = p
both-second false b p = absurd (let z : false ≡ true = p in mathlib.Core.Bool.false≢true z)

pub both_true : (a : Bool) → both a true ≡ a
unfolding both
both_true true = refl
both_true false = refl

-- A number within its range, and one outside.
pub within-yes : (low high x : ℕ) → low ≤ x → x ≤ high → within low high x ≡ true
unfolding within
within-yes low high x p q = both_yes (le-leb low x p) (le-leb x high q)

pub within_low : (low high x : ℕ) → within low high x ≡ true → low ≤ x
unfolding within
within_low low high x p = leb-true low x (both_first (leb low x) (leb x high) p)

pub within-high : (low high x : ℕ) → within low high x ≡ true → x ≤ high
unfolding within
within-high low high x p = leb-true x high (both-second (leb low x) (leb x high) p)

-- The first no: past a yes, and at a no.
pub first_no-yes : (n : ℕ) {b : Bool} (qs : List Question) → b ≡ true → first_no (question n b ∷ qs) ≡ first_no qs
unfolding first_no
first_no-yes n qs p = rw p refl

pub first_no-no : (n : ℕ) {b : Bool} (qs : List Question) → b ≡ false → first_no (question n b ∷ qs) ≡ n
unfolding first_no
first_no-no n qs p = rw p refl

-- A question looked up by its number: every question of that number in the list is answered yes.
unfoldable pub asked : ℕ → List Question → Bool
asked n [] = true
asked n (q ∷ qs) = both (either (not (eqb n q.number)) q.holds) (asked n qs)

-- No question of the list has the number 0, which stands for "accepted".
unfoldable pub numbered : List Question → Bool
numbered [] = true
numbered (q ∷ qs) = both (not (eqb q.number 0)) (numbered qs)

pub either_second : (a : Bool) {b : Bool} → b ≡ true → either a b ≡ true
unfolding either
either_second true p = refl
either_second false p = p

not-zero : (n : ℕ) → not (eqb n 0) ≡ true → n ≡ 0 → ⊥
not-zero n p q = let z : not (eqb n 0) ≡ false = rw (eq-eqb n 0 q) refl in
    mathlib.Core.Bool.true≢false (sym p ∙ z)

-- "All were yes": an accepted call's questions, each by its number.
pub all_yes : (n : ℕ) (qs : List Question) → numbered qs ≡ true → first_no qs ≡ 0 → asked n qs ≡ true
unfolding asked numbered first_no
all_yes n [] h p = refl
all_yes n (q ∷ qs) h p =
    head q.holds refl (λ t. all_yes n qs (both-second (not (eqb q.number 0)) (numbered qs) h) t)
  where
    head : (b : Bool) → q.holds ≡ b → (first_no qs ≡ 0 → asked n qs ≡ true)
        → both (either (not (eqb n q.number)) q.holds) (asked n qs) ≡ true
    head true e rest = both_yes (either_second (not (eqb n q.number)) e) (rest (sym (first_no-yes q.number qs e) ∙ p))
    head false e rest =
        absurd
        (not-zero q.number (both_first (not (eqb q.number 0)) (numbered qs) h) (sym (first_no-no q.number qs e) ∙ p))

-- The first no of two lists in a row: that of the first list, where it has one, and else that of the second.
pub first_no-front : (xs ys : List Question) → (first_no xs ≡ 0 → ⊥) → first_no (xs ++ ys) ≡ first_no xs
unfolding first_no
first_no-front [] ys h = absurd (h refl)
first_no-front (x ∷ xs) ys h = at x.holds refl (first_no-front xs ys)
  where
    at : (b : Bool) → x.holds ≡ b → ((first_no xs ≡ 0 → ⊥) → first_no (xs ++ ys) ≡ first_no xs)
        → cond x.holds (first_no (xs ++ ys)) x.number ≡ cond x.holds (first_no xs) x.number
    at true e rest = rw e (rest (λ z. h (rw e z)))
    at false e rest = rw e refl

pub first_no-back : (xs ys : List Question) → numbered xs ≡ true → first_no xs ≡ 0 → first_no (xs ++ ys) ≡ first_no ys
unfolding first_no numbered
first_no-back [] ys n h = refl
first_no-back (x ∷ xs) ys n h = at x.holds refl (first_no-back xs ys (both-second (not (eqb x.number 0)) (numbered xs) n))
  where
    at : (b : Bool) → x.holds ≡ b → (first_no xs ≡ 0 → first_no (xs ++ ys) ≡ first_no ys)
        → cond x.holds (first_no (xs ++ ys)) x.number ≡ first_no ys
    at true e rest = rw e (rest (rw e at h))
    at false e rest = absurd (not-zero x.number (both_first (not (eqb x.number 0)) (numbered xs) n) (rw e at h))

-- Of two lists that are answered yes, the first is.
pub first_no-both : (xs ys : List Question) → first_no (xs ++ ys) ≡ 0 → first_no xs ≡ 0
first_no-both xs ys h = by (first_no xs) refl
  where
    by : (n : ℕ) → first_no xs ≡ n → n ≡ 0
    by zero e = refl
    by (suc n) e = sym e ∙ (sym (first_no-front xs ys (λ z. omega arith)) ∙ h)

-- What settles a call: an accepted one, and one refused by the question n.
pub settle-accepted : {A : Type 0} {n : ℕ} (done : A) (refusal : ℕ → A) → n ≡ 0 → settle n done refusal ≡ done
unfolding settle
settle-accepted done refusal p = rw p refl

pub settle-refused : {A : Type 0} {n : ℕ} (k : ℕ) (done : A) (refusal : ℕ → A) → n ≡ suc k → settle n done refusal ≡ refusal (suc k)
unfolding settle
settle-refused k done refusal p = rw p refl

-- The number of what was settled is that of the first no.
pub settle-number : {A : Type 0} (number : A → ℕ) (n : ℕ) (done : A) (refusal : ℕ → A) → number done ≡ 0 → ((k : ℕ) → number (refusal k) ≡ k)
    → number (settle n done refusal) ≡ n
unfolding settle
settle-number number zero done refusal p q = p
settle-number number (suc n) done refusal p q = q (suc n)
