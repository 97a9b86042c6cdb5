-- Laws of the bytes, pages and frames that an access touches: its last byte and page, how many it touches, and a test of each of them.
use Prim.Native.Nat.{ℕ, zero, suc, ◌+◌, ◌-◌, ◌*◌, ◌/◌, ◌≤◌, ◌<◌}
use mathlib.Core.Bool.{Bool, true, false}
use mathlib.Core.Path.{◌≡◌, refl, sym, ◌∙◌}
use lib.Dec.{leb, ltb, eqb}
use borrow.Author.Tests.{leb-true, leb-false, le-leb, lt-leb, le-ltb, eqb-true, eqb-false}
use native.Mathlib.Omega.{arith}
use Rattle.model.specs.Basics.{both, within, every_from}
use Rattle.model.specs.Sizes.{last_byte, last_page, touched}
use Rattle.model.specs.Questions.{every_touched}
use Rattle.laws.proofs.QuestionLaws.{both_first, both-second, both-no, within_low, within-high}

-- Two tests that hold of the same numbers. `ltb a b` is `leb (suc a) b`.
pub same_test : (a b c d : ℕ) → (a ≤ b → c ≤ d) → (b < a → d < c) → leb a b ≡ leb c d
same_test a b c d p q = by_cases (leb a b) refl
  where
    by_cases : (t : Bool) → leb a b ≡ t → leb a b ≡ leb c d
    by_cases true e = e ∙ sym (le-leb c d (p (leb-true a b e)))
    by_cases false e = e ∙ sym (lt-leb c d (q (leb-false a b e)))

-- A run of bytes ends below a limit that is not 0 where as many bytes are left of it.
pub ends-below : (address length limit : ℕ) → (limit ≡ 0 → ⊥) → address ≤ limit
    → leb length (limit - address) ≡ ltb (last_byte address length) limit
unfolding last_byte
ends-below address length limit p q =
    same_test length (limit - address) (suc (address + length - 1)) limit (λ h. omega arith) (λ h. omega arith)

pub ends-at-no-limit : (address length limit : ℕ) → limit ≡ 0 → false ≡ ltb (last_byte address length) limit
ends-at-no-limit address length limit p = sym (le-ltb (last_byte address length) limit (omega arith))

pub starts-above : (address length limit : ℕ) → limit < address → false ≡ ltb (last_byte address length) limit
unfolding last_byte
starts-above address length limit p = sym (le-ltb (address + length - 1) limit (omega arith))

-- The last page is below a number of pages where the last byte is below that many times 4,096.
pub last-page-below : (address length pages : ℕ) → ltb (last_byte address length) (pages * 4096) ≡ ltb (last_page address length) pages
unfolding last_page
last-page-below address length pages =
    same_test
    (suc (last_byte address length))
    (pages * 4096)
    (suc (last_byte address length / 4096))
    pages
    (λ h. omega arith)
    (λ h. omega arith)

-- A test of each of the count numbers from first on: a no at the first, a yes at the first.
pub every-no : (test : ℕ → Bool) (first count : ℕ) → 0 < count → test first ≡ false → every_from test first count ≡ false
unfolding every_from
every-no test first zero p q = absurd (let z : 0 < 0 = p in omega arith)
every-no test first (suc count) p q = both-no (every_from test (suc first) count) q

pub every-yes : (test : ℕ → Bool) (first count : ℕ) → 0 < count → test first ≡ true
    → every_from test first count ≡ every_from test (first + 1) (count - 1)
unfolding every_from both
every-yes test first zero p q = absurd (let z : 0 < 0 = p in omega arith)
every-yes test first (suc count) p q =
    let a : first + 1 ≡ suc first = omega arith in
    let b : suc count - 1 ≡ count = omega arith in
    rw (q, a, b)

-- What each of them answers.
pub every-at : (test : ℕ → Bool) (first count p : ℕ) → every_from test first count ≡ true → first ≤ p → p < first + count → test p ≡ true
unfolding every_from
every-at test first zero p e l h = absurd (let z : p < first + 0 = h in omega arith)
every-at test first (suc count) p e l h =
    by_cases (eqb p first) refl (λ l' h'. every-at test (suc first) count p (both-second (test first) _ e) l' h')
  where
    by_cases : (t : Bool) → eqb p first ≡ t → (suc first ≤ p → p < suc first + count → test p ≡ true) → test p ≡ true
    by_cases true q rest = rw (eqb-true p first q) (both_first (test first) _ e)
    by_cases false q rest =
        let d : p ≡ first → ⊥ = eqb-false p first q in
        let k : p < first + suc count = h in
        rest (omega arith) (omega arith)

-- Two tests that agree on them.
pub every-same : (f g : ℕ → Bool) (first count : ℕ) → ((p : ℕ) → first ≤ p → p < first + count → f p ≡ g p)
    → every_from f first count ≡ every_from g first count
unfolding every_from
every-same f g first zero e = refl
every-same f g first (suc count) e =
    let here : f first ≡ g first = e first (omega arith) (omega arith) in
    let rest : every_from f (suc first) count ≡ every_from g (suc first) count =
    every-same f g (suc first) count (λ p l h. e p (omega arith) (omega arith)) in
    rw (here, rest)

-- Every page or frame from the first touched to the last answers a test that every_touched passed.
pub touched-at : (test : ℕ → Bool) (address length p : ℕ) → every_touched test address length ≡ true → address / 4096 ≤ p
    → p ≤ last_page address length → test p ≡ true
unfolding every_touched touched
touched-at test address length p e l h =
    every-at test (address / 4096) (suc (last_page address length - address / 4096)) p e l (omega arith)

-- An access of at least one byte ends where it starts or after that; one of at most 4,096 bytes touches no third page.
pub first-up-to-last : (address length : ℕ) → 1 ≤ length → address / 4096 ≤ last_page address length
unfolding last_page last_byte
first-up-to-last address length p = omega arith

both_true : (b : Bool) → both b true ≡ b
unfolding both
both_true true = refl
both_true false = refl

both-same : (b : Bool) → both b b ≡ b
unfolding both
both-same true = refl
both-same false = refl

-- A write touches its first page and its last, which may be one.
pub touched-both : (test : ℕ → Bool) (address length : ℕ) → within 1 16 length ≡ true
    → every_touched test address length ≡ both (test (address / 4096)) (test (last_page address length))
unfolding every_touched touched every_from last_page last_byte
touched-both test address length w = by_cases (eqb (last_page address length) (address / 4096)) refl
  where
    low : 1 ≤ length
    low = within_low 1 16 length w

    high : length ≤ 16
    high = within-high 1 16 length w

    by_cases : (t : Bool) → eqb (last_page address length) (address / 4096) ≡ t
        → every_touched test address length ≡ both (test (address / 4096)) (test (last_page address length))
    by_cases true q =
        let e : last_page address length ≡ address / 4096 = eqb-true _ _ q in
        let n : last_page address length - address / 4096 ≡ 0 = omega arith in
        rw (n, e) (both_true (test (address / 4096)) ∙ sym (both-same (test (address / 4096))))
    by_cases false q =
        let d : last_page address length ≡ address / 4096 → ⊥ = eqb-false _ _ q in
        let e : last_page address length ≡ suc (address / 4096) = let l : 1 ≤ length = low in let h : length ≤ 16 = high in omega arith in
        let n : last_page address length - address / 4096 ≡ 1 = omega arith in
        rw (n, e) (rw (both_true (test (suc (address / 4096)))) refl)
