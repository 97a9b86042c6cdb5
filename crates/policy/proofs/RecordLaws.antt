-- Laws of a policy record as it is read: a number at a place, the numbers that are left, question 6 by the library's test, the first no of questions 1 to 6,
-- and what it says of the record's length and of the start's questions.
use Prim.Native.Nat.{ℕ, ◌+◌, ◌-◌, ◌*◌, ◌≤◌, ◌<◌, min, max}
use mathlib.Core.Bool.{Bool, true, false, not, cond}
use mathlib.Core.List.{List, [], ◌∷◌}
use mathlib.Core.Path.{◌≡◌, refl, sym, ap, ◌∙◌}
use Rattle.std.specs.Prelude.{Option, Some, None}
use Rattle.std.specs.Iterator.{AlwaysYields}
use Rattle.std.specs.List.{fold}
use lib.Dec.{leb, ltb, eqb}
use lib.ListN.{length, get_or, get_or-eq_default}
use native.Mathlib.Omega.{arith}
use borrow.Author.Tests.{le-leb, lt-leb, eq-eqb, ne_eqb, not-false, ltb-true, ltb-false, lt-ltb, le-ltb}
use Rattle.model.specs.Basics.{both, within}
use Rattle.model.specs.Sizes.{pages_in_range, frames_in_range, devices_in_range}
use Rattle.model.specs.Policy.{Policy, Givens, number_at, numbers_at, policy_of}
use Rattle.model.specs.Questions.{Question, question, first_no, sizes_in_range, counts_in_range, rising, all_below, policy_questions, givens_in_range, record_questions}
use Rattle.model.specs.Questions.{Lengths, lengths_fit, start_questions}
use Rattle.laws.proofs.QuestionLaws.{both_true, both-second, within_low, first_no-yes, first_no-no, first_no-front, first_no-back, numbered}
use Rattle.laws.proofs.CallLaws.{passed, stopped, none_left}
use Rattle.laws.proofs.PolicyLaws.{Passed, policy-passed, policy-asked, numbers_at-more}

-- A number past the end, one whose second byte is, and one inside.
pub number_none : (bytes : List ℕ) (at : ℕ) → length bytes ≤ at → 0 ≡ number_at bytes at
unfolding number_at
number_none bytes at h =
    let low : get_or bytes at 0 ≡ 0 = get_or-eq_default bytes 0 h in
    let high : get_or bytes (at + 1) 0 ≡ 0 = get_or-eq_default bytes 0 (omega arith) in
    rw (low, high)

pub number_low : (bytes : List ℕ) (at r : ℕ) → length bytes ≤ at + 1 → r ≡ get_or bytes at 0 + 256 * 0 → r ≡ number_at bytes at
unfolding number_at
number_low bytes at r h e =
    let high : get_or bytes (at + 1) 0 ≡ 0 = get_or-eq_default bytes 0 h in
    rw high e

-- The numbers that are left begin with the one that was read, and go on where the reader has come to.
pub numbers-front : (bytes : List ℕ) (at left number after : ℕ) → number ≡ number_at bytes at → after ≡ at + 2 → 0 < left
    → numbers_at bytes at left ≡ number ∷ numbers_at bytes after (left - 1)
numbers-front bytes at left number after read moved more = rw (read, moved) (numbers_at-more bytes at left more)

-- An iterator that always gives the numbers that are left: at its end, and at the first of them.
module _ {S : Type 0} (steps : S → Option ℕ → S → Type 0) (s t : S) where
  pub yields-none : (ys : List ℕ) → AlwaysYields steps (λ n. n) s ys → steps s None t → ys ≡ []
  yields-none [] gives none = refl
  yields-none (y ∷ ys) gives none = absurd (gives.0 t none)

  pub yields-some : (ys : List ℕ) (x : ℕ) → AlwaysYields steps (λ n. n) s ys → steps s (Some x) t
      → (zs : List ℕ) × (ys ≡ x ∷ zs) × AlwaysYields steps (λ n. n) t zs
  yields-some [] x gives some = absurd (gives x t some)
  yields-some (y ∷ ys) x gives some = let more = gives.1 x t some in (ys, ap (λ (n : ℕ). n ∷ ys) (sym more.0), more.1)

-- Question 6 by the highest frame.
max-below : (a b limit : ℕ) → ltb (max a b) limit ≡ both (ltb a limit) (ltb b limit)
unfolding both
max-below a b limit = at (ltb a limit) (ltb b limit) refl refl
  where
    at : (p q : Bool) → ltb a limit ≡ p → ltb b limit ≡ q → ltb (max a b) limit ≡ both p q
    at true true e f = let h : a < limit = ltb-true a limit e in let k : b < limit = ltb-true b limit f in lt-ltb (max a b) limit (omega arith)
    at true false e f = let k : limit ≤ b = ltb-false b limit f in le-ltb (max a b) limit (omega arith)
    at false q e f = let h : limit ≤ a = ltb-false a limit e in le-ltb (max a b) limit (omega arith)

both-both : (p q r : Bool) → both (both p q) r ≡ both p (both q r)
unfolding both
both-both true q r = refl
both-both false q r = refl

fold-below : (limit top : ℕ) (frames : List ℕ) → ltb (fold max top frames) limit ≡ both (ltb top limit) (all_below limit frames)
unfolding all_below
fold-below limit top [] = sym (both_true (ltb top limit))
fold-below limit top (f ∷ frames) =
    fold-below limit (max top f) frames
    ∙ (ap (λ (b : Bool). both b (all_below limit frames)) (max-below top f limit) ∙ both-both (ltb top limit) (ltb f limit) (all_below limit frames))

pub highest-below : (limit : ℕ) (frames : List ℕ) (r : Bool) (top : ℕ) → 1 ≤ limit → top ≡ fold max 0 frames → r ≡ ltb top limit → r ≡ all_below limit frames
unfolding both
highest-below limit frames r top low e asks =
    asks ∙ (ap (λ (n : ℕ). ltb n limit) e ∙ (fold-below limit 0 frames ∙ ap (λ (b : Bool). both b (all_below limit frames)) (lt-ltb 0 limit low)))

-- Past question 2, F is above 0.
pub frames-some : (pages frames : ℕ) (sizes : Bool) → sizes ≡ both (pages_in_range pages) (frames_in_range frames) → not sizes ≡ false → 1 ≤ frames
unfolding frames_in_range
frames-some pages frames sizes e h = within_low 1 4096 frames (both-second (pages_in_range pages) _ (sym e ∙ not-false sizes h))

-- Questions 1 to 6 in order, of a policy wherever it comes from, by the tests that the code makes.
module _ (long more exact : Bool) (policy : Policy) where
  pub asked-1 : long ≡ false → 1 ≡ first_no (policy_questions long more exact policy)
  unfolding policy_questions
  asked-1 h = sym (first_no-no 1 _ h)

  module _ (h1 : long ≡ true) (sizes : Bool) (e2 : sizes ≡ sizes_in_range policy) where
    past1 : (k : ℕ) (qs : List Question) → k ≡ first_no qs → k ≡ first_no (question 1 long ∷ qs)
    past1 k qs rest = rest ∙ sym (first_no-yes 1 qs h1)

    pub asked-2 : not sizes ≡ true → 2 ≡ first_no (policy_questions long more exact policy)
    unfolding policy_questions
    asked-2 h = past1 2 _ (stopped 2 sizes _ _ e2 h)

    module _ (h2 : not sizes ≡ false) (counts : Bool) (e3 : counts ≡ both (counts_in_range policy) more) where
      pub asked-3 : not counts ≡ true → 3 ≡ first_no (policy_questions long more exact policy)
      unfolding policy_questions
      asked-3 h = past1 3 _ (passed 2 3 sizes _ _ e2 h2 (stopped 3 counts _ _ e3 h))

      module _ (h3 : not counts ≡ false) where
        past3 : (k : ℕ) (qs : List Question) → k ≡ first_no qs
            → k ≡ first_no (question 1 long ∷ question 2 (sizes_in_range policy) ∷ question 3 (both (counts_in_range policy) more) ∷ qs)
        past3 k qs rest = past1 k _ (passed 2 k sizes _ _ e2 h2 (passed 3 k counts _ _ e3 h3 rest))

        pub asked-4 : exact ≡ false → 4 ≡ first_no (policy_questions long more exact policy)
        unfolding policy_questions
        asked-4 h = past3 4 _ (sym (first_no-no 4 _ h))

        module _ (h4 : exact ≡ true) (rises : Bool) (e5 : rises ≡ rising policy.pages 0 policy.listed_pages) where
          past4 : (k : ℕ) (qs : List Question) → k ≡ first_no qs
              → k ≡ first_no (question 1 long ∷ question 2 (sizes_in_range policy) ∷ question 3 (both (counts_in_range policy) more) ∷ question 4 exact ∷ qs)
          past4 k qs rest = past3 k _ (rest ∙ sym (first_no-yes 4 qs h4))

          pub asked-5 : not rises ≡ true → 5 ≡ first_no (policy_questions long more exact policy)
          unfolding policy_questions
          asked-5 h = past4 5 _ (stopped 5 rises _ _ e5 h)

          module _ (h5 : not rises ≡ false) (below : Bool) (e6 : below ≡ all_below policy.frames policy.listed_frames) where
            pub asked-6 : not below ≡ true → 6 ≡ first_no (policy_questions long more exact policy)
            unfolding policy_questions
            asked-6 h = past4 6 _ (passed 5 6 rises _ _ e5 h5 (stopped 6 below _ _ e6 h))

            pub asked-none : not below ≡ false → 0 ≡ first_no (policy_questions long more exact policy)
            unfolding policy_questions
            asked-none h = past4 0 _ (passed 5 0 rises _ _ e5 h5 (passed 6 0 below _ _ e6 h none_left))

-- The same of a record, by the numbers that the code read.
module _ (given : Givens) (bytes : List ℕ) where
  pub record-1 : length bytes < 8 → 1 ≡ first_no (record_questions given bytes (policy_of bytes))
  unfolding record_questions
  record-1 h = asked-1 _ _ _ (policy_of bytes) (lt-leb 8 (length bytes) h)

  module _ (h1 : 8 ≤ length bytes) (pages frames count entries : ℕ)
      (read : (pages ≡ number_at bytes 0) × (frames ≡ number_at bytes 2) × (count ≡ number_at bytes 4) × (entries ≡ number_at bytes 6)) (sizes : Bool)
      (e2 : sizes ≡ both (pages_in_range pages) (frames_in_range frames)) where
    long : leb 8 (length bytes) ≡ true
    long = le-leb 8 (length bytes) h1

    is2 : sizes ≡ sizes_in_range (policy_of bytes)
    unfolding sizes_in_range policy_of
    is2 = rw (← read.0, ← read.1) e2

    pub record-2 : not sizes ≡ true → 2 ≡ first_no (record_questions given bytes (policy_of bytes))
    unfolding record_questions
    record-2 h = asked-2 _ _ _ (policy_of bytes) long sizes is2 h

    module _ (h2 : not sizes ≡ false) (numbers more counts : Bool)
        (e_c : numbers ≡ both (within 1 pages count) (within 1 (min count 16) entries)) (e_g : more ≡ devices_in_range given.devices)
        (e3 : counts ≡ both numbers more) where
      is3 : counts ≡ both (counts_in_range (policy_of bytes)) (givens_in_range given)
      unfolding counts_in_range givens_in_range policy_of
      is3 = rw (← read.0, ← read.2, ← read.3) (e3 ∙ rw (e_c, e_g) refl)

      pub record-3 : not counts ≡ true → 3 ≡ first_no (record_questions given bytes (policy_of bytes))
      unfolding record_questions
      record-3 h = asked-3 _ _ _ (policy_of bytes) long sizes is2 h2 counts is3 h

      module _ (h3 : not counts ≡ false) where
        pub record-4 : (length bytes ≡ 8 + 4 * count → ⊥) → 4 ≡ first_no (record_questions given bytes (policy_of bytes))
        unfolding record_questions policy_of
        record-4 h =
            asked-4 _ _ _ (policy_of bytes) long sizes is2 h2 counts is3 h3 (rw (← read.2) (ne_eqb (length bytes) (8 + 4 * count) h))

        module _ (h4 : length bytes ≡ 8 + 4 * count) (ps : List ℕ) (pages_are : ps ≡ numbers_at bytes 8 count) (rises : Bool) (e5 : rises ≡ rising pages 0 ps) where
          exact : eqb (length bytes) (8 + 4 * (policy_of bytes).count) ≡ true
          unfolding policy_of
          exact = rw (← read.2) (eq-eqb (length bytes) (8 + 4 * count) h4)

          is5 : rises ≡ rising (policy_of bytes).pages 0 (policy_of bytes).listed_pages
          unfolding policy_of
          is5 = rw (← read.0, ← read.2) (rw pages_are at e5)

          pub record-5 : not rises ≡ true → 5 ≡ first_no (record_questions given bytes (policy_of bytes))
          unfolding record_questions
          record-5 h = asked-5 _ _ _ (policy_of bytes) long sizes is2 h2 counts is3 h3 exact rises is5 h

          module _ (h5 : not rises ≡ false) (fs : List ℕ) (frames_are : fs ≡ numbers_at bytes (8 + 2 * count) count) (below : Bool)
              (e6 : below ≡ all_below frames fs) where
            is6 : below ≡ all_below (policy_of bytes).frames (policy_of bytes).listed_frames
            unfolding policy_of
            is6 = rw (← read.1, ← read.2) (rw frames_are at e6)

            pub record-6 : not below ≡ true → 6 ≡ first_no (record_questions given bytes (policy_of bytes))
            unfolding record_questions
            record-6 h = asked-6 _ _ _ (policy_of bytes) long sizes is2 h2 counts is3 h3 exact rises is5 h5 below is6 h

            pub record-yes : not below ≡ false → 0 ≡ first_no (record_questions given bytes (policy_of bytes))
            unfolding record_questions
            record-yes h = asked-none _ _ _ (policy_of bytes) long sizes is2 h2 counts is3 h3 exact rises is5 h5 below is6 h

-- A record that has passed questions 1 to 6: its policy has passed by itself, and its entry pages are there.
pub record-passed : (given : Givens) (bytes : List ℕ) → 0 ≡ first_no (record_questions given bytes (policy_of bytes))
    → first_no (policy_questions true true true (policy_of bytes)) ≡ 0
unfolding record_questions
record-passed given bytes e = policy-asked _ _ _ (policy_of bytes) (sym e)

pub entries_there : (bytes : List ℕ) (count entries : ℕ) → count ≡ number_at bytes 4 → entries ≡ number_at bytes 6 → length bytes ≡ 8 + 4 * count
    → first_no (policy_questions true true true (policy_of bytes)) ≡ 0 → 8 + 2 * entries ≤ length bytes
unfolding policy_of
entries_there bytes count entries n e long passed =
    let p : Passed (policy_of bytes) = policy-passed true true true (policy_of bytes) passed in
    omega arith

-- What the record's answer is to the start, whatever the lengths of the tables are: its number where it has one, and else question 7 decides.
module _ (given : Givens) (bytes : List ℕ) (n : ℕ) (l : Lengths) (e : n ≡ first_no (record_questions given bytes (policy_of bytes))) where
  pub start-refused : (n ≡ 0 → ⊥) → first_no (start_questions given bytes (policy_of bytes) l) ≡ n
  unfolding start_questions
  start-refused h = first_no-front (record_questions given bytes (policy_of bytes)) _ (λ z. h (e ∙ z)) ∙ sym e

  pub start-asked : n ≡ 0 → first_no (start_questions given bytes (policy_of bytes) l) ≡ cond (lengths_fit (policy_of bytes) l) 0 7
  unfolding start_questions record_questions policy_questions first_no numbered both
  start-asked h = first_no-back (record_questions given bytes (policy_of bytes)) (question 7 (lengths_fit (policy_of bytes) l) ∷ []) refl (sym e ∙ h)
