-- Laws of questions 2 to 6 asked of sizes and arrays: questions 5 and 6 on the numbers that are left, and the first no, by the tests that the code
-- makes.
use Prim.Native.Nat.{ℕ, ◌+◌, ◌≤◌, ◌<◌, min}
use mathlib.Core.Bool.{Bool, true, false, not}
use mathlib.Core.List.{List, [], ◌∷◌}
use mathlib.Core.Path.{◌≡◌, refl, sym, ◌∙◌}
use lib.ListN.{length, get_or, drop, drop_of_length-le}
use lib.Seq.{drop-cons}
use mir.Syntax.{w16}
use mir.Val.{Fits}
use native.Mathlib.Numerals.{add-one}
use native.Mathlib.Omega.{arith}
use borrow.Author.Tests.{not-true, not-false}
use Rattle.model.specs.Basics.{both, within}
use Rattle.model.specs.Sizes.{pages_in_range, frames_in_range}
use Rattle.model.specs.Policy.{Policy}
use Rattle.model.specs.Questions.{first_no, sizes_in_range, counts_in_range, rising, all_below, policy_questions}
use Rattle.record_model.specs.Record.{policy_by, arrays_exact}
use Rattle.laws.proofs.QuestionLaws.{both_true, both_first, both-second, within_low, within-high}
use Rattle.policy.proofs.RecordLaws.{asked-2, asked-3, asked-4, asked-5, asked-6, asked-none}

-- The numbers that are left begin with the one at place i.
pub array-front : (listed : List ℕ) (i : ℕ) → i < length listed → drop i listed ≡ get_or listed i 0 ∷ drop (i + 1) listed
array-front listed i more = rw add-one (drop-cons listed i 0 more)

pub array-ends : (listed : List ℕ) (i : ℕ) → length listed ≤ i → drop i listed ≡ []
array-ends listed i h = drop_of_length-le listed h

-- Past question 2, V and F have 16 bits, and F is above 0.
module _ (pages frames : ℕ) (sizes : Bool) (e2 : sizes ≡ both (pages_in_range pages) (frames_in_range frames)) (h2 : not sizes ≡ false) where
  pub pages-narrow : Fits w16 pages
  unfolding pages_in_range
  pages-narrow = record { fits = omega (arith, within-high 1 2048 pages (both_first _ (frames_in_range frames) (sym e2 ∙ not-false sizes h2))) }

  pub frames-narrow : Fits w16 frames
  unfolding frames_in_range
  frames-narrow = record { fits = omega (arith, within-high 1 4096 frames (both-second (pages_in_range pages) _ (sym e2 ∙ not-false sizes h2))) }

  pub frames-some : 1 ≤ frames
  unfolding frames_in_range
  frames-some = within_low 1 4096 frames (both-second (pages_in_range pages) _ (sym e2 ∙ not-false sizes h2))

-- Questions 2 to 6 in order.
module _ (pages frames count entries : ℕ) (ps fs : List ℕ) where
  abbrev policy : Policy
  policy = policy_by pages frames count entries ps fs

  module _ (sizes : Bool) (e2 : sizes ≡ both (pages_in_range pages) (frames_in_range frames)) where
    is2 : sizes ≡ sizes_in_range policy
    unfolding sizes_in_range
    is2 = e2

    pub policy-2 : not sizes ≡ true → 2 ≡ first_no (policy_questions true true (arrays_exact policy) policy)
    policy-2 h = asked-2 true true (arrays_exact policy) policy refl sizes is2 h

    module _ (h2 : not sizes ≡ false) (counts : Bool) (e3 : counts ≡ both (within 1 pages count) (within 1 (min count 16) entries)) where
      is3 : counts ≡ both (counts_in_range policy) true
      unfolding counts_in_range
      is3 = e3 ∙ sym (both_true _)

      pub policy-3 : not counts ≡ true → 3 ≡ first_no (policy_questions true true (arrays_exact policy) policy)
      policy-3 h = asked-3 true true (arrays_exact policy) policy refl sizes is2 h2 counts is3 h

      module _ (h3 : not counts ≡ false) (exact : Bool) (is4 : exact ≡ arrays_exact policy) where
        pub policy-4 : not exact ≡ true → 4 ≡ first_no (policy_questions true true (arrays_exact policy) policy)
        policy-4 h = asked-4 true true (arrays_exact policy) policy refl sizes is2 h2 counts is3 h3 (sym is4 ∙ not-true exact h)

        module _ (h4 : not exact ≡ false) (rises : Bool) (e5 : rises ≡ rising pages 0 ps) where
          yes4 : arrays_exact policy ≡ true
          yes4 = sym is4 ∙ not-false exact h4

          pub policy-5 : not rises ≡ true → 5 ≡ first_no (policy_questions true true (arrays_exact policy) policy)
          policy-5 h = asked-5 true true (arrays_exact policy) policy refl sizes is2 h2 counts is3 h3 yes4 rises e5 h

          module _ (h5 : not rises ≡ false) (below : Bool) (e6 : below ≡ all_below frames fs) where
            pub policy-6 : not below ≡ true → 6 ≡ first_no (policy_questions true true (arrays_exact policy) policy)
            policy-6 h = asked-6 true true (arrays_exact policy) policy refl sizes is2 h2 counts is3 h3 yes4 rises e5 h5 below e6 h

            pub policy-yes : not below ≡ false → 0 ≡ first_no (policy_questions true true (arrays_exact policy) policy)
            policy-yes h = asked-none true true (arrays_exact policy) policy refl sizes is2 h2 counts is3 h3 yes4 rises e5 h5 below e6 h
