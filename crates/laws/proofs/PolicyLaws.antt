-- Laws of the policy record: numbers in a row, the rising pages, the frames below a limit, the frame listed for a page, members of a list,
-- and what an accepted start has passed.
use Prim.Native.Nat.{ℕ, zero, suc, ◌+◌, ◌-◌, ◌*◌, ◌≤◌, ◌<◌, min}
use mathlib.Core.Bool.{Bool, true, false, not, cond, false≢true}
use mathlib.Core.List.{List, [], ◌∷◌, map}
use mathlib.Core.Logic.{◌⊎◌, inl, inr}
use mathlib.Core.Path.{◌≡◌, refl, sym, ap, ◌∙◌}
use lib.Dec.{leb, ltb, eqb}
use lib.ListN.{length, get_or}
use native.Mathlib.Nat.{le_of_suc-le-suc}
use native.Mathlib.Omega.{arith}
use borrow.Author.Tests.{ltb-true, lt-ltb, not-true, not-false, eqb-true, eq-eqb}
use Rattle.model.specs.Basics.{both, either, within, member}
use Rattle.model.specs.Sizes.{pages_in_range, frames_in_range}
use Rattle.model.specs.Guard.{vector_bytes}
use Rattle.model.specs.Policy.{Givens, Policy, number_at, numbers_at, frame_for}
use Rattle.model.specs.Questions.{first_no, sizes_in_range, counts_in_range, rising, all_below, policy_questions, givens_in_range, record_questions, Lengths, lengths_fit}
use Rattle.model.specs.Questions.{start_questions}
use Rattle.laws.proofs.QuestionLaws.{either_second, both_yes, both-no, both_first, both-second, within_low, within-high, asked, numbered, all_yes}
use Rattle.laws.proofs.QuestionLaws.{first_no-both}
use Rattle.laws.proofs.StateLaws.{in_order_lem}

-- Numbers in a row: none, one more at the front, how many, and each of them.
pub numbers_at-none : (bytes : List ℕ) (at : ℕ) {left : ℕ} → left ≡ 0 → numbers_at bytes at left ≡ []
unfolding numbers_at
numbers_at-none bytes at e = rw e refl

pub numbers_at-more : (bytes : List ℕ) (at left : ℕ) → 0 < left → numbers_at bytes at left ≡ number_at bytes at ∷ numbers_at bytes (at + 2) (left - 1)
unfolding numbers_at
numbers_at-more bytes at zero h = absurd (omega arith)
numbers_at-more bytes at (suc left) h =
    let e : left ≡ suc left - 1 = omega arith in
    ap (λ (k : ℕ). number_at bytes at ∷ numbers_at bytes (at + 2) k) e

pub length-numbers_at : (bytes : List ℕ) (at count : ℕ) → length (numbers_at bytes at count) ≡ count
unfolding numbers_at
length-numbers_at bytes at zero = refl
length-numbers_at bytes at (suc count) = ap suc (length-numbers_at bytes (at + 2) count)

pub get_or-numbers_at : (bytes : List ℕ) (at count i : ℕ) → i < count → get_or (numbers_at bytes at count) i 0 ≡ number_at bytes (at + 2 * i)
unfolding numbers_at
get_or-numbers_at bytes at zero i h = absurd (omega arith)
get_or-numbers_at bytes at (suc count) zero h = ap (number_at bytes) (omega arith)
get_or-numbers_at bytes at (suc count) (suc i) h =
    get_or-numbers_at bytes (at + 2) count i (le_of_suc-le-suc h) ∙ ap (number_at bytes) (omega arith)

-- Question 5 on the pages that are left, `whole` being the answer on all of them: where none is left, and at the first of them, by what the test of
-- that page gave.
module _ (pages least : ℕ) (ps : List ℕ) (whole : Bool) (e : rising pages least ps ≡ whole) where
  pub rising-ends : ps ≡ [] → true ≡ whole
  unfolding rising
  rising-ends none = rw none at e

  module _ (p : ℕ) (r : Bool) (asks : r ≡ both (leb least p) (ltb p pages)) (rest : List ℕ) (there : ps ≡ p ∷ rest) where
    front : both r (rising pages (suc p) rest) ≡ whole
    unfolding rising
    front = rw asks (rw there at e)

    pub rising-refuses : not r ≡ true → false ≡ whole
    rising-refuses h = sym (both-no _ (not-true r h)) ∙ front

    pub rising-goes-on : not r ≡ false → rising pages (p + 1) rest ≡ whole
    unfolding both
    rising-goes-on h = ap (λ (n : ℕ). rising pages n rest) (omega arith) ∙ (rw (not-false r h) at front)

-- A page that passes is below V.
pub rising-page : (pages least p : ℕ) {r : Bool} → r ≡ both (leb least p) (ltb p pages) → not r ≡ false → p < pages
rising-page pages least p {r} asks h = ltb-true p pages (both-second (leb least p) (ltb p pages) (sym asks ∙ not-false r h))

-- Pages that rise below V are below V.
pub rising-below : (pages least : ℕ) (ps : List ℕ) → rising pages least ps ≡ true → all_below pages ps ≡ true
unfolding rising all_below
rising-below pages least [] h = refl
rising-below pages least (p ∷ ps) h =
    both_yes (both-second (leb least p) (ltb p pages) (both_first (both (leb least p) (ltb p pages)) (rising pages (suc p) ps) h))
    (rising-below pages (suc p) ps (both-second (both (leb least p) (ltb p pages)) (rising pages (suc p) ps) h))

-- Question 6 at a frame in front of others, by what the test of that frame gave, and what a yes says of each.
pub all_below-none : (limit : ℕ) {fs : List ℕ} → fs ≡ [] → all_below limit fs ≡ true
unfolding all_below
all_below-none limit e = rw e refl

module _ (limit f : ℕ) (fs : List ℕ) {r : Bool} (asks : r ≡ ltb f limit) where
  pub all_below-more : not r ≡ false → all_below limit (f ∷ fs) ≡ all_below limit fs
  unfolding all_below both
  all_below-more h = rw (sym asks ∙ not-false r h) refl

  pub all_below-no : not r ≡ true → all_below limit (f ∷ fs) ≡ false
  unfolding all_below
  all_below-no h = both-no _ (sym asks ∙ not-true r h)

pub all_below-head : (limit f : ℕ) (fs : List ℕ) → all_below limit (f ∷ fs) ≡ true → f < limit
unfolding all_below
all_below-head limit f fs h = ltb-true f limit (both_first (ltb f limit) (all_below limit fs) h)

pub all_below-tail : (limit f : ℕ) (fs : List ℕ) → all_below limit (f ∷ fs) ≡ true → all_below limit fs ≡ true
unfolding all_below
all_below-tail limit f fs h = both-second (ltb f limit) (all_below limit fs) h

pub all_below-wider : (limit wider : ℕ) (fs : List ℕ) → limit ≤ wider → all_below limit fs ≡ true → all_below wider fs ≡ true
all_below-wider limit wider [] l h = all_below-none wider refl
all_below-wider limit wider (f ∷ fs) l h =
    let below : f < limit = all_below-head limit f fs h in
    all_below-more wider f fs (sym (lt-ltb f wider (omega arith))) refl ∙ all_below-wider limit wider fs l (all_below-tail limit f fs h)

pub all_below-get_or : (limit : ℕ) (fs : List ℕ) (i : ℕ) → all_below limit fs ≡ true → i < length fs → get_or fs i 0 < limit
all_below-get_or limit [] i h l = absurd (omega arith)
all_below-get_or limit (f ∷ fs) zero h l = all_below-head limit f fs h
all_below-get_or limit (f ∷ fs) (suc i) h l = all_below-get_or limit fs i (all_below-tail limit f fs h) (le_of_suc-le-suc l)

-- Members: the first, or one of the others.
pub member-here : (x y : ℕ) (ys : List ℕ) → x ≡ y → member x (y ∷ ys) ≡ true
unfolding member either
member-here x y ys e = rw (eq-eqb x y e) refl

pub member-there : (x y : ℕ) (ys : List ℕ) → eqb x y ≡ false → member x (y ∷ ys) ≡ member x ys
unfolding member either
member-there x y ys e = rw e refl

pub member-later : (x y : ℕ) (ys : List ℕ) → member x ys ≡ true → member x (y ∷ ys) ≡ true
unfolding member
member-later x y ys h = either_second (eqb x y) h

pub all_below-member : (limit x : ℕ) (fs : List ℕ) → all_below limit fs ≡ true → member x fs ≡ true → x < limit
unfolding member
all_below-member limit x [] h m = absurd (false≢true m)
all_below-member limit x (f ∷ fs) h m = at (eqb x f) refl (all_below-member limit x fs (all_below-tail limit f fs h))
  where
    at : (b : Bool) → eqb x f ≡ b → (member x fs ≡ true → x < limit) → x < limit
    at true e rest = rw (eqb-true x f e) (all_below-head limit f fs h)
    at false e rest = rest (sym (member-there x f fs e) ∙ m)

-- The frame listed for a page: other where the page is not listed, and else one of the frames.
pub frame_for-unlisted : (ps fs : List ℕ) (page other : ℕ) → member page ps ≡ false → frame_for ps fs page other ≡ other
unfolding frame_for
frame_for-unlisted [] fs page other h = refl
frame_for-unlisted (p ∷ ps) [] page other h = refl
frame_for-unlisted (p ∷ ps) (f ∷ fs) page other h = at (eqb page p) refl (λ o. frame_for-unlisted ps fs page o)
  where
    at : (b : Bool) → eqb page p ≡ b → ((o : ℕ) → member page ps ≡ false → frame_for ps fs page o ≡ o)
        → frame_for ps fs page (cond (eqb page p) f other) ≡ other
    at true e rest = absurd (false≢true (sym h ∙ member-here page p ps (eqb-true page p e)))
    at false e rest = rw e (rest other (sym (member-there page p ps e) ∙ h))

pub frame_for-member : (ps fs : List ℕ) (page other : ℕ)
    → (frame_for ps fs page other ≡ other) ⊎ (member (frame_for ps fs page other) fs ≡ true)
unfolding frame_for
frame_for-member [] fs page other = inl refl
frame_for-member (p ∷ ps) [] page other = inl refl
frame_for-member (p ∷ ps) (f ∷ fs) page other = at (eqb page p) refl (frame_for-member ps fs page (cond (eqb page p) f other))
  where
    later : (o : ℕ) → frame_for ps fs page (cond (eqb page p) f other) ≡ o → (o ≡ other) ⊎ (member o (f ∷ fs) ≡ true)
        → (frame_for ps fs page (cond (eqb page p) f other) ≡ other) ⊎ (member (frame_for ps fs page (cond (eqb page p) f other)) (f ∷ fs) ≡ true)
    later o e h = rw e h

    at : (b : Bool) → eqb page p ≡ b
        → (frame_for ps fs page (cond (eqb page p) f other) ≡ cond (eqb page p) f other)
        ⊎ (member (frame_for ps fs page (cond (eqb page p) f other)) fs ≡ true)
        → (frame_for ps fs page (cond (eqb page p) f other) ≡ other)
        ⊎ (member (frame_for ps fs page (cond (eqb page p) f other)) (f ∷ fs) ≡ true)
    at b e (inr m) = inr (member-later _ f fs m)
    at true e (inl s) = later f (s ∙ (rw e refl)) (inr (member-here f f fs refl))
    at false e (inl s) = inl (s ∙ (rw e refl))

-- A function of every frame and of other is the function of the frame for the page.
pub frame_for-map : (h : ℕ → ℕ) (ps fs : List ℕ) (page other : ℕ) → frame_for ps (map h fs) page (h other) ≡ h (frame_for ps fs page other)
unfolding frame_for
frame_for-map h [] fs page other = refl
frame_for-map h (p ∷ ps) [] page other = refl
frame_for-map h (p ∷ ps) (f ∷ fs) page other =
    ap (frame_for ps (map h fs) page) (at (eqb page p)) ∙ frame_for-map h ps fs page (cond (eqb page p) f other)
  where
    at : (b : Bool) → cond b (h f) (h other) ≡ h (cond b f other)
    at true = refl
    at false = refl

-- What questions 2, 3, 5 and 6 say of a policy, wherever its sizes and lists come from.
pub record Passed (policy : Policy) : Type 0 where
  pub pages-low : 1 ≤ policy.pages
  pub pages-high : policy.pages ≤ 2048
  pub frames-low : 1 ≤ policy.frames
  pub frames-high : policy.frames ≤ 4096
  pub count_low : 1 ≤ policy.count
  pub count-high : policy.count ≤ policy.pages
  pub entry-count-low : 1 ≤ policy.entry_count
  pub entry-count-listed : policy.entry_count ≤ policy.count
  pub entry-count-high : policy.entry_count ≤ 16
  pub pages-rising : rising policy.pages 0 policy.listed_pages ≡ true
  pub pages-below : all_below policy.pages policy.listed_pages ≡ true
  pub frames-below : all_below policy.frames policy.listed_frames ≡ true

module _ (long more exact : Bool) (policy : Policy) (h : first_no (policy_questions long more exact policy) ≡ 0) where
  answered : (n : ℕ) → asked n (policy_questions long more exact policy) ≡ true
  unfolding policy_questions numbered both
  answered n = all_yes n (policy_questions long more exact policy) refl h

  sizes-yes : sizes_in_range policy ≡ true
  unfolding policy_questions asked both either
  sizes-yes = both_first (sizes_in_range policy) true (answered 2)

  pages-yes : pages_in_range policy.pages ≡ true
  unfolding sizes_in_range
  pages-yes = both_first (pages_in_range policy.pages) (frames_in_range policy.frames) sizes-yes

  frames-yes : frames_in_range policy.frames ≡ true
  unfolding sizes_in_range
  frames-yes = both-second (pages_in_range policy.pages) (frames_in_range policy.frames) sizes-yes

  third-yes : both (counts_in_range policy) more ≡ true
  unfolding policy_questions asked both either
  third-yes = both_first (both (counts_in_range policy) more) true (answered 3)

  counts-yes : counts_in_range policy ≡ true
  counts-yes = both_first (counts_in_range policy) more third-yes

  -- What else question 3 asks, and question 4.
  pub more_yes : more ≡ true
  more_yes = both-second (counts_in_range policy) more third-yes

  pub exact-yes : exact ≡ true
  unfolding policy_questions asked both either
  exact-yes = both_first exact true (answered 4)

  long-yes : long ≡ true
  unfolding policy_questions asked both either
  long-yes = both_first long true (answered 1)

  -- What the policy by itself is asked: 2, 3, 5 and 6.
  pub policy-asked : first_no (policy_questions true true true policy) ≡ 0
  policy-asked = rw (long-yes, more_yes, exact-yes) at h

  count_yes : within 1 policy.pages policy.count ≡ true
  unfolding counts_in_range
  count_yes = both_first (within 1 policy.pages policy.count) (within 1 (min policy.count 16) policy.entry_count) counts-yes

  entries-yes : within 1 (min policy.count 16) policy.entry_count ≡ true
  unfolding counts_in_range
  entries-yes = both-second (within 1 policy.pages policy.count) (within 1 (min policy.count 16) policy.entry_count) counts-yes

  rises-yes : rising policy.pages 0 policy.listed_pages ≡ true
  unfolding policy_questions asked both either
  rises-yes = both_first (rising policy.pages 0 policy.listed_pages) true (answered 5)

  below-yes : all_below policy.frames policy.listed_frames ≡ true
  unfolding policy_questions asked both either
  below-yes = both_first (all_below policy.frames policy.listed_frames) true (answered 6)

  pub policy-passed : Passed policy
  unfolding pages_in_range frames_in_range
  policy-passed =
      record {
        pages-low = within_low 1 2048 policy.pages pages-yes;
        pages-high = within-high 1 2048 policy.pages pages-yes;
        frames-low = within_low 1 4096 policy.frames frames-yes;
        frames-high = within-high 1 4096 policy.frames frames-yes;
        count_low = within_low 1 policy.pages policy.count count_yes;
        count-high = within-high 1 policy.pages policy.count count_yes;
        entry-count-low = within_low 1 (min policy.count 16) policy.entry_count entries-yes;
        entry-count-listed = omega (arith, within-high 1 (min policy.count 16) policy.entry_count entries-yes);
        entry-count-high = omega (arith, within-high 1 (min policy.count 16) policy.entry_count entries-yes);
        pages-rising = rises-yes;
        pages-below = rising-below policy.pages 0 policy.listed_pages rises-yes;
        frames-below = below-yes;
      }

-- What question 7 of the start says of the lengths of its tables.
pub record Fitting (policy : Policy) (l : Lengths) : Type 0 where
  pub shadow : l.shadow ≡ policy.pages
  pub map : l.map ≡ policy.pages
  pub exclusion : l.exclusion ≡ vector_bytes policy.frames

-- An accepted start, by its record and by its tables.
module _ (given : Givens) (bytes : List ℕ) (policy : Policy) (l : Lengths) (h : first_no (start_questions given bytes policy l) ≡ 0) where
  pub start-record : first_no (record_questions given bytes policy) ≡ 0
  unfolding start_questions
  start-record = first_no-both (record_questions given bytes policy) _ h

  pub start-passed : Passed policy
  unfolding record_questions
  start-passed = policy-passed _ _ _ policy start-record

  -- And by what it was given.
  pub start-given : givens_in_range given ≡ true
  unfolding record_questions
  start-given = more_yes _ _ _ policy start-record

  lengths-yes : lengths_fit policy l ≡ true
  unfolding start_questions record_questions policy_questions asked numbered both either
  lengths-yes = both_first _ true (all_yes 7 (start_questions given bytes policy l) refl h)

  pub start-fitting : Fitting policy l
  unfolding lengths_fit
  start-fitting =
      let parts = (in_order_lem true _ lengths-yes).1 in
      record { shadow = eqb-true _ _ parts.0; map = eqb-true _ _ parts.1.0; exclusion = eqb-true _ _ parts.1.1.0 }

-- A record that passed question 4 has its length.
pub record-length : (given : Givens) (bytes : List ℕ) (policy : Policy) (n : ℕ) → n ≡ first_no (record_questions given bytes policy) → n ≡ 0
    → length bytes ≡ 8 + 4 * policy.count
unfolding record_questions
record-length given bytes policy n e h = eqb-true _ _ (exact-yes _ _ _ policy (sym e ∙ h))
