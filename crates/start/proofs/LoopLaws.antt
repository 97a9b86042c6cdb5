-- Laws of the start's loops, a step and the end of each: places set, frames excluded, entry pages read.
use Prim.Native.Nat.{ℕ, zero, suc, ◌+◌, ◌-◌, ◌*◌, ◌≤◌, ◌<◌}
use mathlib.Core.Bool.{Bool, true, false, cond}
use mathlib.Core.List.{List, [], ◌∷◌}
use mathlib.Core.Logic.{◌⊎◌, inl, inr}
use Rattle.std.proofs.lemmas.List.{nil_from_length}
use mathlib.Core.Path.{◌≡◌, refl, sym, ap, ◌∙◌}
use lib.Dec.{ltb, eqb}
use lib.ListN.{length, set, replicate}
use native.Mathlib.Omega.{arith}
use borrow.Author.Tests.{eqb-true, eqb-false, lt-ltb, le-ltb, ltb-true, ltb-false}
use Rattle.model.specs.Guard.{with_bit}
use Rattle.model.specs.Policy.{number_at, numbers_at, policy_of}
use Rattle.model.specs.Bits.{approved}
use Rattle.model.specs.Questions.{all_below, first_no, policy_questions}
use Rattle.laws.proofs.TableLaws.{table_same, set-table, table-const}
use Rattle.laws.proofs.PolicyLaws.{Passed, policy-passed, numbers_at-none, numbers_at-more, length-numbers_at, all_below-head, all_below-tail, all_below-wider}
use Rattle.start.specs.Start.{stored_each, approved_each, with_each, entry_table}

-- The numbers that are left, at the first of them.
pub head-below : (limit x : ℕ) (xs rest : List ℕ) → xs ≡ x ∷ rest → all_below limit xs ≡ true → x < limit
head-below limit x xs rest there h = all_below-head limit x rest (rw there at h)

pub tail-below : (limit x : ℕ) (xs rest : List ℕ) → xs ≡ x ∷ rest → all_below limit xs ≡ true → all_below limit rest ≡ true
tail-below limit x xs rest there h = all_below-tail limit x rest (rw there at h)

-- A place set: the front of both lists is taken off.
module _ (ps fs : List ℕ) (page frame : ℕ) (pages frames : List ℕ) (p : ps ≡ page ∷ pages) (f : fs ≡ frame ∷ frames) where
  pub listed-map : (t whole : List ℕ) → stored_each ps fs t ≡ whole → stored_each pages frames (set t page frame) ≡ whole
  unfolding stored_each
  listed-map t whole e = rw (p, f) at e

  pub listed-shadow : (t whole : List ℕ) (entry : ℕ) → entry ≡ approved false frame → stored_each ps (approved_each fs) t ≡ whole
      → stored_each pages (approved_each frames) (set t page entry) ≡ whole
  unfolding stored_each approved_each
  listed-shadow t whole entry made e = rw made (rw (p, f) at e)

  pub as-many : length ps ≡ length fs → length pages ≡ length frames
  as-many same = omega (arith, rw (p, f) at same)

-- No page is left, and so no frame, or the other way round.
pub both-end : (ps fs : List ℕ) → length ps ≡ length fs → ((u : List ℕ) × ((ps ≡ []) × (u ≡ []))) ⊎ ((u : List ℕ) × ((fs ≡ []) × (u ≡ []))) → (ps ≡ []) × (fs ≡ [])
both-end ps fs same (inl e) = (e.1.0, nil_from_length fs (sym same ∙ ap length e.1.0))
both-end ps fs same (inr e) = (nil_from_length ps (same ∙ ap length e.1.0), e.1.0)

pub listed-end : (ps values t whole : List ℕ) → ps ≡ [] → stored_each ps values t ≡ whole → t ≡ whole
unfolding stored_each
listed-end ps values t whole none e = rw none at e

-- A frame excluded too.
pub gather-step : (fs : List ℕ) (frame : ℕ) (frames v v' whole : List ℕ) → fs ≡ frame ∷ frames → v' ≡ with_bit true v frame → with_each fs v ≡ whole
    → with_each frames v' ≡ whole
unfolding with_each
gather-step fs frame frames v v' whole f made e = rw made (rw f at e)

pub gather-end : (fs v whole : List ℕ) → fs ≡ [] → with_each fs v ≡ whole → v ≡ whole
unfolding with_each
gather-end fs v whole none e = rw none at e

-- The entry pages that are left, at the first of them and where there is none.
pub entries-front : (bytes : List ℕ) (i entries page : ℕ) (left rest : List ℕ) → left ≡ numbers_at bytes (8 + 2 * i) (entries - i) → left ≡ page ∷ rest
    → (i < entries) × (page ≡ number_at bytes (8 + 2 * i)) × (rest ≡ numbers_at bytes (8 + 2 * (i + 1)) (entries - (i + 1)))
entries-front bytes i entries page left rest are there = at (entries - i) refl
  where
    at : (n : ℕ) → entries - i ≡ n → (i < entries) × (page ≡ number_at bytes (8 + 2 * i)) × (rest ≡ numbers_at bytes (8 + 2 * (i + 1)) (entries - (i + 1)))
    at zero e =
        let none : numbers_at bytes (8 + 2 * i) (entries - i) ≡ [] = numbers_at-none bytes (8 + 2 * i) e in
        cc (are, there, none)
    at (suc n) e =
        let more = numbers_at-more bytes (8 + 2 * i) (entries - i) (omega arith) in
        let place : 8 + 2 * i + 2 ≡ 8 + 2 * (i + 1) = omega arith in
        let fewer : entries - i - 1 ≡ entries - (i + 1) = omega arith in
        let read : page ≡ number_at bytes (8 + 2 * i) = cc (are, there, more) in
        let after : rest ≡ numbers_at bytes (8 + 2 * i + 2) (entries - i - 1) = cc (are, there, more) in
        (omega arith, read, rw (← place, ← fewer) after)

pub entries-begin : (bytes : List ℕ) (i entries : ℕ) → i ≡ 0 → numbers_at bytes 8 entries ≡ numbers_at bytes (8 + 2 * i) (entries - i)
entries-begin bytes i entries none =
    let place : 8 ≡ 8 + 2 * i = omega arith in
    let left : entries ≡ entries - i = omega arith in
    ap (λ (n : ℕ). numbers_at bytes n entries) place ∙ ap (numbers_at bytes (8 + 2 * i)) left

pub entries-done : (bytes : List ℕ) (i entries : ℕ) (left : List ℕ) → left ≡ numbers_at bytes (8 + 2 * i) (entries - i) → left ≡ [] → entries ≤ i
entries-done bytes i entries left are none = omega (arith, length-numbers_at bytes (8 + 2 * i) (entries - i), ap length are, ap length none)

-- A record that has passed the questions: its entries are at most sixteen, its pages below V and its frames below 4,096, and as many.
module _ (bytes : List ℕ) (asked : first_no (policy_questions true true true (policy_of bytes)) ≡ 0) where
  abbrev passes : Passed (policy_of bytes)
  passes = policy-passed true true true (policy_of bytes) asked

  pub entries-few : (entries : ℕ) → entries ≡ number_at bytes 6 → entries ≤ 16
  unfolding policy_of
  entries-few entries e = let p : Passed (policy_of bytes) = passes in omega arith

  pub listed-below : all_below (policy_of bytes).pages (policy_of bytes).listed_pages ≡ true
  listed-below = passes.pages-below

  pub frames-small : all_below 4096 (policy_of bytes).listed_frames ≡ true
  frames-small = all_below-wider (policy_of bytes).frames 4096 (policy_of bytes).listed_frames passes.frames-high passes.frames-below

  pub listed-many : length (policy_of bytes).listed_pages ≡ length (policy_of bytes).listed_frames
  unfolding policy_of
  listed-many = length-numbers_at bytes 8 (number_at bytes 4) ∙ sym (length-numbers_at bytes (8 + 2 * number_at bytes 4) (number_at bytes 4))

-- Entry pages read so far, and none.
pub entries_none : (bytes : List ℕ) → replicate 16 0 ≡ entry_table bytes 0
unfolding entry_table
entries_none bytes = table-const 16 0 ∙ table_same 16 (λ _. 0) _ (λ i below. rw (le-ltb i 0 (omega arith)) refl)

next : (k i : ℕ) → (k ≡ i → ⊥) → ltb k i ≡ ltb k (i + 1)
next k i other = at (ltb k i) refl
  where
    at : (b : Bool) → ltb k i ≡ b → ltb k i ≡ ltb k (i + 1)
    at true h = let below : k < i = ltb-true k i h in h ∙ sym (lt-ltb k (i + 1) (omega arith))
    at false h = let above : i ≤ k = ltb-false k i h in h ∙ sym (le-ltb k (i + 1) (omega arith))

pub entries-step : (bytes pages : List ℕ) (i here page : ℕ) → here ≡ 8 + 2 * i → page ≡ number_at bytes here → pages ≡ entry_table bytes i
    → set pages i page ≡ entry_table bytes (i + 1)
unfolding entry_table
entries-step bytes pages i here page come read e =
    rw (e, read, come) (set-table 16 _ i (number_at bytes (8 + 2 * i)) ∙ table_same 16 _ _ (λ k below. at k (eqb k i) refl))
  where
    at : (k : ℕ) (b : Bool) → eqb k i ≡ b
        → cond (eqb k i) (number_at bytes (8 + 2 * i)) (cond (ltb k i) (number_at bytes (8 + 2 * k)) 0) ≡ cond (ltb k (i + 1)) (number_at bytes (8 + 2 * k)) 0
    at k true d = let same : k ≡ i = eqb-true k i d in rw (d, same, lt-ltb i (i + 1) (omega arith)) refl
    at k false d = rw (d, ← next k i (eqb-false k i d))

pub entries-end : (bytes pages : List ℕ) (i entries : ℕ) → pages ≡ entry_table bytes i → i ≤ entries → entries ≤ i → pages ≡ entry_table bytes entries
entries-end bytes pages i entries e h k =
    let same : i ≡ entries = omega arith in
    e ∙ ap (entry_table bytes) same
