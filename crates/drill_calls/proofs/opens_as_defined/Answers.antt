-- `drill_calls::opens_as_defined` meets its contract: where V or F is out of range, question 1 or 2 refuses before any table is looked at.
use Prim.Native.Nat.{ℕ}
use mathlib.Core.Bool.{Bool, true, false, cond, false≢true}
use mathlib.Core.List.{List}
use mathlib.Core.Path.{◌≡◌, refl}
use lib.Dec.{leb, eqb}
use lib.ListN.{length}
use Rattle.model.specs.Sizes.{pages_in_range, frames_in_range}
use Rattle.model.specs.Guard.{Tables, guard_of}
use Rattle.model.specs.Policy.{policy_of, zero_state}
use Rattle.model.specs.Questions.{first_no, sizes_in_range, policy_questions, record_questions, start_questions}
use Rattle.model.specs.Calls.{Outcome, nothing_brought, refused_of, settle, start_of}
use Rattle.drill_model.specs.Drill.{drill_given, drill_start, start_line}
use Rattle.laws.proofs.QuestionLaws.{both-no, both-no-after}
use Rattle.drill_calls.specs.Turns.{Opening, opening_of, pages_lent, bytes_lent, lent_start, OpensAsDefined}
use Rattle.drill_calls.proofs.opens_as_defined.Goals as goal

-- Two openings that nobody can tell apart.
-- A start whose V or F is out of range, on any tables.

Same : Opening → Opening → Type 0
Same a b = (a.line ≡ b.line) × (a.goes ≡ b.goes) × (a.goes ≡ true → a.guard ≡ b.guard)

outside : List ℕ → Tables → Outcome
outside bytes t = refused_of (guard_of zero_state t) nothing_brought (cond (leb 8 (length bytes)) 2 1)

module _ (bytes : List ℕ) where
  start_outside : (t : Tables) → sizes_in_range (policy_of bytes) ≡ false → start_of drill_given bytes t ≡ outside bytes t
  unfolding start_of start_questions record_questions policy_questions first_no settle outside
  start_outside t p = at (leb 8 (length bytes)) refl
    where
      at : (b : Bool) → leb 8 (length bytes) ≡ b → start_of drill_given bytes t ≡ outside bytes t
      at true e = rw (e, p) refl
      at false e = rw e refl

  same-outside : (t t' : Tables) → Same (opening_of (outside bytes t)) (opening_of (outside bytes t'))
  unfolding Same opening_of outside start_line
  same-outside t t' = (refl, refl, at (leb 8 (length bytes)))
    where
      at : (b : Bool) → eqb (cond b 2 1) 0 ≡ true → (opening_of (outside bytes t)).guard ≡ (opening_of (outside bytes t')).guard
      at true h = absurd (false≢true h)
      at false h = absurd (false≢true h)

  opens-outside : (t t' : Tables) → sizes_in_range (policy_of bytes) ≡ false
      → Same (opening_of (start_of drill_given bytes t)) (opening_of (start_of drill_given bytes t'))
  opens-outside t t' p = rw (start_outside t p, start_outside t' p) (same-outside t t')

  opens : (v f : Bool) → pages_in_range (policy_of bytes).pages ≡ v → frames_in_range (policy_of bytes).frames ≡ f
      → Same (opening_of (lent_start bytes)) (opening_of (drill_start bytes))
  unfolding lent_start drill_start pages_lent bytes_lent sizes_in_range Same
  opens true true p q = rw (p, q) (refl, refl, λ h. refl)
  opens false f p q = opens-outside _ _ (both-no _ p)
  opens true false p q = opens-outside _ _ (both-no-after _ q)

pub returns : goal.returns
unfolding OpensAsDefined Same
returns c = λ bytes. opens bytes (pages_in_range (policy_of bytes).pages) (frames_in_range (policy_of bytes).frames) refl refl
