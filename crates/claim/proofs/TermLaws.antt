-- Laws of a frame's term and of the pending pair (K6).
use Rattle.std.specs.Prelude.{None, Some, Option}
use Prim.Native.Nat.{ℕ, ◌<◌}
use mathlib.Core.Bool.{Bool, true, false, false≢true, true≢false}
use mathlib.Core.Path.{◌≡◌, refl}
use lib.Dec.{ltb, eqb}
use borrow.Author.Tests.{ltb-true, eqb-true}
use Rattle.model.specs.declared.Pending.{Pending}
use Rattle.model.specs.Basics.{either}
use Rattle.model.specs.Guard.{is_pending, pending_frame, is_asked}
use Rattle.model.specs.Questions.{pending_in_range}
use Rattle.model.specs.Policy.{Policy, named}
use Rattle.claim.specs.Terms.{Term, no_term, pending_term, committed_term, after_commit, after_drop, Terms, in_term, is_committed, protected, code}
use Rattle.laws.proofs.QuestionLaws.{both_first, both-second}

-- A frame whose term is pending, and one that the state says is.
unfoldable pub is_waiting : Term → Bool
is_waiting no_term = false
is_waiting pending_term = true
is_waiting committed_term = false

unfoldable pub awaited : Option Pending → ℕ → Bool
awaited None f = false
awaited (Some asked) f = eqb f asked.frame

-- What a commit and a drop make of a term.
pub commit-in : (t : Term) → in_term (after_commit t) ≡ in_term t
unfolding in_term after_commit
commit-in no_term = refl
commit-in pending_term = refl
commit-in committed_term = refl

pub commit-over : (t : Term) → is_waiting (after_commit t) ≡ false
unfolding is_waiting after_commit
commit-over no_term = refl
commit-over pending_term = refl
commit-over committed_term = refl

pub commit-code : (t : Term) → is_committed (after_commit t) ≡ in_term t
unfolding is_committed in_term after_commit
commit-code no_term = refl
commit-code pending_term = refl
commit-code committed_term = refl

pub drop-over : (t : Term) → is_waiting (after_drop t) ≡ false
unfolding is_waiting after_drop
drop-over no_term = refl
drop-over pending_term = refl
drop-over committed_term = refl

pub drop-in : (t : Term) → is_waiting t ≡ false → in_term (after_drop t) ≡ in_term t
unfolding is_waiting in_term after_drop
drop-in no_term p = refl
drop-in pending_term p = absurd (true≢false p)
drop-in committed_term p = refl

pub drop-out : (t : Term) → is_waiting t ≡ true → in_term (after_drop t) ≡ false
unfolding is_waiting in_term after_drop
drop-out no_term p = refl
drop-out pending_term p = refl
drop-out committed_term p = absurd (false≢true p)

pub drop_code : (t : Term) → is_committed (after_drop t) ≡ is_committed t
unfolding is_committed after_drop
drop_code no_term = refl
drop_code pending_term = refl
drop_code committed_term = refl

-- A frame that is named in the policy, or by its term: in a term and not pending, it is committed, and a committed one is in a term.
pub term-code : (named : Bool) (t : Term) → either named (in_term t) ≡ true → is_waiting t ≡ false → either named (is_committed t) ≡ true
unfolding either in_term is_waiting is_committed
term-code true t p q = refl
term-code false no_term p q = p
term-code false pending_term p q = absurd (true≢false q)
term-code false committed_term p q = refl

pub code-term : (named : Bool) (t : Term) → either named (is_committed t) ≡ true → either named (in_term t) ≡ true
unfolding either in_term is_committed
code-term true t p = refl
code-term false no_term p = p
code-term false pending_term p = refl
code-term false committed_term p = refl

-- A frame that is named or in a term after a drop was so before.
pub drop-less : (named : Bool) (t : Term) → either named (in_term (after_drop t)) ≡ true → either named (in_term t) ≡ true
unfolding either in_term after_drop
drop-less true t p = refl
drop-less false no_term p = p
drop-less false pending_term p = refl
drop-less false committed_term p = refl

-- And one that is neither before is neither after.
pub drop-none : (named : Bool) (t : Term) → either named (in_term t) ≡ false → either named (in_term (after_drop t)) ≡ false
unfolding either in_term after_drop
drop-none true t p = p
drop-none false no_term p = refl
drop-none false pending_term p = refl
drop-none false committed_term p = p

-- One that is not pending is committed or named, and one in no term is neither.
pub term-named : (named : Bool) (t : Term) → either named (in_term t) ≡ false → named ≡ false
unfolding either
term-named true t p = p
term-named false t p = refl

pub waiting-in : (t : Term) → is_waiting t ≡ true → in_term t ≡ true
unfolding is_waiting in_term
waiting-in no_term p = p
waiting-in pending_term p = refl
waiting-in committed_term p = refl

pub committed-in : (t : Term) → is_committed t ≡ true → in_term t ≡ true
unfolding is_committed in_term
committed-in no_term p = p
committed-in pending_term p = refl
committed-in committed_term p = refl

-- The frame that is pending, by the pair.
pub awaited-none : (pending : Option Pending) (f : ℕ) → is_pending pending ≡ false → awaited pending f ≡ false
unfolding is_pending awaited
awaited-none None f p = refl
awaited-none (Some asked) f p = absurd (true≢false p)

pub awaited-is : (pending : Option Pending) (f : ℕ) → is_pending pending ≡ true → awaited pending f ≡ eqb f (pending_frame pending)
unfolding is_pending awaited pending_frame
awaited-is None f p = absurd (false≢true p)
awaited-is (Some asked) f p = refl

pub awaited-other : (pending : Option Pending) (f : ℕ) → eqb f (pending_frame pending) ≡ false → awaited pending f ≡ false
unfolding awaited pending_frame
awaited-other None f p = refl
awaited-other (Some asked) f p = p

-- A pair below V and F.
module _ (pages frames : ℕ) (pending : Option Pending) (fits : pending_in_range pages frames pending ≡ true) where
  pub pending-below : is_pending pending ≡ true → pending_frame pending < frames
  unfolding is_pending pending_frame pending_in_range
  pending-below = at pending fits
    where
      at : (p : Option Pending) → pending_in_range pages frames p ≡ true → is_pending p ≡ true → pending_frame p < frames
      at None fits there = absurd (false≢true there)
      at (Some asked) fits there = ltb-true asked.frame frames (both-second (ltb asked.page pages) (ltb asked.frame frames) fits)

  pub asked-below : (p : ℕ) → is_asked pending p ≡ true → p < pages
  unfolding is_asked pending_in_range
  asked-below p = at pending fits
    where
      at : (q : Option Pending) → pending_in_range pages frames q ≡ true → is_asked q p ≡ true → p < pages
      at None fits there = absurd (false≢true there)
      at (Some asked) fits there = rw (eqb-true p asked.page there) (ltb-true asked.page pages (both_first _ _ fits))

-- Code is protected.
pub code-protected : (policy : Policy) (terms : Terms) (f : ℕ) → code policy terms f ≡ true → protected policy terms f ≡ true
unfolding code protected
code-protected policy terms f c = code-term (named policy f) (terms f) c
