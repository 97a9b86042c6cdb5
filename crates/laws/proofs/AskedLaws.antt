-- A call's questions, and what it answers by them, as choices one inside the other: a proof goes down them as the code does.
use Rattle.std.specs.Prelude.{Ok, Err}
use Prim.Native.Nat.{ℕ, zero, suc}
use lib.Dec.{eqb}
use borrow.Author.Tests.{ne_eqb}
use native.Mathlib.Omega.{arith}
use mathlib.Core.Bool.{Bool, true, false, cond}
use mathlib.Core.List.{List, [], ◌∷◌}
use mathlib.Core.Path.{◌≡◌, refl}
use Rattle.model.specs.declared.Refusal.{Refusal}
use Rattle.model.specs.declared.State.{State}
use Rattle.model.specs.Basics.{both}
use Rattle.model.specs.Guard.{Tables, Guard, guard_of}
use Rattle.model.specs.Refusals.{number_of}
use Rattle.model.specs.Questions.{Question, question, first_no, seen, in_order}
use Rattle.model.specs.Calls.{reply_of, refused, accepted, settle, outcome, nothing_brought, outcome_by, refused_of, Call, brought_by, questions_of, effect_of, answer}

pub both_is : (a b : Bool) → both a b ≡ cond a b false
unfolding both
both_is true b = refl
both_is false b = refl

pub none_asked : first_no [] ≡ 0
unfolding first_no
none_asked = refl

pub next_asked : (n : ℕ) (b : Bool) (qs : List Question) → first_no (question n b ∷ qs) ≡ cond b (first_no qs) n
unfolding first_no
next_asked n b qs = refl

pub no_table : (s : Bool) → in_order s [] ≡ s
unfolding in_order
no_table s = refl

pub next_table : (s b : Bool) (bs : List Bool) → in_order s (b ∷ bs) ≡ cond b (in_order s bs) false
unfolding in_order
next_table s b bs = both_is b (in_order s bs)

pub ruleset asked = (both_is, none_asked, next_asked, no_table, next_table)

-- What a call answers, and what it gives by its first no.
settle_is : {A : Type 0} (n : ℕ) (done : A) (refusal : ℕ → A) → settle n done refusal ≡ cond (eqb n 0) done (refusal n)
unfolding settle
settle_is zero done refusal = refl
settle_is (suc n) done refusal = rw (ne_eqb (suc n) 0 (λ z. omega arith)) refl

pub call_gives : (g : Guard) (call : Call)
    → answer g call
    ≡ cond (eqb (first_no (questions_of (seen g) call)) 0) (effect_of g call) (outcome (refused (first_no (questions_of (seen g) call))) g)
unfolding answer brought_by
call_gives g call = settle_is (first_no (questions_of (seen g) call)) (effect_of g call) (refused_of g nothing_brought)

pub refusal_given : (refusal : Refusal) (s : State) (t : Tables) → outcome_by (Err refusal) s t ≡ outcome (refused (number_of refusal)) (guard_of s t)
unfolding outcome_by reply_of
refusal_given refusal s t = refl

pub numbers_given : (a b : ℕ) (s : State) (t : Tables) → outcome_by (Ok (a, b)) s t ≡ outcome (accepted a b) (guard_of s t)
unfolding outcome_by reply_of
numbers_given a b s t = refl

pub ruleset answered = (asked, call_gives, refusal_given, numbers_given)
