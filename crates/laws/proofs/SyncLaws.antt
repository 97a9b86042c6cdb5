-- Steps 1 to 5 of a page by the kinds of slot that they give, for every law about what a synchronisation leaves.
use Rattle.std.specs.Prelude.{None, Some}
use Prim.Native.Nat.{ℕ, ◌<◌}
use mathlib.Core.Bool.{Bool, true, false, not, cond}
use mathlib.Core.Logic.{◌⊎◌, inl, inr}
use mathlib.Core.Path.{◌≡◌, refl}
use lib.Dec.{leb, eqb}
use borrow.Author.Tests.{leb-false, not-true}
use Rattle.model.specs.Guard.{none}
use Rattle.model.specs.Bits.{frame_of, fields_of, valid, taken_apart, approved, ordinary, inspected}
use Rattle.model.specs.Sync.{Rules, Slot, slot, step_of, step}
use Rattle.laws.proofs.BitLaws.{taken-apart, present-valid}

-- A choice has a property if each of the two has it where it is chosen.
pub cond_cases : {A : Type 0} (P : A → Type 0) (b : Bool) {x y : A} → (b ≡ true → P x) → (b ≡ false → P y) → P (cond b x y)
cond_cases P true p q = p refl
cond_cases P false p q = q refl

-- Steps 1 to 5: the slot that a step gives has a property if an absent entry has it, an approved one with the map's frame, one with the pending
-- frame, an approved one with an excluded frame, and an ordinary one.
pub step-cases : (P : Slot → Type 0) (rules : Rules) (k a : ℕ)
    → P (slot 0 a)
    → (eqb a none ≡ false → P (slot (approved rules.user a) a))
    → (valid k ≡ true → frame_of k < rules.frames → eqb (frame_of k) rules.pending ≡ true → P (slot (ordinary rules.user (inspected (fields_of k))) a))
    → (frame_of k < rules.frames → eqb (frame_of k) rules.pending ≡ false → rules.excluded (frame_of k) ≡ true
    → P (slot (approved rules.user (frame_of k)) (frame_of k)))
    → (valid k ≡ true → frame_of k < rules.frames → eqb (frame_of k) rules.pending ≡ false → rules.excluded (frame_of k) ≡ false
    → P (slot (ordinary rules.user (fields_of k)) a))
    → P (step rules k a)
unfolding step fields_of step_of
step-cases P rules k a absent mapped waits joins plain = by (taken-apart k)
  where
    by : (taken_apart k ≡ None) ⊎ (taken_apart k ≡ Some (fields_of k)) → P (step_of rules (taken_apart k) a)
    by (inl e) = rw e absent
    by (inr there) =
        rw there
        (cond_cases P (not (eqb a none)) (λ e. mapped (not-true (eqb a none) e)) (λ e.
        cond_cases P (leb rules.frames (frame_of k)) (λ e. absent) (λ e.
        let below : frame_of k < rules.frames = leb-false rules.frames (frame_of k) e in
        let there-valid : valid k ≡ true = present-valid k (fields_of k) there in
        cond_cases P (eqb (frame_of k) rules.pending) (waits there-valid below) (λ other.
        cond_cases P (rules.excluded (frame_of k)) (joins below other) (plain there-valid below other)))))
