-- K3: what a kernel entry taken apart yields, and what each step carries.
use Prim.Native.Nat.{ℕ, ◌≤◌, ◌<◌}
use mathlib.Core.Bool.{Bool, true, false, not, cond}
use mathlib.Core.Path.{◌≡◌, refl, sym, ap, ◌∙◌}
use lib.Dec.{eqb}
use native.Mathlib.Omega.{arith}
use lib.Pow.{pow-lt}
use Rattle.model.specs.declared.Fields.{Fields}
use Rattle.model.specs.Basics.{bit}
use Rattle.model.specs.Bits.{present, writable, write_through, cache_disable, frame_of, approved_mark, fields_of, approved, ordinary, inspected}
use Rattle.model.specs.Sync.{Slot}
use Rattle.laws.specs.Cache.{ApartYields, is_ordinary, OrdinaryCarries, StepCarries, StepWrites, SwitchKeeps}
use Rattle.laws.proofs.BitLaws.{bit-above, fields-apart, approved_mark-approved, approved-none, present-ordinary, writable-ordinary}
use Rattle.laws.proofs.BitLaws.{approved_mark-ordinary, inspected-keeps, ordinary-carries, switch-keeps, valid-parts}
use Rattle.laws.proofs.SyncLaws.{step-cases}

pub apart-yields : ApartYields
unfolding fields_of write_through cache_disable bit
apart-yields entry x p =
    let same : x ≡ fields_of entry = sym (fields-apart entry x p) in
    (ap (λ (y : Fields). y.write_through) same, ap (λ (y : Fields). y.cache_disable) same)

-- An entry with the mark is none that carries.
marked : (b c d : Bool) → d ≡ true → false ≡ cond (cond b (not d) false) c false
marked true c d p = rw p
marked false c d p = refl

-- A shadow entry that a step may leave: 0, an approved one, an ordinary one and one whose frame is pending. Of bit k of it, by a bit that it may carry.
module _ (k : ℕ) (b : Bool) (l : 1 ≤ k) (h : k < 5) where
  Carries : ℕ → Type 0
  Carries shadow = bit k shadow ≡ cond (is_ordinary shadow) b false

  absent : Carries 0
  unfolding Carries bit present
  absent = bit-above k 0 (omega (arith, pow-lt l))

  mapped : (user : Bool) (f : ℕ) → Carries (approved user f)
  unfolding Carries bit present approved_mark
  mapped user f =
      approved-none user f k l (omega arith) ∙ marked (present (approved user f)) b (approved_mark (approved user f)) (approved_mark-approved user f)

  plain : (user : Bool) (x : Fields) → bit k (ordinary user x) ≡ b → Carries (ordinary user x)
  unfolding Carries bit present approved_mark
  plain user x e = rw (present-ordinary user x, approved_mark-ordinary user x) e

pub ordinary-kept : OrdinaryCarries
unfolding bit
ordinary-kept = ordinary-carries

pub switch_kept : SwitchKeeps
unfolding bit
switch_kept = switch-keeps

pub step-carries : StepCarries
unfolding Carries bit
step-carries rules entry approval k l h =
    let low : 1 ≤ k = omega arith in
    let b : Bool = bit k entry in
    step-cases (λ (s : Slot). Carries k b low h s.entry) rules entry approval (absent k b low h)
    (λ e. mapped k b low h rules.user approval)
    (λ p m e. plain k b low h rules.user (inspected (fields_of entry))
    (inspected-keeps rules.user (fields_of entry) k l h ∙ ordinary-carries rules.user entry k (valid-parts entry p).0 h))
    (λ m o e. mapped k b low h rules.user (frame_of entry))
    (λ p m o e. plain k b low h rules.user (fields_of entry) (ordinary-carries rules.user entry k (valid-parts entry p).0 h))

-- Bit 1: a pending frame clears it.
pub step-writes : StepWrites
unfolding Carries inspected writable bit frame_of
step-writes rules entry approval =
    let low : 1 ≤ 1 = omega arith in
    let h : 1 < 5 = omega arith in
    let b : Bool = cond (eqb (frame_of entry) rules.pending) false (bit 1 entry) in
    step-cases (λ (s : Slot). Carries 1 b low h s.entry) rules entry approval (absent 1 b low h)
    (λ e. mapped 1 b low h rules.user approval)
    (λ p m e. plain 1 b low h rules.user (inspected (fields_of entry)) (rw e (writable-ordinary rules.user (inspected (fields_of entry)))))
    (λ m o e. mapped 1 b low h rules.user (frame_of entry))
    (λ p m o e. plain 1 b low h rules.user (fields_of entry) (rw o (ordinary-carries rules.user entry 1 (valid-parts entry p).0 h)))
