-- Laws of a commit, page by page: the asked page first, then a loop over all pages that asks for none.
use Prim.Native.Nat.{ℕ, zero, suc, ◌+◌, ◌≤◌, ◌<◌}
use mathlib.Core.Bool.{Bool, true, false}
use mathlib.Core.List.{List, [], ◌∷◌}
use mathlib.Core.Path.{◌≡◌, refl, sym, subst, ap, ◌∙◌}
use native.Mathlib.Nat.{not-suc-le-zero, le_of_suc-le-suc, add-zero, zero-add, suc-add, add-suc}
use native.Mathlib.Omega.{arith}
use lib.ListN.{length, get_or, set}
use lib.Dec.{eqb}
use borrow.Author.Tests.{eq-eqb, ne_eqb}
use Rattle.model.specs.Basics.{both, either, differs}
use Rattle.model.specs.Guard.{none}
use Rattle.model.specs.Bits.{approved}
use Rattle.model.specs.Approvals.{committed_slot}
use Rattle.model.specs.Sync.{Slot, slot, Sweep, sweep, before, sweep_from}
use Rattle.laws.proofs.SweepLaws.{appended, whole, whole-more, whole-over}
use Rattle.step.specs.Steps.{stored}

-- What a commit makes of a page that is not the asked one, and of any page.
abbrev pub joining : Bool → ℕ → ℕ → ℕ → ℕ → Slot
joining user frame p entry approval = committed_slot user frame false entry approval

abbrev pub committing : Bool → ℕ → ℕ → ℕ → ℕ → ℕ → Slot
committing user page frame p entry approval = committed_slot user frame (eqb p page) entry approval

-- The loop.
pub commit-more : (user : Bool) (frame i : ℕ) (shadow map shadow' map' : List ℕ) (changed joined x y : ℕ) (all : Sweep)
    → whole (joining user frame) i (sweep shadow map changed joined) ≡ all → i < length shadow → length map ≡ length shadow
    → sweep shadow' map' x y ≡ stored i (sweep shadow map changed joined) (committed_slot user frame false (get_or shadow i 0) (get_or map i 0))
    → whole (joining user frame) (i + 1) (sweep shadow' map' x y) ≡ all
unfolding stored
commit-more user frame i shadow map shadow' map' changed joined x y all inv l lm p =
    let q : Slot = committed_slot user frame false (get_or shadow i 0) (get_or map i 0) in
    rw p (whole-more (joining user frame) i shadow map changed joined q.entry q.approval _ _ all inv l (omega arith) refl refl refl)

pub commit-over : (user : Bool) (frame i : ℕ) (shadow map : List ℕ) (changed joined : ℕ) (all : Sweep)
    → whole (joining user frame) i (sweep shadow map changed joined) ≡ all → length shadow ≤ i → sweep shadow map changed joined ≡ all
commit-over user frame i shadow map changed joined all inv past = whole-over (joining user frame) i shadow map changed joined all inv past

module _ (user : Bool) (frame : ℕ) (few : frame < 4096) where
  abbrev e : ℕ
  e = approved user frame

  -- From a page past the asked one on no page is asked for.
  past-asked : (page k : ℕ) (shadow map : List ℕ) → page < k → sweep_from (joining user frame) k shadow map ≡ sweep_from (committing user page frame) k shadow map
  unfolding sweep_from
  past-asked page k [] map l = refl
  past-asked page k (s ∷ shadow) [] l = refl
  past-asked page k (s ∷ shadow) (m ∷ map) l =
      rw (ne_eqb k page (λ q. omega arith), past-asked page (suc k) shadow map (omega arith)) refl

  -- A page that is approved already stays as it is.
  approved-stays : committed_slot user frame false e frame ≡ slot e frame
  unfolding committed_slot either both
  approved-stays = rw (ne_eqb frame none (λ q. omega arith)) refl

  asked_is : (entry approval : ℕ) → committed_slot user frame true entry approval ≡ slot e frame
  unfolding committed_slot either
  asked_is entry approval = refl

  same_differs : (n : ℕ) → differs n n ≡ 0
  unfolding differs
  same_differs n = rw (eq-eqb n n refl) refl

  -- Counts that come before a run, and the run's first page: of the asked page itself, and of one before it.
  first-here : (s m : ℕ) (r : Sweep) → appended (sweep [] [] (differs s e) (differs m frame)) (before e frame (slot e frame) r) ≡ before s m (slot e frame) r
  unfolding before appended
  first-here s m r = rw (same_differs e, same_differs frame, zero-add r.changed, zero-add r.joined) refl

  exchanged : (a b c : ℕ) → a + (b + c) ≡ b + (a + c)
  exchanged a b c = omega arith

  first-later : (a b s m : ℕ) (q : Slot) (r : Sweep) → appended (sweep [] [] a b) (before s m q r) ≡ before s m q (appended (sweep [] [] a b) r)
  unfolding before appended
  first-later a b s m q r = rw (exchanged a (differs s q.entry) r.changed, exchanged b (differs m q.approval) r.joined) refl

  first-alone : (k s m : ℕ) (shadow map : List ℕ) → appended (sweep [] [] (differs s e) (differs m frame))
      (sweep_from (joining user frame) k (e ∷ shadow) (frame ∷ map)) ≡ sweep_from (committing user k frame) k (s ∷ shadow) (m ∷ map)
  unfolding sweep_from
  first-alone k s m shadow map =
      rw (eq-eqb k k refl, asked_is s m, ← (past-asked k (suc k) shadow map (omega arith)), approved-stays)
      (first-here s m (sweep_from (joining user frame) (suc k) shadow map))

  -- Page p approved, and then a commit that asks for no page, is a commit that asks for p.
  first_then : (p k : ℕ) (shadow map : List ℕ) → p < length shadow → p < length map
      → appended (sweep [] [] (differs (get_or shadow p 0) e) (differs (get_or map p 0) frame))
      (sweep_from (joining user frame) k (set shadow p e) (set map p frame)) ≡ sweep_from (committing user (p + k) frame) k shadow map
  unfolding sweep_from
  first_then p k [] map a b = absurd (not-suc-le-zero a)
  first_then p k (s ∷ shadow) [] a b = absurd (not-suc-le-zero b)
  first_then zero k (s ∷ shadow) (m ∷ map) a b =
      subst
      (λ (j : ℕ). appended (sweep [] [] (differs s e) (differs m frame)) (sweep_from (joining user frame) k (e ∷ shadow) (frame ∷ map))
      ≡ sweep_from (committing user j frame) k (s ∷ shadow) (m ∷ map))
      (sym (zero-add k)) (first-alone k s m shadow map)
  first_then (suc p) k (s ∷ shadow) (m ∷ map) a b =
      let later : p + suc k ≡ suc p + k = omega (arith, add-suc p k, suc-add p k) in
      subst
      (λ (j : ℕ). appended (sweep [] [] (differs (get_or shadow p 0) e) (differs (get_or map p 0) frame))
      (sweep_from (joining user frame) k (s ∷ set shadow p e) (m ∷ set map p frame)) ≡ sweep_from (committing user j frame) k (s ∷ shadow) (m ∷ map))
      later
      (rw (ne_eqb k (p + suc k) (λ q. omega arith), ← (first_then p (suc k) shadow map (le_of_suc-le-suc a) (le_of_suc-le-suc b)))
      (first-later _ _ s m (joining user frame k s m) (sweep_from (joining user frame) (suc k) (set shadow p e) (set map p frame))))

  -- The same of the tables that the code has.
  pub asked-first : (page x y u v : ℕ) (shadow map shadow₁ map₁ shadow₂ map₂ : List ℕ) → page < length shadow → length map ≡ length shadow
      → sweep shadow₁ map₁ x y ≡ stored page (sweep shadow map 0 0) (slot (approved user frame) frame)
      → sweep shadow₂ map₂ u v ≡ sweep_from (joining user frame) 0 shadow₁ map₁
      → sweep shadow₂ map₂ (x + u) (y + v) ≡ sweep_from (committing user page frame) 0 shadow map
  unfolding appended stored
  asked-first page x y u v shadow map shadow₁ map₁ shadow₂ map₂ l lm p q =
      ap (appended (sweep [] [] x y)) q
      ∙ ap (λ (z : Sweep). appended (sweep [] [] z.changed z.joined) (sweep_from (joining user frame) 0 z.shadow z.map)) p
      ∙ rw (zero-add, zero-add) (rw (add-zero page) at (first_then page 0 shadow map l (omega arith)))
