-- A law for each answer of this crate's functions: the five steps, the counts, and a page stored.
use Rattle.std.specs.Prelude.{Some}
use Prim.Native.Nat.{ℕ, ◌+◌, ◌/◌, ◌≤◌, ◌<◌}
use Rattle.std.specs.Prelude.{cond}
use Rattle.std.specs.Int.{from_bool}
use mathlib.Core.Bool.{Bool, true, false, not, false≢true}
use mathlib.Core.List.{List}
use mathlib.Core.Path.{◌≡◌, refl, sym, ◌∙◌}
use native.Mathlib.Omega.{arith}
use lib.ListN.{get_or, set}
use lib.Seq.{set-get_or}
use lib.Dec.{eqb}
use borrow.Author.Tests.{eq-eqb, ne_eqb, le-leb, lt-leb, not-true, not-false}
use Rattle.model.specs.declared.Fields.{Fields}
use Rattle.model.specs.Basics.{both, either, differs}
use Rattle.model.specs.Guard.{none, vector_bytes, has_bit}
use Rattle.model.specs.Bits.{frame_of, fields_of, valid, taken_apart, approved, ordinary_no_execute, ordinary, inspected}
use Rattle.model.specs.Approvals.{maps, committed_slot}
use Rattle.model.specs.Sync.{Rules, Slot, slot, step_of, step, Sweep, sweep}
use Rattle.step.specs.declared.rules.Rules.{Rules as Given}
use Rattle.step.specs.Steps.{rules_in, is_marked, Known, stored}

-- An entry whose frame is pending is the same in both modes: with bit 9 set the ordinary rule sets bit 63.
inspected-mode : (user : Bool) (x : Fields) → ordinary user (inspected x) ≡ ordinary true (inspected x)
unfolding ordinary inspected ordinary_no_execute either
inspected-mode true x = refl
inspected-mode false x = refl

pub fields-frame : (k f : ℕ) → f ≡ frame_of k → f ≡ (fields_of k).frame
unfolding fields_of
fields-frame k f p = p

-- Steps 3 to 5 on a valid entry with the frame f, of a page that has no number in the map.
module _ (r : Rules) (k f : ℕ) (ok : valid k ≡ true) (same : f ≡ (fields_of k).frame) where
  parted : taken_apart k ≡ Some (fields_of k)
  unfolding taken_apart
  parted = rw ok

  abbrev at : ℕ
  at = (fields_of k).frame

  pub free-above : r.frames ≤ f → slot 0 65535 ≡ step r k none
  unfolding step step_of
  free-above l = rw (parted, le-leb r.frames at (rw same at l))

  module _ (l : f < r.frames) where
    pub free-pending : (n : ℕ) → f ≡ r.pending → n ≡ ordinary true (inspected (fields_of k)) → slot n 65535 ≡ step r k none
    unfolding step step_of
    free-pending n o u = rw (parted, lt-leb r.frames at (rw same at l), eq-eqb at r.pending (sym same ∙ o), u, inspected-mode r.user (fields_of k))

    pub free-excluded : (n a : ℕ) (b : Bool) → a ≡ f → b ≡ r.excluded f → not b ≡ false → (f ≡ r.pending → ⊥) → n ≡ approved r.user f
        → slot n a ≡ step r k none
    unfolding step step_of
    free-excluded n a b e s t o u =
        rw (parted, lt-leb r.frames at (rw same at l), ne_eqb at r.pending (rw same at o), ← same, ← s, not-false b t, u, e)

-- A frame without its bit is not the pending one, which is marked or was compared with it.
marked_differs : (frames pending : ℕ) (exclusion : List ℕ) (f : ℕ) → is_marked frames pending exclusion ≡ true → f < frames → has_bit exclusion f ≡ false
    → f ≡ pending → ⊥
unfolding is_marked either
marked_differs frames pending exclusion f p l without at =
    false≢true (rw (← at, lt-leb frames f l, without) at p)

pub const-true : (m : ℕ) → (m ≡ 0 → ⊥) → not (eqb m 0) ≡ true
const-true m p = rw (ne_eqb m 0 p)

pub differs-marked : (m : Bool) (given : Given) (f : ℕ) (b : Bool) → m ≡ true → Known m given → f < given.frames → b ≡ has_bit given.exclusion.now f → b ≡ false
    → f ≡ given.pending → ⊥
differs-marked true given f b e marked l s t = marked_differs given.frames given.pending given.exclusion.now f marked l (sym s ∙ t)
differs-marked false given f b e marked l s t = absurd (false≢true e)

pub free-ordinary : (given : Given) (k f n : ℕ) (b : Bool)
    → valid k ≡ true → f ≡ (fields_of k).frame → f < given.frames → (f ≡ given.pending → ⊥)
    → b ≡ has_bit given.exclusion.now f → b ≡ false → n ≡ ordinary given.user (fields_of k)
    → slot n 65535 ≡ step (rules_in given) k none
unfolding step step_of
free-ordinary given k f n b ok same l other s t u =
    rw (
      parted (rules_in given) k f ok same,
      lt-leb given.frames (fields_of k).frame (rw same at l),
      ne_eqb (fields_of k).frame given.pending (rw same at other),
      rw same at (sym s ∙ t),
      u,
    )

-- Steps 1 to 5.
module _ (r : Rules) (k a : ℕ) where
  pub step_absent : valid k ≡ false → slot 0 a ≡ step r k a
  unfolding step step_of taken_apart
  step_absent p = rw p

  pub step_approved : (n : ℕ) → valid k ≡ true → (a ≡ 65535 → ⊥) → n ≡ approved r.user a → slot n a ≡ step r k a
  unfolding step step_of taken_apart
  step_approved n p q s = rw (p, ne_eqb a none q, s)

-- Whether the pending frame is marked.
pub marked_above : (frames pending : ℕ) (exclusion : List ℕ) → frames ≤ pending → true ≡ is_marked frames pending exclusion
unfolding is_marked either
marked_above frames pending exclusion l = rw (le-leb frames pending l)

pub marked_by : (frames pending : ℕ) (exclusion : List ℕ) (b : Bool) → pending < frames → b ≡ has_bit exclusion pending → b ≡ is_marked frames pending exclusion
unfolding is_marked either
marked_by frames pending exclusion b l s = rw (lt-leb frames pending l) s

-- The frame of a present entry below F has a bit in the vector.
pub frame_in : (frames frame long : ℕ) → long ≡ vector_bytes frames → frame < frames → frame / 8 < long
unfolding vector_bytes
frame_in frames frame long p l = omega arith

-- A value stored, and counted where it changed.
pub kept : (l : List ℕ) (i v : ℕ) → get_or l i 0 ≡ v → l ≡ set l i v
kept l i v p = rw (← p) (sym (set-get_or l i 0))

pub same-counts : (n a b : ℕ) → a ≡ b → n ≡ n + differs a b
unfolding differs
same-counts n a b p = rw (eq-eqb a b p) (omega arith)

pub other-counts : (n a b : ℕ) → (a ≡ b → ⊥) → n + 1 ≡ n + differs a b
unfolding differs
other-counts n a b p = rw (ne_eqb a b p)

pub counted : (n a b r : ℕ) → r ≡ from_bool (not (eqb a b)) → (n + r ≡ n + differs a b) × (n + r ≤ n + 1)
unfolding differs
counted n a b r p = rw p (at (eqb a b))
  where
    at : (c : Bool) → (n + from_bool (not c) ≡ n + cond c 0 1) × (n + from_bool (not c) ≤ n + 1)
    at true = (refl, omega arith)
    at false = (refl, omega arith)

-- A page's slot stored in both tables.
pub stored-step : (p : Slot) (i e a changed joined x y : ℕ) (shadow map shadow' map' : List ℕ) → slot e a ≡ p
    → shadow' ≡ set shadow i e → map' ≡ set map i a → x ≡ changed + differs (get_or shadow i 0) e → y ≡ joined + differs (get_or map i 0) a
    → sweep shadow' map' x y ≡ stored i (sweep shadow map changed joined) p
unfolding stored
stored-step p i e a changed joined x y shadow map shadow' map' q ps pm px py = rw (← q, ps, pm, px, py)

-- What a commit makes of a page that is not the asked one (K6): it has a number, its entry has not the frame, or it is approved.
both-no : (a b : Bool) → b ≡ false → both a b ≡ false
unfolding both
both-no true b p = p
both-no false b p = refl

module _ (user : Bool) (i frame changed joined : ℕ) (shadow map : List ℕ) where
  abbrev committed : Sweep
  committed = stored i (sweep shadow map changed joined) (committed_slot user frame false (get_or shadow i 0) (get_or map i 0))

  left : both (eqb (get_or map i 0) none) (maps frame (get_or shadow i 0)) ≡ false → sweep shadow map changed joined ≡ committed
  unfolding committed_slot either
  left p =
      rw p
      (stored-step (slot (get_or shadow i 0) (get_or map i 0)) i (get_or shadow i 0) (get_or map i 0) changed joined changed joined shadow map shadow map refl
      (kept shadow i (get_or shadow i 0) refl) (kept map i (get_or map i 0) refl) (same-counts changed _ _ refl) (same-counts joined _ _ refl))

  pub commit-numbered : (get_or map i 0 ≡ 65535 → ⊥) → sweep shadow map changed joined ≡ committed
  unfolding both
  commit-numbered p = left (rw (ne_eqb (get_or map i 0) none p) refl)

  module _ (b : Bool) (e : b ≡ maps frame (get_or shadow i 0)) where
    pub commit-left : not b ≡ true → sweep shadow map changed joined ≡ committed
    commit-left p = left (both-no (eqb (get_or map i 0) none) (maps frame (get_or shadow i 0)) (sym e ∙ not-true b p))

    pub commit-joins : (s : Sweep) → not b ≡ false → get_or map i 0 ≡ 65535
        → s ≡ stored i (sweep shadow map changed joined) (slot (approved user frame) frame) → s ≡ committed
    unfolding committed_slot either both
    commit-joins s p free q = rw (eq-eqb (get_or map i 0) none free, sym e ∙ not-false b p) q
