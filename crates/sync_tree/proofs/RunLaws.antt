-- Runs of pages: the slots of a run stored page by page, runs in a row, and all pages as one run.
use Prim.Native.Nat.{ℕ, zero, suc, ◌+◌, ◌-◌, ◌≤◌, ◌<◌}
use mathlib.Core.List.{List}
use mathlib.Core.Path.{◌≡◌, refl, sym, ◌∙◌}
use native.Mathlib.Nat.{add-zero, zero-add, suc-add, add-suc}
use native.Mathlib.Numerals.{add-one}
use native.Mathlib.Omega.{arith}
use lib.ListN.{length, get_or, length-set}
use Rattle.model.specs.Sync.{Slot, Sweep, sweep, sweep_from}
use Rattle.laws.proofs.SweepLaws.{whole, whole-start, whole-more, whole-over}
use Rattle.step.specs.Steps.{stored}
use Rattle.sync_tree.specs.Runs.{swept_from}

-- After page i of a run, and after its last page.
pub swept-more : (f : ℕ → ℕ → ℕ → Slot) (i end : ℕ) (r r' all : Sweep) → swept_from f i (end - i) r ≡ all → i < end
    → r' ≡ stored i r (f i (get_or r.shadow i 0) (get_or r.map i 0)) → swept_from f (i + 1) (end - (i + 1)) r' ≡ all
unfolding swept_from
swept-more f i end r r' all inv l p =
    let left : end - i ≡ suc (end - (i + 1)) = omega arith in
    rw (p, add-one) (rw (left, add-one) at inv)

pub swept-over : (f : ℕ → ℕ → ℕ → Slot) (i end : ℕ) (r all : Sweep) → swept_from f i (end - i) r ≡ all → end ≤ i → r ≡ all
unfolding swept_from
swept-over f i end r all inv past =
    let none : end - i ≡ 0 = omega arith in
    rw none at inv

-- Steps that agree at each page of the run.
pub swept_same : (f g : ℕ → ℕ → ℕ → Slot) (i n : ℕ) (r : Sweep) → ((p s m : ℕ) → i ≤ p → p < i + n → f p s m ≡ g p s m)
    → swept_from f i n r ≡ swept_from g i n r
unfolding swept_from
swept_same f g i zero r h = refl
swept_same f g i (suc n) r h =
    rw (h i (get_or r.shadow i 0) (get_or r.map i 0) (omega arith) (omega arith))
    (swept_same f g (suc i) n _ (λ p s m a b. h p s m (omega arith) (omega arith)))

-- Two runs in a row.
pub swept-append : (f : ℕ → ℕ → ℕ → Slot) (i n m : ℕ) (r : Sweep) → swept_from f i (n + m) r ≡ swept_from f (i + n) m (swept_from f i n r)
unfolding swept_from
swept-append f i zero m r = rw (zero-add m, add-zero i)
swept-append f i (suc n) m r =
    rw (suc-add n m, add-suc i n, ← (suc-add i n)) (swept-append f (suc i) n m (stored i r (f i (get_or r.shadow i 0) (get_or r.map i 0))))

-- A page's slot stored keeps the lengths, and is one page more of the whole.
length-next-shadow : (i : ℕ) (r : Sweep) (p : Slot) → length (stored i r p).shadow ≡ length r.shadow
unfolding stored
length-next-shadow i r p = length-set r.shadow i p.entry

lengths-next : (i : ℕ) (r : Sweep) (p : Slot) → length r.map ≡ length r.shadow → length (stored i r p).map ≡ length (stored i r p).shadow
unfolding stored
lengths-next i r p e = length-set r.map i p.approval ∙ e ∙ sym (length-set r.shadow i p.entry)

one_more : (f : ℕ → ℕ → ℕ → Slot) (i : ℕ) (r : Sweep) → i < length r.shadow → length r.map ≡ length r.shadow
    → whole f (suc i) (stored i r (f i (get_or r.shadow i 0) (get_or r.map i 0))) ≡ whole f i r
unfolding stored
one_more f i r l e =
    let p : Slot = f i (get_or r.shadow i 0) (get_or r.map i 0) in
    rw (← (add-one i))
    (whole-more f i r.shadow r.map r.changed r.joined p.entry p.approval _ _ (whole f i r) refl l (omega arith) refl refl refl)

-- All pages as one run.
swept-whole : (f : ℕ → ℕ → ℕ → Slot) (i n : ℕ) (r : Sweep) → i + n ≤ length r.shadow → length r.map ≡ length r.shadow
    → whole f (i + n) (swept_from f i n r) ≡ whole f i r
unfolding swept_from
swept-whole f i zero r h e = rw add-zero
swept-whole f i (suc n) r h e =
    let p : Slot = f i (get_or r.shadow i 0) (get_or r.map i 0) in
    let next : Sweep = stored i r p in
    let rest : whole f (suc i + n) (swept_from f (suc i) n next) ≡ whole f (suc i) next =
    swept-whole f (suc i) n next (rw (length-next-shadow i r p) (omega arith)) (lengths-next i r p e) in
    rw (add-suc i n, ← (suc-add i n)) (rest ∙ one_more f i r (omega arith) e)

swept-length : (f : ℕ → ℕ → ℕ → Slot) (i n : ℕ) (r : Sweep) → length (swept_from f i n r).shadow ≡ length r.shadow
unfolding swept_from
swept-length f i zero r = refl
swept-length f i (suc n) r = swept-length f (suc i) n _ ∙ length-next-shadow i r _

pub all-swept : (f : ℕ → ℕ → ℕ → Slot) (shadow map : List ℕ) (r : Sweep) → length map ≡ length shadow
    → r ≡ swept_from f 0 (length shadow) (sweep shadow map 0 0) → r ≡ sweep_from f 0 shadow map
all-swept f shadow map r e p =
    let start : Sweep = sweep shadow map 0 0 in
    let over : Sweep = swept_from f 0 (length shadow) start in
    let inv : whole f (length shadow) over ≡ sweep_from f 0 shadow map =
    rw zero-add at (swept-whole f 0 (length shadow) start (omega arith) e ∙ whole-start f shadow map) in
    p ∙ whole-over f (length shadow) over.shadow over.map over.changed over.joined (sweep_from f 0 shadow map) inv
    (rw (swept-length f 0 (length shadow) start) (omega arith))
