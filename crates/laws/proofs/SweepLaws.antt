-- Laws of a sweep over shadow and map from a page on, for any per-page function: its lengths, what stands at a page after it, appended
-- runs, and the three laws of a loop that makes it page by page.
use Prim.Native.Nat.{ℕ, zero, suc, ◌+◌, ◌≤◌, ◌<◌}
use mathlib.Core.List.{List, [], ◌∷◌, ◌++◌, append-nil, append_assoc}
use mathlib.Core.Path.{◌≡◌, refl, ap}
use native.Mathlib.Nat.{not-suc-le-zero, le_of_suc-le-suc, add-zero, zero-add, suc-add, add-suc, add_assoc}
use native.Mathlib.Numerals.{add-one}
use native.Mathlib.Omega.{arith}
use lib.ListN.{length, get_or, set, take, drop, take-append-drop, drop_of_length-le}
use lib.Seq.{drop-cons, take_all, take-suc-set, drop-set-lt}
use Rattle.model.specs.Basics.{differs}
use Rattle.model.specs.Sync.{Slot, slot, Sweep, sweep, before, sweep_from}

-- A read inside a list does not show what a read past its end gives.
pub get_or-inside : (l : List ℕ) (i d d' : ℕ) → i < length l → get_or l i d ≡ get_or l i d'
get_or-inside [] i d d' h = absurd (not-suc-le-zero h)
get_or-inside (x ∷ l) zero d d' h = refl
get_or-inside (x ∷ l) (suc i) d d' h = get_or-inside l i d d' (le_of_suc-le-suc h)

module _ (f : ℕ → ℕ → ℕ → Slot) where
  -- Both tables keep their lengths.
  pub sweep-shadow-length : (page : ℕ) (shadow map : List ℕ) → length (sweep_from f page shadow map).shadow ≡ length shadow
  unfolding sweep_from before
  sweep-shadow-length page [] map = refl
  sweep-shadow-length page (s ∷ shadow) [] = refl
  sweep-shadow-length page (s ∷ shadow) (m ∷ map) = ap suc (sweep-shadow-length (suc page) shadow map)

  pub sweep-map-length : (page : ℕ) (shadow map : List ℕ) → length (sweep_from f page shadow map).map ≡ length map
  unfolding sweep_from before
  sweep-map-length page [] map = refl
  sweep-map-length page (s ∷ shadow) [] = refl
  sweep-map-length page (s ∷ shadow) (m ∷ map) = ap suc (sweep-map-length (suc page) shadow map)

  -- At a place that both tables have, the entry and the number are those of the page's own step, whatever a read past the end gives.
  pub sweep-at : (page : ℕ) (shadow map : List ℕ) (p ds dm : ℕ) → p < length shadow → p < length map
      → (get_or (sweep_from f page shadow map).shadow p ds ≡ (f (p + page) (get_or shadow p ds) (get_or map p dm)).entry)
      × (get_or (sweep_from f page shadow map).map p dm ≡ (f (p + page) (get_or shadow p ds) (get_or map p dm)).approval)
  unfolding sweep_from before
  sweep-at page [] map p ds dm a b = absurd (not-suc-le-zero a)
  sweep-at page (s ∷ shadow) [] p ds dm a b = absurd (not-suc-le-zero b)
  sweep-at page (s ∷ shadow) (m ∷ map) zero ds dm a b = rw zero-add (refl, refl)
  sweep-at page (s ∷ shadow) (m ∷ map) (suc p) ds dm a b =
      rw (suc-add p page, ← (add-suc p page)) (sweep-at (suc page) shadow map p ds dm (le_of_suc-le-suc a) (le_of_suc-le-suc b))

-- Two runs, one after the other: tables appended, counts added.
unfoldable pub appended : Sweep → Sweep → Sweep
appended a b = sweep (a.shadow ++ b.shadow) (a.map ++ b.map) (a.changed + b.changed) (a.joined + b.joined)

-- Of two appended runs it is the runs, counts added.
pub sweep-append : (f : ℕ → ℕ → ℕ → Slot) (page : ℕ) (shadow shadow' map map' : List ℕ) → length shadow ≡ length map
    → sweep_from f page (shadow ++ shadow') (map ++ map') ≡ appended (sweep_from f page shadow map) (sweep_from f (length shadow + page) shadow' map')
unfolding sweep_from before appended
sweep-append f page [] shadow' [] map' q = simp zero-add
sweep-append f page [] shadow' (m ∷ map) map' q = absurd (omega arith)
sweep-append f page (s ∷ shadow) shadow' [] map' q = absurd (omega arith)
sweep-append f page (s ∷ shadow) shadow' (m ∷ map) map' q =
    rw (suc-add (length shadow) page, ← (add-suc (length shadow) page), sweep-append f (suc page) shadow shadow' map map' (omega arith)) (simp add_assoc)

-- A loop that makes the sweep page by page. Before page i it holds the first i places as they now are, with the counts so far; the whole
-- is these and the sweep over what is left.
unfoldable pub whole : (ℕ → ℕ → ℕ → Slot) → ℕ → Sweep → Sweep
whole f i r =
    appended (sweep (take i r.shadow) (take i r.map) r.changed r.joined) (sweep_from f i (drop i r.shadow) (drop i r.map))

module _ (f : ℕ → ℕ → ℕ → Slot) where
  pub whole-start : (shadow map : List ℕ) → whole f 0 (sweep shadow map 0 0) ≡ sweep_from f 0 shadow map
  unfolding whole appended
  whole-start shadow map = simp zero-add

  -- Page i is stepped: its slot is stored, and x and y say whether that changed the entry and the number.
  pub whole-more : (i : ℕ) (shadow map : List ℕ) (changed joined e a x y : ℕ) (all : Sweep)
      → whole f i (sweep shadow map changed joined) ≡ all → i < length shadow → i < length map
      → slot e a ≡ f i (get_or shadow i 0) (get_or map i 0) → x ≡ differs (get_or shadow i 0) e → y ≡ differs (get_or map i 0) a
      → whole f (i + 1) (sweep (set shadow i e) (set map i a) (changed + x) (joined + y)) ≡ all
  unfolding whole appended sweep_from before
  whole-more i shadow map changed joined e a x y all inv hs hm q px py =
      rw (add-one, take-suc-set shadow i e hs, take-suc-set map i a hm, drop-set-lt (suc i) shadow i e (omega arith), drop-set-lt (suc i) map i a (omega arith), px, py)
      (simp (append_assoc, add_assoc) (rw (drop-cons shadow i 0 hs, drop-cons map i 0 hm, ← q) at inv))

  pub whole-over : (i : ℕ) (shadow map : List ℕ) (changed joined : ℕ) (all : Sweep)
      → whole f i (sweep shadow map changed joined) ≡ all → length shadow ≤ i → sweep shadow map changed joined ≡ all
  unfolding whole appended sweep_from
  whole-over i shadow map changed joined all inv past =
      simp (append-nil, take-append-drop, add-zero) at (rw (drop_of_length-le shadow past, take_all i shadow past) at inv)
