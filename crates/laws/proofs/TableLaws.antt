-- Laws of a table of count places with a function's value at each: its length, an element, a store, a shorter one, and one value throughout.
use Prim.Native.Nat.{ℕ, zero, suc, ◌+◌, ◌≤◌, ◌<◌}
use mathlib.Core.Bool.{Bool, true, false, cond}
use mathlib.Core.List.{List}
use mathlib.Core.Path.{◌≡◌, refl, sym, ap, ◌∙◌}
use lib.Dec.{ltb, eqb}
use lib.ListN.{length, get_or, set, take, replicate, length-set, length-replicate, get_or-replicate, get_or-eq_default}
use lib.Seq.{ext_get_or, get_or-set_same, get_or-set_other, get_or-take, length-take-le}
use native.Mathlib.Nat.{add-zero, zero-add, le_of_suc-le-suc}
use native.Mathlib.Omega.{arith}
use borrow.Author.Tests.{ltb-true, ltb-false, eqb-true, eqb-false}
use Rattle.model.specs.Basics.{table_from, table}

length_from : (f : ℕ → ℕ) (first count : ℕ) → length (table_from f first count) ≡ count
unfolding table_from
length_from f first zero = refl
length_from f first (suc count) = ap suc (length_from f (suc first) count)

get_or-from : (f : ℕ → ℕ) (first count i d : ℕ) → i < count → get_or (table_from f first count) i d ≡ f (first + i)
unfolding table_from
get_or-from f first zero i d h = absurd (omega arith)
get_or-from f first (suc count) zero d h = rw add-zero
get_or-from f first (suc count) (suc i) d h = get_or-from f (suc first) count i d (le_of_suc-le-suc h) ∙ ap f (omega arith)

pub length-table : (count : ℕ) (f : ℕ → ℕ) → length (table count f) ≡ count
unfolding table
length-table count f = length_from f 0 count

pub get_or-table : (count : ℕ) (f : ℕ → ℕ) (i d : ℕ) → i < count → get_or (table count f) i d ≡ f i
unfolding table
get_or-table count f i d h = get_or-from f 0 count i d h ∙ ap f (zero-add i)

-- Two tables are one where their functions agree at each place.
pub table_same : (count : ℕ) (f g : ℕ → ℕ) → ((i : ℕ) → i < count → f i ≡ g i) → table count f ≡ table count g
table_same count f g h =
    ext_get_or 0 (table count f) (table count g) (length-table count f ∙ sym (length-table count g))
    (λ i l. let below : i < count = rw length-table at l in
    get_or-table count f i 0 below ∙ (h i below ∙ sym (get_or-table count g i 0 below)))

-- A list is the table of its elements.
pub is-table : (t : List ℕ) (count : ℕ) (f : ℕ → ℕ) → length t ≡ count → ((i : ℕ) → i < count → get_or t i 0 ≡ f i) → t ≡ table count f
is-table t count f e h =
    ext_get_or 0 t (table count f) (e ∙ sym (length-table count f))
    (λ i l. let below : i < count = rw e at l in h i below ∙ sym (get_or-table count f i 0 below))

-- A store, at any place: past the end it changes nothing.
pub set-table : (count : ℕ) (f : ℕ → ℕ) (p v : ℕ) → set (table count f) p v ≡ table count (λ q. cond (eqb q p) v (f q))
set-table count f p v =
    is-table (set (table count f) p v) count (λ q. cond (eqb q p) v (f q)) (length-set (table count f) p v ∙ length-table count f)
    (λ i below. at i below (eqb i p) refl)
  where
    at : (i : ℕ) → i < count → (b : Bool) → eqb i p ≡ b → get_or (set (table count f) p v) i 0 ≡ cond (eqb i p) v (f i)
    at i below true e =
        let same : i ≡ p = eqb-true i p e in
        let inside : p < length (table count f) = rw length-table (omega arith) in
        rw (e, same) (get_or-set_same (table count f) p v 0 inside)
    at i below false e =
        rw e (get_or-set_other (table count f) p i v 0 (eqb-false i p e) ∙ get_or-table count f i 0 below)

-- The first places of a table are the shorter table.
pub take-table : (m count : ℕ) (f : ℕ → ℕ) → m ≤ count → take m (table count f) ≡ table m f
take-table m count f h =
    is-table (take m (table count f)) m f (length-take-le m (table count f) (rw length-table h))
    (λ i below. get_or-take m (table count f) i 0 below ∙ get_or-table count f i 0 (omega arith))

-- One value throughout.
pub table-const : (count v : ℕ) → replicate count v ≡ table count (λ _. v)
table-const count v =
    is-table (replicate count v) count (λ _. v) (length-replicate count v) (λ i below. get_or-replicate count i v 0 below)

-- A test that holds only below a limit fails past it.
pub past-no : (test : ℕ → Bool) (limit : ℕ) → ((x : ℕ) → test x ≡ true → x < limit) → (x : ℕ) → limit ≤ x → test x ≡ false
past-no test limit below x past = at (test x) refl
  where
    at : (b : Bool) → test x ≡ b → b ≡ false
    at true e = absurd (omega (arith, below x e))
    at false e = refl

-- A table, read past its end too: there its function gives the default.
pub table-read : (count : ℕ) (f : ℕ → ℕ) (p d : ℕ) → (count ≤ p → f p ≡ d) → get_or (table count f) p d ≡ f p
table-read count f p d past = at (ltb p count) refl
  where
    at : (b : Bool) → ltb p count ≡ b → get_or (table count f) p d ≡ f p
    at true e = get_or-table count f p d (ltb-true p count e)
    at false e =
        let over : count ≤ p = ltb-false p count e in
        get_or-eq_default (table count f) d (rw length-table over) ∙ sym (past over)
