-- Laws of a mode switch of the whole shadow table: its length, an entry's place, and the loop that switches one entry after the other.
use Prim.Native.Nat.{ℕ, suc, ◌+◌, ◌≤◌, ◌<◌}
use native.Mathlib.Numerals.{add-one}
use native.Mathlib.Omega.{arith}
use mathlib.Core.Bool.{Bool}
use mathlib.Core.List.{List, [], ◌∷◌, ◌++◌, map, append_assoc, append-nil}
use mathlib.Core.Path.{◌≡◌, refl}
use lib.ListN.{length, get_or, take, drop, set, length-map, get_or-map, drop_of_length-le}
use lib.Seq.{take_all, take-suc-set, drop-cons, drop-set-lt}
use Rattle.model.specs.Basics.{bit, differs}
use Rattle.model.specs.Bits.{present}
use Rattle.model.specs.Switch.{switched, switched_all, changes}

pub length-switched : (user : Bool) (l : List ℕ) → length (switched_all user l) ≡ length l
unfolding switched_all
length-switched user l = length-map l (switched user)

pub switched-at : (user : Bool) (l : List ℕ) (p : ℕ) → get_or (switched_all user l) p 0 ≡ switched user (get_or l p 0)
unfolding switched_all switched present bit
switched-at user l p = get_or-map (switched user) l p 0

-- The table whose first i places are as they are now, and whose others are yet to be switched; and the changes that these will count.
unfoldable pub switched_from : Bool → ℕ → List ℕ → List ℕ
switched_from user i l = take i l ++ switched_all user (drop i l)

unfoldable pub changes_from : Bool → ℕ → List ℕ → ℕ
changes_from user i l = changes (drop i l) (switched_all user (drop i l))

module _ (user : Bool) (l : List ℕ) where
  pub switched-start : switched_from user 0 l ≡ switched_all user l
  unfolding switched_from
  switched-start = refl

  pub changes-start : changes_from user 0 l ≡ changes l (switched_all user l)
  unfolding changes_from
  changes-start = refl

  pub switched-more : (i : ℕ) → i < length l → switched_from user (i + 1) (set l i (switched user (get_or l i 0))) ≡ switched_from user i l
  unfolding switched_from switched_all
  switched-more i h =
      rw (add-one, take-suc-set l i (switched user (get_or l i 0)) h, drop-set-lt (suc i) l i (switched user (get_or l i 0)) (omega arith), drop-cons l i 0 h)
      (append_assoc (take i l) (switched user (get_or l i 0) ∷ []) (map (switched user) (drop (suc i) l)))

  pub changes-more : (i : ℕ) → i < length l
      → differs (get_or l i 0) (switched user (get_or l i 0)) + changes_from user (i + 1) (set l i (switched user (get_or l i 0)))
      ≡ changes_from user i l
  unfolding changes_from switched_all changes
  changes-more i h =
      rw (add-one, drop-set-lt (suc i) l i (switched user (get_or l i 0)) (omega arith), drop-cons l i 0 h) refl

  pub switched-over : (i : ℕ) → length l ≤ i → switched_from user i l ≡ l
  unfolding switched_from switched_all
  switched-over i h = rw (take_all i l h, drop_of_length-le l h) (append-nil l)

  pub changes-over : (i : ℕ) → length l ≤ i → changes_from user i l ≡ 0
  unfolding changes_from switched_all changes
  changes-over i h = rw (drop_of_length-le l h) refl
