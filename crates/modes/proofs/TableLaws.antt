-- Laws of the loop that switches the table: the loop at its start, after an entry and at its end.
use Prim.Native.Nat.{ℕ, ◌+◌, ◌≤◌, ◌<◌}
use mathlib.Core.Bool.{Bool}
use mathlib.Core.List.{List}
use mathlib.Core.Path.{◌≡◌, sym, ◌∙◌}
use native.Mathlib.Omega.{arith}
use lib.ListN.{length, get_or, set}
use Rattle.model.specs.Basics.{differs}
use Rattle.model.specs.Switch.{switched, switched_all, changes}
use Rattle.laws.proofs.SwitchLaws.{switched_from, changes_from, changes-start, switched-more, changes-more, switched-over, changes-over}

pub count-start : (user : Bool) (l : List ℕ) → 0 + changes_from user 0 l ≡ changes l (switched_all user l)
count-start user l =
    let e : changes_from user 0 l ≡ changes l (switched_all user l) = changes-start user l in
    omega arith

module _ (user : Bool) (l : List ℕ) (i : ℕ) where
  pub table_more : (after : ℕ) (all : List ℕ) → after ≡ switched user (get_or l i 0) → i < length l → switched_from user i l ≡ all
      → switched_from user (i + 1) (set l i after) ≡ all
  table_more after all e h inv = rw e (switched-more user l i h ∙ inv)

  pub count-more : (after changed one all : ℕ) → after ≡ switched user (get_or l i 0)
      → one ≡ differs (get_or l i 0) (switched user (get_or l i 0)) → i < length l → changed + changes_from user i l ≡ all
      → changed + one + changes_from user (i + 1) (set l i after) ≡ all
  count-more after changed one all e o h inv =
      let m : differs (get_or l i 0) (switched user (get_or l i 0)) + changes_from user (i + 1) (set l i after) ≡ changes_from user i l =
      rw e (changes-more user l i h) in
      omega arith

  pub table-over : (all : List ℕ) → length l ≤ i → switched_from user i l ≡ all → l ≡ all
  table-over all h inv = sym (switched-over user l i h) ∙ inv

  pub count-over : (changed all : ℕ) → length l ≤ i → changed + changes_from user i l ≡ all → changed ≡ all
  count-over changed all h inv =
      let z : changes_from user i l ≡ 0 = changes-over user l i h in
      omega arith
