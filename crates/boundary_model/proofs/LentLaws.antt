-- Laws of the runs that can be lent: their lengths, and the words of the mode and of what is pending, as a test and in numbers.
use Prim.Native.Nat.{ℕ}
use mathlib.Core.Bool.{Bool, true}
use mathlib.Core.List.{List}
use mathlib.Core.Path.{◌≡◌}
use lib.ListN.{length, get_or}
use lib.Dec.{leb, eqb}
use borrow.Author.Tests.{leb-true, le-leb, eqb-true, eq-eqb}
use Rattle.model.specs.Basics.{both}
use Rattle.laws.proofs.QuestionLaws.{both_yes, both_first, both-second}
use Rattle.boundary_model.specs.Words.{state_words, mode_at, pending_at, runs_fit, lendable}
use Rattle.boundary_model.specs.ExportedLists.{Lent}

-- The mode word and the pending word are each 0 or 1.
abbrev pub flag_words : List ℕ → Bool
flag_words run = both (leb (get_or run mode_at 0) 1) (leb (get_or run pending_at 0) 1)

module _ (count : ℕ) (run numbers : List ℕ) where
  pub fitting-long : runs_fit count run numbers ≡ true → length run ≡ state_words
  unfolding runs_fit
  fitting-long fit = eqb-true (length run) state_words (both_first (eqb (length run) state_words) (eqb (length numbers) count) fit)

  pub fitting-numbers : runs_fit count run numbers ≡ true → length numbers ≡ count
  unfolding runs_fit
  fitting-numbers fit = eqb-true (length numbers) count (both-second (eqb (length run) state_words) (eqb (length numbers) count) fit)

  pub fits : length run ≡ state_words → length numbers ≡ count → runs_fit count run numbers ≡ true
  unfolding runs_fit
  fits long given = both_yes (eq-eqb (length run) state_words long) (eq-eqb (length numbers) count given)

  pub lent-fitting : lendable count run numbers ≡ true → runs_fit count run numbers ≡ true
  unfolding lendable
  lent-fitting lends = both_first (runs_fit count run numbers) (flag_words run) lends

  pub numbers-lent : lendable count run numbers ≡ true → length numbers ≡ count
  numbers-lent lends = fitting-numbers (lent-fitting lends)

  pub lent : lendable count run numbers ≡ true → Lent run
  unfolding lendable
  lent lends =
      let flags : flag_words run ≡ true = both-second (runs_fit count run numbers) (flag_words run) lends in
      record {
        words = fitting-long (lent-fitting lends);
        mode = leb-true (get_or run mode_at 0) 1 (both_first (leb (get_or run mode_at 0) 1) (leb (get_or run pending_at 0) 1) flags);
        pending = leb-true (get_or run pending_at 0) 1 (both-second (leb (get_or run mode_at 0) 1) (leb (get_or run pending_at 0) 1) flags);
      }

  pub lends : Lent run → length numbers ≡ count → lendable count run numbers ≡ true
  unfolding lendable
  lends l given =
      both_yes (fits l.words given) (both_yes (le-leb (get_or run mode_at 0) 1 l.mode) (le-leb (get_or run pending_at 0) 1 l.pending))
