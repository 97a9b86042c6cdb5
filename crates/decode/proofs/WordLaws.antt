-- Laws of the runs that cross the boundary: what is pending, a table filled from the front, the lengths of the runs.
use Prim.Native.Nat.{ℕ, ◌+◌}
use mathlib.Core.Bool.{true}
use mathlib.Core.List.{List}
use mathlib.Core.Path.{◌≡◌, ap, ◌∙◌}
use lib.ListN.{length, get_or}
use Rattle.std.specs.List.{between}
use Rattle.std.proofs.lemmas.List.Edits.{length-between, get_or-between}
use native.Mathlib.Omega.{arith}
use Rattle.laws.proofs.TableLaws.{is-table}
use Rattle.boundary_model.proofs.LentLaws.{fitting-long, lent-fitting}
use Rattle.boundary_model.specs.Words.{state_words, entry_pages_at, entry_words, mode_at, entry_pages_in, runs_fit, lendable}

-- The entry pages, read as the words between the first of them and the mode.
pub pages_read : (run t : List ℕ) → length run ≡ state_words → t ≡ between entry_pages_at mode_at run → t ≡ entry_pages_in run
unfolding entry_pages_in
pages_read run t n e =
    is-table t entry_words (λ k. get_or run (entry_pages_at + k) 0) (ap length e ∙ length-between run entry_pages_at mode_at (omega arith))
    (λ k l. ap (λ (x : List ℕ). get_or x k 0) e ∙ get_or-between run entry_pages_at mode_at k 0 (omega arith))

-- Runs whose lengths fit, and runs that can be lent.
pub run_fits : (count : ℕ) (run numbers : List ℕ) → runs_fit count run numbers ≡ true → length run ≡ state_words
run_fits count run numbers = fitting-long count run numbers

pub run_lent : (count : ℕ) (run numbers : List ℕ) → lendable count run numbers ≡ true → length run ≡ state_words
run_lent count run numbers p = fitting-long count run numbers (lent-fitting count run numbers p)
