-- The law of the exported call that writes a record: what the call below it answered, with the numbers run.
use Prim.Native.Nat.{ℕ}
use mathlib.Core.List.{List}
use mathlib.Core.Path.{◌≡◌, refl}
use lib.Dec.{eqb}
use lib.ListN.{length}
use Rattle.model.specs.Policy.{Policy}
use Rattle.model.specs.Calls.{Answer, reply_of}
use Rattle.record_model.specs.Record.{written, write_record_of}
use Rattle.boundary_model.specs.Words.{answer_numbers, with_numbers}
use Rattle.boundary_model.specs.Boundary.{recorded, record_at}

pub record-replied : (policy : Policy) (buffer numbers buffer' numbers' : List ℕ) (r : ℕ) (a : Answer)
    → written (reply_of a) buffer' ≡ write_record_of (eqb (length numbers) answer_numbers) policy buffer → r ≡ (reply_of a).number
    → numbers' ≡ with_numbers answer_numbers numbers (reply_of a) → recorded r buffer' numbers' ≡ record_at policy buffer numbers
unfolding record_at
record-replied policy buffer numbers buffer' numbers' r a e n w = rw (← e, n, w) refl
