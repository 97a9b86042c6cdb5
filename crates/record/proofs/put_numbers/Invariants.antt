use Rattle.std.proofs.Common.{◌≡◌, ◌+◌, ◌*◌, drop}
use Rattle.std.proofs.lemmas.List.Edits.{sets}
use Rattle.record_model.specs.Record.{numbers_bytes}
use Rattle.record.proofs.put_numbers.Given as goal

abbrev pub invariant-loop-i : goal.invariant-loop-i
invariant-loop-i l = sets l.buffer (l.at + 2 * l.i) (numbers_bytes (drop l.i l.numbers)) ≡ sets l.initial.buffer l.at (numbers_bytes l.numbers)
