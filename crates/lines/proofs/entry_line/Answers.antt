-- `lines::entry_line` meets its contract.
use native.Mathlib.Nat.{div-one}
use Rattle.drill_model.specs.Drill.{hex_digits}
use Rattle.lines.proofs.entry_line.Goals as goal

pub returns : goal.returns
unfolding hex_digits
returns c =
    cc (div-one c.args.entry)
