-- One law, of an entry and a result of 64 bits.
use native.Mathlib.Omega.{arith}
use Rattle.shadow_entry.proofs.SwitchLaws.{change_is}
use Rattle.shadow_entry.proofs.switch_change.Goals as goal

pub returns : goal.returns
returns c = change_is _ _ _ (omega arith) (omega arith) c.executable.ensures
