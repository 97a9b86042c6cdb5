-- `lines::Line::new` meets its contract.
use mathlib.Core.Path.{refl}
use Rattle.lines.specs.Text.{text}
use Rattle.lines.proofs.Line.new.Goals as goal

pub returns-clause-bytes : goal.returns-clause-bytes
unfolding text
returns-clause-bytes c = refl
