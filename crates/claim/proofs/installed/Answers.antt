-- What the shadow table lets a processor do: proved in InstalledLaws.
use Rattle.claim.proofs.InstalledLaws.{installed, installed-maps, installed-writes, installed-runs, spare-bits-zero}
use Rattle.claim.proofs.installed.Goals as goal

pub returns : goal.returns
returns c = (installed, installed-maps installed, installed-writes installed, installed-runs installed, spare-bits-zero)
