-- K5: the laws of the devices' windows and of their number.
use Rattle.laws.proofs.DeviceLaws.{windows-independent, devices-kept}
use Rattle.laws.proofs.windows_independent.Goals as goal

pub returns : goal.returns
returns c = (windows-independent, devices-kept)
