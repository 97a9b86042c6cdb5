-- The record at a place of the list, and an empty window past its end, which is what the definition reads there.
use Rattle.std.proofs.Common.{arith}
use Rattle.model.specs.Devices.{device_at}
use Rattle.devices.proofs.look_up.Goals as goal

pub returns : goal.returns
unfolding device_at
returns c =
    let read = c.get.ensures.lookup.4 (omega arith) in
    grind (arith, read)
