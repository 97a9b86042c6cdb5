-- K3: five laws of the bits of entries.
use Rattle.laws.proofs.CacheLaws.{apart-yields, ordinary-kept, step-carries, step-writes, switch_kept}
use Rattle.laws.proofs.cache_bits.Goals as goal

pub returns : goal.returns
returns c = (apart-yields, ordinary-kept, step-carries, step-writes, switch_kept)
