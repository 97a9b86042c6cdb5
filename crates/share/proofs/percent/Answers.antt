-- `share::percent` meets its contract.
use Rattle.std.proofs.Common.{rules}
use Rattle.std.proofs.lemmas.Map.Lookups.{exact_unsigned}
use Rattle.share.proofs.CountLaws.{nearest-down, nearest-up, nearest-even, nearest-odd}
use Rattle.share.proofs.percent.Goals as goal

pub returns-in-Less : goal.returns-in-Less
returns-in-Less c = search (rules, nearest-down)

pub returns-in-Greater : goal.returns-in-Greater
returns-in-Greater c = search (rules, nearest-up)

pub returns-then-down-eq0 : goal.returns-then-down-eq0
returns-then-down-eq0 c = search (rules, nearest-even, exact_unsigned)

pub returns-else-down-eq0 : goal.returns-else-down-eq0
returns-else-down-eq0 c = search (rules, nearest-odd, exact_unsigned)
