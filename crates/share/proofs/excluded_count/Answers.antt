-- `share::excluded_count` meets its contract.
use Rattle.std.proofs.Common.{rules, tests}
use Rattle.std.proofs.lemmas.Iterator.{YieldsList-from_range}
use Rattle.std.proofs.lemmas.Iterator.Consumers.{count_from_yields_List, YieldsList-from_filter}
use Rattle.model.specs.Guard.{has_bit}
use Rattle.share.proofs.CountLaws.{count-filtered}
use Rattle.share.proofs.excluded_count.Goals as goal

pub returns : goal.returns
returns c =
    count-filtered (has_bit c.args.exclusion.now) c.args.frames
    (count_from_yields_List _ _ c.count.ensures.ran
    (YieldsList-from_filter _ (has_bit c.args.exclusion.now) (YieldsList-from_range 0 c.args.frames c.args.frames (cc) (search rules))
    c.filter-excluded.ensures.closure (λ x b q k. search (rules, tests))))
