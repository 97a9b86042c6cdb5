-- Before a part the tables and counts, with the run over what is left, are the run over all pages.
use Rattle.std.proofs.Common.{◌≡◌, ◌+◌, ◌*◌}
use native.Mathlib.Nat.{min-le_right}
use native.Mathlib.Omega.{arith}
use Rattle.sync_tree.proofs.SourceLaws.{parts_more, parts-over}
use borrow.Author.Rules.{rules}
use Rattle.sync_tree.proofs.sync_parts.Goals as goal

pub loop-number-preserved : goal.loop-number-preserved
loop-number-preserved c =
    let few = c.sync_part-counts.ensures.few in
    let next : (c.loop-number.number + 1) * 512 ≡ c.loop-number.number * 512 + 512 = omega arith in (
      omega arith,
      omega arith,
      search (rules, min-le_right),
      search (rules, min-le_right),
      rw next
          (parts_more _ _ _ _ _ _ _ _ _ _ c.loop-number.invariant.4 (search rules) (search rules) (search rules) (search rules) (omega arith)
          c.part_of-part.ensures.1 c.sync_part-counts.ensures.swept),
    )

pub returns : goal.returns
returns c = parts-over _ _ _ _ _ _ _ _ _ c.loop-number.invariant.4 (search rules) (search rules)
