-- The pages that are left are asked as all of them were.
use Rattle.std.proofs.Common.{not, ap, arith, rules}
use Rattle.laws.proofs.PolicyLaws.{rising-ends, rising-refuses, rising-goes-on, rising-page}
use Rattle.policy.proofs.RecordLaws.{yields-none, yields-some}
use Rattle.policy.proofs.pages_rising.Goals as goal

pub returns-then-not-page_rises : goal.returns-then-not-page_rises
returns-then-not-page_rises g c = λ all gives.
    let left = c.loop-page.invariant.2 all gives in
    let more = yields-some g.I.Iterator.next_gives _ _ left.0 _ left.1 c.in-Some.ensures.steps in
    rising-refuses _ _ _ _ left.2 _ _ c.page_rises.ensures more.0 more.1 (ap not c.if-not-page_rises.true)

pub overflow_add-least : goal.overflow_add-least
overflow_add-least g c = omega (arith, rising-page _ _ _ c.page_rises.ensures (ap not c.if-not-page_rises.false))

pub loop-page-preserved : goal.loop-page-preserved
loop-page-preserved g c = (
  search rules,
  search rules,
  λ all gives.
      let left = c.loop-page.invariant.2 all gives in
      let more = yields-some g.I.Iterator.next_gives _ _ left.0 _ left.1 c.in-Some.ensures.steps in
      (more.0, more.2, rising-goes-on _ _ _ _ left.2 _ _ c.page_rises.ensures more.0 more.1 (ap not c.if-not-page_rises.false)),
)

pub returns : goal.returns
returns g c = λ all gives.
    let left = c.loop-page.invariant.2 all gives in
    rising-ends _ _ _ _ left.2 (yields-none g.I.Iterator.next_gives _ _ left.0 left.1 c.in-None.ensures.steps)
