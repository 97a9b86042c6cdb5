-- The entry pages passed are read, and the others are 0.
use Rattle.std.proofs.Common.{◌≡◌, refl, ap, ◌∙◌, length, inl, arith, rules}
use Rattle.std.specs.Iterator.Adapters.{enumerate_source, enumerate_count}
use Rattle.model.specs.Policy.{numbers_at}
use Rattle.laws.proofs.PolicyLaws.{length-numbers_at}
use Rattle.start.proofs.LoopLaws.{entries-front, entries-begin, entries-done, entries-few, entries_none, entries-step, entries-end}
use Rattle.start.proofs.entry_pages.Goals as goal

pub loop-i-init : goal.loop-i-init
loop-i-init c =
    let bytes = c.args.policy.bytes.now in
    let few = entries-few bytes c.args.policy.passed _ c.args.policy.read.3 in
    let source : enumerate_source c.into_iter-i-iterator.result ≡ numbers_at bytes 8 c.args.policy.sizes.entry_count = cc in
    let count : enumerate_count c.into_iter-i-iterator.result ≡ 0 = cc in
    record {
      can_next = (tt, tt, inl (omega (arith, few, count, ap length source, length-numbers_at bytes 8 c.args.policy.sizes.entry_count)));
      is_finite = tt;
      some = omega (arith, count);
      left = source ∙ entries-begin bytes _ _ count;
      read = rw count (entries_none bytes);
    }

pub bounds-pages-i : goal.bounds-pages-i
bounds-pages-i c =
    let left = c.loop-i.invariant in
    let front = entries-front _ _ _ _ _ _ left.left c.in-Some.ensures.steps.0 in
    omega (arith, front.0, c.in-Some.ensures.steps.1, entries-few c.args.policy.bytes.now c.args.policy.passed _ c.args.policy.read.3)

pub loop-i-preserved : goal.loop-i-preserved
loop-i-preserved c =
    let left = c.loop-i.invariant in
    let steps = c.in-Some.ensures.steps in
    let front = entries-front _ _ _ _ _ _ left.left steps.0 in
    record {
      can_next = search rules;
      is_finite = search rules;
      some = omega (arith, front.0, steps.2);
      left = rw steps.2 front.2;
      read = rw (steps.2, steps.1) (entries-step _ _ _ _ _ refl front.1 left.read);
    }

pub returns : goal.returns
returns c =
    let left = c.loop-i.invariant in
    entries-end _ _ _ _ left.read left.some (entries-done _ _ _ _ left.left c.in-None.ensures.steps.0.0)
