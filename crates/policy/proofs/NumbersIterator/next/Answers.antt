-- The numbers that are left begin with the one that was taken.
use Rattle.std.proofs.Common.{◌≡◌, [], sym, ap, ◌∙◌, length, arith, rules}
use Rattle.laws.proofs.PolicyLaws.{numbers_at-none}
use Rattle.policy.proofs.RecordLaws.{numbers-front}
use Rattle.policy.proofs.NumbersIterator.next.Goals as goal

pub returns-then-self-eq0-clause-steps : goal.returns-then-self-eq0-clause-steps
returns-then-self-eq0-clause-steps c =
    let e : c.args.self.now ≡ [] = sym c.self.view_is ∙ numbers_at-none _ _ c.if-self-eq0.true in (e, e)

pub returns-clause-steps : goal.returns-clause-steps
returns-clause-steps c =
    sym c.self.view_is
    ∙ rw c.take.ensures.bytes (numbers-front _ _ _ _ _ c.take.ensures.number c.take.ensures.at (omega arith))

pub returns-clause-goes : goal.returns-clause-goes
returns-clause-goes c = let shorter = ap length (returns-clause-steps c) in search rules
