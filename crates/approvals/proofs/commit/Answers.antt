-- The pair is below V and F, and the sweep is the commit's.
use native.Mathlib.Omega.{arith}
use Rattle.laws.proofs.AskedLaws.{answered}
use Rattle.approvals.proofs.ApprovalLaws.{commits, commit-inside, commit_gives}
use Rattle.approvals.proofs.commit.Goals as goal

pub overflow_cast-asked : goal.overflow_cast-asked
overflow_cast-asked c =
    record { fits = omega (arith, (commit-inside c.args.s.now _ _ c.in_ok-asked.asked c.if-not-commit_in_order.ensures c.in_ok-asked.ensures.ok_part).3) }

pub commit_pages-all-requires : goal.commit_pages-all-requires
commit_pages-all-requires c =
    commit-inside c.args.s.now _ _ c.in_ok-asked.asked c.if-not-commit_in_order.ensures c.in_ok-asked.ensures.ok_part

pub returns : goal.returns
returns c t =
    let gives =
    commit_gives c.args.s.now c.in_ok-asked.asked _ _ _ _ _ _ _ t c.in_ok-asked.ensures.ok_part c.in_user-user.ensures c.commit_pages-all.ensures in
    grind (arith, answered, commits, gives)
