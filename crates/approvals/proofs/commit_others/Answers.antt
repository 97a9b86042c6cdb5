-- Before page i the tables and counts, with the sweep over what is left, are the whole sweep.
use native.Mathlib.Omega.{arith}
use Rattle.laws.proofs.SweepLaws.{whole-start}
use Rattle.approvals.proofs.CommitLaws.{commit-more, commit-over}
use borrow.Author.Rules.{rules}
use Rattle.approvals.proofs.commit_others.Goals as goal

pub loop-i-init : goal.loop-i-init
loop-i-init c = search (rules, whole-start)

pub loop-i-preserved : goal.loop-i-preserved
loop-i-preserved c = (omega arith, omega arith, search (rules, commit-more))

pub returns : goal.returns
returns c = (search (rules, commit-over), omega arith, omega arith)
