-- Before page i the tables and counts, with the sweep over what is left, are the whole sweep.
use native.Mathlib.Omega.{arith}
use Rattle.laws.proofs.SweepLaws.{whole-start}
use Rattle.sync.proofs.FlatLaws.{sweep-more, sweep-over}
use borrow.Author.Rules.{rules}
use Rattle.sync.proofs.sync_pages.Goals as goal

pub loop-i-init : goal.loop-i-init
loop-i-init g c = search (rules, whole-start)

pub loop-i-preserved : goal.loop-i-preserved
loop-i-preserved g c = (omega arith, omega arith, omega arith, omega arith, omega arith, search (rules, sweep-more))

pub returns : goal.returns
returns g c = search (rules, sweep-over)
