-- `boundary_start::start` meets its contract.
use borrow.Author.Rules.{rules}
use Rattle.boundary_start.proofs.StartLaws.{start-unfit, run-fits, started}
use Rattle.boundary_start.proofs.start.Goals as goal

pub returns-then-not-runs_fit : goal.returns-then-not-runs_fit
returns-then-not-runs_fit c = search (rules, start-unfit)

pub put-requires : goal.put-requires
put-requires c = search (rules, run-fits)

pub returns : goal.returns
returns c = search (rules, started)
