-- Before page i the tables and counts, with the run over what is left, are the whole run.
use native.Mathlib.Omega.{arith}
use Rattle.sync_tree.proofs.RunLaws.{swept-over}
use Rattle.sync_tree.proofs.SourceLaws.{run_more}
use Rattle.sync_tree.proofs.sync_run.Goals as goal

pub loop-i-preserved : goal.loop-i-preserved
loop-i-preserved g c = (
  omega arith,
  omega arith,
  omega arith,
  omega arith,
  omega arith,
  omega arith,
  λ kernel gives.
      run_more _ _ _ _ _ _ _ _ _ _ _ _ _ _ (c.loop-i.invariant.6 kernel gives) c.loop-i-test.true
      (gives c.loop-i.i c.entry_of.result (omega arith) (omega arith) c.entry_of.ensures) c.sync_at-counts.ensures.0,
)

pub returns-clause-swept : goal.returns-clause-swept
returns-clause-swept g c kernel gives = swept-over _ _ _ _ _ (c.loop-i.invariant.6 kernel gives) (omega arith)
