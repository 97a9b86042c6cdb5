-- `boundary_sync::drop_pending` meets its contract.
use borrow.Author.Rules.{rules}
use Rattle.boundary.proofs.BoundaryLaws.{unused, run-used}
use Rattle.boundary_sync.proofs.SyncLaws.{vector-called}
use Rattle.boundary_sync.proofs.drop_pending.Goals as goal

pub put-requires : goal.put-requires
put-requires c = search (rules, run-used)

pub returns-in-Ok : goal.returns-in-Ok
returns-in-Ok c = search (rules, vector-called)

pub returns-in-Err : goal.returns-in-Err
returns-in-Err c = search (rules, unused)
