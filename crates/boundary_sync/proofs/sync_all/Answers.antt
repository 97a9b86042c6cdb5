-- `boundary_sync::sync_all` meets its contract.
use borrow.Author.Rules.{rules}
use Rattle.boundary.proofs.BoundaryLaws.{unused}
use Rattle.boundary_sync.proofs.SyncLaws.{sync-kept}
use Rattle.boundary_sync.proofs.sync_all.Goals as goal

pub returns-in-Ok : goal.returns-in-Ok
returns-in-Ok c = search (rules, sync-kept)

pub returns-in-Err : goal.returns-in-Err
returns-in-Err c = search (rules, unused)
