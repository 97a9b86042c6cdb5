-- `boundary_start::write_record` meets its contract.
use borrow.Author.Rules.{rules}
use Rattle.boundary_start.proofs.RecordLaws.{record-replied}
use Rattle.boundary_start.proofs.write_record.Goals as goal

pub returns : goal.returns
returns c = search (rules, record-replied)
