use Rattle.record_model.proofs.RecordLaws.{written-again}
use Rattle.record_model.proofs.written_again.Goals as goal

pub returns : goal.returns
returns c = written-again
