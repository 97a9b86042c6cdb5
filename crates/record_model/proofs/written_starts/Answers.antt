use Rattle.record_model.proofs.RecordLaws.{written-starts}
use Rattle.record_model.proofs.written_starts.Goals as goal

pub returns : goal.returns
returns c = written-starts
