use Rattle.std.proofs.Common.{refl}
use Rattle.record.proofs.WriteLaws.{write-accepts}
use Rattle.record.proofs.write_record.Goals as goal

pub returns : goal.returns
returns c = write-accepts _ _ _ 0 c.in_ok-write_question.ensures refl _ _ c.put.ensures c.record_length.ensures
