-- One name that opens every definition of the guard and of the record that is written, for the proofs that only compute.
use Rattle.model.proofs.Computed as guard
use Rattle.record_model.specs.Record.{number_bytes, numbers_bytes, record_of, arrays_exact, write_record_questions, write_record_of}

unfoldable pub computed : Unit {0}
unfolding guard.computed number_bytes numbers_bytes record_of arrays_exact write_record_questions write_record_of
computed = tt
