-- A call's fields are their bytes with the lower one first; of another kind than 0 to 7 there is no call.
use native.Mathlib.Omega.{arith}
use Rattle.std.proofs.Common.{rules}
use Rattle.model.specs.Policy.{number_at}
use Rattle.drill_model.specs.Drill.{kind_of, index_of, length_of, value_of}
use Rattle.drill_calls.proofs.CallTryFromArrayU8CALLBYTES.try_from.Goals as goal

pub returns-in_err-try_from : goal.returns-in_err-try_from
unfolding kind_of
returns-in_err-try_from c = search rules

pub returns : goal.returns
unfolding kind_of index_of length_of value_of number_at
returns c = (search rules, omega arith, omega arith, omega arith)
