-- One name that opens every definition of the guard and of the drill, for the proofs that only compute.
use Rattle.model.proofs.Computed as guard
use Rattle.drill_model.specs.Drill.{policy_extent, windows_of, drill_start, begun, kind_of, index_of, length_of, value_of, with_guard, edited, call_of, performed, digits, decimal, line, start_line, turn_of, turn, hex_digit, hex_digits, entry_lines, count_from, nearest, share, share_line, closing, call_limit, call_lines, drill_output}

unfoldable pub computed : Unit {0}
unfolding guard.computed policy_extent windows_of drill_start begun kind_of index_of length_of value_of with_guard edited call_of performed digits decimal line start_line turn_of turn hex_digit hex_digits entry_lines count_from nearest share share_line closing call_limit call_lines drill_output
computed = tt
