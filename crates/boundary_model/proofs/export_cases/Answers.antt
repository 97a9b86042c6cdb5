-- The cases of the exported calls: each row's outcome computes to the one that is fixed.
use mathlib.Core.Path.{refl}
use Rattle.model.specs.Cases.{row, Hold}
use Rattle.model.specs.Further.{two_entries, three_devices, six_pages, with6, shadow6, started6, leaving, left6}
use Rattle.model.specs.TreeCases.{run_from, run_of, in_row, two_tree, one_table, six_entries}
use Rattle.record_model.proofs.Computed.{computed}
use Rattle.model.proofs.CaseLaws.{hold}
use Rattle.boundary_model.specs.Words.{entry_pages_in, pending_in, pending_words, state_in, mode_word, words_of, with_words, overwritten, with_numbers, runs_fit}
use Rattle.boundary_model.specs.Words.{lendable, run_after, run_started}
use Rattle.boundary_model.specs.Boundary.{replied, start_at, call_at, record_at, walk_at}
use Rattle.boundary_model.specs.ExportCases.{listed3, export_cases, last_table, short_table, walk_export_cases, run_with, call_export_cases}
use Rattle.boundary_model.specs.ExportCases.{run_in, entry_run, shadowed6, lent_export_cases, run513, shadowed513, tree513, each_export_cases}
use Rattle.boundary_model.proofs.export_cases.Goals as goal

without-state : Hold export_cases × Hold walk_export_cases
unfolding computed row two_entries overwritten with_numbers record_at listed3 export_cases walk_at last_table short_table walk_export_cases
without-state = (hold export_cases refl, hold walk_export_cases refl)

with-state : Hold call_export_cases × Hold lent_export_cases × Hold each_export_cases
unfolding computed row two_entries three_devices six_pages with6 shadow6 started6 leaving left6 run_from run_of in_row two_tree one_table six_entries
    entry_pages_in pending_in pending_words state_in mode_word words_of with_words overwritten with_numbers runs_fit lendable run_after run_started replied start_at
    call_at run_with call_export_cases run_in entry_run shadowed6 lent_export_cases run513 shadowed513 tree513 each_export_cases
with-state = (hold call_export_cases refl, hold lent_export_cases refl, hold each_export_cases refl)

pub returns : goal.returns
returns c = (without-state.0, without-state.1, with-state.0, with-state.1, with-state.2)
