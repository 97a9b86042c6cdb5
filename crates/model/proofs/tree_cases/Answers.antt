-- The cases of trees: each row's outcome computes to the one that is fixed.
use mathlib.Core.Path.{refl}
use Rattle.model.specs.Cases.{row, Hold}
use Rattle.model.specs.Further.{six_pages, with6, shadow6, started6, stays, in_state, of_lengths, filled}
use Rattle.model.specs.Orders.{misfit}
use Rattle.model.specs.TreeCases.{run_from, run_of, one, two, three, walked, given, gives, walk_cases, walked_in, walk_refusals, in_row, flat_tree, two_tree}
use Rattle.model.specs.TreeCases.{three_tree, one_table, shadowed, ones, six_entries, six_synced, tree_cases}
use Rattle.model.proofs.Computed.{computed}
use Rattle.model.proofs.CaseLaws.{hold}
use Rattle.model.proofs.tree_cases.Goals as goal

-- Each table on its own, since the prover limits the steps of one declaration.

walks : Hold walk_cases × Hold walk_refusals
unfolding computed row run_from run_of one two three walked given gives walk_cases walked_in walk_refusals
walks = (hold walk_cases refl, hold walk_refusals refl)

trees : Hold tree_cases
unfolding computed row six_pages with6 shadow6 started6 stays in_state of_lengths filled misfit run_from run_of two in_row flat_tree two_tree three_tree one_table
    shadowed ones six_entries six_synced tree_cases
trees = hold tree_cases refl

pub returns : goal.returns
returns c = (walks.0, walks.1, trees)
