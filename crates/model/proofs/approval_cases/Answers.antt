-- The cases of approval while running: each row's outcome computes to the one that is fixed.
use mathlib.Core.List.{◌++◌}
use mathlib.Core.Path.{refl}
use Rattle.model.specs.Cases.{row}
use Rattle.model.specs.Further.{three_devices, six_pages, with6, shadow6, started6, left6, at0, stays, in_state}
use Rattle.model.specs.Orders.{misfit}
use Rattle.model.specs.DeviceCases.{of_devices}
use Rattle.model.specs.TreeCases.{one_table}
use Rattle.model.specs.ApprovalCases.{map6, pending_with, asked6, committed6, alone6, paired, bare, user6, inspected6, read_only6, harmless6, other_harmless6}
use Rattle.model.specs.ApprovalCases.{others6, more_others6, nine_with, many_with, lent_with, ask_cases, commit_cases, drop_cases, pending_cases}
use Rattle.model.proofs.Computed.{computed}
use Rattle.model.proofs.CaseLaws.{hold}
use Rattle.model.proofs.approval_cases.Goals as goal

pub returns : goal.returns
unfolding computed row three_devices six_pages with6 shadow6 started6 left6 at0 stays in_state misfit of_devices one_table map6 pending_with asked6 committed6 alone6
    paired bare user6 inspected6 read_only6 harmless6 other_harmless6 others6 more_others6 nine_with many_with lent_with ask_cases commit_cases drop_cases pending_cases
returns c = hold (ask_cases ++ commit_cases ++ drop_cases ++ pending_cases) refl
