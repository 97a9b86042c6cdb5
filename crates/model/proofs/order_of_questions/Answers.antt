-- The order of the questions: each row's outcome computes to the one that is fixed.
use mathlib.Core.List.{◌++◌}
use mathlib.Core.Path.{refl}
use Rattle.model.specs.Cases.{row}
use Rattle.model.specs.Further.{two_entries, start_on, zeros, start_refused, three_devices, six_pages, with6, shadow6, started6, at0, stays, leaving, left6}
use Rattle.model.specs.Orders.{misfit, start_order, call_order}
use Rattle.model.proofs.Computed.{computed}
use Rattle.model.proofs.CaseLaws.{hold}
use Rattle.model.proofs.order_of_questions.Goals as goal

pub returns : goal.returns
unfolding computed row two_entries start_on zeros start_refused three_devices six_pages with6 shadow6 started6 at0 stays leaving left6 misfit start_order call_order
returns c = hold (start_order ++ call_order) refl
