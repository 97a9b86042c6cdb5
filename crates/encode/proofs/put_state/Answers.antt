-- `encode::put_state` meets its contract.
use mathlib.Core.Path.{ap, ◌∙◌}
use borrow.Author.Rules.{rules}
use Rattle.boundary_model.specs.Words.{state_in}
use Rattle.boundary_model.proofs.StateLaws.{words-decoded}
use Rattle.encode.proofs.StateLaws.{words-written}
use Rattle.encode.proofs.put_state.Goals as goal

pub returns : goal.returns
returns c = record {
  encoded = search (rules, words-written);
  decoded = ap state_in (search (rules, words-written)) ∙ words-decoded _ (search rules);
}
