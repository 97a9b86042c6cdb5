-- `start::first_state` meets its contract.
use mathlib.Core.Path.{refl}
use Rattle.model.specs.Policy.{given_of}
use Rattle.start.proofs.StartLaws.{first-state-is}
use Rattle.start.proofs.first_state.Goals as goal

pub returns : goal.returns
returns c =
    first-state-is (given_of c.args.devices) c.args.policy.bytes.now _ _ _ _ _ _ _ c.args.policy.read c.args.policy.passed c.entry_pages-entry_pages.ensures
    c.first_page.ensures refl
