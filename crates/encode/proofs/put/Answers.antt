-- `encode::put` meets its contract.
use borrow.Author.Rules.{rules}
use Rattle.model.specs.Calls.{reply_of, settle}
use Rattle.encode.proofs.SettleLaws.{settled_accepted, settled_refused}
use Rattle.encode.proofs.put.Goals as goal
use Rattle.encode.proofs.put.Goals.{then-is_ok, else-is_ok}

pub returns-clause-words : goal.returns-clause-words
unfolding settle reply_of
returns-clause-words g c =
    elim c.if-is_ok.branch [ then-is_ok w ↦ rw w.run-is (search (rules, settled_accepted)) | else-is_ok w ↦ rw w.run-is (search (rules, settled_refused)) ]
