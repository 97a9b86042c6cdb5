-- `encode::PendingPair::put` meets its contract.
use Rattle.encode.proofs.StateLaws.{nothing_put, pair_put}
use borrow.Author.Rules.{rules}
use Rattle.encode.proofs.PendingPairPart.put.Goals as goal
use Rattle.encode.proofs.PendingPairPart.put.Goals.{in-None, in-Some}

pub returns : goal.returns
returns c = elim c.match-s.branch [ in-None w ↦ rw w.word-is (search (rules, nothing_put)) | in-Some w ↦ rw w.word-is (search (rules, pair_put)) ]
