-- Question 7 refuses, or the three tables have one length and the vector its own.
use Rattle.sync.proofs.FlatLaws.{all-refused, flat-covers, flat_map, flat-vector, flat-few, all-accepted}
use borrow.Author.Rules.{rules}
use Rattle.sync.proofs.sync_all.Goals as goal

pub returns-then-not-sync_in_order : goal.returns-then-not-sync_in_order
returns-then-not-sync_in_order c = search (rules, all-refused)

pub rules_of-requires : goal.rules_of-requires
rules_of-requires c = (search flat-vector, search flat-few)

pub sync_flat-all-requires : goal.sync_flat-all-requires
sync_flat-all-requires c = (search flat-covers, search flat_map)

pub returns : goal.returns
returns c = search (rules, all-accepted)
