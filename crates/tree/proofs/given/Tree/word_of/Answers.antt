-- A depth that is neither 1 nor 2.
use Rattle.tree.proofs.OrderLaws.{third-left}
use borrow.Author.Rules.{rules}
use Rattle.tree.proofs.given.Tree.word_of.Goals as goal

pub word_at-requires-in_default : goal.word_at-requires-in_default
word_at-requires-in_default c = third-left _ _ _ c.args.self.now.in_order (search rules) (search rules)
