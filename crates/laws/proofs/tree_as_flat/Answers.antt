-- K4: the laws of a tree's calls beside those of the flat table.
use Rattle.laws.proofs.TreeLaws.{tree-as-flat, tree-refused}
use Rattle.laws.proofs.tree_as_flat.Goals as goal

pub returns : goal.returns
returns c = (tree-as-flat, tree-refused)
