-- Question 17, by the run's length, the depth and the root.
use Rattle.tree.proofs.OrderLaws.{not-whole, too_shallow, too-deep, root-asked}
use borrow.Author.Rules.{rules}
use Rattle.tree.proofs.in_order.Goals as goal
use Rattle.tree.proofs.in_order.Goals.{then-length-ne0-via-then-length-ne0}
use Rattle.tree.proofs.in_order.Goals.{then-length-ne0-via-else-length-ne0+then-depth-lt-LEAST_DEPTH}
use Rattle.tree.proofs.in_order.Goals.{then-length-ne0-via-else-length-ne0+else-depth-lt-LEAST_DEPTH+then-depth-gt-MOST_DEPTH}

pub returns-then-length-ne0 : goal.returns-then-length-ne0
returns-then-length-ne0 c =
    elim c.then-length-ne0.branch [
      | then-length-ne0-via-then-length-ne0 w ↦ search (rules, not-whole)
      | then-length-ne0-via-else-length-ne0+then-depth-lt-LEAST_DEPTH w ↦ search (rules, too_shallow)
      | then-length-ne0-via-else-length-ne0+else-depth-lt-LEAST_DEPTH+then-depth-gt-MOST_DEPTH w ↦ search (rules, too-deep)
    ]

pub returns : goal.returns
returns c = search (rules, root-asked)
