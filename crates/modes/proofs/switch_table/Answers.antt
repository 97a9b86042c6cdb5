-- `modes::switch_table` meets its contract.
use Prim.Native.Nat.{◌≤◌}
use native.Mathlib.Omega.{arith}
use lib.ListN.{length}
use Rattle.laws.proofs.SwitchLaws.{switched-start}
use Rattle.modes.proofs.TableLaws.{count-start, table_more, count-more, table-over, count-over}
use borrow.Author.Rules.{rules}
use Rattle.modes.proofs.switch_table.Goals as goal

-- The table with the first entries as they are now and the others yet to be switched is the whole switched one, and so with the count.

pub loop-entry-init : goal.loop-entry-init
loop-entry-init c = (switched-start _ _, count-start _ _, omega arith)

pub loop-entry-preserved : goal.loop-entry-preserved
loop-entry-preserved c = (search (rules, table_more), search (rules, count-more), omega arith)

pub returns : goal.returns
returns c =
    let over : length c.loop-entry.shadow ≤ c.loop-entry.entry-index = omega arith in
    (search (rules, table-over, over), search (rules, count-over, over))
