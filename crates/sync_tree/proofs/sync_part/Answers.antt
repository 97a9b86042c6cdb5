-- A run for each way in which the part goes on.
use Rattle.sync_tree.proofs.SourceLaws.{part-table, part-large, part-nowhere, table-holds}
use native.Mathlib.Omega.{arith}
use borrow.Author.Rules.{rules}
use Rattle.sync_tree.proofs.sync_part.Goals as goal

pub overflow_mul-first : goal.overflow_mul-first
overflow_mul-first c =
    let inside = table-holds c.args.words.now c.args.part _ c.requires.one.2 c.requires.one.1 c.in-Table.number c.in-Table.all c.in-Table.any (search rules) in
    omega (arith, inside)

pub sync_run-requires-clause-read : goal.sync_run-requires-clause-read
sync_run-requires-clause-read c =
    let inside = table-holds c.args.words.now c.args.part _ c.requires.one.2 c.requires.one.1 c.in-Table.number c.in-Table.all c.in-Table.any (search rules) in
    λ before l. omega (arith, inside, l)

pub returns-in-Table-clause-swept : goal.returns-in-Table-clause-swept
returns-in-Table-clause-swept c =
    c.sync_run.ensures.swept _ (λ page word from near post.
    part-table c.args.words.now c.args.part c.args.pages.start page word c.requires.one.0 from (omega arith)
    c.in-Table.number c.in-Table.all c.in-Table.any (search rules) (search (rules, post)))

pub returns-in-Large-clause-swept : goal.returns-in-Large-clause-swept
returns-in-Large-clause-swept c =
    c.sync_run-in-Large.ensures.swept _ (λ page word from near post.
    part-large c.args.words.now c.args.part c.args.pages.start page word c.requires.one.0 from (omega arith)
    c.in-Large.entry (search rules) (search (rules, post)))

pub returns-in-Nowhere-clause-swept : goal.returns-in-Nowhere-clause-swept
returns-in-Nowhere-clause-swept c =
    c.sync_run-in-Nowhere.ensures.swept _ (λ page word from near post.
    part-nowhere c.args.words.now c.args.part c.args.pages.start page word c.requires.one.0 from (omega arith) (search rules) (search (rules, post)))
