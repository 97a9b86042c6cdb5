-- The table is a part of the words, and gives each page what the tree's walk does.
use native.Mathlib.Omega.{arith}
use mathlib.Core.Path.{refl}
use Rattle.sync_tree.proofs.TableLaws.{table-inside, table-swept, deep_one, one-swept}
use Rattle.sync_tree.proofs.sync_table.Goals as goal

pub overflow_mul-first : goal.overflow_mul-first
overflow_mul-first c =
    let inside = table-inside c.args.tree.now.words.now c.args.tree.now.root _ _ _ refl refl c.requires.1 (deep_one c.args.tree.now c.requires.0) in
    omega (arith, inside)

pub overflow_add-table : goal.overflow_add-table
overflow_add-table c =
    let inside = table-inside c.args.tree.now.words.now c.args.tree.now.root _ _ _ refl refl c.requires.1 (deep_one c.args.tree.now c.requires.0) in
    omega (arith, inside)

pub offset_bounds-tree-first : goal.offset_bounds-tree-first
offset_bounds-tree-first c =
    let inside = table-inside c.args.tree.now.words.now c.args.tree.now.root _ _ _ refl refl c.requires.1 (deep_one c.args.tree.now c.requires.0) in
    omega (arith, inside)

pub slice_bounds-table-end : goal.slice_bounds-table-end
slice_bounds-table-end c =
    table-inside c.args.tree.now.words.now c.args.tree.now.root _ _ _ refl refl c.requires.1 (deep_one c.args.tree.now c.requires.0)

pub returns : goal.returns
returns c =
    one-swept c.args.tree.now c.requires.0 _ _ _ _
    (table-swept c.args.tree.now.words.now c.args.tree.now.root _ _ _ refl refl c.requires.1 (deep_one c.args.tree.now c.requires.0) _ _ _ _ refl
    c.sync_flat.ensures)
