-- A law for each way out of a level.
use Rattle.std.proofs.Common.{refl}
use native.Mathlib.Omega.{arith}
use Rattle.tree.proofs.WalkLaws.{opened, closed, framed, gives-outside, gives-table}
use Rattle.tree.proofs.WalkLaws.{level-absent, level-3, level-2, level-misaligned, level-large, large-low, table-sound}
use Rattle.tree.proofs.+part_from.Goals as goal

pub returns-then-tables-number : goal.returns-then-tables-number
returns-then-tables-number t c = (tt, gives-outside _ _ _ _ _ _ (omega arith) c.if-tables-number.true)

pub returns-then-level-eq1 : goal.returns-then-level-eq1
returns-then-level-eq1 t c =
    let inside = c.if-tables-number.false in
    (table-sound _ _ inside, gives-table _ _ _ _ _ _ c.if-level-eq1.true inside)

pub returns-in_default : goal.returns-in_default
returns-in_default t c = (
  tt,
  level-absent _ _ _ _ _ _ _ refl c.if-tables-number.false (omega arith) (omega arith) c.if-level-eq1.false (closed _ c.in_default.ensures),
)

pub returns-then-upper-eq0 : goal.returns-then-upper-eq0
returns-then-upper-eq0 t c =
    let same = framed _ _ c.in-Some.valid c.in-Some.ensures c.frame-frame.ensures in (
      c.part_from.ensures.0,
      level-2 _ _ _ _ _ _ _ refl c.if-tables-number.false _ (opened _ c.in-Some.valid c.in-Some.ensures) c.if-level-eq2.true _ c.if-upper-eq0.true
          (rw same at c.part_from.ensures.1),
    )

pub returns-then-frame-ne0 : goal.returns-then-frame-ne0
returns-then-frame-ne0 t c =
    let same = framed _ _ c.in-Some.valid c.in-Some.ensures c.frame-frame.ensures in (
      tt,
      level-misaligned _ _ _ _ _ _ _ refl c.if-tables-number.false _ (opened _ c.in-Some.valid c.in-Some.ensures) c.if-level-eq2.true (omega arith)
          (rw same at c.if-frame-ne0.true),
    )

pub returns-then-level-eq2 : goal.returns-then-level-eq2
returns-then-level-eq2 t c =
    let same = framed _ _ c.in-Some.valid c.in-Some.ensures c.frame-frame.ensures in
    let there = opened _ c.in-Some.valid c.in-Some.ensures in
    let none = c.requires.2 (omega arith) in (
      large-low _ _ _ refl there (rw same at c.if-frame-ne0.false),
      level-large _ _ _ _ _ _ _ refl c.if-tables-number.false _ there c.if-level-eq2.true (omega arith) none.0 none.1 (rw same at c.if-frame-ne0.false),
    )

pub returns : goal.returns
returns t c =
    let same = framed _ _ c.in-Some.valid c.in-Some.ensures c.frame-frame.ensures in (
      c.part_from-2.ensures.0,
      level-3 _ _ _ _ _ _ _ refl c.if-tables-number.false _ (opened _ c.in-Some.valid c.in-Some.ensures) _ (omega arith)
          (rw same at c.part_from-2.ensures.1),
    )
