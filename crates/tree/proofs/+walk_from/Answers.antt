-- A law for each way out of a level.
use Rattle.std.proofs.Common.{refl}
use native.Mathlib.Omega.{arith}
use Rattle.tree.proofs.WalkLaws.{opened, closed, framed}
use Rattle.tree.proofs.DownLaws.{made-low, made-aligned}
use Rattle.tree.proofs.DownLaws.{word-outside, word-absent, word-last, word-3, word-table, word-misaligned, word-large}
use Rattle.tree.proofs.+walk_from.Goals as goal

pub returns-then-words-number : goal.returns-then-words-number
returns-then-words-number t c = word-outside _ _ _ _ _ _ _ (omega arith) c.if-words-number.true

pub returns-in_default : goal.returns-in_default
returns-in_default t c = word-absent _ _ _ _ _ _ c.if-words-number.false _ (omega arith) _ refl (closed _ c.in_default.ensures)

pub overflow_add-result : goal.overflow_add-result
overflow_add-result t c = let low = made-low _ _ _ c.flat.ensures in omega (arith, low)

pub returns-then-level-eq1 : goal.returns-then-level-eq1
returns-then-level-eq1 t c =
    word-last _ _ _ _ _ _ c.if-words-number.false _ (omega arith) _ refl _ (opened _ c.in-Some.valid c.in-Some.ensures) _ c.if-level-eq1.true
    (rw c.in-Some.ensures at c.flat.ensures)

pub returns-then-entry-eq0 : goal.returns-then-entry-eq0
returns-then-entry-eq0 t c =
    let same = framed _ _ c.in-Some.valid c.in-Some.ensures c.frame-frame.ensures in
    word-table _ _ _ _ _ _ c.if-words-number.false _ (omega arith) _ refl _ (opened _ c.in-Some.valid c.in-Some.ensures) c.if-level-eq2.true _
    c.if-entry-eq0.true (rw same at c.walk_from.ensures)

pub returns-then-frame-ne0 : goal.returns-then-frame-ne0
returns-then-frame-ne0 t c =
    let same = framed _ _ c.in-Some.valid c.in-Some.ensures c.frame-frame.ensures in
    word-misaligned _ _ _ _ _ _ c.if-words-number.false _ (omega arith) _ refl _ (opened _ c.in-Some.valid c.in-Some.ensures) c.if-level-eq2.true
    (omega arith) (rw same at c.if-frame-ne0.true)

pub overflow_add-result-then-level-eq2 : goal.overflow_add-result-then-level-eq2
overflow_add-result-then-level-eq2 t c =
    let same = framed _ _ c.in-Some.valid c.in-Some.ensures c.frame-frame.ensures in
    let low = made-aligned _ _ _ refl (opened _ c.in-Some.valid c.in-Some.ensures) _ _ (rw c.in-Some.ensures at c.flat-then-level-eq2.ensures)
    (rw same at c.if-frame-ne0.false) in
    omega (arith, low)

pub overflow_add-result-then-level-eq2-2 : goal.overflow_add-result-then-level-eq2-2
overflow_add-result-then-level-eq2-2 t c =
    let same = framed _ _ c.in-Some.valid c.in-Some.ensures c.frame-frame.ensures in
    let low = made-aligned _ _ _ refl (opened _ c.in-Some.valid c.in-Some.ensures) _ _ (rw c.in-Some.ensures at c.flat-then-level-eq2.ensures)
    (rw same at c.if-frame-ne0.false) in
    omega (arith, low)

pub returns-then-level-eq2 : goal.returns-then-level-eq2
returns-then-level-eq2 t c =
    let same = framed _ _ c.in-Some.valid c.in-Some.ensures c.frame-frame.ensures in
    word-large _ _ _ _ _ _ c.if-words-number.false _ (omega arith) _ refl _ (opened _ c.in-Some.valid c.in-Some.ensures) c.if-level-eq2.true
    (omega arith) _ (rw same at c.if-frame-ne0.false) (rw c.in-Some.ensures at c.flat-then-level-eq2.ensures)

pub returns : goal.returns
returns t c =
    let same = framed _ _ c.in-Some.valid c.in-Some.ensures c.frame-frame.ensures in
    word-3 _ _ _ _ _ _ c.if-words-number.false _ (omega arith) _ refl _ (opened _ c.in-Some.valid c.in-Some.ensures) _ (omega arith)
    (rw same at c.walk_from-2.ensures)
