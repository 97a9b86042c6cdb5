-- In one byte, and in three parts, which are asked in turn.
use Rattle.std.proofs.Common.{sym, ◌∙◌}
use Rattle.bitmap.proofs.RangeLaws.{in_one_byte, in_three_parts, all_yes, first-no, second-no}
use Rattle.bitmap.proofs.none_set.Goals as goal
use Rattle.bitmap.proofs.none_set.Goals.{then-clear_from, else-clear_from}

pub returns-then-head-tail : goal.returns-then-head-tail
returns-then-head-tail c = c.clear_between.ensures ∙ sym (in_one_byte _ _ _ c.requires.0 c.if-head-tail.true)

pub returns-then-clear_up_to : goal.returns-then-clear_up_to
returns-then-clear_up_to c =
    let e = in_three_parts c.args.exclusion.now c.args.first c.args.last c.requires.0 c.if-head-tail.false in
    elim c.if-clear_from.branch [
      | then-clear_from w ↦
          c.clear_bytes.ensures
          ∙ all_yes _ _ _ _ e (sym c.clear_from.ensures ∙ w.if-clear_from.true) (sym w.clear_up_to.ensures ∙ sym w.value-is ∙ c.if-clear_up_to.true)
      | else-clear_from w ↦ cc
    ]

pub returns-else-clear_up_to : goal.returns-else-clear_up_to
returns-else-clear_up_to c =
    let e = in_three_parts c.args.exclusion.now c.args.first c.args.last c.requires.0 c.if-head-tail.false in
    elim c.if-clear_from.branch [
      | then-clear_from w ↦
          c.if-clear_up_to.false
          ∙ second-no _ _ _ _ e (sym c.clear_from.ensures ∙ w.if-clear_from.true) (sym w.clear_up_to.ensures ∙ sym w.value-is ∙ c.if-clear_up_to.false)
      | else-clear_from w ↦ c.if-clear_up_to.false ∙ first-no _ _ _ _ e (sym c.clear_from.ensures ∙ w.if-clear_from.false)
    ]
