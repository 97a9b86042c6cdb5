-- A law for each of steps 3 to 5, and for the pending frame.
use Rattle.step.proofs.StepLaws.{fields-frame, const-true, free-above, free-pending, free-ordinary, free-excluded, differs-marked, frame_in}
use borrow.Author.Rules.{rules}
use Rattle.step.proofs.rules.Rules.unapproved.Goals as goal
use Rattle.step.proofs.rules.Rules.unapproved.Goals.{else-not-this-via-then-not-this+else-frame-self, else-not-this-via-else-not-this}
use native.Mathlib.Omega.{arith}

pub returns-then-self-frame : goal.returns-then-self-frame
returns-then-self-frame g c = search (rules, free-above, fields-frame)

pub returns-then-frame-self : goal.returns-then-frame-self
returns-then-frame-self g c = search (rules, free-pending, fields-frame)

pub test_bit_within-requires : goal.test_bit_within-requires
test_bit_within-requires g c = search (rules, frame_in)

pub returns-then-not-test_bit_within : goal.returns-then-not-test_bit_within
returns-then-not-test_bit_within g c = elim c.else-not-this.branch [
  | else-not-this-via-then-not-this+else-frame-self w ↦ search (rules, free-ordinary, fields-frame)
  | else-not-this-via-else-not-this w ↦
      let other =
      differs-marked _ _ _ _ (const-true _ w.if-not-this.false) c.requires (omega arith) c.test_bit_within.ensures c.if-not-test_bit_within.true in
      search (rules, free-ordinary, fields-frame)
]

pub returns-then-frame-self-2 : goal.returns-then-frame-self-2
returns-then-frame-self-2 g c = search (rules, free-pending, fields-frame)

pub returns : goal.returns
returns g c = search (rules, free-excluded, fields-frame)
