-- The highest frame is the fold of the larger of two numbers.
use Rattle.std.proofs.Common.{◌≡◌, ℕ, max, arith, rules}
use Rattle.std.specs.Ordering.{nat_cmp, ord_max}
use Rattle.std.proofs.lemmas.Iterator.Consumers.{fold_from_yields_List}
use Rattle.policy.proofs.RecordLaws.{highest-below}
use Rattle.policy.proofs.frames_below.Goals as goal
use Rattle.std.proofs.lemmas.Bool.Decides.{nat_tests}

larger : (a b : ℕ) → ord_max nat_cmp a b ≡ max a b
larger a b = grind (arith, nat_tests)

pub returns : goal.returns
returns g c = λ numbers gives.
    highest-below c.args.frames numbers _ c.fold.result c.requires.some
    (fold_from_yields_List {steps = g.I.Iterator.next_gives} {v = λ n. n} {s = c.args.listed} _ max 0 c.fold.result c.fold.ensures.ran (record { runs = gives })
    (λ a x b q k. search (rules, larger)))
    c.frame_below.ensures
