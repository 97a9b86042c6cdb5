use Rattle.std.proofs.Common.{◌≡◌, ℕ, List}
use Rattle.std.specs.Iterator.{AlwaysYields}
use Rattle.model.specs.Questions.{rising}
use Rattle.policy.proofs.pages_rising.Given as goal

abbrev pub invariant-loop-page : goal.invariant-loop-page
invariant-loop-page g l =
    (goal.iterator-loop-page g).can_next l.page-iterator × (goal.iterator-loop-page g).is_finite l.page-iterator
    × ((all : List ℕ) → AlwaysYields g.I.Iterator.next_gives (λ n. n) l.fn.listed all
    → (left : List ℕ) × AlwaysYields g.I.Iterator.next_gives (λ n. n) l.page-iterator left × (rising l.pages l.least left ≡ rising l.pages 0 all))
