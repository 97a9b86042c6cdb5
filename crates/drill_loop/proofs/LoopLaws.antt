-- The law by which the loop ends.
use Prim.Native.Nat.{ℕ, ◌<◌}
use mathlib.Core.Bool.{Bool, true, false}
use mathlib.Core.Path.{◌≡◌, sym, ◌∙◌}
use native.Mathlib.Omega.{arith}
use borrow.Author.Tests.{ltb-true}
use Rattle.drill_loop.specs.Loop.{goes_on, left_after}

-- A loop that goes on has fewer calls left after the next.
pub left-falls : (left after : ℕ) (goes on : Bool) → on ≡ goes_on left → on ≡ true → after ≡ left_after left goes → after < left
unfolding goes_on left_after
left-falls left after true on e p h = let q : 0 < left = ltb-true 0 left (sym e ∙ p) in omega arith
left-falls left after false on e p h = let q : 0 < left = ltb-true 0 left (sym e ∙ p) in omega arith
