-- `drill_loop::loops_as_defined` meets its contract: by whether any call is left, and whether the turn goes on.
use Prim.Native.Nat.{ℕ, zero, suc, ◌<◌}
use mathlib.Core.Bool.{Bool, true, false, cond}
use mathlib.Core.List.{List}
use mathlib.Core.Path.{◌≡◌, refl}
use native.Mathlib.Numerals.{sub-one}
use native.Mathlib.Omega.{arith}
use borrow.Author.Tests.{lt-ltb}
use Rattle.drill_model.specs.Drill.{Drill, closing, call_lines}
use Rattle.drill_loop.specs.Loop.{goes_on, left_after, LoopsAsDefined}
use Rattle.drill_loop.proofs.loops_as_defined.Goals as goal

-- The calls after one that went on or ended them, where one more was left.

after : (n : ℕ) (goes : Bool) (d : Drill) (rest : List ℕ)
    → cond goes (call_lines n d rest) (closing d.guard) ≡ call_lines (left_after (suc n) goes) d rest
unfolding call_lines left_after
after n true d rest = rw (sub-one (suc n)) refl
after n false d rest = refl

loops : LoopsAsDefined
unfolding LoopsAsDefined goes_on call_lines
loops zero d rest = refl
loops (suc n) d rest = rw (after n _ _ _, lt-ltb 0 (suc n) (let p : 0 < suc n = omega arith in p)) refl

pub returns : goal.returns
returns c = loops
