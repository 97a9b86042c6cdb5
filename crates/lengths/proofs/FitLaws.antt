-- A state in order has few enough frames that the length of a vector can be computed.
use Prim.Native.Nat.{◌<◌, ◌^◌}
use mathlib.Core.Bool.{true}
use mathlib.Core.Path.{◌≡◌}
use native.Mathlib.Omega.{arith}
use Rattle.model.specs.declared.State.{State}
use Rattle.model.specs.Questions.{state_in_order}
use Rattle.laws.proofs.StateLaws.{frames-few}

pub frames_bounded : (s : State) → state_in_order s ≡ true → s.frames < 2 ^ 63
frames_bounded s p = omega (arith, frames-few s p)
