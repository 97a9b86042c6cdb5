-- A shadow entry that has a frame: its low bits and the frame in one number, compared at once.
use Rattle.std.proofs.Common.{◌≡◌, ℕ, ◌+◌, ◌*◌, ◌%◌, ◌<◌, eqb, arith}
use Rattle.model.specs.Basics.{bit, both}
use Rattle.model.specs.Bits.{present, writable, frame_of}
use Rattle.model.specs.Approvals.{maps, maps_writable}
use Rattle.std.proofs.lemmas.Bool.Decides.{nat_tests}

pub apart : (low bits f frame : ℕ) → low < 4096 → bits < 4096 → eqb (low + f * 4096) (bits + frame * 4096) ≡ both (eqb low bits) (eqb f frame)
unfolding both
apart low bits f frame p q = grind (arith, nat_tests)

pub present_with : (entry frame : ℕ) → maps frame entry ≡ both (eqb (entry % 2) 1) (eqb (frame_of entry) frame)
unfolding maps present bit both
present_with entry frame = grind (arith, nat_tests)

pub writable_with : (entry frame : ℕ) → maps_writable frame entry ≡ both (eqb (entry % 4) 3) (eqb (frame_of entry) frame)
unfolding maps maps_writable present writable bit both
writable_with entry frame = grind (arith, nat_tests)
