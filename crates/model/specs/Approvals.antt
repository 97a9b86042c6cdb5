-- Document 02, K6: approval as ask, then commit or drop. What an ask looks for in a shadow entry, and what a commit makes of a page.
use Rattle.std.specs.Prelude.{ℕ, Bool, cond, eqb}
use Rattle.model.specs.Basics.{both, either}
use Rattle.model.specs.Guard.{none}
use Rattle.model.specs.Bits.{present, writable, frame_of, approved}
use Rattle.model.specs.Sync.{Slot, slot}

-- A "present shadow entry" that "has that frame".
unfoldable pub maps : ℕ → ℕ → Bool
maps frame entry = both (present entry) (eqb (frame_of entry) frame)

-- "a frame that a present shadow entry maps writable"
unfoldable pub maps_writable : ℕ → ℕ → Bool
maps_writable frame entry = both (maps frame entry) (writable entry)

-- "Commit approves the asked page with its frame, in map and shadow, and so every unapproved page whose present shadow entry has that frame." The asked
-- page is approved "even where its shadow entry was 0", by the current mode. Of user mode, the frame, whether the page is the asked one, its entry and
-- its number in the map.
unfoldable pub committed_slot : Bool → ℕ → Bool → ℕ → ℕ → Slot
committed_slot user frame asked entry approval =
    cond (either asked (both (eqb approval none) (maps frame entry))) (slot (approved user frame) frame) (slot entry approval)
