-- Document 02, K6: "No write or transfer allowed from its ask onward covers a byte of a committed frame", said of every list of calls by itself, of the guard
-- alone.
use Rattle.std.specs.Prelude.{ℕ, ◌+◌, ◌/◌, ◌<◌, ◌≤◌, List, ◌∷◌, ◌++◌, ◌≡◌, get_or}
use Rattle.model.specs.declared.Device.{Device}
use Rattle.model.specs.Sizes.{page_bytes}
use Rattle.model.specs.Guard.{Tables, Guard}
use Rattle.model.specs.Policy.{Givens}
use Rattle.model.specs.Bits.{frame_of}
use Rattle.model.specs.Calls.{start_of, Call, write, device_write, ask, commit, drop}
use Rattle.claim.specs.Lists.{outcome_of, Accepts, guard_after, EachAccepted}
use Rattle.claim.specs.CallKinds.{Touch, untouched, fetched, written, transferred, touch_of}

-- A write or a transfer covers no byte of frame f. A write's byte lies in the frame of its page's shadow entry, a transfer's in that of its address.
abbrev pub Misses : ℕ → Guard → Touch → Type 0
Misses f g untouched = Unit {0}
Misses f g (fetched page) = Unit {0}
Misses f g (written address size) =
    (a : ℕ) → address ≤ a → a < address + size → frame_of (get_or g.tables.shadow (a / page_bytes) 0) ≡ f → ⊥
Misses f g (transferred window address size) = (a : ℕ) → address ≤ a → a < address + size → a / page_bytes ≡ f → ⊥

abbrev pub Avoids : ℕ → Guard → Call → Type 0
Avoids f g call = Misses f g (touch_of call)

-- What ends a term early is a drop.
abbrev pub NoDrop : Guard → Call → Type 0
NoDrop g call = call ≡ drop → ⊥

-- After an accepted start and any calls, an ask for a frame is accepted; then come calls with no accepted drop among them, an accepted commit, and any
-- calls. No allowed write or transfer after the ask covers a byte of the frame. The calls between may hold the frame's own commit already: the theorem
-- then speaks of a later one.
abbrev pub CommittedKept : Type 0
CommittedKept =
    (given : Givens) (bytes : List ℕ) (t : Tables) (before between after : List Call) (page frame : ℕ)
    → (start_of given bytes t).reply.number ≡ 0
    → let reached : Guard = guard_after (start_of given bytes t).guard before in
    let asked : Guard = (outcome_of reached (ask page frame)).guard in
    Accepts reached (ask page frame) → EachAccepted NoDrop asked between → Accepts (guard_after asked between) commit
    → EachAccepted (Avoids frame) asked (between ++ (commit ∷ after))

-- The same of each write and each transfer of that list: it follows from `CommittedKept` alone, and goes by no kind of call.
abbrev pub CommittedMissed : Type 0
CommittedMissed =
    (given : Givens) (bytes : List ℕ) (t : Tables) (before between after : List Call) (page frame : ℕ)
    → (start_of given bytes t).reply.number ≡ 0
    → let reached : Guard = guard_after (start_of given bytes t).guard before in
    let asked : Guard = (outcome_of reached (ask page frame)).guard in
    Accepts reached (ask page frame) → ((xs ys : List Call) → between ≡ xs ++ (drop ∷ ys) → Accepts (guard_after asked xs) drop → ⊥)
    → Accepts (guard_after asked between) commit → (xs ys : List Call)
    → ((address size : ℕ) → between ++ (commit ∷ after) ≡ xs ++ (write address size ∷ ys) → Accepts (guard_after asked xs) (write address size)
    → (a : ℕ) → address ≤ a → a < address + size → frame_of (get_or (guard_after asked xs).tables.shadow (a / page_bytes) 0) ≡ frame → ⊥)
    × ((devices : List Device) (device address size : ℕ) → between ++ (commit ∷ after) ≡ xs ++ (device_write devices device address size ∷ ys)
    → Accepts (guard_after asked xs) (device_write devices device address size)
    → (a : ℕ) → address ≤ a → a < address + size → a / page_bytes ≡ frame → ⊥)
