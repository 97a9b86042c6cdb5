-- Document 02, K3: which shadow entries carry the cache bits, for every kernel entry and in both modes.
use Rattle.std.specs.Prelude.{ℕ, ◌/◌, ◌%◌, ◌^◌, ◌≤◌, ◌<◌, Bool, false, not, cond, ◌≡◌, eqb, Some}
use Rattle.model.specs.declared.Fields.{Fields}
use Rattle.model.specs.Bits.{fields_of, taken_apart, ordinary}
use Rattle.model.specs.Sync.{Rules, step}
use Rattle.model.specs.Switch.{switched}

-- Bit k of a number, and the frame in bits 12 to 51, by arithmetic: not by `bit` and `frame_of`, which a guard that reads other bits would change too.
abbrev pub digit : ℕ → ℕ → Bool
digit k x = eqb (x / 2 ^ k % 2) 1

abbrev pub frame_field : ℕ → ℕ
frame_field entry = entry / 2 ^ 12 % 2 ^ 40

-- "Taking a kernel entry apart now yields both bits".
abbrev pub ApartYields : Type 0
ApartYields = (entry : ℕ) (x : Fields) → taken_apart entry ≡ Some x → (x.write_through ≡ digit 3 entry) × (x.cache_disable ≡ digit 4 entry)

-- "an ordinary shadow entry carries them": its bits 0 to 4 are those of the kernel entry that it is made of, which is present.
abbrev pub OrdinaryCarries : Type 0
OrdinaryCarries = (user : Bool) (entry k : ℕ) → entry % 2 ≡ 1 → k < 5 → digit k (ordinary user (fields_of entry)) ≡ digit k entry

-- A shadow entry that is present and has no approved mark.
abbrev pub is_ordinary : ℕ → Bool
is_ordinary entry = cond (digit 0 entry) (not (digit 10 entry)) false

-- Of steps 1 to 5: an ordinary entry has bits 2 to 4 as the kernel entry has them, while its frame is pending too (K6), and an approved entry and entry 0
-- have none of them.
abbrev pub StepCarries : Type 0
StepCarries =
    (rules : Rules) (entry approval k : ℕ) → 2 ≤ k → k < 5
    → digit k (step rules entry approval).entry ≡ cond (is_ordinary (step rules entry approval).entry) (digit k entry) false

-- The same of bit 1, which a pending frame clears.
abbrev pub StepWrites : Type 0
StepWrites =
    (rules : Rules) (entry approval : ℕ)
    → digit 1 (step rules entry approval).entry
    ≡ cond (is_ordinary (step rules entry approval).entry) (cond (eqb (frame_field entry) rules.pending) false (digit 1 entry)) false

-- "other bits kept": a mode switch keeps them, as it keeps every bit but 63.
abbrev pub SwitchKeeps : Type 0
SwitchKeeps = (user : Bool) (entry k : ℕ) → k < 63 → digit k (switched user entry) ≡ digit k entry
