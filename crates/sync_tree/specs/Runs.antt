-- What the contracts between the functions of this crate say of a run of pages: its tables and counts, and where its kernel entries come from.
use Rattle.std.specs.Prelude.{ℕ, zero, suc, ◌≡◌, ◌-◌, ◌<◌, ◌≤◌, get_or}
use Rattle.model.specs.Bits.{taken_apart}
use Rattle.model.specs.Sync.{Slot, Sweep}
use Rattle.step.specs.Steps.{stored}

-- The slots of so many pages from page i on, each stored and counted.
unfoldable pub swept_from : (ℕ → ℕ → ℕ → Slot) → ℕ → ℕ → Sweep → Sweep
swept_from f i zero r = r
swept_from f i (suc n) r = swept_from f (suc i) n (stored i r (f i (get_or r.shadow i 0) (get_or r.map i 0)))

-- What calls return for the pages from `first` up to `end`, by how many lie before, is taken apart as their kernel entries are.
abbrev pub Gives : (ℕ → ℕ → Type 0) → ℕ → ℕ → (ℕ → ℕ) → Type 0
Gives post first end kernel =
    (page word : ℕ) → first ≤ page → page < end → post (page - first) word → taken_apart word ≡ taken_apart (kernel page)
