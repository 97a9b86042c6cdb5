-- What the shadow table lets a processor do. With the table installed a processor asks no call: what it may do stands in the entries, whose bits it reads
-- itself. So they are named here by their numbers and by arithmetic, and not by the guard's own readings of them.
use Rattle.std.specs.Prelude.{ℕ, ◌/◌, ◌%◌, ◌<◌, ◌≤◌, Bool, true, false, ◌⊎◌, ◌≡◌, get_or}
use Rattle.model.specs.Guard.{in_user}
use Rattle.model.specs.Policy.{Policy, named}
use Rattle.model.specs.Calls.{ask}
use Rattle.laws.specs.Cache.{digit, frame_field}
use Rattle.claim.specs.Terms.{Terms, first_terms, protected, code}
use Rattle.claim.specs.Lists.{outcome_of, Accepts, terms_along, AfterEvery}
use Rattle.claim.specs.Consequences.{Committed}

-- A present entry does no harm, in user mode or in kernel mode: its frame is below F; a writable one's is not protected; what kernel mode may execute is code;
-- and what user mode may execute is a user page (bit 2) that the kernel left executable (bit 9) and that is not approved (bit 10).
pub record Harmless (policy : Policy) (terms : Terms) (user : Bool) (entry : ℕ) : Type 0 where
  pub below : frame_field entry < policy.frames
  pub unprotected : digit 1 entry ≡ true → protected policy terms (frame_field entry) ≡ false
  pub kernel_runs : user ≡ false → digit 63 entry ≡ false → code policy terms (frame_field entry) ≡ true
  pub user_runs : user ≡ true → digit 63 entry ≡ false → (digit 2 entry ≡ true) × (digit 9 entry ≡ false) × (digit 10 entry ≡ false)

-- After every list of calls each page's shadow entry is harmless or, where it is not present, 0.
abbrev pub Installed : Type 0
Installed = AfterEvery λ policy start calls g.
    (p : ℕ) → p < policy.pages →
    let entry : ℕ = get_or g.tables.shadow p 0 in
    (digit 0 entry ≡ true → Harmless policy (terms_along start first_terms calls) (in_user g.state.mode) entry) × (digit 0 entry ≡ false → entry ≡ 0)

-- What follows from `Installed` alone, by no term of a frame. A present entry's frame is below F, and any other entry is 0.
abbrev pub InstalledMaps : Type 0
InstalledMaps = AfterEvery λ policy start calls g.
    (p : ℕ) → p < policy.pages →
    let entry : ℕ = get_or g.tables.shadow p 0 in
    (digit 0 entry ≡ true → frame_field entry < policy.frames) × (digit 0 entry ≡ false → entry ≡ 0)

-- A writable entry's frame is not named in the policy; and where an ask is accepted, no writable entry has its frame.
abbrev pub InstalledWrites : Type 0
InstalledWrites = AfterEvery λ policy start calls g.
    ((p : ℕ) → p < policy.pages →
    let entry : ℕ = get_or g.tables.shadow p 0 in
    digit 0 entry ≡ true → digit 1 entry ≡ true → named policy (frame_field entry) ≡ false)
    × ((page frame : ℕ) → Accepts g (ask page frame) → (p : ℕ) → p < policy.pages →
    let entry : ℕ = get_or (outcome_of g (ask page frame)).guard.tables.shadow p 0 in
    digit 0 entry ≡ true → digit 1 entry ≡ true → frame_field entry ≡ frame → ⊥)

-- What kernel mode may execute is not writable, and the policy names its frame or the list has committed it. What user mode may execute has bit 2, not bit 9
-- and not bit 10.
abbrev pub InstalledRuns : Type 0
InstalledRuns = AfterEvery λ policy start calls g.
    (p : ℕ) → p < policy.pages →
    let entry : ℕ = get_or g.tables.shadow p 0 in
    digit 0 entry ≡ true → digit 63 entry ≡ false
    → (in_user g.state.mode ≡ false → (digit 1 entry ≡ false) × ((named policy (frame_field entry) ≡ true) ⊎ Committed (frame_field entry) start calls))
    × (in_user g.state.mode ≡ true → (digit 2 entry ≡ true) × (digit 9 entry ≡ false) × (digit 10 entry ≡ false))

-- "spare bits zero": no frame at or above F has its bit set in the exclusion vector.
abbrev pub SpareBitsZero : Type 0
SpareBitsZero = AfterEvery λ policy start calls g.
    (f : ℕ) → policy.frames ≤ f → digit (f % 8) (get_or g.tables.exclusion (f / 8) 0) ≡ false
