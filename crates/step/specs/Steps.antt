-- What the contracts say of one page: what its step reads, and the tables and counts after it.
-- Of a state and its exclusion vector the rules are the model's `rules_of`.
use Rattle.std.specs.Prelude.{ℕ, ◌+◌, ◌≡◌, Bool, true, false, List, leb, get_or, set}
use Rattle.model.specs.Basics.{either, differs}
use Rattle.model.specs.Guard.{has_bit}
use Rattle.model.specs.Sync.{Rules, rules, Slot, Sweep, sweep}
use Rattle.step.specs.declared.rules.Rules.{Rules as Given}

abbrev pub rules_by : Bool → ℕ → ℕ → List ℕ → Rules
rules_by user frames pending exclusion = rules user frames pending (has_bit exclusion)

abbrev pub rules_in : Given → Rules
rules_in given = rules_by given.user given.frames given.pending given.exclusion.now

-- No frame below F without its bit is the pending one: that has its bit, or is none below F.
unfoldable pub is_marked : ℕ → ℕ → List ℕ → Bool
is_marked frames pending exclusion = either (leb frames pending) (has_bit exclusion pending)

-- What is known of the pending frame: that it is marked, or nothing.
abbrev pub Known : Bool → Given → Type 0
Known true given = is_marked given.frames given.pending given.exclusion.now ≡ true
Known false given = Unit {0}

-- The slot p stored at page i of both tables, and counted where that changed them.
unfoldable pub stored : ℕ → Sweep → Slot → Sweep
stored i r p =
    sweep (set r.shadow i p.entry) (set r.map i p.approval) (r.changed + differs (get_or r.shadow i 0) p.entry)
    (r.joined + differs (get_or r.map i 0) p.approval)
