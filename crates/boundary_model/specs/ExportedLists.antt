-- Demand 3 at the C boundary: what every list of exported calls returns and leaves after an accepted start; what number an exported call returns, and what a
-- refused one leaves, on lent runs of any length and contents.
use Rattle.std.specs.Prelude.{ℕ, ◌≤◌, Bool, cond, List, [], ◌∷◌, map, ◌≡◌, length, get_or, eqb}
use Rattle.model.specs.Guard.{Tables, Guard, guard_of}
use Rattle.model.specs.Policy.{Givens, Policy, policy_of}
use Rattle.model.specs.Calls.{start_of, Call, answer}
use Rattle.model.specs.Tree.{Tree}
use Rattle.claim.specs.OnePage.{first_page}
use Rattle.claim.specs.Terms.{first_terms}
use Rattle.claim.specs.Claim.{Always}
use Rattle.claim.specs.Lists.{guard_after}
use Rattle.boundary_model.specs.Words.{state_in, numbers_by}
use Rattle.boundary_model.specs.Boundary.{Returned, start_at, call_at, record_at, walk_at}

-- A state run that can be lent, in numbers: 25 words, with a mode word and a pending word of 0 or 1.
pub record Lent (run : List ℕ) : Type 0 where
  pub words : length run ≡ 25
  pub mode : get_or run 19 0 ≤ 1
  pub pending : get_or run 22 0 ≤ 1

-- What C lends holds a guard: the state run can be lent and holds its state, and the tables are its tables.
pub record Held (run : List ℕ) (t : Tables) (g : Guard) : Type 0 where
  pub lent : Lent run
  pub state : state_in run ≡ g.state
  pub tables : t ≡ g.tables

-- An exported call of a list, and the numbers run that it is lent, of any length. State run and tables it gets as the last one left them.
pub record Exported : Type 0 where
  pub call : Call
  pub numbers : List ℕ

-- Its numbers run has its length. Else the call is refused with 7, whatever the guard would answer, and is no call of the guard's list.
abbrev pub reaches : Exported → Bool
reaches x = eqb (length x.numbers) (numbers_by x.call)

-- The list of calls that the guard gets.
unfoldable pub calls_made : List Exported → List Call
calls_made [] = []
calls_made (x ∷ xs) = cond (reaches x) (x.call ∷ calls_made xs) (calls_made xs)

-- Every numbers run of a list has its length.
abbrev pub AllFit : List Exported → Type 0
AllFit [] = Unit {0}
AllFit (x ∷ xs) = (length x.numbers ≡ numbers_by x.call) × AllFit xs

-- What an exported call has to return, its numbers run at its exit, and the guard after it, by the guard that it reaches.
abbrev pub number_owed : Guard → Exported → ℕ
number_owed g x = cond (reaches x) (answer g x.call).reply.number 7

abbrev pub numbers_owed : Guard → Exported → List ℕ
numbers_owed g x = cond (reaches x) ((answer g x.call).reply.first ∷ (answer g x.call).reply.second ∷ []) x.numbers

abbrev pub guard_owed : Guard → Exported → Guard
guard_owed g x = cond (reaches x) (answer g x.call).guard g

-- An exported call on what the last one left.
abbrev pub exported_after : Returned → Exported → Returned
exported_after r x = call_at r.state x.numbers r.tables x.call

-- What was left holds the guard now; the next call returns that guard's number and numbers; and all of this again after it, for the rest of the list.
abbrev pub Along : Returned → Guard → List Exported → Type 0
Along r g [] = Held r.state r.tables g
Along r g (x ∷ xs) =
    Held r.state r.tables g
    × ((exported_after r x).number ≡ number_owed g x)
    × ((exported_after r x).numbers ≡ numbers_owed g x)
    × Along (exported_after r x) (guard_owed g x) xs

-- What the last call of a list left.
unfoldable pub left_by : Returned → List Exported → Returned
left_by r [] = r
left_by r (x ∷ xs) = left_by (exported_after r x) xs

-- The start, by what its exported call returned, and a list of exported calls after it: the guard accepted the start, and its numbers are given; along the
-- list, call by call, what C lends holds the guard; after it that of the whole list; no call is left out where every numbers run has its length; and the claim
-- of demand 3 is one about this list.
pub record Carried (given : Givens) (bytes : List ℕ) (t : Tables) (r : Returned) (calls : List Exported) : Type 0 where
  pub accepted : (start_of given bytes t).reply.number ≡ 0
  pub numbers : r.numbers ≡ (start_of given bytes t).reply.first ∷ (start_of given bytes t).reply.second ∷ []
  pub along : Along r (start_of given bytes t).guard calls
  pub after : Held (left_by r calls).state (left_by r calls).tables (guard_after (start_of given bytes t).guard (calls_made calls))
  pub whole : AllFit calls → calls_made calls ≡ map (λ x. x.call) calls
  pub claimed : Always (policy_of bytes) first_terms (start_of given bytes t).guard (first_page (policy_of bytes)) (calls_made calls)

-- Of every exported start that returns 0, on whatever runs and tables, and every list of exported calls: no other premise. A call that a request adds
-- joins by its clause of `changed_by`; a call that makes several guard calls is several members of the list.
unfoldable pub ExportedClaim : Type 0
ExportedClaim =
    (given : Givens) (bytes run numbers : List ℕ) (t : Tables) (calls : List Exported) → (start_at given bytes run numbers t).number ≡ 0
    → Carried given bytes t (start_at given bytes run numbers t) calls

-- The number that an exported call returns, of every run: the guard's own where the runs can be lent, and else 7.
pub record CallNumber (run numbers : List ℕ) (t : Tables) (call : Call) : Type 0 where
  pub fitting : Lent run → length numbers ≡ 2 → (call_at run numbers t call).number ≡ (answer (guard_of (state_in run) t) call).reply.number
  pub unfit : (Lent run → length numbers ≡ 2 → ⊥) → (call_at run numbers t call).number ≡ 7

-- The start reads no word of the state run. Its own no comes first, and 7 where it has none and a run has another length.
pub record StartNumber (given : Givens) (bytes run numbers : List ℕ) (t : Tables) : Type 0 where
  pub fitting : length run ≡ 25 → length numbers ≡ 2 → (start_at given bytes run numbers t).number ≡ (start_of given bytes t).reply.number
  pub own : ((start_of given bytes t).reply.number ≡ 0 → ⊥) → (start_at given bytes run numbers t).number ≡ (start_of given bytes t).reply.number
  pub unfit : (start_of given bytes t).reply.number ≡ 0 → (length run ≡ 25 → length numbers ≡ 2 → ⊥) → (start_at given bytes run numbers t).number ≡ 7

unfoldable pub NumberReturned : Type 0
NumberReturned =
    ((run numbers : List ℕ) (t : Tables) (call : Call) → CallNumber run numbers t call)
    × ((given : Givens) (bytes run numbers : List ℕ) (t : Tables) → StartNumber given bytes run numbers t)

-- The numbers run of a refused call: zeros, and one of another length as it was.
unfoldable pub zeroed : List ℕ → List ℕ
zeroed numbers = cond (eqb (length numbers) 2) (0 ∷ 0 ∷ []) numbers

-- A refused call or start leaves the state run and every table.
pub record Left (run numbers : List ℕ) (t : Tables) (r : Returned) : Type 0 where
  pub state : r.state ≡ run
  pub tables : r.tables ≡ t
  pub numbers_run : r.numbers ≡ zeroed numbers

-- Of every exported call, whatever refused it: everything but its numbers run is as it was. The walk is lent no other run that it may write.
unfoldable pub RefusedLeaves : Type 0
RefusedLeaves =
    ((run numbers : List ℕ) (t : Tables) (call : Call) → ((call_at run numbers t call).number ≡ 0 → ⊥) → Left run numbers t (call_at run numbers t call))
    × ((given : Givens) (bytes run numbers : List ℕ) (t : Tables) → ((start_at given bytes run numbers t).number ≡ 0 → ⊥)
    → Left run numbers t (start_at given bytes run numbers t))
    × ((policy : Policy) (buffer numbers : List ℕ) → ((record_at policy buffer numbers).number ≡ 0 → ⊥)
    → ((record_at policy buffer numbers).buffer ≡ buffer) × ((record_at policy buffer numbers).numbers ≡ zeroed numbers))
    × ((tree : Tree) (page : ℕ) (numbers : List ℕ) → ((walk_at tree page numbers).number ≡ 0 → ⊥) → (walk_at tree page numbers).numbers ≡ zeroed numbers)
