-- Demand 3: one claim about every list of calls after an accepted start.
use Rattle.std.specs.Prelude.{ℕ, ◌+◌, ◌-◌, ◌*◌, ◌/◌, ◌%◌, ◌<◌, ◌≤◌, true, false, List, [], ◌∷◌, ◌≡◌, length, get_or, eqb}
use Rattle.model.specs.declared.Device.{Device}
use Rattle.model.specs.Sizes.{page_bytes}
use Rattle.model.specs.Guard.{none, Tables, Guard, vector_of, in_user}
use Rattle.model.specs.Policy.{Givens, Policy, policy_of}
use Rattle.model.specs.Bits.{frame_of}
use Rattle.model.specs.Calls.{Reply, Outcome, start_of, Call}
use Rattle.claim.specs.CallKinds.{Touch, untouched, fetched, written, transferred, touch_of}
use Rattle.claim.specs.OnePage.{Page, first_page, reached_in, settled, pages_after}
use Rattle.claim.specs.Terms.{Terms, first_terms, terms_after, protected, code}
use Rattle.claim.specs.Lists.{outcome_of}

-- After the start and after every call: the tables have their lengths, "the state agrees on kernel or user", and each page's shadow entry
-- and approval equal those of its one-page guard. Every page below V has its own place, so that no default of get_or is compared. The exclusion vector has
-- the bits of the frames that each one-page guard holds excluded, and no others: its bytes are those of `vector_of`, spare bits included.
pub record Agree (policy : Policy) (g : Guard) (ps : ℕ → Page) : Type 0 where
  pub shadow_length : length g.tables.shadow ≡ policy.pages
  pub map_length : length g.tables.map ≡ policy.pages
  pub mode : (p : ℕ) → p < policy.pages → in_user g.state.mode ≡ (ps p).user
  pub entry : (p : ℕ) → p < policy.pages → get_or g.tables.shadow p 0 ≡ (ps p).entry
  pub approval : (p : ℕ) → p < policy.pages → get_or g.tables.map p none ≡ (ps p).approval
  pub exclusion : (p : ℕ) → p < policy.pages → g.tables.exclusion ≡ vector_of policy.frames (ps p).excluded

-- "Frame f is the 4,096 bytes from f × 4,096; memory beyond the last frame begins at F × 4,096." Byte x of memory lies in no frame that is protected as
-- the terms stand, and not beyond the last frame.
pub record Clear (policy : Policy) (terms : Terms) (x : ℕ) : Type 0 where
  pub below : x < policy.frames * page_bytes
  pub unprotected : protected policy terms (x / page_bytes) ≡ false

-- "Each byte of an allowed write, at address a, covers byte a mod 4,096 of the frame in the entry of the one-page guard of page a / 4,096,
-- rounded down."
unfoldable pub covered_by : (ℕ → Page) → ℕ → ℕ
covered_by ps a = frame_of (ps (a / page_bytes)).entry * page_bytes + a % page_bytes

-- "An allowed fetch of p reads the frame in the entry of p's one-page guard"; it answers this frame twice, and in kernel mode it is one that kernel
-- code may be fetched from.
pub record FetchSafe (policy : Policy) (terms : Terms) (ps : ℕ → Page) (page : ℕ) (reply : Reply) : Type 0 where
  pub first : reply.first ≡ frame_of (ps page).entry
  pub second : reply.second ≡ frame_of (ps page).entry
  pub approved : (ps page).user ≡ false → code policy terms (frame_of (ps page).entry) ≡ true

-- An allowed write answers the frames of its first and last byte, and every byte of it covers a clear byte.
pub record WriteSafe (policy : Policy) (terms : Terms) (ps : ℕ → Page) (address size : ℕ) (reply : Reply) : Type 0 where
  pub first : reply.first ≡ frame_of (ps (address / page_bytes)).entry
  pub second : reply.second ≡ frame_of (ps ((address + size - 1) / page_bytes)).entry
  pub bytes : (a : ℕ) → address ≤ a → a < address + size → Clear policy terms (covered_by ps a)

-- "An allowed device write covers its bytes at their own addresses." Each lies in its device's window too, by the list that reaches the call (K5).
pub record DeviceWriteSafe (policy : Policy) (terms : Terms) (window : Device) (address size : ℕ) : Type 0 where
  pub bytes : (a : ℕ) → address ≤ a → a < address + size → Clear policy terms a
  pub windowed : (a : ℕ) → address ≤ a → a < address + size → (window.first ≤ a / page_bytes) × (a / page_bytes ≤ window.last)

-- What an allowed call reads and covers, by what it touches and by the one-page guards as they are at the call.
abbrev pub Safe : Policy → Terms → (ℕ → Page) → Touch → Reply → Type 0
Safe policy terms ps untouched reply = Unit {0}
Safe policy terms ps (fetched page) reply = FetchSafe policy terms ps page reply
Safe policy terms ps (written address size) reply = WriteSafe policy terms ps address size reply
Safe policy terms ps (transferred window address size) reply = DeviceWriteSafe policy terms window address size

-- The guard and the one-page guards agree now; "the guard answers the same number, or none" as they settle, and says that the call is
-- allowed just where there is none; an allowed call is safe; and all of this again after the call, for the rest of the list.
abbrev pub Always : Policy → Terms → Guard → (ℕ → Page) → List Call → Type 0
Always policy terms g ps [] = Agree policy g ps
Always policy terms g ps (call ∷ calls) =
    let number : ℕ = settled policy ps (reached_in g) call in
    let outcome : Outcome = outcome_of g call in
    Agree policy g ps
    × (outcome.reply.number ≡ number)
    × (outcome.reply.allowed ≡ eqb number 0)
    × (number ≡ 0 → Safe policy terms ps (touch_of call) outcome.reply)
    × Always policy (terms_after number call terms) outcome.guard (pages_after policy number call ps) calls

-- For every policy record, what else the start is given, and lent tables, whose start is accepted, and every list of calls: no other premise.
abbrev pub Claim : Type 0
Claim =
    (given : Givens) (bytes : List ℕ) (t : Tables) (calls : List Call) →
    (start_of given bytes t).reply.number ≡ 0 →
    Always (policy_of bytes) first_terms (start_of given bytes t).guard (first_page (policy_of bytes)) calls
