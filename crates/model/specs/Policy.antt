-- Document 01, "The policy record": the record read into V, F, n, e and two lists, and what an accepted start sets.
use Rattle.std.specs.Prelude.{ℕ, zero, suc, ◌+◌, ◌*◌, Bool, false, cond, List, [], ◌∷◌, get_or, ltb, eqb, None}
use Rattle.model.specs.declared.Mode.TheVariants.{Kernel, User}
use Rattle.model.specs.declared.State.{State}
use Rattle.model.specs.Basics.{table, member}
use Rattle.model.specs.Guard.{none, Tables, Guard, guard_of, vector_of, state_of}
use Rattle.model.specs.Bits.{approved}

-- What the start is given beside the policy record: "the number of devices, 1 to 64, which the start is given" (K5).
pub record Givens : Type 0 where
  pub devices : ℕ

abbrev pub given_of : ℕ → Givens
given_of devices = record { devices = devices }

pub record Policy : Type 0 where
  -- V
  pub pages : ℕ
  -- F
  pub frames : ℕ
  -- n
  pub count : ℕ
  -- e
  pub entry_count : ℕ
  -- "two parallel arrays of n 16-bit numbers: virtual pages, strictly rising, then frames, which may repeat"
  pub listed_pages : List ℕ
  pub listed_frames : List ℕ

-- "record and call fields little-endian": the 16-bit number at a place of the bytes.
unfoldable pub number_at : List ℕ → ℕ → ℕ
number_at bytes at = get_or bytes at 0 + 256 * get_or bytes (at + 1) 0

-- The 16-bit numbers from a place on, count of them.
unfoldable pub numbers_at : List ℕ → ℕ → ℕ → List ℕ
numbers_at bytes at zero = []
numbers_at bytes at (suc count) = number_at bytes at ∷ numbers_at bytes (at + 2) count

-- "Sizes first: V, F, n, e, 16 bits each. Then two parallel arrays of n 16-bit numbers"
unfoldable pub policy_of : List ℕ → Policy
policy_of bytes =
    let count : ℕ = number_at bytes 4 in
    record {
      pages = number_at bytes 0;
      frames = number_at bytes 2;
      count = count;
      entry_count = number_at bytes 6;
      listed_pages = numbers_at bytes 8 count;
      listed_frames = numbers_at bytes (8 + 2 * count) count;
    }

-- The frame listed for a page, or other where the page is not listed.
unfoldable pub frame_for : List ℕ → List ℕ → ℕ → ℕ → ℕ
frame_for [] frames page other = other
frame_for (p ∷ pages) [] page other = other
frame_for (p ∷ pages) (f ∷ frames) page other = frame_for pages frames page (cond (eqb page p) f other)

-- "If p is listed, the approval is its listed frame [..] else 65535"
unfoldable pub approval_for : Policy → ℕ → ℕ
approval_for policy page = frame_for policy.listed_pages policy.listed_frames page none

-- "The frames named in the policy are those in the record's second array."
unfoldable pub named : Policy → ℕ → Bool
named policy f = member f policy.listed_frames

-- "makes the shadow entry of each listed page an approved one, zeroes the others": of an approval, in kernel mode.
unfoldable pub first_entry : ℕ → ℕ
first_entry approval = cond (eqb approval none) 0 (approved false approval)

-- "The first e pages are the entry pages"; "sixteen entry pages (unused ones 0)"
unfoldable pub entry_pages : Policy → List ℕ
entry_pages policy = table 16 (λ i. cond (ltb i policy.entry_count) (get_or policy.listed_pages i 0) 0)

-- "stands in kernel mode on the first entry page"; nothing is pending (K6).
unfoldable pub start_state : Givens → Policy → State
start_state given policy =
    state_of policy.pages policy.frames policy.entry_count (entry_pages policy) (Kernel (get_or policy.listed_pages 0 0)) given.devices
    None

-- "An accepted start sets the map and exclusion bits from the arrays, every other map place to 65535 and every other exclusion bit to 0,
-- makes the shadow entry of each listed page an approved one, zeroes the others, and stands in kernel mode on the first entry page."
unfoldable pub start_tables : Policy → Tables
start_tables policy =
    record {
      shadow = table policy.pages (λ p. first_entry (approval_for policy p));
      map = table policy.pages (approval_for policy);
      exclusion = vector_of policy.frames (named policy);
    }

unfoldable pub start_guard : Givens → Policy → Guard
start_guard given policy = guard_of (start_state given policy) (start_tables policy)

-- "A refused start, which has no state to keep, answers a state of zeros in user mode on page 0."
unfoldable pub zero_state : State
zero_state = state_of 0 0 0 (table 16 (λ i. 0)) (User 0) 0 None
