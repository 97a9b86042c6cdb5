-- Document 02, K2, "Making the policy at the factory": the bytes of a policy's record, the call that writes them into a lent buffer, and what
-- ties it to the start.
use Rattle.std.specs.Prelude.{ℕ, ◌+◌, ◌*◌, ◌/◌, ◌%◌, ◌≤◌, ◌<◌, Bool, true, List, [], ◌∷◌, ◌++◌, ◌≡◌, length, get_or, take, drop, leb, eqb}
use Rattle.model.specs.Basics.{both}
use Rattle.model.specs.Guard.{Tables}
use Rattle.model.specs.Policy.{Givens, Policy, policy_of, start_guard}
use Rattle.model.specs.Questions.{Question, question, first_no, policy_questions, record_questions}
use Rattle.model.specs.Calls.{Reply, accepted, refused, settle, outcome, start_of}

-- "the sizes and the two arrays": V, F, n and e, the listed pages and the listed frames.
abbrev pub policy_by : ℕ → ℕ → ℕ → ℕ → List ℕ → List ℕ → Policy
policy_by pages frames count entry_count listed_pages listed_frames =
    record { pages = pages; frames = frames; count = count; entry_count = entry_count; listed_pages = listed_pages; listed_frames = listed_frames }

-- Document 01: "record and call fields little-endian". The two bytes of a 16-bit number, and those of numbers in a row.
unfoldable pub number_bytes : ℕ → List ℕ
number_bytes number = number % 256 ∷ number / 256 ∷ []

unfoldable pub numbers_bytes : List ℕ → List ℕ
numbers_bytes [] = []
numbers_bytes (number ∷ numbers) = number_bytes number ++ numbers_bytes numbers

-- Document 01: "Sizes first: V, F, n, e, 16 bits each. Then two parallel arrays of n 16-bit numbers: virtual pages, [..] then frames"
unfoldable pub record_of : Policy → List ℕ
record_of policy =
    numbers_bytes (policy.pages ∷ policy.frames ∷ policy.count ∷ policy.entry_count ∷ (policy.listed_pages ++ policy.listed_frames))

-- "each array must also have exactly n numbers, else 4"
unfoldable pub arrays_exact : Policy → Bool
arrays_exact policy = both (eqb (length policy.listed_pages) policy.count) (eqb (length policy.listed_frames) policy.count)

-- "The input passes questions 2, 3, 5 and 6": the start's. Question 1 is about a record's bytes, and nothing else is given of which 3 asks, so that
-- both are answered yes. "It refuses with 16, as the last question, an output buffer shorter than the record." 7 stands before it: numbers_fit, whether
-- the run for the call's numbers has its length, and yes where it is lent none. room is the buffer's length.
unfoldable pub write_record_questions : Bool → Policy → ℕ → List Question
write_record_questions numbers_fit policy room =
    policy_questions true true (arrays_exact policy) policy ++ (question 7 numbers_fit ∷ question 16 (leb (8 + 4 * policy.count) room) ∷ [])

-- What the call gave: its reply, and the buffer after it.
pub record Written : Type 0 where
  pub reply : Reply
  pub buffer : List ℕ

abbrev pub written : Reply → List ℕ → Written
written reply buffer = record { reply = reply; buffer = buffer }

-- "write the record into a lent buffer and give its length": its length and 0. "Bytes past the record stay untouched." A refused call leaves the
-- buffer as it was.
unfoldable pub write_record_of : Bool → Policy → List ℕ → Written
write_record_of numbers_fit policy buffer =
    let bytes : List ℕ = record_of policy in
    settle (first_no (write_record_questions numbers_fit policy (length buffer)))
    (written (accepted (length bytes) 0) (bytes ++ drop (length bytes) buffer))
    (λ n. written (refused n) buffer)

-- "With tables and the start's other givens in order", in numbers: not by the start's own questions, which a guard that asks more would change.
pub record Ready (policy : Policy) (given : Givens) (t : Tables) : Type 0 where
  pub some_device : 1 ≤ given.devices
  pub not_more : given.devices ≤ 64
  pub shadow_length : length t.shadow ≡ policy.pages
  pub map_length : length t.map ≡ policy.pages
  pub exclusion_length : length t.exclusion ≡ (policy.frames + 7) / 8

-- "With tables and the start's other givens in order, a written record starts a guard with those pages and frames": an accepted call's record, cut
-- to its length, is bytes and reads back as the policy, and its start is accepted and leaves what the start defines for it.
unfoldable pub WrittenStarts : Type 0
WrittenStarts =
    (numbers_fit : Bool) (policy : Policy) (buffer : List ℕ) → (write_record_of numbers_fit policy buffer).reply.number ≡ 0
    → (bytes : List ℕ) → bytes ≡ take (write_record_of numbers_fit policy buffer).reply.first (write_record_of numbers_fit policy buffer).buffer
    → ((i : ℕ) → i < length bytes → get_or bytes i 0 < 256)
    × (policy_of bytes ≡ policy)
    × ((given : Givens) (t : Tables) → Ready policy given t
    → start_of given bytes t ≡ outcome (accepted policy.count policy.entry_count) (start_guard given policy))

-- "an accepted record read and written again is the same bytes": of any bytes that pass questions 1 to 6, into any buffer that is long enough.
unfoldable pub WrittenAgain : Type 0
WrittenAgain =
    (given : Givens) (bytes buffer : List ℕ) → ((i : ℕ) → i < length bytes → get_or bytes i 0 < 256)
    → first_no (record_questions given bytes (policy_of bytes)) ≡ 0 → length bytes ≤ length buffer
    → write_record_of true (policy_of bytes) buffer ≡ written (accepted (length bytes) 0) (bytes ++ drop (length bytes) buffer)
