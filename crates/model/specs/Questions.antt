-- Document 01, "Questions in order": each question, and the list of them that each call goes down.
use Rattle.std.specs.Prelude.{ℕ, suc, ◌+◌, ◌*◌, ◌/◌, min, Bool, true, not, cond, List, [], ◌∷◌, ◌++◌, length, get_or, leb, ltb, eqb, None, Some, Option}
use Rattle.model.specs.declared.Pending.{Pending}
use Rattle.model.specs.declared.State.{State}
use Rattle.model.specs.declared.Device.{Device}
use Rattle.model.specs.Basics.{both, either, within, every_from}
use Rattle.model.specs.Sizes.{page_bytes, pages_in_range, frames_in_range, devices_in_range, last_byte, last_page, touched}
use Rattle.model.specs.Guard.{none, Tables, Guard, vector_bytes, has_bit, in_user, running, is_pending}
use Rattle.model.specs.Policy.{Policy, Givens}
use Rattle.model.specs.Tree.{Tree, tree_in_order}
use Rattle.model.specs.Devices.{in_window}
use Rattle.model.specs.Approvals.{maps_writable}
use Rattle.model.specs.Bits.{present, writable, user_bit, no_execute, kernel_no_execute, approved_mark, frame_of}

-- A question with its number, and whether its answer is yes.
pub record Question : Type 0 where
  pub number : ℕ
  pub holds : Bool

abbrev pub question : ℕ → Bool → Question
question number holds = record { number = number; holds = holds }

-- "Each call goes down the list [..]. The first no gives its number": 0 where every answer is yes.
unfoldable pub first_no : List Question → ℕ
first_no [] = 0
first_no (q ∷ qs) = cond q.holds (first_no qs) q.number

-- What the questions look at. The guard's is made of its state and tables, and that of demand 3 of the one-page guards.
pub record View : Type 0 where
  -- V, F, e and the page of each entry index
  pub pages : ℕ
  pub frames : ℕ
  pub entry_count : ℕ
  pub entry_page : ℕ → ℕ
  -- how many devices there are (K5)
  pub devices : ℕ
  -- what is pending (K6)
  pub pending : Option Pending
  -- user mode
  pub user : Bool
  -- the shadow entry and the approval of a page, and whether a frame is excluded
  pub shadow : ℕ → ℕ
  pub approval : ℕ → ℕ
  pub excluded : ℕ → Bool
  -- the parts of question 7: the state, and the length of each of the guard's tables
  pub state_fits : Bool
  pub shadow_fits : Bool
  pub map_fits : Bool
  pub exclusion_fits : Bool

-- K6: "Question 7 wants a pending pair below V and F".
unfoldable pub pending_in_range : ℕ → ℕ → Option Pending → Bool
pending_in_range pages frames None = true
pending_in_range pages frames (Some asked) = both (ltb asked.page pages) (ltb asked.frame frames)

-- "7. Are the state's V, F within range, e from 1 to 16, the running page below V"; K5: a number of devices outside its range gives "7 later"; K6: the
-- pending pair.
unfoldable pub state_in_order : State → Bool
state_in_order s =
    both (pages_in_range s.pages) (both (frames_in_range s.frames)
    (both (within 1 16 s.entry_count) (both (ltb (running s.mode) s.pages)
    (both (devices_in_range s.devices) (pending_in_range s.pages s.frames s.pending)))))

-- The guard's view. The questions of a call look only at the tables that it is lent.
abbrev pub seen : Guard → View
seen g =
    record {
      pages = g.state.pages;
      frames = g.state.frames;
      entry_count = g.state.entry_count;
      entry_page = λ i. get_or g.state.entry_pages i 0;
      devices = g.state.devices;
      pending = g.state.pending;
      user = in_user g.state.mode;
      shadow = λ p. get_or g.tables.shadow p 0;
      approval = λ p. get_or g.tables.map p none;
      excluded = has_bit g.tables.exclusion;
      state_fits = state_in_order g.state;
      shadow_fits = eqb (length g.tables.shadow) g.state.pages;
      map_fits = eqb (length g.tables.map) g.state.pages;
      exclusion_fits = eqb (length g.tables.exclusion) (vector_bytes g.state.frames);
    }

-- Questions 2 to 6, of sizes and lists wherever they come from.

-- "2. Are V and F within their ranges?"
unfoldable pub sizes_in_range : Policy → Bool
sizes_in_range policy = both (pages_in_range policy.pages) (frames_in_range policy.frames)

-- "3. Is n from 1 to V, and e from 1 to the smaller of n and 16?"
unfoldable pub counts_in_range : Policy → Bool
counts_in_range policy = both (within 1 policy.pages policy.count) (within 1 (min policy.count 16) policy.entry_count)

-- "5. Is every listed page below V and above the one before?": each is at least `least`, one more than the one before, and 0 at first.
unfoldable pub rising : ℕ → ℕ → List ℕ → Bool
rising pages least [] = true
rising pages least (p ∷ ps) = both (both (leb least p) (ltb p pages)) (rising pages (suc p) ps)

-- "6. Is every listed frame below F?"
unfoldable pub all_below : ℕ → List ℕ → Bool
all_below frames [] = true
all_below frames (f ∷ fs) = both (ltb f frames) (all_below frames fs)

-- "7. [..] does every lent table have its exact length": the state, and the tables that a call is lent. Every call that is lent
-- one of them asks it so.
unfoldable pub in_order : Bool → List Bool → Bool
in_order state_fits [] = state_fits
in_order state_fits (fits ∷ others) = both fits (in_order state_fits others)

-- Questions 1 to 6, of sizes and lists wherever they come from. Arguments: the answer to 1, what else 3 asks, and the answer to 4.
unfoldable pub policy_questions : Bool → Bool → Bool → Policy → List Question
policy_questions long more exact policy =
    question 1 long
    ∷ question 2 (sizes_in_range policy)
    ∷ question 3 (both (counts_in_range policy) more)
    ∷ question 4 exact
    ∷ question 5 (rising policy.pages 0 policy.listed_pages)
    ∷ question 6 (all_below policy.frames policy.listed_frames)
    ∷ []

-- What else question 3 asks, of what the start is given: "a number outside that gives 3 at the start" (K5).
unfoldable pub givens_in_range : Givens → Bool
givens_in_range given = devices_in_range given.devices

-- They are asked of a record's bytes, with its policy and what the start is given.
unfoldable pub record_questions : Givens → List ℕ → Policy → List Question
record_questions given bytes policy =
    policy_questions (leb 8 (length bytes)) (givens_in_range given) (eqb (length bytes) (8 + 4 * policy.count)) policy

-- How long each of the guard's tables is.
pub record Lengths : Type 0 where
  pub shadow : ℕ
  pub map : ℕ
  pub exclusion : ℕ

abbrev pub lengths : ℕ → ℕ → ℕ → Lengths
lengths shadow map exclusion = record { shadow = shadow; map = map; exclusion = exclusion }

abbrev pub lengths_of : Tables → Lengths
lengths_of t = lengths (length t.shadow) (length t.map) (length t.exclusion)

-- Question 7 of the start goes "by the record's V and F", and there is no state yet.
unfoldable pub lengths_fit : Policy → Lengths → Bool
lengths_fit policy l =
    in_order true (eqb l.shadow policy.pages ∷ eqb l.map policy.pages ∷ eqb l.exclusion (vector_bytes policy.frames) ∷ [])

unfoldable pub start_questions : Givens → List ℕ → Policy → Lengths → List Question
start_questions given bytes policy l = record_questions given bytes policy ++ (question 7 (lengths_fit policy l) ∷ [])

-- Synchronise all: the kernel table is lent too, and has a length of its own.
unfoldable pub sync_all_questions : View → ℕ → List Question
sync_all_questions v kernel_length =
    question 7 (in_order v.state_fits (eqb kernel_length v.pages ∷ v.shadow_fits ∷ v.map_fits ∷ v.exclusion_fits ∷ [])) ∷ []

-- Synchronise one: "page below V" besides.
unfoldable pub sync_page_questions : View → ℕ → ℕ → List Question
sync_page_questions v kernel_length page =
    question 7 (in_order v.state_fits (eqb kernel_length v.pages ∷ v.shadow_fits ∷ v.map_fits ∷ v.exclusion_fits ∷ []))
    ∷ question 9 (ltb page v.pages)
    ∷ []

-- The same from a tree (K4). No kernel table is lent; "17, after question 7".
unfoldable pub sync_all_tree_questions : View → Tree → List Question
sync_all_tree_questions v tree =
    question 7 (in_order v.state_fits (v.shadow_fits ∷ v.map_fits ∷ v.exclusion_fits ∷ []))
    ∷ question 17 (tree_in_order tree)
    ∷ []

unfoldable pub sync_page_tree_questions : View → Tree → ℕ → List Question
sync_page_tree_questions v tree page =
    question 7 (in_order v.state_fits (v.shadow_fits ∷ v.map_fits ∷ v.exclusion_fits ∷ []))
    ∷ question 17 (tree_in_order tree)
    ∷ question 9 (ltb page v.pages)
    ∷ []

-- Fetch: "Needs bit 63 clear and, in user mode, bit 2."
unfoldable pub fetch_permitted : Bool → ℕ → Bool
fetch_permitted user entry = both (not (no_execute entry)) (either (not user) (user_bit entry))

unfoldable pub fetch_questions : View → ℕ → List Question
fetch_questions v page =
    question 7 (in_order v.state_fits (v.shadow_fits ∷ []))
    ∷ question 9 (ltb page v.pages)
    ∷ question 11 (present (v.shadow page))
    ∷ question 12 (fetch_permitted v.user (v.shadow page))
    ∷ []

-- Write: "Every touched page needs bit 1 and, in user mode, bit 2."
unfoldable pub write_permitted : Bool → ℕ → Bool
write_permitted user entry = both (writable entry) (either (not user) (user_bit entry))

-- "13. [..] are all touched frames free of exclusion, one at or above F counting as excluded?"
unfoldable pub free : View → ℕ → Bool
free v f = both (ltb f v.frames) (not (v.excluded f))

-- A test of every page that a write touches, from its first on.
unfoldable pub every_touched : (ℕ → Bool) → ℕ → ℕ → Bool
every_touched test address length = every_from test (address / page_bytes) (touched address length)

unfoldable pub write_questions : View → ℕ → ℕ → List Question
write_questions v address length =
    question 7 (in_order v.state_fits (v.shadow_fits ∷ v.exclusion_fits ∷ []))
    ∷ question 8 (within 1 16 length)
    ∷ question 9 (ltb (last_page address length) v.pages)
    ∷ question 11 (every_touched (λ p. present (v.shadow p)) address length)
    ∷ question 12 (every_touched (λ p. write_permitted v.user (v.shadow p)) address length)
    ∷ question 13 (every_touched (λ p. free v (frame_of (v.shadow p))) address length)
    ∷ []

-- Enter by entry index: "entry index below e with its page below V"; "user to enter"; "the page needs bit 10".
-- Question 12 is source 001's slide "Checking Entry Pointers": the page of an entry must translate to approved code.
unfoldable pub enter_questions : View → ℕ → List Question
enter_questions v index =
    question 7 (in_order v.state_fits (v.shadow_fits ∷ []))
    ∷ question 9 (both (ltb index v.entry_count) (ltb (v.entry_page index) v.pages))
    ∷ question 10 v.user
    ∷ question 11 (present (v.shadow (v.entry_page index)))
    ∷ question 12 (approved_mark (v.shadow (v.entry_page index)))
    ∷ []

-- Leave to a page: "kernel to leave"; "it needs bit 2 set and bit 9 clear".
unfoldable pub leave_permitted : ℕ → Bool
leave_permitted entry = both (user_bit entry) (not (kernel_no_execute entry))

unfoldable pub leave_questions : View → ℕ → List Question
leave_questions v page =
    question 7 (in_order v.state_fits (v.shadow_fits ∷ []))
    ∷ question 9 (ltb page v.pages)
    ∷ question 10 (not v.user)
    ∷ question 11 (present (v.shadow page))
    ∷ question 12 (leave_permitted (v.shadow page))
    ∷ []

-- Device write: "last transfer byte below F × 4,096"; the frames that it touches are numbered by its addresses. K5: "a list of another length gives
-- 7", and it "refuses with 18, after 8, a device not in the list, and with 19, after 9, a transfer outside its window": of how long the list is, and
-- the device's record in it.
unfoldable pub device_write_questions : View → ℕ → Device → ℕ → ℕ → ℕ → List Question
device_write_questions v listed d device address size =
    question 7 (in_order v.state_fits (v.exclusion_fits ∷ eqb listed v.devices ∷ []))
    ∷ question 8 (within 1 1048576 size)
    ∷ question 18 (ltb device listed)
    ∷ question 9 (ltb (last_byte address size) (v.frames * page_bytes))
    ∷ question 19 (both (in_window d (address / page_bytes)) (in_window d (last_page address size)))
    ∷ question 13 (every_touched (free v) address size)
    ∷ []

-- K6, ask: "question 9 the named frame below F", and its page below V. "It refuses, after 9, with 20 an ask while one is pending, an ask [..] whose page has
-- an approval, or an ask for an excluded frame, with 21 an ask for a frame that a present shadow entry maps writable".
unfoldable pub ask_questions : View → ℕ → ℕ → List Question
ask_questions v page frame =
    question 7 (in_order v.state_fits (v.shadow_fits ∷ v.map_fits ∷ v.exclusion_fits ∷ []))
    ∷ question 9 (both (ltb page v.pages) (ltb frame v.frames))
    ∷ question 20 (both (not (is_pending v.pending)) (both (eqb (v.approval page) none) (not (v.excluded frame))))
    ∷ question 21 (every_from (λ p. not (maps_writable frame (v.shadow p))) 0 v.pages)
    ∷ []

-- Commit: "with 20 [..] [a] commit whose page has an approval", the pending one; "and with 22 a commit or drop with nothing pending".
unfoldable pub page_unapproved : View → Option Pending → Bool
page_unapproved v None = true
page_unapproved v (Some asked) = eqb (v.approval asked.page) none

unfoldable pub commit_questions : View → List Question
commit_questions v =
    question 7 (in_order v.state_fits (v.shadow_fits ∷ v.map_fits ∷ []))
    ∷ question 20 (page_unapproved v v.pending)
    ∷ question 22 (is_pending v.pending)
    ∷ []

unfoldable pub drop_questions : View → List Question
drop_questions v =
    question 7 (in_order v.state_fits (v.exclusion_fits ∷ []))
    ∷ question 22 (is_pending v.pending)
    ∷ []
