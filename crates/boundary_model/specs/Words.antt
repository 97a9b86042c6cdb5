-- The runs of words that cross the boundary: the state in a lent run, and the numbers of a reply in another.
-- Documented for C in include/guard.h.
use Rattle.std.specs.Prelude.{ℕ, ◌+◌, Bool, cond, List, [], ◌∷◌, ◌++◌, length, get_or, set, take, leb, eqb, None, Some, Option}
use Rattle.model.specs.Guard.{pair}
use Rattle.model.specs.declared.State.{State}
use Rattle.model.specs.declared.Mode.{Mode}
use Rattle.model.specs.declared.Pending.{Pending}
use Rattle.model.specs.Basics.{both, table}
use Rattle.model.specs.Guard.{in_user, running, mode_of, state_of}
use Rattle.model.specs.Calls.{Reply, settle, Call, sync_page, sync_all, sync_page_tree, sync_all_tree, fetch, write, enter, leave, device_write, ask, commit, drop}

-- The layout of a state run: V, F and e, the sixteen entry pages, kernel or user, the page now running, the number of devices (K5), whether a pair is pending
-- and its page and frame (K6).
-- The proofs speak of a place by its name.
abbrev pub state_words : ℕ
state_words = 25

abbrev pub pages_at : ℕ
pages_at = 0

abbrev pub frames_at : ℕ
frames_at = 1

abbrev pub entry_count_at : ℕ
entry_count_at = 2

abbrev pub entry_pages_at : ℕ
entry_pages_at = 3

abbrev pub entry_words : ℕ
entry_words = 16

abbrev pub mode_at : ℕ
mode_at = 19

abbrev pub running_at : ℕ
running_at = 20

abbrev pub devices_at : ℕ
devices_at = 21

abbrev pub pending_at : ℕ
pending_at = 22

abbrev pub pending_page_at : ℕ
pending_page_at = 23

abbrev pub pending_frame_at : ℕ
pending_frame_at = 24

-- The layout of a numbers run: the numbers of a reply in their order.
abbrev pub first_at : ℕ
first_at = 0

abbrev pub second_at : ℕ
second_at = 1

-- An answer has two numbers.
abbrev pub answer_numbers : ℕ
answer_numbers = 2

-- How many numbers a call gives, which is the length of its numbers run. The start gives those of an answer.
abbrev pub numbers_by : Call → ℕ
numbers_by call = answer_numbers

-- The mode word: 0 for kernel mode, 1 for user mode.
unfoldable pub mode_word : Mode → ℕ
mode_word mode = cond (in_user mode) 1 0

unfoldable pub entry_pages_in : List ℕ → List ℕ
entry_pages_in run = table entry_words (λ i. get_or run (entry_pages_at + i) 0)

-- What is pending: "1 while a pair is pending, else 0", and the pair, whose words "are not read" where none is.
unfoldable pub pending_in : List ℕ → Option Pending
pending_in run = cond (eqb (get_or run pending_at 0) 1) (pair (get_or run pending_page_at 0) (get_or run pending_frame_at 0)) None

unfoldable pub pending_words : Option Pending → List ℕ
pending_words None = 0 ∷ 0 ∷ 0 ∷ []
pending_words (Some asked) = 1 ∷ asked.page ∷ asked.frame ∷ []

-- The state that a run holds, each number as it comes: question 7 refuses a wide one, and question 9 a wide entry page where it is entered.
unfoldable pub state_in : List ℕ → State
state_in run =
    state_of (get_or run pages_at 0) (get_or run frames_at 0) (get_or run entry_count_at 0) (entry_pages_in run) (mode_of (eqb (get_or run mode_at 0) 1) (get_or run running_at 0))
    (get_or run devices_at 0) (pending_in run)

-- The words that hold a state, in their order; the last of them stand behind the entry pages.
abbrev pub last_words : State → List ℕ
last_words s = mode_word s.mode ∷ running s.mode ∷ s.devices ∷ pending_words s.pending

unfoldable pub words_of : State → List ℕ
words_of s = s.pages ∷ s.frames ∷ s.entry_count ∷ (s.entry_pages ++ last_words s)

-- A run with the words of a state at some places, and its own at all others.
unfoldable pub with_words : List ℕ → State → List ℕ → List ℕ
with_words run s [] = run
with_words run s (at ∷ places) = with_words (set run at (get_or (words_of s) at 0)) s places

-- The places of a state run that a call can change: the page now running, or the mode with it, or what is pending (K6). A call that keeps the state
-- writes nothing there.
abbrev pub page_places : List ℕ
page_places = running_at ∷ []

abbrev pub mode_places : List ℕ
mode_places = mode_at ∷ running_at ∷ []

abbrev pub pending_places : List ℕ
pending_places = pending_at ∷ pending_page_at ∷ pending_frame_at ∷ []

abbrev pub changed_by : Call → List ℕ
changed_by (sync_page kernel page) = []
changed_by (sync_all kernel) = []
changed_by (sync_page_tree tree page) = []
changed_by (sync_all_tree tree) = []
changed_by (fetch page) = page_places
changed_by (write address length) = []
changed_by (enter index) = mode_places
changed_by (leave page) = mode_places
changed_by (device_write devices device address size) = []
changed_by (ask page frame) = pending_places
changed_by commit = pending_places
changed_by drop = pending_places

-- Values in a run that has a word for each. A run of another length is not written.
unfoldable pub overwritten : List ℕ → List ℕ → List ℕ
overwritten run values = cond (eqb (length run) (length values)) values run

-- The numbers run of a call that gives count numbers: those of its reply.
unfoldable pub with_numbers : ℕ → List ℕ → Reply → List ℕ
with_numbers count numbers reply = overwritten numbers (take count (reply.first ∷ reply.second ∷ []))

-- The boundary's part of question 7. The start asks for the lengths of both runs; every call on a state also for a mode word and a pending word of 0 or 1.
unfoldable pub runs_fit : ℕ → List ℕ → List ℕ → Bool
runs_fit count run numbers = both (eqb (length run) state_words) (eqb (length numbers) count)

unfoldable pub lendable : ℕ → List ℕ → List ℕ → Bool
lendable count run numbers = both (runs_fit count run numbers) (both (leb (get_or run mode_at 0) 1) (leb (get_or run pending_at 0) 1))

-- An accepted call puts the words that it can change into the state run, and no other. A refused one leaves the run as it was.
unfoldable pub run_after : List ℕ → List ℕ → Reply → State → List ℕ
run_after run places reply s = settle reply.number (with_words run s places) (λ _. run)

-- An accepted start writes every word of the state run. A refused one leaves the run as it was: the zero state of document 01 is not written.
unfoldable pub run_started : List ℕ → Reply → State → List ℕ
run_started run reply s = settle reply.number (words_of s) (λ _. run)
