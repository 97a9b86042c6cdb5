-- Document 01, "Calls and their two numbers": what each call answers and leaves, on every input, by the questions in order.
use Rattle.std.specs.Prelude.{ℕ, zero, suc, ◌/◌, Bool, true, false, List, length, get_or, set, None, Option, Result, Ok, Err}
use Rattle.model.specs.Guard.{pair}
use Rattle.model.specs.declared.Pending.{Pending}
use Rattle.model.specs.declared.State.{State}
use Rattle.model.specs.declared.Device.{Device}
use Rattle.model.specs.declared.Mode.{Mode}
use Rattle.model.specs.declared.Mode.TheVariants.{Kernel, User}
use Rattle.model.specs.declared.Refusal.{Refusal}
use Rattle.model.specs.Basics.{differs}
use Rattle.model.specs.Sizes.{page_bytes, last_page}
use Rattle.model.specs.Guard.{none, Tables, with_shadow, with_map, with_exclusion, Guard, guard_of, has_bit, with_bit, in_user, mode_of, pending_frame, is_asked}
use Rattle.model.specs.Guard.{in_mode, with_pending}
use Rattle.model.specs.Policy.{Givens, Policy, policy_of, start_guard, zero_state}
use Rattle.model.specs.Bits.{frame_of}
use Rattle.model.specs.Tree.{Tree, flat_at}
use Rattle.model.specs.Devices.{device_at}
use Rattle.model.specs.Approvals.{committed_slot}
use Rattle.model.specs.Sync.{Rules, rules, Slot, Sweep, sweep_from, entry_in, step_from}
use Rattle.model.specs.Switch.{switched_all, changes}
use Rattle.model.specs.Refusals.{number_of}
use Rattle.model.specs.Questions.{Question, first_no, View, seen, lengths_of, start_questions, sync_page_questions, sync_all_questions, sync_page_tree_questions}
use Rattle.model.specs.Questions.{sync_all_tree_questions, fetch_questions, write_questions, enter_questions, leave_questions, device_write_questions}
use Rattle.model.specs.Questions.{ask_questions, commit_questions, drop_questions}

-- Whether a call was accepted; the number of the question that refused it, or 0; and the call's two numbers.
pub record Reply : Type 0 where
  pub allowed : Bool
  pub number : ℕ
  pub first : ℕ
  pub second : ℕ

-- "The first no gives its number, with the call's other numbers 0."
abbrev pub refused : ℕ → Reply
refused number = record { allowed = false; number = number; first = 0; second = 0 }

abbrev pub accepted : ℕ → ℕ → Reply
accepted first second = record { allowed = true; number = 0; first = first; second = second }

-- What a call answers: its two numbers, or the question that refused it.
abbrev pub Answer : Type 0
Answer = Result (ℕ × ℕ) Refusal

-- The number and the two values of an answer.
unfoldable pub reply_of : Answer → Reply
reply_of (Ok (first, second)) = accepted first second
reply_of (Err refusal) = refused (number_of refusal)

-- By the first no of a call's questions: what an accepted call gives, or what one refused with this number does.
unfoldable pub settle : {A : Type 0} → ℕ → A → (ℕ → A) → A
settle zero done refusal = done
settle (suc n) done refusal = refusal (suc n)

-- What a call is brought beside the guard's tables and may change: nothing so far.
pub record Brought : Type 0 where

abbrev pub nothing_brought : Brought
nothing_brought = record {}

-- What a call gave: its reply, the guard after it, and what it left of what it was brought.
pub record Outcome : Type 0 where
  pub reply : Reply
  pub guard : Guard
  pub brought : Brought

abbrev pub outcome : Reply → Guard → Outcome
outcome reply g = record { reply = reply; guard = g; brought = nothing_brought }

-- What a call answered, with the state and the tables that it left, in that form.
unfoldable pub outcome_by : Answer → State → Tables → Outcome
outcome_by r s t = outcome (reply_of r) (guard_of s t)

-- The same of a start, which answers the first state beside its numbers. "A refused start, which has no state to keep, answers a state of zeros".
unfoldable pub started_by : Result (State × (ℕ × ℕ)) Refusal → Tables → Outcome
started_by (Ok (s, numbers)) t = outcome_by (Ok numbers) s t
started_by (Err refusal) t = outcome_by (Err refusal) zero_state t

-- A refused call: its number, and nothing changed.
abbrev pub refused_of : Guard → Brought → ℕ → Outcome
refused_of g brought n = record { reply = refused n; guard = g; brought = brought }

-- "Start: n and e." A refused start leaves every lent table as it was.
unfoldable pub start_of : Givens → List ℕ → Tables → Outcome
start_of given bytes t =
    let policy : Policy = policy_of bytes in
    settle (first_no (start_questions given bytes policy (lengths_of t)))
    (outcome (accepted policy.count policy.entry_count) (start_guard given policy))
    (refused_of (guard_of zero_state t) nothing_brought)

-- The other calls. "A list has synchronise one, synchronise all, fetch, write, enter, leave and device write calls [..] with any arguments".
-- "Each synchronising call brings a kernel table of any contents and length." K4 adds both synchronising calls from a tree, of any run, root and depth.
-- A device write brings a list of devices of any contents and length (K5). K6: "Ask names a page and a frame", "then commit or drop".
pub data Call : Type 0 where
  sync_page : (kernel : List ℕ) (page : ℕ) → Call
  sync_all : (kernel : List ℕ) → Call
  sync_page_tree : (tree : Tree) (page : ℕ) → Call
  sync_all_tree : (tree : Tree) → Call
  fetch : (page : ℕ) → Call
  write : (address length : ℕ) → Call
  enter : (index : ℕ) → Call
  leave : (page : ℕ) → Call
  device_write : (devices : List Device) (device address size : ℕ) → Call
  ask : (page frame : ℕ) → Call
  commit : Call
  drop : Call

-- What a call brings and may change.
unfoldable pub brought_by : Call → Brought
brought_by call = nothing_brought

-- The questions of each call, of what they look at.
unfoldable pub questions_of : View → Call → List Question
questions_of v (sync_page kernel page) = sync_page_questions v (length kernel) page
questions_of v (sync_all kernel) = sync_all_questions v (length kernel)
questions_of v (sync_page_tree tree page) = sync_page_tree_questions v tree page
questions_of v (sync_all_tree tree) = sync_all_tree_questions v tree
questions_of v (fetch page) = fetch_questions v page
questions_of v (write address length) = write_questions v address length
questions_of v (enter index) = enter_questions v index
questions_of v (leave page) = leave_questions v page
questions_of v (device_write devices device address size) = device_write_questions v (length devices) (device_at devices device) device address size
questions_of v (ask page frame) = ask_questions v page frame
questions_of v commit = commit_questions v
questions_of v drop = drop_questions v

-- What the step of a page reads of the state and of the exclusion vector.
abbrev pub rules_of : State → List ℕ → Rules
rules_of s exclusion = rules (in_user s.mode) s.frames (pending_frame s.pending) (has_bit exclusion)

-- "Synchronise: shadow entries whose value changed; pages that joined the map." One page:
unfoldable pub page_synced : Guard → ℕ → Slot → Outcome
page_synced g page p =
    let t : Tables = g.tables in
    outcome (accepted (differs (get_or t.shadow page 0) p.entry) (differs (get_or t.map page none) p.approval))
    (guard_of g.state (with_shadow (set t.shadow page p.entry) (with_map (set t.map page p.approval) t)))

-- All pages:
unfoldable pub all_synced : Guard → Sweep → Outcome
all_synced g r =
    outcome (accepted r.changed r.joined) (guard_of g.state (with_shadow r.shadow (with_map r.map g.tables)))

-- One page and all pages, of what gives each page its kernel entry.
unfoldable pub page_from : Guard → (ℕ → ℕ) → ℕ → Outcome
page_from g kernel page =
    page_synced g page
    (step_from (rules_of g.state g.tables.exclusion) kernel page (get_or g.tables.shadow page 0) (get_or g.tables.map page none))

unfoldable pub all_from : Guard → (ℕ → ℕ) → Outcome
all_from g kernel =
    all_synced g (sweep_from (step_from (rules_of g.state g.tables.exclusion) kernel) 0 g.tables.shadow g.tables.map)

-- "Both switch the mode, run that page, and give the count of changed shadow entries and 0."
unfoldable pub switch_to : Guard → Mode → Outcome
switch_to g mode =
    let after : List ℕ = switched_all (in_user mode) g.tables.shadow in
    outcome (accepted (changes g.tables.shadow after) 0) (guard_of (in_mode g.state mode) (with_shadow after g.tables))

-- K6: "Ask sets the frame's exclusion bit", "Drop clears the exclusion bit": the vector with this bit of a frame, and another pair or none. They give 0
-- and 0: no shadow entry changes, and no page joins.
unfoldable pub bit_put : Guard → Bool → ℕ → Option Pending → Outcome
bit_put g b frame pending =
    outcome (accepted 0 0) (guard_of (with_pending g.state pending) (with_exclusion (with_bit b g.tables.exclusion frame) g.tables))

-- "Commit approves the asked page with its frame, in map and shadow, and so every unapproved page whose present shadow entry has that frame"; "both clear
-- the pending pair". "Their numbers are the changed shadow entries and the joined pages, the asked one included."
unfoldable pub pair_committed : Guard → Outcome
pair_committed g =
    let s : State = g.state in
    let r : Sweep =
    sweep_from (λ p entry approval. committed_slot (in_user s.mode) (pending_frame s.pending) (is_asked s.pending p) entry approval) 0
    g.tables.shadow g.tables.map in
    outcome (accepted r.changed r.joined) (guard_of (with_pending s None) (with_shadow r.shadow (with_map r.map g.tables)))

-- What each call gives where no question refuses it. A tree gives each page the flat entry of its walk.
-- "Fetch a page: its frame, twice; that page is now running." The mode stays.
-- "Write at an address, 1 to 16 bytes: first and last frame." "Device write at an address, 1 to 1,048,576 bytes: first and last frame."
unfoldable pub effect_of : Guard → Call → Outcome
effect_of g (sync_page kernel page) = page_from g (entry_in kernel) page
effect_of g (sync_all kernel) = all_from g (entry_in kernel)
effect_of g (sync_page_tree tree page) = page_from g (flat_at tree) page
effect_of g (sync_all_tree tree) = all_from g (flat_at tree)
effect_of g (fetch page) =
    let frame : ℕ = frame_of (get_or g.tables.shadow page 0) in
    outcome (accepted frame frame) (guard_of (in_mode g.state (mode_of (in_user g.state.mode) page)) g.tables)
effect_of g (write address length) =
    outcome (accepted (frame_of (get_or g.tables.shadow (address / page_bytes) 0)) (frame_of (get_or g.tables.shadow (last_page address length) 0))) g
effect_of g (enter index) = switch_to g (Kernel (get_or g.state.entry_pages index 0))
effect_of g (leave page) = switch_to g (User page)
effect_of g (device_write devices device address size) = outcome (accepted (address / page_bytes) (last_page address size)) g
effect_of g (ask page frame) = bit_put g true frame (pair page frame)
effect_of g commit = pair_committed g
effect_of g drop = bit_put g false (pending_frame g.state.pending) None

-- What the guard answers to a call, and leaves. "Each call gets these as the last one returned or left them": what a call does not change
-- stays as it is, and a refused call changes nothing.
unfoldable pub answer : Guard → Call → Outcome
answer g call = settle (first_no (questions_of (seen g) call)) (effect_of g call) (refused_of g (brought_by call))
