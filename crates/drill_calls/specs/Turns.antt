-- The drill as its machine has it, and what the functions of the drill leave, as records of the definitions.
use Rattle.std.specs.Prelude.{ℕ, Bool, true, false, cond, List, [], Option, None, Some, ◌≡◌, eqb, replicate}
use Rattle.std.specs.declared.ops.ControlFlow.{ControlFlow}
use Rattle.std.specs.declared.ops.ControlFlow.TheVariants.{Continue, Break}
use Rattle.model.specs.declared.State.{State}
use Rattle.model.specs.declared.Device.{Device}
use Rattle.model.specs.Sizes.{pages_in_range, frames_in_range}
use Rattle.model.specs.Guard.{Tables, tables, Guard, guard_of, vector_bytes}
use Rattle.model.specs.Policy.{policy_of}
use Rattle.model.specs.Calls.{Answer, Outcome, reply_of, start_of}
use Rattle.drill_model.specs.Drill.{drill_given, Drill, Drilled, Turn, drill_start, start_line}
use Rattle.lines.specs.declared.Line.{Line}
use Rattle.lines.specs.declared.CallLine.{CallLine}
use Rattle.lines.specs.Text.{text, call_text}
use Rattle.drill_calls.specs.declared.Machine.{Machine}

abbrev pub drill_of : Guard → List ℕ → List Device → Drill
drill_of g kernel devices = record { guard = g; kernel = kernel; devices = devices }

-- The drill of a machine.
abbrev pub drill_by : Machine → Drill
drill_by m = drill_of (guard_of m.state (tables m.shadow.now m.map.now m.exclusion.now)) m.kernel.now m.devices

-- What an edit or a guard call leaves of the drill.
unfoldable pub performed_by : Answer → Drill → Drilled
performed_by r d = record { reply = reply_of r; drill = d }

-- The machine holds the same tables: what is written through it is written to those that were lent.
abbrev pub SameTables : Machine → Machine → Type 0
SameTables m m' =
    (m'.kernel.ghost_name ≡ m.kernel.ghost_name) × (m'.shadow.ghost_name ≡ m.shadow.ghost_name) × (m'.map.ghost_name ≡ m.map.ghost_name)

-- What a turn leaves. The calls end with a line X, or with no line where no bytes remain.
abbrev pub last_line : Option Line → List ℕ
last_line None = []
last_line (Some l) = text l

unfoldable pub turn_line_by : ControlFlow (Option Line) Line → Drill → Turn
turn_line_by (Continue l) d = record { drill = d; line = text l; goes = true }
turn_line_by (Break l) d = record { drill = d; line = last_line l; goes = false }

-- The same of a turn whose line is a value.
abbrev pub last_text : Option CallLine → List ℕ
last_text None = []
last_text (Some l) = call_text l

unfoldable pub turn_by : ControlFlow (Option CallLine) CallLine → Drill → Turn
turn_by (Continue l) d = record { drill = d; line = call_text l; goes = true }
turn_by (Break l) d = record { drill = d; line = last_text l; goes = false }

-- The start's guard, its line, and whether calls follow it: "A refused start prints its line alone."
pub record Opening : Type 0 where
  pub guard : Guard
  pub line : List ℕ
  pub goes : Bool

unfoldable pub opening_of : Outcome → Opening
opening_of start = record { guard = start.guard; line = start_line start; goes = eqb start.reply.number 0 }

unfoldable pub opened_by : ControlFlow Line Line → State → Tables → Opening
opened_by (Continue l) s t = record { guard = guard_of s t; line = text l; goes = true }
opened_by (Break l) s t = record { guard = guard_of s t; line = text l; goes = false }

-- How many pages, and how many bytes of the exclusion vector, the start of a record is lent. A V or an F out of range lends nothing: question 2
-- refuses it before any table is looked at.
unfoldable pub pages_lent : List ℕ → ℕ
pages_lent record' = cond (pages_in_range (policy_of record').pages) (policy_of record').pages 0

unfoldable pub bytes_lent : List ℕ → ℕ
bytes_lent record' = cond (frames_in_range (policy_of record').frames) (vector_bytes (policy_of record').frames) 0

-- The start as the drill makes it: on tables of those lengths, all zeros.
unfoldable pub lent_start : List ℕ → Outcome
lent_start record' =
    start_of drill_given record'
    (tables (replicate (pages_lent record') 0) (replicate (pages_lent record') 0) (replicate (bytes_lent record') 0))

-- On every record it opens the drill as the model's start does: the same line, calls in the same cases, and where they follow the same guard.
unfoldable pub OpensAsDefined : Type 0
OpensAsDefined =
    (record' : List ℕ) →
    ((opening_of (lent_start record')).line ≡ (opening_of (drill_start record')).line)
    × ((opening_of (lent_start record')).goes ≡ (opening_of (drill_start record')).goes)
    × ((opening_of (lent_start record')).goes ≡ true → (opening_of (lent_start record')).guard ≡ (opening_of (drill_start record')).guard)
