-- The bytes of the drill's lines: those of a line that is being made, the one that a line begins with, and those of a line's value.
use Rattle.std.specs.Prelude.{ℕ, ◌+◌, List, [], ◌∷◌, ◌++◌, take}
use Rattle.model.specs.Calls.{reply_of}
use Rattle.drill_model.specs.Drill.{decimal, line, hex_digits}
use Rattle.lines.specs.declared.Kind.{Kind}
use Rattle.lines.specs.declared.Kind.TheVariants.{Edit, SyncPage, SyncAll, Fetch, Write, Enter, Leave, DeviceWrite}
use Rattle.lines.specs.declared.Label.{Label}
use Rattle.lines.specs.declared.Label.TheVariants.{Start, Call, End}
use Rattle.lines.specs.declared.Line.{Line}
use Rattle.lines.specs.declared.CallLine.{CallLine}
use Rattle.lines.specs.declared.EntryLine.{EntryLine}
use Rattle.lines.specs.declared.ShareLine.{ShareLine}

-- The text of a line: the first bytes of its room.
unfoldable pub text : Line → List ℕ
text l = take l.len l.bytes

abbrev pub kind_number : Kind → ℕ
kind_number Edit = 0
kind_number SyncPage = 1
kind_number SyncAll = 2
kind_number Fetch = 3
kind_number Write = 4
kind_number Enter = 5
kind_number Leave = 6
kind_number DeviceWrite = 7

-- "S for the start, X for 14 or 15, which end the calls": 83 and 88. A kind's own digit is 48 more than it.
abbrev pub label_byte : Label → ℕ
label_byte Start = 83
label_byte (Call kind) = 48 + kind_number kind
label_byte End = 88

abbrev pub call_text : CallLine → List ℕ
call_text l = line (label_byte l.label) (reply_of l.answer) l.mode

abbrev pub entry_text : EntryLine → List ℕ
entry_text l = hex_digits 16 l.0 ++ (10 ∷ [])

abbrev pub share_text : ShareLine → List ℕ
share_text l = (115 ∷ 104 ∷ 97 ∷ 114 ∷ 101 ∷ 32 ∷ decimal l.percent) ++ (10 ∷ [])
