-- Document 01, "Questions in order", and document 02: the number of each question that may refuse a call.
use Rattle.std.specs.Prelude.{ℕ, Result, Ok, Err}
use Rattle.model.specs.declared.Refusal.{Refusal}
use Rattle.model.specs.declared.Refusal.TheVariants.{RecordTooShort, SizeOutOfRange, CountOutOfRange, RecordLength, ListedPage, ListedFrame, StateOrTable, LengthOutOfRange, DoesNotExist, WrongMode, NotPresent, NotPermitted, Excluded, CallCutShort, UnknownKind, BufferTooShort, Tree, NoDevice, OutsideWindow, ApprovalConflict, MappedWritable, NothingPending}

abbrev pub number_of : Refusal → ℕ
number_of RecordTooShort = 1
number_of SizeOutOfRange = 2
number_of CountOutOfRange = 3
number_of RecordLength = 4
number_of ListedPage = 5
number_of ListedFrame = 6
number_of StateOrTable = 7
number_of LengthOutOfRange = 8
number_of DoesNotExist = 9
number_of WrongMode = 10
number_of NotPresent = 11
number_of NotPermitted = 12
number_of Excluded = 13
number_of CallCutShort = 14
number_of UnknownKind = 15
number_of BufferTooShort = 16
number_of Tree = 17
number_of NoDevice = 18
number_of OutsideWindow = 19
number_of ApprovalConflict = 20
number_of MappedWritable = 21
number_of NothingPending = 22

-- The number of the question that refused, or 0 where none did.
abbrev pub refused_by : {A : Type 0} → Result A Refusal → ℕ
refused_by (Ok x) = 0
refused_by (Err refusal) = number_of refusal
