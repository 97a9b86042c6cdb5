-- By the refusal: each has the number of its variant.
use Rattle.std.proofs.Common.{◌+◌, ◌≡◌, refl}
use Rattle.model.specs.declared.Refusal.{Refusal}
use Rattle.model.specs.declared.Refusal.TheVariants.{RecordTooShort, SizeOutOfRange, CountOutOfRange, RecordLength, ListedPage, ListedFrame, StateOrTable, LengthOutOfRange, DoesNotExist, WrongMode, NotPresent, NotPermitted, Excluded, CallCutShort, UnknownKind, BufferTooShort, Tree, NoDevice, OutsideWindow, ApprovalConflict, MappedWritable, NothingPending}
use Rattle.model.specs.contracts.Refusal
use Rattle.model.specs.Refusals.{number_of}
use Rattle.model.proofs.U64FromRefusal.from.Goals as goal

numbered : (refusal : Refusal) → denote.Enum.Declared.tag_of Refusal.the_type refusal + 1 ≡ number_of refusal
numbered RecordTooShort = refl
numbered SizeOutOfRange = refl
numbered CountOutOfRange = refl
numbered RecordLength = refl
numbered ListedPage = refl
numbered ListedFrame = refl
numbered StateOrTable = refl
numbered LengthOutOfRange = refl
numbered DoesNotExist = refl
numbered WrongMode = refl
numbered NotPresent = refl
numbered NotPermitted = refl
numbered Excluded = refl
numbered CallCutShort = refl
numbered UnknownKind = refl
numbered BufferTooShort = refl
numbered Tree = refl
numbered NoDevice = refl
numbered OutsideWindow = refl
numbered ApprovalConflict = refl
numbered MappedWritable = refl
numbered NothingPending = refl

pub returns : goal.returns
returns c = numbered c.args.refusal
