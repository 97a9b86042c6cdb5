-- `lines::number_of` meets its contract: a kind's place in the enum is its number.
use denote.Enum.Declared.{tag_of}
use mathlib.Core.Path.{◌≡◌, refl}
use Rattle.lines.specs.declared.Kind.{Kind}
use Rattle.lines.specs.declared.Kind.TheVariants.{Edit, SyncPage, SyncAll, Fetch, Write, Enter, Leave, DeviceWrite}
use Rattle.lines.specs.contracts.Kind.{the_type}
use Rattle.lines.specs.Text.{kind_number}
use Rattle.lines.proofs.number_of.Goals as goal

by_kind : (kind : Kind) → tag_of the_type kind ≡ kind_number kind
by_kind Edit = refl
by_kind SyncPage = refl
by_kind SyncAll = refl
by_kind Fetch = refl
by_kind Write = refl
by_kind Enter = refl
by_kind Leave = refl
by_kind DeviceWrite = refl

pub returns : goal.returns
returns c = by_kind c.args.kind
