-- Document 01, "What the guard keeps": the tables as lists of numbers, and the mode.
use Rattle.std.specs.Prelude.{ℕ, ◌+◌, ◌*◌, ◌/◌, ◌%◌, Bool, true, false, cond, List, get_or, set, eqb, None, Some, Option}
use Rattle.model.specs.declared.Mode.{Mode}
use Rattle.model.specs.declared.Mode.TheVariants.{Kernel, User}
use Rattle.model.specs.declared.Pending.{Pending}
use Rattle.model.specs.declared.State.{State}
use Rattle.model.specs.Basics.{bit, flag, table}

-- "the frame approved for that page, or 65535 for none"
abbrev pub none : ℕ
none = 65535

-- The guard's tables, beside the kernel table, which is not its own.
pub record Tables : Type 0 where
  pub shadow : List ℕ
  pub map : List ℕ
  pub exclusion : List ℕ

abbrev pub tables : List ℕ → List ℕ → List ℕ → Tables
tables shadow map exclusion = record { shadow = shadow; map = map; exclusion = exclusion }

-- The tables with another one in its place.
abbrev pub with_shadow : List ℕ → Tables → Tables
with_shadow shadow t = record { shadow = shadow; map = t.map; exclusion = t.exclusion }

abbrev pub with_map : List ℕ → Tables → Tables
with_map map t = record { shadow = t.shadow; map = map; exclusion = t.exclusion }

abbrev pub with_exclusion : List ℕ → Tables → Tables
with_exclusion exclusion t = record { shadow = t.shadow; map = t.map; exclusion = exclusion }

-- The tables with all three in their places, as a synchronisation is lent them.
abbrev pub with_three : List ℕ → List ℕ → List ℕ → Tables → Tables
with_three shadow map exclusion t = with_shadow shadow (with_map map (with_exclusion exclusion t))

-- What the guard keeps: the state, and its tables.
pub record Guard : Type 0 where
  pub state : State
  pub tables : Tables

abbrev pub guard_of : State → Tables → Guard
guard_of s t = record { state = s; tables = t }

-- "The exclusion vector: F/8 bytes rounded up"
unfoldable pub vector_bytes : ℕ → ℕ
vector_bytes frames = (frames + 7) / 8

-- "bit f mod 8 (0 lowest) of byte f/8 belongs to frame f"
unfoldable pub has_bit : List ℕ → ℕ → Bool
has_bit exclusion f = bit (f % 8) (get_or exclusion (f / 8) 0)

-- The byte whose bit j is h j.
unfoldable pub byte_of : (ℕ → Bool) → ℕ
byte_of h = flag (h 0) 0 + flag (h 1) 1 + flag (h 2) 2 + flag (h 3) 3 + flag (h 4) 4 + flag (h 5) 5 + flag (h 6) 6 + flag (h 7) 7

-- The vector in which just the frames that h names are excluded. Where h names none at or above F, "spare bits zero".
unfoldable pub vector_of : ℕ → (ℕ → Bool) → List ℕ
vector_of frames h = table (vector_bytes frames) (λ i. byte_of (λ j. h (i * 8 + j)))

-- The vector with the bit of frame f set, or cleared: bit f mod 8 of its byte. A frame past the vector's end changes nothing.
unfoldable pub with_bit : Bool → List ℕ → ℕ → List ℕ
with_bit b vector f =
    set vector (f / 8) (byte_of (λ j. cond (eqb j (f % 8)) b (bit j (get_or vector (f / 8) 0))))

-- "the mode, which is kernel or user together with the page now running"
unfoldable pub in_user : Mode → Bool
in_user (Kernel page) = false
in_user (User page) = true

unfoldable pub running : Mode → ℕ
running (Kernel page) = page
running (User page) = page

-- Kernel or user, and the page that runs.
unfoldable pub mode_of : Bool → ℕ → Mode
mode_of false page = Kernel page
mode_of true page = User page

-- K6: the pending pair of a page and a frame.
abbrev pub pair : ℕ → ℕ → Option Pending
pair page frame = Some (record { page = page; frame = frame })

-- "the state holds at most one pending pair". Whether it holds one; the frame of it, "or 65535 for none", as in the map; and whether a page is the
-- one that was asked for.
unfoldable pub is_pending : Option Pending → Bool
is_pending None = false
is_pending (Some asked) = true

unfoldable pub pending_frame : Option Pending → ℕ
pending_frame None = none
pending_frame (Some asked) = asked.frame

unfoldable pub is_asked : Option Pending → ℕ → Bool
is_asked None p = false
is_asked (Some asked) p = eqb p asked.page

-- A state by V, F, e, its sixteen entry pages, its mode, its number of devices (K5) and what is pending (K6).
abbrev pub state_of : ℕ → ℕ → ℕ → List ℕ → Mode → ℕ → Option Pending → State
state_of pages frames entry_count entry_pages mode devices pending =
    record { pages = pages; frames = frames; entry_count = entry_count; entry_pages = entry_pages; mode = mode; devices = devices; pending = pending }

-- The state with another mode, and with another pair or none.
unfoldable pub in_mode : State → Mode → State
in_mode s m = state_of s.pages s.frames s.entry_count s.entry_pages m s.devices s.pending

unfoldable pub with_pending : State → Option Pending → State
with_pending s pending = state_of s.pages s.frames s.entry_count s.entry_pages s.mode s.devices pending
