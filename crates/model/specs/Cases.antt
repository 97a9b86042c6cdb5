-- Document 01, "Twelve cases on that policy, just started unless a mode is named": one table, a row or two for each case. Each row has
-- the outcome that the definitions give, and the whole outcome that the document fixes: number, both values, state and the three tables.
use Rattle.std.specs.Prelude.{ℕ, List, [], ◌∷◌, ◌≡◌, replicate, set, None}
use Rattle.model.specs.declared.State.{State}
use Rattle.model.specs.declared.Mode.{Mode}
use Rattle.model.specs.declared.Mode.TheVariants.{Kernel, User}
use Rattle.model.specs.declared.Device.{Device}
use Rattle.model.specs.Guard.{Guard, guard_of, in_mode, state_of}
use Rattle.model.specs.Policy.{given_of}
use Rattle.model.specs.Devices.{device_of}
use Rattle.model.specs.Calls.{Outcome, outcome, accepted, refused, start_of, sync_page, write, device_write, answer}

-- "Policy V 4, F 4, n 1, e 1, page 1, frame 2."
unfoldable pub policy_bytes : List ℕ
policy_bytes = 4 ∷ 0 ∷ 4 ∷ 0 ∷ 1 ∷ 0 ∷ 1 ∷ 0 ∷ 1 ∷ 0 ∷ 2 ∷ 0 ∷ []

-- K5: two devices, each with all frames as window.
unfoldable pub two_devices : List Device
two_devices = device_of 0 3 ∷ device_of 0 3 ∷ []

-- The start on that policy, whatever the lent tables held.
unfoldable pub the_start : Outcome
the_start = start_of (given_of 2) policy_bytes (record { shadow = 5 ∷ 6 ∷ 7 ∷ 8 ∷ []; map = 1 ∷ 2 ∷ 3 ∷ 4 ∷ []; exclusion = 255 ∷ [] })

-- The started guard, and for a case that names user mode the same guard with the mode replaced.
unfoldable pub started : Guard
started = the_start.guard

unfoldable pub started_user : Guard
started_user = guard_of (in_mode started.state (User 1)) started.tables

-- A kernel table with one entry, at a page.
unfoldable pub only : ℕ → ℕ → List ℕ
only page entry = set (replicate 4 0) page entry

-- C11 stands where nothing else refuses the write: page 0 synchronised from 0x3003, an ordinary writable page.
unfoldable pub started_writable : Guard
started_writable = (answer started (sync_page (only 0 0x3003) 0)).guard

-- The state after the start, with its mode.
unfoldable pub four_pages : Mode → State
four_pages mode = state_of 4 4 1 (1 ∷ replicate 15 0) mode 2 None

-- A guard of that policy with these contents. No call changes the exclusion vector, whose one byte is 0x04.
unfoldable pub holding : Mode → List ℕ → List ℕ → Guard
holding mode shadow map = guard_of (four_pages mode) (record { shadow = shadow; map = map; exclusion = 0x04 ∷ [] })

-- The tables as the start leaves them.
unfoldable pub shadow_started : List ℕ
shadow_started = 0 ∷ 0x2401 ∷ 0 ∷ 0 ∷ []

unfoldable pub map_started : List ℕ
map_started = 65535 ∷ 2 ∷ 65535 ∷ 65535 ∷ []

-- A row: what the definitions give, and what the document fixes.
pub record Row (A : Type 0) : Type 0 where
  pub given : A
  pub fixed : A

abbrev pub Case : Type 0
Case = Row Outcome

unfoldable pub row : {A : Type 0} → A → A → Row A
row given fixed = record { given = given; fixed = fixed }

unfoldable pub cases : List Case
cases =
    -- C1 start: shadow of page 1 is 0x2401, exclusion byte 0x04.
    row the_start (outcome (accepted 1 1) (holding (Kernel 1) shadow_started map_started))
    -- C2 page 0 from 0x2003: 0x2401, joined.
    ∷ row (answer started (sync_page (only 0 0x2003) 0))
    (outcome (accepted 1 1) (holding (Kernel 1) (0x2401 ∷ 0x2401 ∷ 0 ∷ 0 ∷ []) (2 ∷ 2 ∷ 65535 ∷ 65535 ∷ [])))
    -- C3 page 1 from 0x3003: 0x2401.
    ∷ row (answer started (sync_page (only 1 0x3003) 1))
    (outcome (accepted 0 0) (holding (Kernel 1) shadow_started map_started))
    -- C4 page 0 from 0x4003: 0.
    ∷ row (answer started (sync_page (only 0 0x4003) 0))
    (outcome (accepted 0 0) (holding (Kernel 1) shadow_started map_started))
    -- C5 page 0 from 0x3003: 0x8000000000003003.
    ∷ row (answer started (sync_page (only 0 0x3003) 0))
    (outcome (accepted 1 0) (holding (Kernel 1) (0x8000000000003003 ∷ 0x2401 ∷ 0 ∷ 0 ∷ []) map_started))
    -- C6 user mode, page 3 from 0x3007: 0x3007.
    ∷ row (answer started_user (sync_page (only 3 0x3007) 3))
    (outcome (accepted 1 0) (holding (User 1) (0 ∷ 0x2401 ∷ 0 ∷ 0x3007 ∷ []) map_started))
    -- C7 user mode, page 3 from 0x8000000000003007: 0x8000000000003207.
    ∷ row (answer started_user (sync_page (only 3 0x8000000000003007) 3))
    (outcome (accepted 1 0) (holding (User 1) (0 ∷ 0x2401 ∷ 0 ∷ 0x8000000000003207 ∷ []) map_started))
    -- C8 user mode, page 0 from 0x3003: 0x8000000000003003.
    ∷ row (answer started_user (sync_page (only 0 0x3003) 0))
    (outcome (accepted 1 0) (holding (User 1) (0x8000000000003003 ∷ 0x2401 ∷ 0 ∷ 0 ∷ []) map_started))
    -- C9 device write at 16383: 1 byte gives 3 and 3; 2 bytes give 9.
    ∷ row (answer started (device_write two_devices 1 16383 1))
    (outcome (accepted 3 3) (holding (Kernel 1) shadow_started map_started))
    ∷ row (answer started (device_write two_devices 1 16383 2))
    (outcome (refused 9) (holding (Kernel 1) shadow_started map_started))
    -- C10 device write at 4096: 4,096 bytes give 1 and 1; 4,097 give 13.
    ∷ row (answer started (device_write two_devices 0 4096 4096))
    (outcome (accepted 1 1) (holding (Kernel 1) shadow_started map_started))
    ∷ row (answer started (device_write two_devices 0 4096 4097))
    (outcome (refused 13) (holding (Kernel 1) shadow_started map_started))
    -- C11 write of 0 or 17 bytes: 8. (1 and 16 bytes at that address are allowed: nothing else refuses there.)
    ∷ row (answer started_writable (write 0 0))
    (outcome (refused 8) (holding (Kernel 1) (0x8000000000003003 ∷ 0x2401 ∷ 0 ∷ 0 ∷ []) map_started))
    ∷ row (answer started_writable (write 0 17))
    (outcome (refused 8) (holding (Kernel 1) (0x8000000000003003 ∷ 0x2401 ∷ 0 ∷ 0 ∷ []) map_started))
    ∷ row (answer started_writable (write 0 1))
    (outcome (accepted 3 3) (holding (Kernel 1) (0x8000000000003003 ∷ 0x2401 ∷ 0 ∷ 0 ∷ []) map_started))
    ∷ row (answer started_writable (write 0 16))
    (outcome (accepted 3 3) (holding (Kernel 1) (0x8000000000003003 ∷ 0x2401 ∷ 0 ∷ 0 ∷ []) map_started))
    -- C12 page 1 from 0x2000: shadow 0, map still 2.
    ∷ row (answer started (sync_page (only 1 0x2000) 1))
    (outcome (accepted 1 0) (holding (Kernel 1) (0 ∷ 0 ∷ 0 ∷ 0 ∷ []) map_started))
    ∷ []

-- Every row gives what is fixed.
abbrev pub Hold : {A : Type 0} → List (Row A) → Type 0
Hold [] = Unit {0}
Hold (c ∷ cs) = (c.given ≡ c.fixed) × Hold cs
