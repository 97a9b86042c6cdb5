-- Document 01, "The guard and its edges": the sizes, and the pages that a run of bytes touches.
-- V is called pages and F frames throughout.
use Rattle.std.specs.Prelude.{ℕ, suc, ◌+◌, ◌-◌, ◌/◌, Bool}
use Rattle.model.specs.Basics.{within}

-- "A page is 4,096 bytes."
abbrev pub page_bytes : ℕ
page_bytes = 4096

-- "V is the number of virtual pages, 1 to 2,048."
unfoldable pub pages_in_range : ℕ → Bool
pages_in_range pages = within 1 2048 pages

-- "F is the number of physical frames, 1 to 4,096"
unfoldable pub frames_in_range : ℕ → Bool
frames_in_range frames = within 1 4096 frames

-- "the number of devices, 1 to 64" (K5)
unfoldable pub devices_in_range : ℕ → Bool
devices_in_range devices = within 1 64 devices

-- The bytes from an address on, length of them, lie in the pages (or frames) from `address / page_bytes` to `last_page`. The sum is exact.
unfoldable pub last_byte : ℕ → ℕ → ℕ
last_byte address length = address + length - 1

unfoldable pub last_page : ℕ → ℕ → ℕ
last_page address length = last_byte address length / page_bytes

-- How many pages (or frames) they touch.
unfoldable pub touched : ℕ → ℕ → ℕ
touched address length = suc (last_page address length - address / page_bytes)
