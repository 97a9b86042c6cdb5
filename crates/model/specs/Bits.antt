-- Document 01, "Entry bits", as requests K1 and K3 (document 02) changed them, with the entries that "Synchronising one page" makes of them: kernel entries taken apart, shadow entries made.
use Rattle.std.specs.Prelude.{ℕ, ◌+◌, ◌*◌, ◌/◌, ◌%◌, ◌^◌, Bool, true, false, not, cond, eqb, None, Some, Option}
use Rattle.model.specs.declared.Fields.{Fields}
use Rattle.model.specs.Basics.{bit, both, either, flag}

-- "bit 0 present, 1 writable, 2 user, 63 no-execute, 12 to 51 the frame": the same bits in kernel and shadow entries.
unfoldable pub present : ℕ → Bool
present entry = bit 0 entry

unfoldable pub writable : ℕ → Bool
writable entry = bit 1 entry

unfoldable pub user_bit : ℕ → Bool
user_bit entry = bit 2 entry

-- K3: "bits 3 (write-through) and 4 (cache disable)".
unfoldable pub write_through : ℕ → Bool
write_through entry = bit 3 entry

unfoldable pub cache_disable : ℕ → Bool
cache_disable entry = bit 4 entry

unfoldable pub no_execute : ℕ → Bool
no_execute entry = bit 63 entry

unfoldable pub frame_of : ℕ → ℕ
frame_of entry = entry / 2 ^ 12 % 2 ^ 40

-- "Shadow entry: the same bits, with bit 9 holding the kernel entry's own no-execute and bit 10 the approved mark."
unfoldable pub kernel_no_execute : ℕ → Bool
kernel_no_execute entry = bit 9 entry

unfoldable pub approved_mark : ℕ → Bool
approved_mark entry = bit 10 entry

-- K3: "Taking a kernel entry apart now yields both bits".
unfoldable pub fields_of : ℕ → Fields
fields_of entry =
    record {
      writable = writable entry;
      user = user_bit entry;
      write_through = write_through entry;
      cache_disable = cache_disable entry;
      no_execute = no_execute entry;
      frame = frame_of entry;
    }

-- K1: "The processor faults on bits 52 to 62", reserved bits. "A kernel entry with any of those bits set is now absent, on approved pages
-- too." Only a kernel entry is asked, never a shadow entry.
unfoldable pub reserved : ℕ → ℕ
reserved entry = entry / 2 ^ 52 % 2 ^ 11

-- A kernel entry that is not absent: present, with none of those bits set.
unfoldable pub valid : ℕ → Bool
valid entry = both (present entry) (eqb (reserved entry) 0)

-- "A kernel entry is taken apart first: absent, or present with its fields." "Other bits are ignored": since K1 and K3 these are bits 5 to 11.
unfoldable pub taken_apart : ℕ → Option Fields
taken_apart entry = cond (valid entry) (Some (fields_of entry)) None

-- "Approved entry: bits 0 and 10, the frame; bit 63 set in user mode only."
unfoldable pub approved_no_execute : Bool → Bool
approved_no_execute user = user

unfoldable pub approved : Bool → ℕ → ℕ
approved user frame = 2 ^ 0 + 2 ^ 10 + frame * 2 ^ 12 + flag (approved_no_execute user) 63

-- "Ordinary: bit 63 set in kernel mode; in user mode set if bit 9 is set or bit 2 clear." Arguments: user mode, bit 9, bit 2.
unfoldable pub ordinary_no_execute : Bool → Bool → Bool → Bool
ordinary_no_execute user bit9 bit2 = cond user (either bit9 (not bit2)) true

-- "Else ordinary: present, writable, user, frame and bit 9 from the kernel entry." K3: "an ordinary shadow entry carries them", bits 3 and 4.
unfoldable pub ordinary : Bool → Fields → ℕ
ordinary user x =
    2 ^ 0 + flag x.writable 1 + flag x.user 2 + flag x.write_through 3 + flag x.cache_disable 4 + flag x.no_execute 9
    + x.frame * 2 ^ 12 + flag (ordinary_no_execute user x.no_execute x.user) 63

-- K6: "while pending, synchronising an ordinary entry for it clears writable and sets bit 9": the fields of such an entry.
unfoldable pub inspected : Fields → Fields
inspected x =
    record {
      writable = false;
      user = x.user;
      write_through = x.write_through;
      cache_disable = x.cache_disable;
      no_execute = true;
      frame = x.frame;
    }
