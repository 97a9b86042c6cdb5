-- Document 01, "Synchronising one page", its last paragraph: the mode switch, of an entry and of the shadow table.
use Rattle.std.specs.Prelude.{ℕ, ◌+◌, ◌%◌, ◌^◌, Bool, cond, List, [], ◌∷◌, map}
use Rattle.model.specs.Basics.{flag, differs}
use Rattle.model.specs.Bits.{present, user_bit, kernel_no_execute, approved_mark, approved_no_execute, ordinary_no_execute}

-- The rule for bit 63 of a shadow entry, "approved mark and bits 2 and 9 as found".
unfoldable pub no_execute_in : Bool → ℕ → Bool
no_execute_in user entry =
    cond (approved_mark entry) (approved_no_execute user) (ordinary_no_execute user (kernel_no_execute entry) (user_bit entry))

-- "it sets bit 63 of each present shadow entry by these rules, [..] other bits kept": the bits below 63, with bit 63 anew.
unfoldable pub switched : Bool → ℕ → ℕ
switched user entry = cond (present entry) (entry % 2 ^ 63 + flag (no_execute_in user entry) 63) entry

-- "A mode switch [..] sets bit 63 of each present shadow entry".
unfoldable pub switched_all : Bool → List ℕ → List ℕ
switched_all user shadow = map (switched user) shadow

-- "the count of changed shadow entries": places at which two tables of one length differ.
unfoldable pub changes : List ℕ → List ℕ → ℕ
changes [] after = 0
changes (b ∷ before) [] = 0
changes (b ∷ before) (a ∷ after) = differs b a + changes before after
