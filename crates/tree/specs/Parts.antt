-- What this crate's contracts say of a part: the 512 pages that differ in page bits 0 to 8 alone.
use Rattle.std.specs.Prelude.{ℕ, ◌+◌, ◌*◌, ◌%◌, ◌^◌, ◌<◌, List, length, get_or, None, Some, Option}
use Rattle.model.specs.declared.Fields.{Fields}
use Rattle.model.specs.Basics.{bit}
use Rattle.model.specs.Bits.{taken_apart}
use Rattle.model.specs.Tree.{Tree, tree_of, tables_in, Rights, all_rights, gathered, flat_entry, Walk}
use Rattle.tree.specs.declared.Part.{Part}
use Rattle.tree.specs.declared.Part.TheVariants.{Table, Large, Nowhere}
use Rattle.tree.specs.declared.given.Tree.{Tree as Given}

abbrev pub tree_in : Given → Tree
tree_in given = tree_of given.words.now given.root given.depth

-- The rights that entries leave, by the bits that all of them have and those that any of them has.
unfoldable pub rights_by : ℕ → ℕ → Rights
rights_by all any = record { writable = bit 1 all; user = bit 2 all; no_execute = bit 63 any }

-- The flat entry of a last entry, below entries that leave these rights.
unfoldable pub last_flat : Rights → Option Fields → ℕ
last_flat rights None = 0
last_flat rights (Some x) = flat_entry (gathered 1 rights x) x x.frame

-- A walk in one word, which the recursion can return in a register: the flat entry, which has nothing in bits 5 to 11, with the count of entries met in
-- bits 5 and 6.
unfoldable pub walk_word : Walk → ℕ
walk_word walk = walk.flat + length walk.met * 2 ^ 5

-- The flat entry of a page of the part.
unfoldable pub flat_in : List ℕ → Part → ℕ → ℕ
flat_in words (Table number all any) page = last_flat (rights_by all any) (taken_apart (get_or words (number * 512 + page % 512) 0))
flat_in words (Large entry) page = last_flat all_rights (taken_apart (entry + page % 512 * 2 ^ 12))
flat_in words Nowhere page = 0

-- A table is one of the run, and a page's low nine bits can be added to a large page's entry.
abbrev pub Sound : List ℕ → Part → Type 0
Sound words (Table number all any) = number < tables_in words
Sound words (Large entry) = entry % 2 ^ 21 < 2 ^ 12
Sound words Nowhere = Unit {0}
