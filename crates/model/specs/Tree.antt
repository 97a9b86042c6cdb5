-- Document 02, K4, "Tables in the processor's own shape": a tree of tables, and the walk of a page down to its flat entry.
use Rattle.std.specs.Prelude.{ℕ, zero, suc, ◌+◌, ◌*◌, ◌/◌, ◌%◌, ◌^◌, Bool, true, false, cond, List, [], ◌∷◌, length, get_or, ltb, eqb, None, Some, Option}
use Rattle.model.specs.declared.Fields.{Fields}
use Rattle.model.specs.Basics.{both, either, within, bit, flag}
use Rattle.model.specs.Bits.{taken_apart}

-- "a lent run of 64-bit words holding tables of 512 entries, a root table number and a depth of one to three."
pub record Tree : Type 0 where
  pub words : List ℕ
  pub root : ℕ
  pub depth : ℕ

abbrev pub tree_of : List ℕ → ℕ → ℕ → Tree
tree_of words root depth = record { words = words; root = root; depth = depth }

-- How many tables a run holds. A table's number is its place among them, from 0.
unfoldable pub tables_in : List ℕ → ℕ
tables_in words = length words / 512

-- "It refuses with 17, after question 7, a run that is not whole tables of 512, a depth outside 1 to 3 or a root outside the run."
unfoldable pub tree_in_order : Tree → Bool
tree_in_order tree =
    both (eqb (length tree.words % 512) 0) (both (within 1 3 tree.depth) (ltb tree.root (tables_in tree.words)))

-- "Level 1 is chosen by page bits 0 to 8, each level above by the next nine bits": the place of a page in its table at the level that has so
-- many levels below it.
unfoldable pub place_above : ℕ → ℕ → ℕ
place_above lower page = page / 2 ^ (9 * lower) % 512

-- The rights that the entries met so far leave.
pub record Rights : Type 0 where
  pub writable : Bool
  pub user : Bool
  pub no_execute : Bool

abbrev pub all_rights : Rights
all_rights = record { writable = true; user = true; no_execute = false }

-- "Writable and user need every level, no-execute needs one; at level 3 these three bits do not count."
unfoldable pub gathered : ℕ → Rights → Fields → Rights
gathered level rights x =
    cond (eqb level 3) rights
    (record {
      writable = both rights.writable x.writable;
      user = both rights.user x.user;
      no_execute = either rights.no_execute x.no_execute;
    })

-- "its flat entry, of the named bits alone": the rights gathered, to which level 3 adds nothing, "Cache bits come from the last entry", and the
-- frame.
unfoldable pub flat_entry : Rights → Fields → ℕ → ℕ
flat_entry rights x frame =
    2 ^ 0 + flag rights.writable 1 + flag rights.user 2 + flag x.write_through 3 + flag x.cache_disable 4 + frame * 2 ^ 12
    + flag rights.no_execute 63

-- "a large page: the low nine bits of its frame field must be 0, else the page is absent, and the page number's low nine are added."
unfoldable pub large_entry : Rights → Fields → ℕ → ℕ
large_entry rights x page = cond (eqb (x.frame % 2 ^ 9) 0) (flat_entry rights x (x.frame + page % 2 ^ 9)) 0

-- "A page's walk gives its flat entry [..] and the count of entries read": the flat entry, 0 if the page is absent, and the entries that the walk
-- met, from the root on. Their count is the length of the list.
pub record Walk : Type 0 where
  pub flat : ℕ
  pub met : List ℕ

-- A walk that ends without reading on.
abbrev pub ending : ℕ → Walk
ending flat = record { flat = flat; met = [] }

-- A walk that met this entry first.
unfoldable pub meeting : ℕ → Walk → Walk
meeting entry rest = record { flat = rest.flat; met = entry ∷ rest.met }

-- What follows an entry that was met at a level. `down` is the walk at the level below, by the rights gathered so far and its table's number.
-- "An absent entry [..] makes the page absent." "Bit 7 at level 2 means a large page". "The frame field of an upper entry is the number of the next
-- table in the run."
unfoldable pub onward : ℕ → ℕ → Rights → ℕ → (Rights → ℕ → Walk) → Option Fields → Walk
onward level page rights entry down None = ending 0
onward level page rights entry down (Some x) =
    let these : Rights = gathered level rights x in
    cond (eqb level 1) (ending (flat_entry these x x.frame))
    (cond (both (eqb level 2) (bit 7 entry)) (ending (large_entry these x page))
    (down these x.frame))

-- "the walk goes down one level at a time": from a level, by the rights gathered above it, in the table with this number. "a table number outside the
-- run, makes the page absent", and nothing is read. There is no level 0: level 1 ends every walk that comes to it, and a tree has at least that one.
unfoldable pub walk_from : List ℕ → ℕ → ℕ → Rights → ℕ → Walk
walk_from words page zero rights number = ending 0
walk_from words page (suc lower) rights number =
    let entry : ℕ = get_or words (number * 512 + place_above lower page) 0 in
    cond (ltb number (tables_in words))
    (meeting entry (onward (suc lower) page rights entry (λ these next. walk_from words page lower these next) (taken_apart entry)))
    (ending 0)

-- "A page whose number needs more bits than the depth has is absent", and nothing is read.
unfoldable pub walk_of : Tree → ℕ → Walk
walk_of tree page =
    cond (ltb page (2 ^ (9 * tree.depth))) (walk_from tree.words page tree.depth all_rights tree.root) (ending 0)

unfoldable pub flat_at : Tree → ℕ → ℕ
flat_at tree page = (walk_of tree page).flat

unfoldable pub reads_at : Tree → ℕ → ℕ
reads_at tree page = length (walk_of tree page).met
