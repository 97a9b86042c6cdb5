-- What each way out of a level's walk gives to the pages of a part, and a walk from the root.
use Rattle.std.specs.Prelude.{None, Some, Option}
use Prim.Native.Nat.{ℕ, zero, suc, ◌+◌, ◌-◌, ◌*◌, ◌/◌, ◌%◌, ◌^◌, ◌≤◌, ◌<◌}
use mathlib.Core.Bool.{true, false}
use mathlib.Core.List.{List}
use mathlib.Core.Path.{◌≡◌, refl, sym, ap, ◌∙◌}
use native.Mathlib.Omega.{arith}
use lib.Bits.{bit_and, bit_or}
use lib.Dec.{eqb}
use lib.ListN.{length, get_or}
use borrow.Author.Tests.{eq-eqb, ne_eqb, lt-ltb, le-ltb}
use Rattle.model.specs.declared.Fields.{Fields}
use Rattle.model.specs.Basics.{both, bit}
use Rattle.model.specs.Bits.{frame_of, fields_of, valid, taken_apart}
use Rattle.model.specs.Tree.{tables_in, place_above, Rights, all_rights, gathered, flat_entry, large_entry, tree_of, Walk, ending, meeting, onward, walk_from, walk_of, flat_at}
use Rattle.laws.proofs.BitLaws.{present-valid, fields-apart}
use Rattle.entry.specs.declared.ValidEntry.{ValidEntry}
use Rattle.tree.specs.declared.Part.{Part}
use Rattle.tree.specs.declared.Part.TheVariants.{Table, Large, Nowhere}
use Rattle.tree.specs.Parts.{rights_by, last_flat, flat_in}
use Rattle.tree.proofs.BitLaws.{gathered-by, added-last}

frame-bits : (entry : ℕ) → frame_of entry % 512 ≡ entry / 2 ^ 12 % 512
unfolding frame_of
frame-bits entry = omega arith

-- The entry of an aligned large page has nothing between bit 12 and bit 20.
pub large-low : (entry : ℕ) (e : Option Fields) (x : Fields) → e ≡ taken_apart entry → e ≡ Some x → x.frame % 512 ≡ 0 → entry % 2 ^ 21 < 2 ^ 12
unfolding fields_of
large-low entry e x apart there aligned = low (frame-bits entry)
  where
    framed : frame_of entry % 512 ≡ 0
    framed = rw (← (fields-apart entry x (sym apart ∙ there))) at aligned

    low : frame_of entry % 512 ≡ entry / 2 ^ 12 % 512 → entry % 2 ^ 21 < 2 ^ 12
    low e =
        let zero : entry / 2 ^ 12 % 512 ≡ 0 = sym e ∙ framed in
        omega arith

-- An entry by the type of valid ones.
pub opened : (entry : ℕ) (v : ValidEntry) → v.bits ≡ entry → taken_apart entry ≡ Some (fields_of entry)
unfolding taken_apart
opened entry v same = rw (rw same at v.is_valid)

pub closed : (entry : ℕ) → valid entry ≡ false → taken_apart entry ≡ None
unfolding taken_apart
closed entry h = rw h

pub framed : (entry f : ℕ) (v : ValidEntry) → v.bits ≡ entry → f ≡ frame_of v.bits → f ≡ (fields_of entry).frame
unfolding fields_of
framed entry f v same e = e ∙ ap frame_of same

-- What a part gives to each of its pages, walked from a level on.
abbrev pub Gives : List ℕ → ℕ → ℕ → ℕ → ℕ → ℕ → Part → Type 0
Gives words page level all any number r =
    (p : ℕ) → p / 512 ≡ page / 512 → (walk_from words p level (rights_by all any) number).flat ≡ flat_in words r p

-- The entry that a page meets at a level above 1, which is that of every page of its part.
abbrev met : List ℕ → ℕ → ℕ → ℕ → ℕ
met words page level number = get_or words (number * 512 + page / 2 ^ (9 * (level - 1)) % 512) 0

-- Every page of a part has the same bits from bit 9 on.
bits-same : (p page d : ℕ) → 1 ≤ d → d ≤ 3 → p / 512 ≡ page / 512 → p / 2 ^ (9 * d) ≡ page / 2 ^ (9 * d)
bits-same p page zero l m same = absurd (omega arith)
bits-same p page (suc zero) l m same = same
bits-same p page (suc (suc zero)) l m same =
    let a : p / 2 ^ 18 ≡ p / 512 / 512 = omega arith in
    let b : page / 2 ^ 18 ≡ page / 512 / 512 = omega arith in
    a ∙ ap (λ (x : ℕ). x / 512) same ∙ sym b
bits-same p page (suc (suc (suc zero))) l m same =
    let a : p / 2 ^ 27 ≡ p / 512 / 2 ^ 18 = omega arith in
    let b : page / 2 ^ 27 ≡ page / 512 / 2 ^ 18 = omega arith in
    a ∙ ap (λ (x : ℕ). x / 2 ^ 18) same ∙ sym b
bits-same p page (suc (suc (suc (suc d)))) l m same = absurd (omega arith)

-- The place of a page at level 1, and at a level above it, where every page of a part has the same.
low-place : (p : ℕ) → place_above 0 p ≡ p % 512
unfolding place_above
low-place p = omega arith

high-place : (p page lower : ℕ) → p / 512 ≡ page / 512 → 1 ≤ lower → lower ≤ 2 → place_above lower p ≡ page / 2 ^ (9 * lower) % 512
unfolding place_above
high-place p page lower same l m = ap (λ (x : ℕ). x % 512) (bits-same p page lower l (omega arith) same)

module _ (words : List ℕ) (page all any number : ℕ) where
  -- A table number outside the run.
  pub gives-outside : (level : ℕ) → 1 ≤ level → length words / 512 ≤ number → Gives words page level all any number Nowhere
  unfolding walk_from tables_in flat_in
  gives-outside zero l h p same = absurd (omega arith)
  gives-outside (suc lower) l h p same = rw (le-ltb number (length words / 512) h)

  -- A table in the run: its entry, and what follows it.
  abbrev follows : ℕ → ℕ → ℕ → Walk
  follows p lower entry =
      onward (suc lower) p (rights_by all any) entry (λ these next. walk_from words p lower these next) (taken_apart entry)

  walk-in : (p lower : ℕ) → number < length words / 512
      → let entry : ℕ = get_or words (number * 512 + place_above lower p) 0 in
      walk_from words p (suc lower) (rights_by all any) number ≡ meeting entry (follows p lower entry)
  unfolding walk_from tables_in
  walk-in p lower h = rw (lt-ltb number (length words / 512) h)

  -- Level 1: the walk ends in the table.
  last_flat_lem : (p entry : ℕ) (rights : Rights) (down : Rights → ℕ → Walk) (e : Option Fields)
      → (onward 1 p rights entry down e).flat ≡ last_flat rights e
  unfolding onward last_flat
  last_flat_lem p entry rights down None = refl
  last_flat_lem p entry rights down (Some x) = refl

  pub gives-table : (level : ℕ) → level ≡ 1 → number < length words / 512 → Gives words page level all any number (Table number all any)
  unfolding flat_in meeting
  gives-table level one h p same =
      let entry : ℕ = get_or words (number * 512 + p % 512) 0 in
      rw (one, walk-in p 0 h, low-place p) (last_flat_lem p entry (rights_by all any) (λ these next. walk_from words p 0 these next) (taken_apart entry))

  -- A level above: the entry that every page of the part meets, taken apart.
  module _ (lower : ℕ) (l : 1 ≤ lower) (m : lower ≤ 2) (h : number < length words / 512) where
    abbrev entry : ℕ
    entry = get_or words (number * 512 + page / 2 ^ (9 * lower) % 512) 0

    walk_here : (p : ℕ) → p / 512 ≡ page / 512 → walk_from words p (suc lower) (rights_by all any) number ≡ meeting entry (follows p lower entry)
    walk_here p same = rw (← (high-place p page lower same l m)) (walk-in p lower h)

    -- By what follows: where it ends, and where it goes on.
    ends-here : (r : Part) → ((p : ℕ) → p / 512 ≡ page / 512 → (follows p lower entry).flat ≡ flat_in words r p)
        → Gives words page (suc lower) all any number r
    unfolding meeting
    ends-here r rest p same = rw (walk_here p same) (rest p same)

    pub gives-absent : taken_apart entry ≡ None → Gives words page (suc lower) all any number Nowhere
    unfolding onward flat_in
    gives-absent absent = ends-here Nowhere (λ p same. rw absent)

-- Level 2 gathers as level 1 does.
gathered-same : (rights : Rights) (x : Fields) → gathered 1 rights x ≡ gathered 2 rights x
unfolding gathered
gathered-same rights x = refl

-- The ways out of level 3 and of level 2, by the entry that is met there.
module _ (words : List ℕ) (page level all any number : ℕ) (e : Option Fields) (apart : e ≡ taken_apart (met words page level number))
    (h : number < length words / 512) where
  pub level-absent : 1 ≤ level → level ≤ 3 → (level ≡ 1 → ⊥) → e ≡ None → Gives words page level all any number Nowhere
  level-absent l m other absent = at level l m other (sym apart ∙ absent)
    where
      at : (level : ℕ) → 1 ≤ level → level ≤ 3 → (level ≡ 1 → ⊥) → taken_apart (met words page level number) ≡ None
          → Gives words page level all any number Nowhere
      at zero l m other absent = absurd (omega arith)
      at (suc zero) l m other absent = absurd (other refl)
      at (suc (suc zero)) l m other absent = gives-absent words page all any number 1 (omega arith) (omega arith) h absent
      at (suc (suc (suc zero))) l m other absent = gives-absent words page all any number 2 (omega arith) (omega arith) h absent
      at (suc (suc (suc (suc level)))) l m other absent = absurd (omega arith)

  module _ (x : Fields) (there : e ≡ Some x) where
    -- Level 3: "these three bits do not count", and bit 7 neither.
    pub level-3 : (r : Part) → level ≡ 3 → Gives words page 2 all any x.frame r → Gives words page level all any number r
    unfolding onward gathered both
    level-3 r three rest =
        let present : taken_apart (met words page 3 number) ≡ Some x = rw three at (sym apart ∙ there) in
        rw three (ends-here words page all any number 2 (omega arith) (omega arith) h r (λ p same. rw present (rest p same)))

    module _ (two : level ≡ 2) where
      abbrev upper : ℕ
      upper = met words page 2 number

      present : taken_apart upper ≡ Some x
      present = rw two at (sym apart ∙ there)

      fields : fields_of upper ≡ x
      fields = fields-apart upper x present

      -- Level 2 with bit 7 clear: a table of level 1, by the rights gathered so far.
      pub level-2 : (r : Part) → met words page level number / 2 ^ 7 % 2 ≡ 0
          → Gives words page 1 (bit_and all (met words page level number)) (bit_or any (met words page level number)) x.frame r
          → Gives words page level all any number r
      unfolding onward both bit
      level-2 r clear rest =
          let even : upper / 2 ^ 7 % 2 ≡ 0 = rw two at clear in
          let off : eqb (upper / 2 ^ 7 % 2) 1 ≡ false = ne_eqb (upper / 2 ^ 7 % 2) 1 (λ q. omega (arith, even, q)) in
          let rights : gathered 2 (rights_by all any) x ≡ rights_by (bit_and all upper) (bit_or any upper) =
          rw (← fields) (gathered-by 2 all any upper refl) in
          rw two (ends-here words page all any number 1 (omega arith) (omega arith) h r (λ p same. rw (present, off, rights) ((rw two at rest) p same)))

      -- Level 2 with bit 7 set: a large page, absent if its frame is not aligned.
      module _ (large : met words page level number / 2 ^ 7 % 2 ≡ 1) where
        on : eqb (upper / 2 ^ 7 % 2) 1 ≡ true
        on = eq-eqb (upper / 2 ^ 7 % 2) 1 (rw two at large)

        pub level-misaligned : (x.frame % 512 ≡ 0 → ⊥) → Gives words page level all any number Nowhere
        unfolding onward both bit large_entry flat_in
        level-misaligned other =
            rw two
            (ends-here words page all any number 1 (omega arith) (omega arith) h Nowhere (λ p same.
            rw (present, on, ne_eqb (x.frame % 512) 0 other)))

        -- No rights are gathered above level 2.
        pub level-large : all ≡ 2 ^ 64 - 1 → any ≡ 0 → x.frame % 512 ≡ 0
            → Gives words page level all any number (Large (met words page level number))
        unfolding onward both bit large_entry flat_in rights_by
        level-large none-all none-any aligned =
            rw two
            (ends-here words page all any number 1 (omega arith) (omega arith) h (Large upper) (λ p same.
            rw (present, on, eq-eqb (x.frame % 512) 0 aligned) (sym (large-last p))))
          where
            low_bits : upper % 2 ^ 21 < 2 ^ 12
            low_bits = large-low upper (taken_apart upper) x refl present aligned

            none : rights_by all any ≡ all_rights
            none = rw (none-all, none-any)

            large-last : (p : ℕ) → last_flat all_rights (taken_apart (upper + p % 512 * 2 ^ 12))
                ≡ flat_entry (gathered 2 (rights_by all any) x) x (x.frame + p % 2 ^ 9)
            large-last p =
                rw (none, ← (gathered-same all_rights x), ← fields)
                (added-last upper (p % 512) low_bits (omega arith) all_rights (present-valid upper x present))

-- The run has a table with this number.
pub table-sound : (words : List ℕ) (number : ℕ) → number < length words / 512 → number < tables_in words
unfolding tables_in
table-sound words number h = h

-- The bits that a page's number needs, and those of a depth.
few_bits : (p d : ℕ) → 1 ≤ d → d ≤ 3 → p / 2 ^ (9 * d) ≡ 0 → p < 2 ^ (9 * d)
few_bits p zero l m few = absurd (omega arith)
few_bits p (suc zero) l m few = omega arith
few_bits p (suc (suc zero)) l m few = omega arith
few_bits p (suc (suc (suc zero))) l m few = omega arith
few_bits p (suc (suc (suc (suc d)))) l m few = absurd (omega arith)

many-bits : (p d : ℕ) → 1 ≤ d → d ≤ 3 → (p / 2 ^ (9 * d) ≡ 0 → ⊥) → 2 ^ (9 * d) ≤ p
many-bits p zero l m many = absurd (omega arith)
many-bits p (suc zero) l m many = omega arith
many-bits p (suc (suc zero)) l m many = omega arith
many-bits p (suc (suc (suc zero))) l m many = omega arith
many-bits p (suc (suc (suc (suc d)))) l m many = absurd (omega arith)

-- A walk from the root, of a tree in order.
module _ (words : List ℕ) (root depth page : ℕ) (low : 1 ≤ depth) (high : depth ≤ 3) where
  abbrev pub RootGives : Part → Type 0
  RootGives r = (p : ℕ) → p / 512 ≡ page / 512 → flat_at (tree_of words root depth) p ≡ flat_in words r p

  walk-many : (p : ℕ) → 2 ^ (9 * depth) ≤ p → walk_of (tree_of words root depth) p ≡ ending 0
  unfolding walk_of
  walk-many p more = rw (le-ltb p (2 ^ (9 * depth)) more)

  walk-few : (p : ℕ) → p < 2 ^ (9 * depth) → walk_of (tree_of words root depth) p ≡ walk_from words p depth (rights_by (2 ^ 64 - 1) 0) root
  unfolding walk_of rights_by bit
  walk-few p less = rw (lt-ltb p (2 ^ (9 * depth)) less)

  pub too-many-bits : (page / 2 ^ (9 * depth) ≡ 0 → ⊥) → RootGives Nowhere
  unfolding flat_at flat_in
  too-many-bits many p same =
      ap (λ (w : Walk). w.flat) (walk-many p (many-bits p depth low high (λ e. many (sym (bits-same p page depth low high same) ∙ e))))

  pub from-root : (r : Part) → page / 2 ^ (9 * depth) ≡ 0 → Gives words page depth (2 ^ 64 - 1) 0 root r → RootGives r
  unfolding flat_at
  from-root r few walked p same =
      ap (λ (w : Walk). w.flat) (walk-few p (few_bits p depth low high (bits-same p page depth low high same ∙ few)))
      ∙ walked p same
