-- What each way out of a level gives to the walk of a page, in one word, and what the word of a walk from the root says.
use Rattle.std.specs.Prelude.{None, Some, Option, Ok}
use Rattle.model.specs.Calls.{Answer}
use Prim.Native.Nat.{ℕ, zero, suc, ◌+◌, ◌-◌, ◌*◌, ◌/◌, ◌%◌, ◌^◌, ◌≤◌, ◌<◌}
use mathlib.Core.Bool.{Bool, true, false, cond}
use mathlib.Core.List.{List}
use mathlib.Core.Path.{◌≡◌, refl, sym, ap, ap₂, ◌∙◌}
use native.Mathlib.Omega.{arith}
use lib.Bits.{bit_and, bit_or}
use lib.Dec.{eqb, ltb}
use lib.ListN.{length, get_or}
use borrow.Author.Tests.{ltb-true, ltb-false, eqb-true, eqb-false, eq-eqb, ne_eqb, lt-ltb, le-ltb}
use Rattle.model.specs.declared.Fields.{Fields}
use Rattle.model.specs.Basics.{both, bit, flag}
use Rattle.model.specs.Bits.{taken_apart}
use Rattle.model.specs.Tree.{tables_in, place_above, Rights, gathered, flat_entry, large_entry, Tree, tree_of, Walk, ending, meeting, onward, walk_from, walk_of}
use Rattle.model.specs.Tree.{flat_at, reads_at}
use Rattle.laws.proofs.BitLaws.{fields-apart}
use Rattle.laws.proofs.TreeLaws.{reads-from}
use Rattle.laws.proofs.VectorLaws.{flag-weight, flag_small}
use Rattle.tree.specs.Parts.{rights_by, last_flat, walk_word}
use Rattle.tree.proofs.BitLaws.{gathered-by, apart-same}

-- A flat entry has nothing in bits 5 to 11, and where its frame is aligned nothing up to bit 20.
flat-sum : (rights : Rights) (x : Fields) (frame : ℕ)
    → let w : ℕ = flag rights.writable 0 in
    let u : ℕ = flag rights.user 0 in
    let t : ℕ = flag x.write_through 0 in
    let c : ℕ = flag x.cache_disable 0 in
    let n : ℕ = flag rights.no_execute 0 in
    flat_entry rights x frame ≡ 1 + w * 2 + u * 4 + t * 8 + c * 16 + frame * 2 ^ 12 + n * 2 ^ 63
unfolding flat_entry
flat-sum rights x frame =
    rw (
      flag-weight rights.writable 1,
      flag-weight rights.user 2,
      flag-weight x.write_through 3,
      flag-weight x.cache_disable 4,
      flag-weight rights.no_execute 63,
    )

sum_low : (w u t c f n : ℕ) → w ≤ 1 → u ≤ 1 → t ≤ 1 → c ≤ 1 → (1 + w * 2 + u * 4 + t * 8 + c * 16 + f * 2 ^ 12 + n * 2 ^ 63) % 2 ^ 12 < 2 ^ 5
sum_low w u t c f n p q r s = omega arith

sum-aligned : (w u t c f n : ℕ) → w ≤ 1 → u ≤ 1 → t ≤ 1 → c ≤ 1 → f % 512 ≡ 0
    → (1 + w * 2 + u * 4 + t * 8 + c * 16 + f * 2 ^ 12 + n * 2 ^ 63) % 2 ^ 21 < 2 ^ 5
sum-aligned w u t c f n p q r s h = omega arith

flat-low : (rights : Rights) (x : Fields) (frame : ℕ) → flat_entry rights x frame % 2 ^ 12 < 2 ^ 5
flat-low rights x frame =
    rw (flat-sum rights x frame)
    (sum_low _ _ _ _ frame _ (flag_small rights.writable) (flag_small rights.user) (flag_small x.write_through) (flag_small x.cache_disable))

last-low : (rights : Rights) (e : Option Fields) → last_flat rights e % 2 ^ 12 < 2 ^ 5
unfolding last_flat
last-low rights None = omega arith
last-low rights (Some x) = flat-low (gathered 1 rights x) x x.frame

pub made-low : (f : ℕ) (rights : Rights) (e : Option Fields) → f ≡ last_flat rights e → f % 2 ^ 12 < 2 ^ 5
made-low f rights e made = rw made (last-low rights e)

-- The flat entry of an aligned large page has room for a page's low nine bits.
module _ (entry : ℕ) (e : Option Fields) (x : Fields) (apart : e ≡ taken_apart entry) (there : e ≡ Some x) where
  pub made-aligned : (f : ℕ) (rights : Rights) → f ≡ last_flat rights (taken_apart entry) → x.frame % 512 ≡ 0 → f % 2 ^ 21 < 2 ^ 5
  unfolding last_flat
  made-aligned f rights made aligned =
      let these : Rights = gathered 1 rights x in
      rw (made, sym apart ∙ there, flat-sum these x x.frame)
      (sum-aligned _ _ _ _ x.frame _ (flag_small these.writable) (flag_small these.user) (flag_small x.write_through)
      (flag_small x.cache_disable) aligned)

-- The word of a walk that reads nothing, and of one that ends in a large page.
alone : (flat : ℕ) → flat ≡ walk_word (ending flat)
unfolding walk_word
alone flat = omega arith

added : (rights : Rights) (x : Fields) (frame q : ℕ) → flat_entry rights x frame + q * 2 ^ 12 ≡ walk_word (ending (flat_entry rights x (frame + q)))
unfolding flat_entry walk_word
added rights x frame q = omega arith

-- The entry that a page meets at a level.
abbrev met : List ℕ → ℕ → ℕ → ℕ → ℕ
met words page level number = get_or words (number * 512 + page / 2 ^ (9 * (level - 1)) % 512) 0

module _ (words : List ℕ) (page all any number count : ℕ) where
  abbrev word : ℕ → ℕ
  word level = walk_word (walk_from words page level (rights_by all any) number)

  -- A table number outside the run.
  pub word-outside : (level : ℕ) → 1 ≤ level → length words / 512 ≤ number → count ≡ word level + count
  unfolding walk_from tables_in walk_word
  word-outside zero l h = absurd (omega arith)
  word-outside (suc lower) l h = rw (le-ltb number (length words / 512) h) (omega arith)

  -- What follows the entry that is met.
  abbrev follows : ℕ → Option Fields → Walk
  follows level e = onward level page (rights_by all any) (met words page level number) (λ these next. walk_from words page (level - 1) these next) e

  module _ (h : number < length words / 512) where
    meets : (level : ℕ) → 1 ≤ level → (e : Option Fields) → e ≡ taken_apart (met words page level number)
        → walk_word (follows level e) + (count + 2 ^ 5) ≡ word level + count
    unfolding walk_from tables_in place_above meeting walk_word
    meets zero l e apart = absurd (omega arith)
    meets (suc lower) l e apart =
        let same : suc lower - 1 ≡ lower = omega arith in
        rw (apart, same, lt-ltb number (length words / 512) h) (omega arith)

    module _ (level : ℕ) (low : 1 ≤ level) (e : Option Fields) (apart : e ≡ taken_apart (met words page level number)) where
      pub word-absent : e ≡ None → count + 2 ^ 5 ≡ word level + count
      unfolding onward walk_word
      word-absent absent = let rest = rw absent at (meets level low e apart) in omega (arith, rest)

      module _ (x : Fields) (there : e ≡ Some x) where
        abbrev upper : ℕ
        upper = met words page level number

        last_entry : (f : ℕ) → f ≡ last_flat (rights_by all any) (taken_apart upper) → f ≡ flat_entry (gathered 1 (rights_by all any) x) x x.frame
        unfolding last_flat
        last_entry f made = made ∙ ap (last_flat (rights_by all any)) (sym apart ∙ there)

        -- Level 1: the last entry.
        pub word-last : (f : ℕ) → level ≡ 1 → f ≡ last_flat (rights_by all any) (taken_apart upper) → f + (count + 2 ^ 5) ≡ word level + count
        unfolding onward gathered
        word-last f one made =
            let not-3 : eqb level 3 ≡ false = ne_eqb level 3 (λ q. omega (arith, q, one)) in
            let rest = rw (there, eq-eqb level 1 one, not-3) at (meets level low e apart) in
            ap (λ (n : ℕ). n + (count + 2 ^ 5)) (last_entry f made ∙ alone _) ∙ rest

        -- Level 3: "these three bits do not count", and bit 7 neither.
        pub word-3 : (r : ℕ) → level ≡ 3 → r ≡ walk_word (walk_from words page 2 (rights_by all any) x.frame) + (count + 2 ^ 5) → r ≡ word level + count
        unfolding onward gathered both
        word-3 r three rest =
            let down : 2 ≡ level - 1 = omega arith in
            let not-1 : eqb level 1 ≡ false = ne_eqb level 1 (λ q. omega (arith, q, three)) in
            let not-2 : eqb level 2 ≡ false = ne_eqb level 2 (λ q. omega (arith, q, three)) in
            rest ∙ ap (λ (l : ℕ). walk_word (walk_from words page l (rights_by all any) x.frame) + (count + 2 ^ 5)) down
            ∙ (rw (there, not-1, not-2, eq-eqb level 3 three) at (meets level low e apart))

        module _ (two : level ≡ 2) where
          not-1 : eqb level 1 ≡ false
          not-1 = ne_eqb level 1 (λ q. omega (arith, q, two))

          not-3 : eqb level 3 ≡ false
          not-3 = ne_eqb level 3 (λ q. omega (arith, q, two))

          is-2 : eqb level 2 ≡ true
          is-2 = eq-eqb level 2 two

          -- Level 2 with bit 7 clear: a table of level 1, by the rights gathered so far.
          pub word-table : (r : ℕ) → upper / 2 ^ 7 % 2 ≡ 0
              → r ≡ walk_word (walk_from words page 1 (rights_by (bit_and all upper) (bit_or any upper)) x.frame) + (count + 2 ^ 5) → r ≡ word level + count
          unfolding onward both bit
          word-table r table rest =
              let down : 1 ≡ level - 1 = omega arith in
              let off : eqb (upper / 2 ^ 7 % 2) 1 ≡ false = ne_eqb (upper / 2 ^ 7 % 2) 1 (λ q. omega (arith, q, table)) in
              let rights : gathered level (rights_by all any) x ≡ rights_by (bit_and all upper) (bit_or any upper) =
              rw (← (fields-apart upper x (sym apart ∙ there))) (gathered-by level all any upper not-3) in
              rest ∙ ap (λ (l : ℕ). walk_word (walk_from words page l (rights_by (bit_and all upper) (bit_or any upper)) x.frame) + (count + 2 ^ 5)) down
              ∙ (rw (there, not-1, is-2, off, rights) at (meets level low e apart))

          -- Level 2 with bit 7 set: a large page, absent if its frame is not aligned.
          module _ (large : upper / 2 ^ 7 % 2 ≡ 1) where
            on : eqb (upper / 2 ^ 7 % 2) 1 ≡ true
            on = eq-eqb (upper / 2 ^ 7 % 2) 1 large

            pub word-misaligned : (x.frame % 512 ≡ 0 → ⊥) → count + 2 ^ 5 ≡ word level + count
            unfolding onward both bit large_entry walk_word
            word-misaligned other =
                let rest = rw (there, not-1, is-2, on, ne_eqb (x.frame % 512) 0 other) at (meets level low e apart) in
                omega (arith, rest)

            pub word-large : (f : ℕ) → x.frame % 512 ≡ 0 → f ≡ last_flat (rights_by all any) (taken_apart upper)
                → f + page % 512 * 2 ^ 12 + (count + 2 ^ 5) ≡ word level + count
            unfolding onward both bit large_entry gathered
            word-large f aligned made =
                let rest = rw (there, not-1, is-2, not-3, on, eq-eqb (x.frame % 512) 0 aligned) at (meets level low e apart) in
                ap (λ (n : ℕ). n + page % 512 * 2 ^ 12 + (count + 2 ^ 5)) (last_entry f made)
                ∙ ap (λ (n : ℕ). n + (count + 2 ^ 5)) (added _ x x.frame (page % 512))
                ∙ rest

-- The bits of a page's number and of a depth.
pub reached : (page depth : ℕ) → depth ≤ 3 → eqb (page / 2 ^ (9 * depth)) 0 ≡ ltb page (2 ^ (9 * depth))
reached page zero l = by (ltb page 1) refl
  where
    by : (b : Bool) → ltb page 1 ≡ b → eqb (page / 1) 0 ≡ ltb page 1
    by true e = rw e (eq-eqb (page / 1) 0 (omega (arith, ltb-true page 1 e)))
    by false e = rw e (ne_eqb (page / 1) 0 (λ q. omega (arith, q, ltb-false page 1 e)))
reached page (suc zero) l = by (ltb page (2 ^ 9)) refl
  where
    by : (b : Bool) → ltb page (2 ^ 9) ≡ b → eqb (page / 2 ^ 9) 0 ≡ ltb page (2 ^ 9)
    by true e = rw e (eq-eqb (page / 2 ^ 9) 0 (omega (arith, ltb-true page (2 ^ 9) e)))
    by false e = rw e (ne_eqb (page / 2 ^ 9) 0 (λ q. omega (arith, q, ltb-false page (2 ^ 9) e)))
reached page (suc (suc zero)) l = by (ltb page (2 ^ 18)) refl
  where
    by : (b : Bool) → ltb page (2 ^ 18) ≡ b → eqb (page / 2 ^ 18) 0 ≡ ltb page (2 ^ 18)
    by true e = rw e (eq-eqb (page / 2 ^ 18) 0 (omega (arith, ltb-true page (2 ^ 18) e)))
    by false e = rw e (ne_eqb (page / 2 ^ 18) 0 (λ q. omega (arith, q, ltb-false page (2 ^ 18) e)))
reached page (suc (suc (suc zero))) l = by (ltb page (2 ^ 27)) refl
  where
    by : (b : Bool) → ltb page (2 ^ 27) ≡ b → eqb (page / 2 ^ 27) 0 ≡ ltb page (2 ^ 27)
    by true e = rw e (eq-eqb (page / 2 ^ 27) 0 (omega (arith, ltb-true page (2 ^ 27) e)))
    by false e = rw e (ne_eqb (page / 2 ^ 27) 0 (λ q. omega (arith, q, ltb-false page (2 ^ 27) e)))
reached page (suc (suc (suc (suc depth)))) l = absurd (omega arith)

module _ (page depth : ℕ) (most : depth ≤ 3) (b : Bool) (asked : b ≡ ltb page (2 ^ (9 * depth))) where
  pub few-bits-asked : b ≡ true → page / 2 ^ (9 * depth) ≡ 0
  few-bits-asked few = eqb-true (page / 2 ^ (9 * depth)) 0 (reached page depth most ∙ sym asked ∙ few)

  pub many-bits-asked : b ≡ false → page / 2 ^ (9 * depth) ≡ 0 → ⊥
  many-bits-asked many = eqb-false (page / 2 ^ (9 * depth)) 0 (reached page depth most ∙ sym asked ∙ many)

-- The flat entry of a walk has nothing in bits 5 to 11 either.
either-low : (b : Bool) (x y : Walk) → x.flat % 2 ^ 12 < 2 ^ 5 → y.flat % 2 ^ 12 < 2 ^ 5 → (cond b x y).flat % 2 ^ 12 < 2 ^ 5
either-low true x y p q = p
either-low false x y p q = q

large-entry-low : (rights : Rights) (x : Fields) (page : ℕ) → large_entry rights x page % 2 ^ 12 < 2 ^ 5
unfolding large_entry
large-entry-low rights x page = by (eqb (x.frame % 2 ^ 9) 0)
  where
    by : (b : Bool) → cond b (flat_entry rights x (x.frame + page % 2 ^ 9)) 0 % 2 ^ 12 < 2 ^ 5
    by true = flat-low rights x (x.frame + page % 2 ^ 9)
    by false = omega arith

onward-low : (level page : ℕ) (rights : Rights) (entry : ℕ) (down : Rights → ℕ → Walk) (e : Option Fields)
    → ((these : Rights) (next : ℕ) → (down these next).flat % 2 ^ 12 < 2 ^ 5) → (onward level page rights entry down e).flat % 2 ^ 12 < 2 ^ 5
unfolding onward
onward-low level page rights entry down None h = omega arith
onward-low level page rights entry down (Some x) h =
    let these : Rights = gathered level rights x in
    either-low (eqb level 1) _ _ (flat-low these x x.frame)
    (either-low (both (eqb level 2) (bit 7 entry)) _ _ (large-entry-low these x page) (h these x.frame))

walk-low : (words : List ℕ) (page level : ℕ) (rights : Rights) (number : ℕ) → (walk_from words page level rights number).flat % 2 ^ 12 < 2 ^ 5
unfolding walk_from meeting
walk-low words page zero rights number = omega arith
walk-low words page (suc lower) rights number =
    let entry : ℕ = get_or words (number * 512 + place_above lower page) 0 in
    either-low (ltb number (tables_in words)) _ _
    (onward-low (suc lower) page rights entry (λ these next. walk_from words page lower these next) (taken_apart entry) (λ these next.
    walk-low words page lower these next)) (omega arith)

-- A flat entry and a count, beside each other in one word.
module _ (f n : ℕ) (low : f % 2 ^ 12 < 2 ^ 5) (few : n ≤ 3) where
  abbrev beside : ℕ
  beside = f + n * 2 ^ 5

  beside-flat : beside / 2 ^ 7 * 2 ^ 7 + beside % 2 ^ 5 ≡ f
  beside-flat = omega arith

  beside-count : beside / 2 ^ 5 % 4 ≡ n
  beside-count = omega arith

  beside-high : beside / 2 ^ 12 ≡ f / 2 ^ 12
  beside-high = omega arith

  beside-apart : taken_apart beside ≡ taken_apart f
  beside-apart =
      apart-same beside f (omega arith) (ap (λ (x : ℕ). x % 2 ^ 40) beside-high)
      (high beside ∙ ap (λ (x : ℕ). x / 2 ^ 40 % 2 ^ 11) beside-high ∙ sym (high f)) (top beside ∙ ap (λ (x : ℕ). x / 2 ^ 51) beside-high ∙ sym (top f))
    where
      high : (x : ℕ) → x / 2 ^ 52 % 2 ^ 11 ≡ x / 2 ^ 12 / 2 ^ 40 % 2 ^ 11
      high x = omega arith

      top : (x : ℕ) → x / 2 ^ 63 ≡ x / 2 ^ 12 / 2 ^ 51
      top x = omega arith

-- From the root, of a tree in order.
abbrev done : ℕ × ℕ → Answer
done numbers = Ok numbers

module _ (words : List ℕ) (root depth page : ℕ) (most : depth ≤ 3) (b : Bool) (asked : b ≡ ltb page (2 ^ (9 * depth))) where
  abbrev tree : Tree
  tree = tree_of words root depth

  abbrev from-root : Walk
  from-root = walk_from words page depth (rights_by (2 ^ 64 - 1) 0) root

  walk_none : b ≡ false → walk_of tree page ≡ ending 0
  unfolding walk_of
  walk_none many = rw (sym asked ∙ many)

  walk-some : b ≡ true → walk_of tree page ≡ from-root
  unfolding walk_of rights_by bit
  walk-some few = rw (sym asked ∙ few)

  pub none_apart : b ≡ false → taken_apart 0 ≡ taken_apart (flat_at tree page)
  unfolding flat_at
  none_apart many = ap (λ (w : Walk). taken_apart w.flat) (sym (walk_none many))

  pub none-walked : b ≡ false → done (0, 0) ≡ done (flat_at tree page, reads_at tree page)
  unfolding flat_at reads_at
  none-walked many = ap (λ (w : Walk). done (w.flat, length w.met)) (sym (walk_none many))

  module _ (few : b ≡ true) (r : ℕ) (walked : r ≡ walk_word from-root + 0) where
    low : from-root.flat % 2 ^ 12 < 2 ^ 5
    low = walk-low words page depth (rights_by (2 ^ 64 - 1) 0) root

    reads : length from-root.met ≤ 3
    reads = let n = reads-from words page depth (rights_by (2 ^ 64 - 1) 0) root in omega (arith, n)

    made : r ≡ beside from-root.flat (length from-root.met) low reads
    unfolding walk_word
    made = omega (arith, walked)

    pub word-apart : taken_apart r ≡ taken_apart (flat_at tree page)
    unfolding flat_at
    word-apart =
        ap taken_apart made ∙ beside-apart from-root.flat (length from-root.met) low reads ∙ ap (λ (w : Walk). taken_apart w.flat) (sym (walk-some few))

    pub word-walked : done (r / 2 ^ 7 * 2 ^ 7 + r % 2 ^ 5, r / 2 ^ 5 % 4) ≡ done (flat_at tree page, reads_at tree page)
    unfolding flat_at reads_at
    word-walked =
        ap (λ (x : ℕ). done (x / 2 ^ 7 * 2 ^ 7 + x % 2 ^ 5, x / 2 ^ 5 % 4)) made
        ∙ ap₂ (λ (x y : ℕ). done (x, y)) (beside-flat from-root.flat (length from-root.met) low reads)
        (beside-count from-root.flat (length from-root.met) low reads)
        ∙ ap (λ (w : Walk). done (w.flat, length w.met)) (sym (walk-some few))
