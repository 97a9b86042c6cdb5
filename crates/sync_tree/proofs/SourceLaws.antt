-- The kernel entries of a run of pages: that each is there, and what each way of reading them gives.
use Prim.Native.Nat.{ℕ, ◌+◌, ◌-◌, ◌*◌, ◌/◌, ◌%◌, ◌^◌, ◌≤◌, ◌<◌}
use mathlib.Core.List.{List}
use mathlib.Core.Path.{◌≡◌, sym, ap, ◌∙◌}
use mathlib.Core.Logic.{◌⊎◌, inl, inr}
use native.Mathlib.Nat.{eq-or-lt_of_le}
use native.Mathlib.Omega.{arith}
use lib.ListN.{length, get_or}
use Rattle.model.specs.Bits.{taken_apart}
use Rattle.model.specs.Tree.{Tree, tables_in, flat_at}
use Rattle.model.specs.Sync.{Rules, Slot, Sweep, sweep, sweep_from, step, step_from}
use Rattle.tree.specs.declared.Part.TheVariants.{Table, Large, Nowhere}
use Rattle.tree.specs.declared.Part.{Part}
use Rattle.tree.specs.Parts.{rights_by, last_flat, flat_in, Sound}
use Rattle.step.specs.Steps.{stored}
use Rattle.sync_tree.specs.Runs.{swept_from}
use Rattle.sync_tree.proofs.AloneLaws.{alone-last}
use Rattle.sync_tree.proofs.RunLaws.{swept-more, swept-over, swept_same, swept-append, all-swept}

-- A step reads an entry as it is taken apart.
pub step_same : (r : Rules) (k k' a : ℕ) → taken_apart k ≡ taken_apart k' → step r k a ≡ step r k' a
unfolding step
step_same r k k' a e = rw e

-- After page i of a run.
pub run_more : (r : Rules) (kernel : ℕ → ℕ) (end i k : ℕ) (shadow map shadow' map' : List ℕ) (changed joined x y : ℕ) (all : Sweep)
    → swept_from (step_from r kernel) i (end - i) (sweep shadow map changed joined) ≡ all → i < end
    → taken_apart k ≡ taken_apart (kernel i)
    → sweep shadow' map' x y ≡ stored i (sweep shadow map changed joined) (step r k (get_or map i 0))
    → swept_from (step_from r kernel) (i + 1) (end - (i + 1)) (sweep shadow' map' x y) ≡ all
unfolding step_from
run_more r kernel end i k shadow map shadow' map' changed joined x y all inv l apart p =
    swept-more (step_from r kernel) i end (sweep shadow map changed joined) (sweep shadow' map' x y) all inv l
    (p ∙ ap (stored i (sweep shadow map changed joined)) (step_same r k _ (get_or map i 0) apart))

-- The kernel entry of a page of a part, for each way in which the part goes on: the low nine bits of a page are its place in the part.
module _ (words : List ℕ) (part : Part) (first page word : ℕ) (begins : first % 512 ≡ 0) (from : first ≤ page) (near : page - first < 512) where
  low_bits : page - first ≡ page % 512
  low_bits = omega arith

  abbrev given : Type 0
  given = taken_apart word ≡ taken_apart (flat_in words part page)

  pub part-table : (number all any : ℕ) → part ≡ Table number all any
      → taken_apart word ≡ taken_apart (last_flat (rights_by all any) (taken_apart (get_or words (number * 512 + (page - first)) 0))) → given
  unfolding flat_in
  part-table number all any goes e = rw goes (rw low_bits at e)

  pub part-large : (entry : ℕ) → part ≡ Large entry → word ≡ entry + (page - first) * 2 ^ 12 → given
  unfolding flat_in
  part-large entry goes e = rw (goes, e, low_bits) (alone-last (entry + page % 512 * 2 ^ 12))

  pub part-nowhere : part ≡ Nowhere → word ≡ 0 → given
  unfolding flat_in
  part-nowhere goes e = rw (goes, e)

-- What a part's pages read is there.
module _ (words : List ℕ) (part : Part) (n : ℕ) (sound : Sound words part) (few-pages : n ≤ 512) where
  pub table-holds : (number all any : ℕ) → part ≡ Table number all any → number * 512 + n ≤ length words
  unfolding tables_in
  table-holds number all any goes = let inside : number < length words / 512 = rw goes at sound in omega arith

-- Past the last page nothing is left.
run_past : (f : ℕ → ℕ → ℕ → Slot) (i j end : ℕ) (r all : Sweep) → swept_from f i (end - i) r ≡ all → end ≤ i → end ≤ j → swept_from f j (end - j) r ≡ all
unfolding swept_from
run_past f i j end r all inv past past' =
    let none : end - j ≡ 0 = omega arith in
    rw none (swept-over f i end r all inv past)

-- After a part, which begins at `first` and ends with its 512 pages or with the last page: the tree gives its pages what the part does.
pub parts_more : (r : Rules) (words : List ℕ) (tree : Tree) (part : Part) (first end pages : ℕ) (before after all : Sweep)
    → swept_from (step_from r (flat_at tree)) first (pages - first) before ≡ all → first ≤ end → end ≤ pages → end - first ≤ 512
    → (end < pages → end ≡ first + 512) → first % 512 ≡ 0
    → ((p : ℕ) → p / 512 ≡ first / 512 → flat_at tree p ≡ flat_in words part p)
    → after ≡ swept_from (step_from r (flat_in words part)) first (end - first) before
    → swept_from (step_from r (flat_at tree)) (first + 512) (pages - (first + 512)) after ≡ all
unfolding step_from
parts_more r words tree part first end pages before after all inv low high few-pages ends begins gives e = at (eq-or-lt_of_le high)
  where
    near : (p : ℕ) → first ≤ p → p < first + (end - first) → p / 512 ≡ first / 512
    near p a b = omega arith

    same : swept_from (step_from r (flat_in words part)) first (end - first) before ≡ swept_from (step_from r (flat_at tree)) first (end - first) before
    same =
        swept_same (step_from r (flat_in words part)) (step_from r (flat_at tree)) first (end - first) before (λ p s m a b.
        ap (λ (k : ℕ). step r k m) (sym (gives p (near p a b))))

    there : swept_from (step_from r (flat_at tree)) end (pages - end) after ≡ all
    there =
        let split : pages - first ≡ (end - first) + (pages - end) = omega arith in
        let place : first + (end - first) ≡ end = omega arith in
        rw (e ∙ same) (rw place at (sym (swept-append (step_from r (flat_at tree)) first (end - first) (pages - end) before)) ∙ (rw split at inv))

    at : (end ≡ pages) ⊎ (end < pages) → swept_from (step_from r (flat_at tree)) (first + 512) (pages - (first + 512)) after ≡ all
    at (inl last) = run_past (step_from r (flat_at tree)) end (first + 512) pages after all there (omega arith) (omega arith)
    at (inr more) = rw (ends more) at there

pub parts-over : (r : Rules) (tree : Tree) (first : ℕ) (shadow map shadow₀ map₀ : List ℕ) (changed joined : ℕ)
    → swept_from (step_from r (flat_at tree)) first (length shadow₀ - first) (sweep shadow map changed joined)
    ≡ swept_from (step_from r (flat_at tree)) 0 (length shadow₀ - 0) (sweep shadow₀ map₀ 0 0)
    → length shadow₀ ≤ first → length map₀ ≡ length shadow₀ → sweep shadow map changed joined ≡ sweep_from (step_from r (flat_at tree)) 0 shadow₀ map₀
parts-over r tree first shadow map shadow₀ map₀ changed joined inv past e =
    let n : length shadow₀ - 0 ≡ length shadow₀ = omega arith in
    all-swept (step_from r (flat_at tree)) shadow₀ map₀ (sweep shadow map changed joined) e
    (rw n at (swept-over (step_from r (flat_at tree)) first (length shadow₀) (sweep shadow map changed joined) _ inv past))
