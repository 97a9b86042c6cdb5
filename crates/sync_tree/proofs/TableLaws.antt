-- A tree of depth 1: its table is the flat table of its pages, as far as entries are taken apart.
use Rattle.std.specs.Prelude.{None, Some, Option}
use Prim.Native.Nat.{ℕ, suc, ◌+◌, ◌-◌, ◌*◌, ◌/◌, ◌^◌, ◌≤◌, ◌<◌}
use mathlib.Core.Bool.{true}
use mathlib.Core.List.{List, [], ◌∷◌}
use mathlib.Core.Path.{◌≡◌, refl, sym, ap, ◌∙◌}
use native.Mathlib.Omega.{arith}
use lib.ListN.{length, get_or, take, drop}
use lib.Seq.{get_or-take, get_or-drop}
use borrow.Author.Tests.{lt-ltb, ltb-true}
use Rattle.model.specs.declared.Fields.{Fields}
use Rattle.model.specs.Bits.{taken_apart}
use Rattle.model.specs.Tree.{tree_of, tables_in, tree_in_order, place_above, Rights, all_rights, Walk, meeting, onward, walk_from, walk_of, flat_at}
use Rattle.model.specs.Sync.{Rules, Slot, Sweep, sweep_from, entry_in, step_from}
use Rattle.laws.proofs.QuestionLaws.{both-second}
use Rattle.tree.specs.declared.given.Tree.{Tree as Given}
use Rattle.tree.specs.Parts.{tree_in}
use Rattle.sync_tree.proofs.AloneLaws.{flat-alone, alone-apart}
use Rattle.sync_tree.proofs.SourceLaws.{step_same}

-- The walk of a page of the table.
last_flat_lem : (p entry : ℕ) (down : Rights → ℕ → Walk) (e : Option Fields) → (onward 1 p all_rights entry down e).flat ≡ flat-alone e
unfolding onward flat-alone
last_flat_lem p entry down None = refl
last_flat_lem p entry down (Some x) = refl

root_in : (words : List ℕ) (root : ℕ) → tree_in_order (tree_of words root 1) ≡ true → root < length words / 512
unfolding tree_in_order tables_in
root_in words root e = ltb-true root (length words / 512) (both-second _ _ (both-second _ _ e))

place : (p : ℕ) → p < 512 → place_above 0 p ≡ p
unfolding place_above
place p l = omega arith

module _ (words : List ℕ) (root p : ℕ) where
  abbrev met : ℕ
  met = get_or words (root * 512 + place_above 0 p) 0

  from-root : p < 512 → walk_of (tree_of words root 1) p ≡ walk_from words p 1 all_rights root
  unfolding walk_of
  from-root l = let small : p < 2 ^ (9 * 1) = omega arith in rw (lt-ltb p (2 ^ (9 * 1)) small)

  in-root : root < length words / 512
      → walk_from words p 1 all_rights root ≡ meeting met (onward 1 p all_rights met (λ these next. walk_from words p 0 these next) (taken_apart met))
  unfolding walk_from tables_in
  in-root h = rw (lt-ltb root (length words / 512) h)

  table-flat : tree_in_order (tree_of words root 1) ≡ true → p < 512
      → flat_at (tree_of words root 1) p ≡ flat-alone (taken_apart (get_or words (root * 512 + p) 0))
  unfolding flat_at meeting
  table-flat e l =
      ap (λ (w : Walk). w.flat) (from-root l ∙ in-root (root_in words root e)) ∙ last_flat_lem p met (λ these next. walk_from words p 0 these next) (taken_apart met)
      ∙ ap (λ (q : ℕ). flat-alone (taken_apart (get_or words (root * 512 + q) 0))) (place p l)

-- Two sweeps are one where their steps agree at each page that they go over.
sweep-same : (f f' : ℕ → ℕ → ℕ → Slot) (page : ℕ) (shadow map : List ℕ) → ((p s m : ℕ) → p < length shadow + page → f p s m ≡ f' p s m)
    → sweep_from f page shadow map ≡ sweep_from f' page shadow map
unfolding sweep_from
sweep-same f f' page [] map h = refl
sweep-same f f' page (s ∷ shadow) [] h = refl
sweep-same f f' page (s ∷ shadow) (m ∷ map) h =
    rw (h page s m (omega arith), sweep-same f f' (suc page) shadow map (λ p s m l. h p s m (omega arith)))

-- The pages of a part of the words.
module _ (words : List ℕ) (root first end n : ℕ) (begins : first ≡ root * 512) (ends : end ≡ first + n) (few : n ≤ 512)
    (fits : tree_in_order (tree_of words root 1) ≡ true) where
  pub table-inside : end ≤ length words
  table-inside = let inside : root < length words / 512 = root_in words root fits in omega (arith, inside)

  abbrev table : List ℕ
  table = take (end - first) (drop first words)

  in_table : (p : ℕ) → p < n → get_or table p 0 ≡ get_or words (root * 512 + p) 0
  in_table p l = let long : p < end - first = omega arith in get_or-take (end - first) (drop first words) p 0 long ∙ rw begins (get_or-drop (root * 512) words p 0)

  page-same : (r : Rules) (p s m : ℕ) → p < n → step_from r (entry_in table) p s m ≡ step_from r (flat_at (tree_of words root 1)) p s m
  unfolding step_from
  page-same r p s m l =
      let small : p < 512 = omega arith in
      step_same r _ _ m
      (ap taken_apart (in_table p l) ∙ sym (alone-apart (get_or words (root * 512 + p) 0)) ∙ sym (ap taken_apart (table-flat words root p fits small)))

  pub table-swept : (r : Rules) (shadow map : List ℕ) (all : Sweep) → length shadow ≡ n → all ≡ sweep_from (step_from r (entry_in table)) 0 shadow map
      → all ≡ sweep_from (step_from r (flat_at (tree_of words root 1))) 0 shadow map
  table-swept r shadow map all long e =
      e ∙ sweep-same (step_from r (entry_in table)) (step_from r (flat_at (tree_of words root 1))) 0 shadow map (λ p s m l. page-same r p s m (omega arith))

-- Depth 1, by the number that the depth is.
module _ (given : Given) (one : given.depth ≡ 1) where
  pub deep_one : tree_in_order (tree_of given.words.now given.root 1) ≡ true
  deep_one = rw one at given.in_order

  pub one-swept : (r : Rules) (shadow map : List ℕ) (all : Sweep)
      → all ≡ sweep_from (step_from r (flat_at (tree_of given.words.now given.root 1))) 0 shadow map
      → all ≡ sweep_from (step_from r (flat_at (tree_in given))) 0 shadow map
  one-swept r shadow map all e = rw one e
