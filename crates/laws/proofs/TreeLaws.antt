-- K4: laws of a walk's reads, and of a tree's calls beside those of the flat table of its walks.
use Rattle.std.specs.Prelude.{None, Some, Option}
use Prim.Native.Nat.{ℕ, zero, suc, ◌+◌, ◌*◌, ◌^◌, ◌≤◌, ◌<◌}
use mathlib.Core.Bool.{Bool, true, false, cond}
use mathlib.Core.List.{List, [], ◌∷◌}
use mathlib.Core.Path.{◌≡◌, refl, ap, ◌∙◌}
use lib.Dec.{ltb, eqb}
use lib.ListN.{length, get_or}
use native.Mathlib.Omega.{arith}
use borrow.Author.Tests.{eq-eqb, eqb-true, lt-ltb, ltb-true}
use Rattle.model.specs.declared.Fields.{Fields}
use Rattle.model.specs.Basics.{both, either, bit}
use Rattle.model.specs.Guard.{Guard}
use Rattle.model.specs.Bits.{taken_apart}
use Rattle.model.specs.Tree.{Tree, tables_in, tree_in_order, place_above, Rights, all_rights, Walk, meeting, onward, walk_from, walk_of, flat_at, reads_at}
use Rattle.model.specs.Sync.{Slot, sweep_from, entry_in, step_from}
use Rattle.model.specs.Questions.{Question, question, first_no, seen, in_order, sync_all_questions, sync_page_questions, sync_all_tree_questions, sync_page_tree_questions}
use Rattle.model.specs.Calls.{settle, refused_of, Call, sync_page, sync_all, sync_page_tree, sync_all_tree, brought_by, questions_of, all_synced, page_from, all_from}
use Rattle.model.specs.Calls.{effect_of, answer}
use Rattle.model.specs.Walks.{flat_table}
use Rattle.laws.specs.Trees.{ReadsWithin, InOrder, TreeAsFlat, guard_fits, TreeRefused}
use Rattle.laws.proofs.QuestionLaws.{both_yes, both_first, both-second, within-yes, within_low, within-high}
use Rattle.laws.proofs.QuestionLaws.{asked, numbered, all_yes, first_no-yes, first_no-no}
use Rattle.laws.proofs.StateLaws.{in_order_lem}
use Rattle.laws.proofs.CallLaws.{settle-refused-by}
use Rattle.laws.proofs.AcceptedLaws.{sync_page_tree-page}
use Rattle.laws.proofs.TableLaws.{length-table, get_or-table}

-- A choice of two walks meets no more entries than each of them may.
either-reads : (limit : ℕ) (b : Bool) (x y : Walk) → length x.met ≤ limit → length y.met ≤ limit → length (cond b x y).met ≤ limit
either-reads limit true x y p q = p
either-reads limit false x y p q = q

-- What follows an entry meets no more entries than the walk below does.
onward-reads : (level page limit : ℕ) (rights : Rights) (entry : ℕ) (down : Rights → ℕ → Walk) (e : Option Fields)
    → ((these : Rights) (next : ℕ) → length (down these next).met ≤ limit) → length (onward level page rights entry down e).met ≤ limit
unfolding onward
onward-reads level page limit rights entry down None h = omega arith
onward-reads level page limit rights entry down (Some x) h =
    either-reads limit (eqb level 1) _ _ (omega arith) (either-reads limit (both (eqb level 2) (bit 7 entry)) _ _ (omega arith) (h _ x.frame))

pub reads-from : (words : List ℕ) (page level : ℕ) (rights : Rights) (number : ℕ) → length (walk_from words page level rights number).met ≤ level
unfolding walk_from meeting
reads-from words page zero rights number = omega arith
reads-from words page (suc lower) rights number =
    let entry : ℕ = get_or words (number * 512 + place_above lower page) 0 in
    let rest = onward-reads (suc lower) page lower rights entry (λ these next. walk_from words page lower these next) (taken_apart entry)
    (λ these next. reads-from words page lower these next) in
    either-reads (suc lower) (ltb number (tables_in words)) _ _ (omega (arith, rest)) (omega arith)

pub reads-within : ReadsWithin
unfolding reads_at walk_of
reads-within tree page =
    either-reads tree.depth (ltb page (2 ^ (9 * tree.depth))) _ _ (reads-from tree.words page tree.depth all_rights tree.root) (omega arith)

-- A page of the flat table.
flat-entry : (tree : Tree) (pages page : ℕ) → page < pages → entry_in (flat_table tree pages) page ≡ flat_at tree page
unfolding flat_table
flat-entry tree pages page l = get_or-table pages (flat_at tree) page 0 l

-- Two sweeps are one where their steps agree at each page that they go over.
sweep-same : (f f' : ℕ → ℕ → ℕ → Slot) (page : ℕ) (shadow map : List ℕ) → ((p s m : ℕ) → p < length shadow + page → f p s m ≡ f' p s m)
    → sweep_from f page shadow map ≡ sweep_from f' page shadow map
unfolding sweep_from
sweep-same f f' page [] map h = refl
sweep-same f f' page (s ∷ shadow) [] h = refl
sweep-same f f' page (s ∷ shadow) (m ∷ map) h =
    rw (h page s m (omega arith), sweep-same f f' (suc page) shadow map (λ p s m l. h p s m (omega arith)))

-- Two accepted calls with one list of questions are one where they do the same.
settle-same : {A : Type 0} (n : ℕ) (done done' : A) (refusal : ℕ → A) → (n ≡ 0 → done ≡ done') → settle n done refusal ≡ settle n done' refusal
unfolding settle
settle-same zero done done' refusal h = h refl
settle-same (suc n) done done' refusal h = refl

module _ (g : Guard) (tree : Tree) (fits : tree_in_order tree ≡ true) where
  abbrev flats : List ℕ
  flats = flat_table tree g.state.pages

  -- A flat table has V entries, so that question 7 says of it what it says of the other tables alone.
  long : eqb (length flats) g.state.pages ≡ true
  unfolding flat_table
  long = eq-eqb _ _ (length-table g.state.pages (flat_at tree))

  all-questions : first_no (sync_all_tree_questions (seen g) tree) ≡ first_no (sync_all_questions (seen g) (length flats))
  unfolding sync_all_tree_questions sync_all_questions in_order first_no both
  all-questions = rw (fits, long)

  page-questions : (page : ℕ) → first_no (sync_page_tree_questions (seen g) tree page) ≡ first_no (sync_page_questions (seen g) (length flats) page)
  unfolding sync_page_tree_questions sync_page_questions in_order first_no both
  page-questions page = rw (fits, long)

  shadow-long : first_no (sync_all_tree_questions (seen g) tree) ≡ 0 → length g.tables.shadow ≡ g.state.pages
  unfolding sync_all_tree_questions asked numbered either both
  shadow-long passed =
      eqb-true _ _ (in_order_lem _ _ (both_first _ _ (all_yes 7 (sync_all_tree_questions (seen g) tree) refl passed))).1.0

  pub page-as-flat : (page : ℕ) → answer g (sync_page_tree tree page) ≡ answer g (sync_page flats page)
  unfolding answer questions_of effect_of brought_by page_from step_from
  page-as-flat page =
      settle-same (first_no (sync_page_tree_questions (seen g) tree page)) _ _ _ (λ passed.
      rw (flat-entry tree g.state.pages page (sync_page_tree-page (seen g) tree page passed)))
      ∙ ap (λ n. settle n (effect_of g (sync_page flats page)) (refused_of g (brought_by (sync_page flats page)))) (page-questions page)

  pub all-as-flat : answer g (sync_all_tree tree) ≡ answer g (sync_all flats)
  unfolding answer questions_of effect_of brought_by all_from step_from
  all-as-flat =
      settle-same (first_no (sync_all_tree_questions (seen g) tree)) _ _ _ (λ passed.
      ap (all_synced g)
      (sweep-same _ _ 0 g.tables.shadow g.tables.map (λ p s m l.
      let below : p < g.state.pages = omega (arith, shadow-long passed) in
      rw (flat-entry tree g.state.pages p below))))
      ∙ ap (λ n. settle n (effect_of g (sync_all flats)) (refused_of g (brought_by (sync_all flats)))) all-questions

-- What 17 asks, in numbers.
order-asked : (tree : Tree) → InOrder tree → tree_in_order tree ≡ true
unfolding tree_in_order tables_in
order-asked tree o =
    both_yes (eq-eqb _ _ o.whole) (both_yes (within-yes 1 3 tree.depth o.shallowest o.deepest) (lt-ltb _ _ o.inside))

asked-order : (tree : Tree) → tree_in_order tree ≡ true → InOrder tree
unfolding tree_in_order tables_in
asked-order tree p =
    let rest = both-second _ _ p in
    record {
      whole = eqb-true _ _ (both_first _ _ p);
      shallowest = within_low 1 3 tree.depth (both_first _ _ rest);
      deepest = within-high 1 3 tree.depth (both_first _ _ rest);
      inside = ltb-true _ _ (both-second _ _ rest);
    }

not-asked : (tree : Tree) (b : Bool) → tree_in_order tree ≡ b → (InOrder tree → ⊥) → tree_in_order tree ≡ false
not-asked tree true p never = absurd (never (asked-order tree p))
not-asked tree false p never = p

pub tree-as-flat : TreeAsFlat
tree-as-flat g tree o = let fits : tree_in_order tree ≡ true = order-asked tree o in (page-as-flat g tree fits, all-as-flat g tree fits)

-- Where 17 is answered no, it refuses, or 7 before it.
module _ (g : Guard) (call : Call) (qs : List Question) where
  refused-7-17 : (fits : Bool) → first_no (questions_of (seen g) call) ≡ first_no (question 7 fits ∷ question 17 false ∷ qs)
      → answer g call ≡ refused_of g (brought_by call) (cond fits 17 7)
  unfolding answer
  refused-7-17 true e = settle-refused-by 17 _ _ (λ z. omega arith) (e ∙ first_no-yes 7 _ refl ∙ first_no-no 17 qs refl)
  refused-7-17 false e = settle-refused-by 7 _ _ (λ z. omega arith) (e ∙ first_no-no 7 _ refl)

pub tree-refused : TreeRefused
unfolding questions_of sync_page_tree_questions sync_all_tree_questions guard_fits
tree-refused g tree never = let unfit : tree_in_order tree ≡ false = not-asked tree (tree_in_order tree) refl never in (
  λ page. refused-7-17 g (sync_page_tree tree page) (question 9 (ltb page g.state.pages) ∷ []) (guard_fits g) (rw unfit),
  refused-7-17 g (sync_all_tree tree) [] (guard_fits g) (rw unfit),
)
