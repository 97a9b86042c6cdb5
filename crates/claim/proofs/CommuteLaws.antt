-- Demand 3: an accepted call does to each page what its one-page guard is told, and keeps what always holds.
use Rattle.std.specs.Prelude.{None, Option}
use Prim.Native.Nat.{ℕ, ◌≤◌, ◌<◌}
use mathlib.Core.Bool.{Bool, true, false, cond, true≢false}
use mathlib.Core.List.{List}
use mathlib.Core.Path.{◌≡◌, refl, sym, ap, subst, fun_ext, ◌∙◌}
use lib.ListN.{length, get_or, length-set, get_or-eq_default}
use lib.Seq.{get_or-set_same, get_or-set_other}
use lib.Dec.{ltb, eqb}
use native.Mathlib.Nat.{add-zero}
use native.Mathlib.Omega.{arith}
use borrow.Author.Tests.{lt-ltb, ltb-true, ltb-false, eq-eqb, eqb-true, eqb-false}
use Rattle.model.specs.Guard.{pair}
use Rattle.model.specs.declared.Pending.{Pending}
use Rattle.model.specs.declared.Mode.{Mode}
use Rattle.model.specs.declared.Mode.TheVariants.{Kernel, User}
use Rattle.model.specs.Basics.{bit, both, either}
use Rattle.model.specs.Bits.{present}
use Rattle.model.specs.Guard.{none, Tables, with_shadow, with_map, Guard, guard_of, has_bit, vector_of, with_bit, in_user, running, mode_of, is_pending}
use Rattle.model.specs.Guard.{pending_frame, is_asked}
use Rattle.model.specs.Guard.{in_mode, with_pending}
use Rattle.model.specs.Policy.{Policy, named}
use Rattle.model.specs.Tree.{flat_at}
use Rattle.model.specs.Sync.{Slot, slot, step, entry_in, step_from, Sweep, sweep_from}
use Rattle.model.specs.Switch.{switched_all}
use Rattle.model.specs.Questions.{View, pending_in_range}
use Rattle.model.specs.Calls.{Call, sync_page, sync_all, sync_page_tree, sync_all_tree, fetch, write, enter, leave, device_write, ask, commit, drop, settle}
use Rattle.model.specs.Calls.{questions_of, rules_of, page_synced, all_synced, page_from, all_from, switch_to, bit_put, pair_committed, effect_of}
use Rattle.claim.specs.CallKinds.{term_change_of}
use Rattle.claim.specs.OnePage.{Page, with_pair, synchronised, nothing, reached_in, seen_by, settled, stepped, switched_page, excluded_with, asked_page}
use Rattle.claim.specs.OnePage.{committed_page, dropped_page, told, news_of_one, news_of_all, news}
use Rattle.model.specs.Approvals.{maps, committed_slot}
use Rattle.claim.specs.Terms.{Terms, pending_term, after_drop, term_after, terms_after, in_term, is_committed, protected, code}
use Rattle.laws.proofs.QuestionLaws.{both_yes, either_second}
use Rattle.laws.proofs.StateLaws.{in_user-mode_of, running-mode_of, state-parts, frames-few, mode-fits, pending-fits}
use Rattle.claim.proofs.PageLaws.{Good, good_more, Allows, told-good}
use Rattle.laws.proofs.SweepLaws.{sweep-shadow-length, sweep-map-length, sweep-at}
use Rattle.laws.proofs.SwitchLaws.{length-switched, switched-at}
use Rattle.laws.proofs.AcceptedLaws.{sync_page-page, sync_page_tree-page, fetch-page, enter-page, leave-page, ask-page, ask-frame, ask-first, ask-free}
use Rattle.laws.proofs.AcceptedLaws.{commit-pending, drop-pending}
use Rattle.laws.proofs.VectorLaws.{byte-below, has_bit-with_bit, with_bit-vector_of, vector_of-same}
use Rattle.claim.proofs.TermLaws.{is_waiting, awaited, commit-in, commit-over, commit-code, drop-over, drop-in, drop-out, drop_code, term-code, code-term}
use Rattle.claim.proofs.TermLaws.{term-named, awaited-none, awaited-is, awaited-other, pending-below, asked-below, waiting-in, drop-less}
use Rattle.claim.proofs.Invariant.{Invariant, page_of, exclusion-length, excluded-is, code_below}

module _ (policy : Policy) (terms : Terms) (g : Guard) (h : Invariant policy terms g) where
  -- A synchronised page is as its one-page guard is told, if the tables have the step's slot at it.
  stepped-at : (shadow map : List ℕ) (p k : ℕ)
      → get_or shadow p 0 ≡ (step (rules_of g.state g.tables.exclusion) k (get_or g.tables.map p none)).entry
      → get_or map p none ≡ (step (rules_of g.state g.tables.exclusion) k (get_or g.tables.map p none)).approval
      → stepped policy (page_of g p) k ≡ page_of (guard_of g.state (with_shadow shadow (with_map map g.tables))) p
  unfolding stepped
  stepped-at shadow map p k entry approval = rw (← h.frames, entry, approval)

  -- Past V no table has a page, and other tables of the same lengths show none either.
  past-kept : (shadow map : List ℕ) (p : ℕ) → policy.pages ≤ p → length shadow ≡ policy.pages → length map ≡ policy.pages
      → page_of g p ≡ page_of (guard_of g.state (with_shadow shadow (with_map map g.tables))) p
  past-kept shadow map p past shadow_length map_length =
      let entry : get_or g.tables.shadow p 0 ≡ 0 = get_or-eq_default g.tables.shadow 0 (omega (arith, h.shadow_length)) in
      let approval : get_or g.tables.map p none ≡ none = get_or-eq_default g.tables.map none (omega (arith, h.map_length)) in
      let entry' : get_or shadow p 0 ≡ 0 = get_or-eq_default shadow 0 (omega arith) in
      let approval' : get_or map p none ≡ none = get_or-eq_default map none (omega arith) in
      rw (entry, approval, entry', approval') refl

  -- Of what gives each page its kernel entry: the page of a synchronise, and every other page.
  module _ (kernel : ℕ → ℕ) where
    one-here : (page : ℕ) → page < policy.pages → stepped policy (page_of g page) (kernel page) ≡ page_of (page_from g kernel page).guard page
    unfolding page_from page_synced step_from
    one-here page below =
        let after : Guard = (page_from g kernel page).guard in
        stepped-at after.tables.shadow after.tables.map page (kernel page) (get_or-set_same g.tables.shadow page _ 0 (omega (arith, h.shadow_length)))
        (get_or-set_same g.tables.map page _ none (omega (arith, h.map_length)))

    one-other : (page p : ℕ) → (p ≡ page → ⊥) → page_of g p ≡ page_of (page_from g kernel page).guard p
    unfolding page_from page_synced step_from
    one-other page p other = rw (get_or-set_other g.tables.shadow page p _ 0 other, get_or-set_other g.tables.map page p _ none other)

    one-commutes : (page : ℕ) → page < policy.pages → (p : ℕ)
        → told policy (page_of g p) (news_of_one p kernel page) ≡ page_of (page_from g kernel page).guard p
    unfolding news_of_one told
    one-commutes page below p = at (eqb p page) refl
      where
        at : (b : Bool) → eqb p page ≡ b
            → told policy (page_of g p) (cond b (synchronised (kernel p)) nothing) ≡ page_of (page_from g kernel page).guard p
        at true e = rw (eqb-true p page e) (one-here page below)
        at false e = one-other page p (eqb-false p page e)

    all-commutes : (p : ℕ) → told policy (page_of g p) (news_of_all policy p kernel) ≡ page_of (all_from g kernel).guard p
    unfolding news_of_all told all_from all_synced step_from
    all-commutes p = at (ltb p policy.pages) refl
      where
        f : ℕ → ℕ → ℕ → Slot
        f = step_from (rules_of g.state g.tables.exclusion) kernel

        after : Sweep
        after = sweep_from f 0 g.tables.shadow g.tables.map

        at : (b : Bool) → ltb p policy.pages ≡ b
            → told policy (page_of g p) (cond b (synchronised (kernel p)) nothing) ≡ page_of (all_from g kernel).guard p
        at true e =
            let below : p < policy.pages = ltb-true p policy.pages e in
            let there =
            rw add-zero at (sweep-at f 0 g.tables.shadow g.tables.map p 0 none (omega (arith, h.shadow_length)) (omega (arith, h.map_length))) in
            stepped-at after.shadow after.map p (kernel p) there.0 there.1
        at false e =
            past-kept after.shadow after.map p (ltb-false p policy.pages e)
            (sweep-shadow-length f 0 g.tables.shadow g.tables.map ∙ h.shadow_length)
            (sweep-map-length f 0 g.tables.shadow g.tables.map ∙ h.map_length)

  -- The pending pair is below V and F.
  pair_fits : pending_in_range policy.pages policy.frames g.state.pending ≡ true
  pair_fits = rw (h.pages, h.frames) at (state-parts g.state h.fits).pending

  pub pending-small : is_pending g.state.pending ≡ true → pending_frame g.state.pending < policy.frames
  pending-small = pending-below policy.pages policy.frames g.state.pending pair_fits

  -- A frame below F has a bit, and a frame's bit set or cleared is told as that frame excluded, or not.
  bit-put : (b : Bool) (frame : ℕ) → frame < policy.frames → (f : ℕ)
      → has_bit (with_bit b g.tables.exclusion frame) f ≡ excluded_with b frame (has_bit g.tables.exclusion) f
  unfolding excluded_with
  bit-put b frame small = has_bit-with_bit b g.tables.exclusion frame (rw (exclusion-length policy terms g h) (byte-below policy.frames frame small))

  bit-commutes : (b : Bool) (frame : ℕ) (pending : Option Pending) (p : ℕ) → frame < policy.frames
      → with_pair (page_of g p) (excluded_with b frame (has_bit g.tables.exclusion)) (pending_frame pending) (is_asked pending p)
      ≡ page_of (bit_put g b frame pending).guard p
  unfolding bit_put with_pending
  bit-commutes b frame pending p small = rw (fun_ext (bit-put b frame small)) refl

  -- A commit, of a page below V and past it, where no page was asked for.
  committing : ℕ → ℕ → ℕ → Slot
  committing q entry approval = committed_slot (in_user g.state.mode) (pending_frame g.state.pending) (is_asked g.state.pending q) entry approval

  past-unasked : (p : ℕ) → policy.pages ≤ p → is_asked g.state.pending p ≡ false
  past-unasked p past = by (is_asked g.state.pending p) refl
    where
      by : (b : Bool) → is_asked g.state.pending p ≡ b → b ≡ false
      by true e = absurd (omega (arith, asked-below policy.pages policy.frames g.state.pending pair_fits p e))
      by false e = refl

  past-slot : (p : ℕ) → policy.pages ≤ p → committing p 0 none ≡ slot 0 none
  unfolding committing committed_slot maps either both present bit
  past-slot p past = rw (past-unasked p past) refl

  commit-commutes : (p : ℕ) → committed_page (page_of g p) ≡ page_of (pair_committed g).guard p
  unfolding committing committed_page pair_committed with_pending pending_frame is_asked
  commit-commutes p = at (ltb p policy.pages) refl
    where
      f : ℕ → ℕ → ℕ → Slot
      f = committing

      after : Sweep
      after = sweep_from f 0 g.tables.shadow g.tables.map

      at : (b : Bool) → ltb p policy.pages ≡ b → committed_page (page_of g p) ≡ page_of (pair_committed g).guard p
      at true e =
          let below : p < policy.pages = ltb-true p policy.pages e in
          let there =
          rw add-zero at (sweep-at f 0 g.tables.shadow g.tables.map p 0 none (omega (arith, h.shadow_length)) (omega (arith, h.map_length))) in
          rw (there.0, there.1) refl
      at false e =
          let past : policy.pages ≤ p = ltb-false p policy.pages e in
          let entry : get_or g.tables.shadow p 0 ≡ 0 = get_or-eq_default g.tables.shadow 0 (omega (arith, h.shadow_length)) in
          let approval : get_or g.tables.map p none ≡ none = get_or-eq_default g.tables.map none (omega (arith, h.map_length)) in
          let entry' : get_or after.shadow p 0 ≡ 0 =
          get_or-eq_default after.shadow 0 (omega (arith, sweep-shadow-length f 0 g.tables.shadow g.tables.map, h.shadow_length)) in
          let approval' : get_or after.map p none ≡ none =
          get_or-eq_default after.map none (omega (arith, sweep-map-length f 0 g.tables.shadow g.tables.map, h.map_length)) in
          rw (entry, approval, entry', approval', past-slot p past) refl

  -- Each accepted call, as the one-page guards are told of it.
  pub commutes : (call : Call) → settled policy (page_of g) (reached_in g) call ≡ 0 → (p : ℕ)
      → told policy (page_of g p) (news policy p call) ≡ page_of (effect_of g call).guard p
  unfolding news told settled questions_of effect_of switch_to in_mode in_user switched_page asked_page dropped_page pending_frame is_asked
  commutes (sync_page kernel page) passed p =
      one-commutes (entry_in kernel) page (sync_page-page (seen_by policy (page_of g) (reached_in g)) (length kernel) page passed) p
  commutes (sync_all kernel) passed p = all-commutes (entry_in kernel) p
  commutes (sync_page_tree tree page) passed p = one-commutes (flat_at tree) page (sync_page_tree-page (seen_by policy (page_of g) (reached_in g)) tree page passed) p
  commutes (sync_all_tree tree) passed p = all-commutes (flat_at tree) p
  commutes (fetch page) passed p = rw in_user-mode_of
  commutes (write address size) passed p = refl
  commutes (enter index) passed p = rw switched-at
  commutes (leave page) passed p = rw switched-at
  commutes (device_write devices device address size) passed p = refl
  commutes (ask page frame) passed p = bit-commutes true frame (pair page frame) p (ask-frame (seen_by policy (page_of g) (reached_in g)) page frame passed)
  commutes commit passed p = commit-commutes p
  commutes drop passed p =
      bit-commutes false (pending_frame g.state.pending) None p (pending-small (drop-pending (seen_by policy (page_of g) (reached_in g)) passed))

  -- Every page stays good, where there is as much code as before and the pending frame is code after a commit.
  pub most : policy.frames ≤ 4096
  most = rw h.frames at (frames-few g.state h.fits)

  joins-code : (f : ℕ) → has_bit g.tables.exclusion f ≡ true → eqb f (pending_frame g.state.pending) ≡ false → code policy terms f ≡ true
  unfolding code protected
  joins-code f e other =
      term-code (named policy f) (terms f) (sym (excluded-is policy terms g h f) ∙ e) (h.waiting f ∙ awaited-other g.state.pending f other)

  good-with : (code' : ℕ → Bool) → ((f : ℕ) → code policy terms f ≡ true → code' f ≡ true) → ((f : ℕ) → code' f ≡ true → f < policy.frames)
      → (call : Call) → settled policy (page_of g) (reached_in g) call ≡ 0 → ((p : ℕ) → Allows code' (page_of g p) (news policy p call))
      → (p : ℕ) → Good code' (page_of (effect_of g call).guard p)
  good-with code' more below' call passed allows p =
      subst (Good code') (commutes call passed p)
      (told-good policy code' (page_of g p) (news policy p call) most below' (λ f e other. more f (joins-code f e other)) (allows p)
      (good_more (code policy terms) code' (page_of g p) more (h.good p)))

  good-after : (call : Call) → settled policy (page_of g) (reached_in g) call ≡ 0 → ((p : ℕ) → Allows (code policy terms) (page_of g p) (news policy p call))
      → (p : ℕ) → Good (code policy terms) (page_of (effect_of g call).guard p)
  good-after = good-with (code policy terms) (λ f e. e) (code_below policy terms g h)

  allows-sync : (page : Page) (b : Bool) (k : ℕ) → Allows (code policy terms) page (cond b (synchronised k) nothing)
  allows-sync page true k = tt
  allows-sync page false k = tt

  allows-one : (kernel : ℕ → ℕ) (page p : ℕ) → Allows (code policy terms) (page_of g p) (news_of_one p kernel page)
  unfolding news_of_one
  allows-one kernel page p = allows-sync (page_of g p) (eqb p page) (kernel p)

  allows-all : (kernel : ℕ → ℕ) (p : ℕ) → Allows (code policy terms) (page_of g p) (news_of_all policy p kernel)
  unfolding news_of_all
  allows-all kernel p = allows-sync (page_of g p) (ltb p policy.pages) (kernel p)

  -- What always holds is kept by another mode on a page below V and by tables of the same lengths, if every page stays good.
  kept-with : (mode : Mode) (shadow map : List ℕ) → running mode < policy.pages → length shadow ≡ policy.pages → length map ≡ policy.pages
      → let after : Guard = guard_of (in_mode g.state mode) (with_shadow shadow (with_map map g.tables)) in
      ((p : ℕ) → Good (code policy terms) (page_of after p)) → Invariant policy terms after
  unfolding in_mode
  kept-with mode shadow map runs shadow_length map_length good =
      record {
        pages = h.pages;
        frames = h.frames;
        entry_count = h.entry_count;
        entry_pages = h.entry_pages;
        fits = mode-fits g.state mode h.fits (rw h.pages runs);
        shadow_length = shadow_length;
        map_length = map_length;
        exclusion = h.exclusion;
        below = h.below;
        waiting = h.waiting;
        unnamed = h.unnamed;
        good = good;
      }

  -- And by another pair, or none, with tables of the same lengths, if what is said of frames holds with the terms then.
  kept_pair : (terms' : Terms) (pending : Option Pending) (t : Tables) → pending_in_range policy.pages policy.frames pending ≡ true
      → length t.shadow ≡ length g.tables.shadow → length t.map ≡ length g.tables.map
      → t.exclusion ≡ vector_of policy.frames (protected policy terms') → ((f : ℕ) → protected policy terms' f ≡ true → f < policy.frames)
      → ((f : ℕ) → is_waiting (terms' f) ≡ awaited pending f) → ((f : ℕ) → is_waiting (terms' f) ≡ true → named policy f ≡ false)
      → let after : Guard = guard_of (with_pending g.state pending) t in
      ((p : ℕ) → Good (code policy terms') (page_of after p)) → Invariant policy terms' after
  unfolding with_pending
  kept_pair terms' pending t fits shadow_length map_length exclusion below waiting unnamed good =
      record {
        pages = h.pages;
        frames = h.frames;
        entry_count = h.entry_count;
        entry_pages = h.entry_pages;
        fits = pending-fits g.state pending h.fits (rw (h.pages, h.frames) fits);
        shadow_length = shadow_length ∙ h.shadow_length;
        map_length = map_length ∙ h.map_length;
        exclusion = exclusion;
        below = below;
        waiting = waiting;
        unnamed = unnamed;
        good = good;
      }

  now-runs : running g.state.mode < policy.pages
  now-runs = rw h.pages at (state-parts g.state h.fits).running-below

  -- A synchronisation keeps it.
  one_kept : (kernel : ℕ → ℕ) (page : ℕ) → ((p : ℕ) → Good (code policy terms) (page_of (page_from g kernel page).guard p))
      → Invariant policy terms (page_from g kernel page).guard
  unfolding page_from page_synced in_mode
  one_kept kernel page good =
      kept-with g.state.mode _ _ now-runs (length-set g.tables.shadow page _ ∙ h.shadow_length) (length-set g.tables.map page _ ∙ h.map_length) good

  all-kept : (kernel : ℕ → ℕ) → ((p : ℕ) → Good (code policy terms) (page_of (all_from g kernel).guard p)) → Invariant policy terms (all_from g kernel).guard
  unfolding all_from all_synced in_mode
  all-kept kernel good =
      kept-with g.state.mode _ _ now-runs (sweep-shadow-length _ 0 g.tables.shadow g.tables.map ∙ h.shadow_length)
      (sweep-map-length _ 0 g.tables.shadow g.tables.map ∙ h.map_length) good

  -- The pending frame is protected.
  pending-protected : is_pending g.state.pending ≡ true → protected policy terms (pending_frame g.state.pending) ≡ true
  unfolding protected
  pending-protected there =
      let frame : ℕ = pending_frame g.state.pending in
      either_second (named policy frame) (waiting-in (terms frame) (h.waiting frame ∙ awaited-is g.state.pending frame there ∙ eq-eqb frame frame refl))

  -- A frame's bit set or cleared in the exclusion vector, if that is what becomes of the protected frames.
  vector-put : (b : Bool) (frame : ℕ) (terms' : Terms) → frame < policy.frames
      → ((f : ℕ) → cond (eqb f frame) b (protected policy terms f) ≡ protected policy terms' f)
      → with_bit b g.tables.exclusion frame ≡ vector_of policy.frames (protected policy terms')
  vector-put b frame terms' small same =
      rw h.exclusion (with_bit-vector_of b policy.frames (protected policy terms) frame small ∙ vector_of-same policy.frames _ _ same)

  -- Every accepted call keeps what always holds.
  pub kept : (call : Call) → settled policy (page_of g) (reached_in g) call ≡ 0 → Invariant policy (terms_after 0 call terms) (effect_of g call).guard
  unfolding terms_after term_after term_change_of settle news settled questions_of effect_of page_from all_from page_synced all_synced switch_to
      bit_put pair_committed in_mode running in_user pending_in_range is_waiting awaited protected code in_term is_committed either excluded_with
  kept (sync_page kernel page) passed = one_kept (entry_in kernel) page (good-after (sync_page kernel page) passed (allows-one (entry_in kernel) page))
  kept (sync_all kernel) passed = all-kept (entry_in kernel) (good-after (sync_all kernel) passed (allows-all (entry_in kernel)))
  kept (sync_page_tree tree page) passed = one_kept (flat_at tree) page (good-after (sync_page_tree tree page) passed (allows-one (flat_at tree) page))
  kept (sync_all_tree tree) passed = all-kept (flat_at tree) (good-after (sync_all_tree tree) passed (allows-all (flat_at tree)))
  kept (fetch page) passed =
      kept-with (mode_of (in_user g.state.mode) page) g.tables.shadow g.tables.map
      (rw running-mode_of (fetch-page (seen_by policy (page_of g) (reached_in g)) page passed)) h.shadow_length h.map_length
      (good-after (fetch page) passed (λ p. tt))
  kept (write address size) passed = h
  kept (enter index) passed =
      kept-with (Kernel (get_or g.state.entry_pages index 0)) (switched_all false g.tables.shadow) g.tables.map
      (rw h.entry_pages (enter-page (seen_by policy (page_of g) (reached_in g)) index passed)) (length-switched false g.tables.shadow ∙ h.shadow_length)
      h.map_length (good-after (enter index) passed (λ p. tt))
  kept (leave page) passed =
      kept-with (User page) (switched_all true g.tables.shadow) g.tables.map (leave-page (seen_by policy (page_of g) (reached_in g)) page passed)
      (length-switched true g.tables.shadow ∙ h.shadow_length)
      h.map_length (good-after (leave page) passed (λ p. tt))
  kept (device_write devices device address size) passed = h
  kept (ask page frame) passed =
      kept_pair after (pair page frame) _ pair-in refl refl (vector-put true frame after small protects) below waiting unnamed
      (good-with _ more (λ f c. below f (code-term (named policy f) (after f) c)) (ask page frame) passed (λ p. tt))
    where
      v : View
      v = seen_by policy (page_of g) (reached_in g)

      after : Terms
      after = terms_after 0 (ask page frame) terms

      small : frame < policy.frames
      small = ask-frame v page frame passed

      pair-in : pending_in_range policy.pages policy.frames (pair page frame) ≡ true
      pair-in = both_yes (lt-ltb page policy.pages (ask-page v page frame passed)) (lt-ltb frame policy.frames small)

      free : protected policy terms frame ≡ false
      free = sym (excluded-is policy terms g h frame) ∙ ask-free v page frame passed

      protects : (f : ℕ) → cond (eqb f frame) true (protected policy terms f) ≡ either (named policy f) (in_term (cond (eqb f frame) pending_term (terms f)))
      protects f = by (eqb f frame)
        where
          by : (b : Bool) → cond b true (protected policy terms f) ≡ either (named policy f) (in_term (cond b pending_term (terms f)))
          by true = sym (either_second (named policy f) refl)
          by false = refl

      waiting : (f : ℕ) → is_waiting (cond (eqb f frame) pending_term (terms f)) ≡ eqb f frame
      waiting f = by (eqb f frame)
        where
          by : (b : Bool) → is_waiting (cond b pending_term (terms f)) ≡ b
          by true = refl
          by false = h.waiting f ∙ awaited-none g.state.pending f (ask-first v page frame passed)

      unnamed : (f : ℕ) → is_waiting (cond (eqb f frame) pending_term (terms f)) ≡ true → named policy f ≡ false
      unnamed f w =
          rw (eqb-true f frame (sym (waiting f) ∙ w)) (term-named (named policy frame) (terms frame) free)

      below : (f : ℕ) → protected policy after f ≡ true → f < policy.frames
      below f = by (eqb f frame) refl
        where
          by : (b : Bool) → eqb f frame ≡ b → either (named policy f) (in_term (cond b pending_term (terms f))) ≡ true → f < policy.frames
          by true e c = rw (eqb-true f frame e) small
          by false e c = h.below f c

      more : (f : ℕ) → code policy terms f ≡ true → code policy after f ≡ true
      more f = by (eqb f frame) refl
        where
          by : (b : Bool) → eqb f frame ≡ b → code policy terms f ≡ true → either (named policy f) (is_committed (cond b pending_term (terms f))) ≡ true
          by true e c = absurd (true≢false (sym (rw (eqb-true f frame e) at (code-term (named policy f) (terms f) c)) ∙ free))
          by false e c = c
  kept commit passed =
      kept_pair after None _ refl (sweep-shadow-length _ 0 g.tables.shadow g.tables.map) (sweep-map-length _ 0 g.tables.shadow g.tables.map)
      (h.exclusion ∙ vector_of-same policy.frames _ _ (λ f. sym (protects f))) (λ f c. h.below f (sym (protects f) ∙ c)) (λ f. commit-over (terms f))
      (λ f w. absurd (true≢false (sym w ∙ commit-over (terms f))))
      (good-with _ more (λ f c. h.below f (sym (code_is f) ∙ c)) commit passed (λ p. now-code))
    where
      after : Terms
      after = terms_after 0 commit terms

      protects : (f : ℕ) → protected policy after f ≡ protected policy terms f
      protects f = ap (either (named policy f)) (commit-in (terms f))

      code_is : (f : ℕ) → code policy after f ≡ protected policy terms f
      code_is f = ap (either (named policy f)) (commit-code (terms f))

      more : (f : ℕ) → code policy terms f ≡ true → code policy after f ≡ true
      more f c = code_is f ∙ code-term (named policy f) (terms f) c

      there : is_pending g.state.pending ≡ true
      there = commit-pending (seen_by policy (page_of g) (reached_in g)) passed

      now-code : code policy after (pending_frame g.state.pending) ≡ true
      now-code = code_is _ ∙ pending-protected there
  kept drop passed =
      kept_pair after None _ refl refl refl (vector-put false frame after (pending-small there) protects) below (λ f. drop-over (terms f))
      (λ f w. absurd (true≢false (sym w ∙ drop-over (terms f))))
      (good-with _ (λ f c. code_is f ∙ c) (λ f c. code_below policy terms g h f (sym (code_is f) ∙ c)) drop passed (λ p. tt))
    where
      after : Terms
      after = terms_after 0 drop terms

      frame : ℕ
      frame = pending_frame g.state.pending

      there : is_pending g.state.pending ≡ true
      there = drop-pending (seen_by policy (page_of g) (reached_in g)) passed

      code_is : (f : ℕ) → code policy after f ≡ code policy terms f
      code_is f = ap (either (named policy f)) (drop_code (terms f))

      protects : (f : ℕ) → cond (eqb f frame) false (protected policy terms f) ≡ either (named policy f) (in_term (after_drop (terms f)))
      protects f = by (eqb f frame) (h.waiting f ∙ awaited-is g.state.pending f there)
        where
          by : (b : Bool) → is_waiting (terms f) ≡ b → cond b false (protected policy terms f) ≡ either (named policy f) (in_term (after_drop (terms f)))
          by true w = sym (rw (h.unnamed f w) (drop-out (terms f) w))
          by false w = sym (ap (either (named policy f)) (drop-in (terms f) w))

      below : (f : ℕ) → protected policy after f ≡ true → f < policy.frames
      below f c = h.below f (drop-less (named policy f) (terms f) c)
