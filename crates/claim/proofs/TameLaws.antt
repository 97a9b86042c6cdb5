-- What is true of every page's entry in the shadow table, and that everything a one-page guard is told keeps it so.
use Prim.Native.Nat.{ℕ, ◌≤◌, ◌<◌}
use mathlib.Core.Bool.{Bool, true, false, cond, true≢false, false≢true}
use mathlib.Core.Path.{◌≡◌, refl, sym, ◌∙◌}
use lib.Dec.{ltb, eqb}
use lib.ListN.{get_or, get_or-eq_default}
use native.Mathlib.Omega.{arith}
use borrow.Author.Tests.{ltb-true, ltb-false}
use Rattle.model.specs.declared.Fields.{Fields}
use Rattle.model.specs.Basics.{bit, both, either}
use Rattle.model.specs.Guard.{none, Guard, has_bit}
use Rattle.model.specs.Policy.{Policy, named}
use Rattle.model.specs.Bits.{present, writable, user_bit, no_execute, frame_of, kernel_no_execute, approved_mark, fields_of, approved_no_execute, approved}
use Rattle.model.specs.Bits.{ordinary_no_execute, ordinary, inspected}
use Rattle.model.specs.Sync.{rules, Slot, slot, entry_in}
use Rattle.model.specs.Switch.{no_execute_in}
use Rattle.model.specs.Approvals.{maps, maps_writable, committed_slot}
use Rattle.model.specs.Tree.{flat_at}
use Rattle.model.specs.Calls.{Call, sync_page, sync_all, sync_page_tree, sync_all_tree, fetch, write, enter, leave, device_write, ask, commit, drop}
use Rattle.model.specs.Calls.{settle, questions_of}
use Rattle.claim.specs.CallKinds.{term_change_of}
use Rattle.claim.specs.OnePage.{Page, with_slot, with_pair, News, synchronised, entered, exited, asked, committed, dropped, nothing}
use Rattle.claim.specs.OnePage.{switched_page, stepped, asked_page, committed_page, dropped_page, told, news_of_one, news_of_all, news}
use Rattle.claim.specs.OnePage.{reached_in, seen_by, settled, pages_after}
use Rattle.claim.specs.Terms.{Terms, term_after, terms_after, protected}
use Rattle.laws.proofs.QuestionLaws.{both_yes}
use Rattle.laws.proofs.SyncLaws.{cond_cases, step-cases}
use Rattle.laws.proofs.AcceptedLaws.{ask-unmapped, commit-pending}
use Rattle.laws.proofs.BitLaws.{present-approved, frame_of-approved, no_execute-approved, approved-none, approved_mark-ordinary, no_execute-ordinary}
use Rattle.laws.proofs.BitLaws.{kernel_no_execute-ordinary, present-ordinary, frame_of-ordinary, writable-ordinary, user_bit-ordinary, switch-keeps}
use Rattle.laws.proofs.BitLaws.{present-switched, approved_mark-switched, frame_of-switched, switched-absent, no_execute-switched}
use Rattle.claim.proofs.KindLaws.{Changing, keeps, asks, commits, drops, kinds}
use Rattle.claim.proofs.TermLaws.{commit-in, drop-none}
use Rattle.claim.proofs.Invariant.{Invariant, page_of, excluded-is, code_below}
use Rattle.claim.proofs.CommuteLaws.{most, pending-small}

-- A page whose entry does no harm, by the protected frames: beside what kernel mode may execute, which a good page has.
pub record Tame (frames : ℕ) (guarded : ℕ → Bool) (page : Page) : Type 0 where
  pub absent : present page.entry ≡ false → page.entry ≡ 0
  pub below : present page.entry ≡ true → frame_of page.entry < frames
  pub unguarded : present page.entry ≡ true → writable page.entry ≡ true → guarded (frame_of page.entry) ≡ false
  pub user_runs : page.user ≡ true → present page.entry ≡ true → no_execute page.entry ≡ false
      → (user_bit page.entry ≡ true) × (kernel_no_execute page.entry ≡ false) × (approved_mark page.entry ≡ false)

-- In user mode the rule of an ordinary entry leaves executable what has bit 2 and not bit 9.
user-runs : (bit9 bit2 : Bool) → ordinary_no_execute true bit9 bit2 ≡ false → (bit2 ≡ true) × (bit9 ≡ false)
unfolding ordinary_no_execute either
user-runs true bit2 p = absurd (true≢false p)
user-runs false true p = (refl, refl)
user-runs false false p = absurd (true≢false p)

-- The page that a step leaves, by the three kinds of entry that it may have.
module _ (frames : ℕ) (most : frames ≤ 4096) (guarded : ℕ → Bool) (page : Page) where
  pub tame-absent : (a : ℕ) → Tame frames guarded (with_slot page (slot 0 a))
  unfolding present bit
  tame-absent a =
      record {
        absent = λ p. refl;
        below = λ p. absurd (false≢true p);
        unguarded = λ p w. absurd (false≢true p);
        user_runs = λ u p x. absurd (false≢true p);
      }

  -- An approved entry is not writable, and not executable in user mode.
  pub tame-approved : (f a : ℕ) → f < frames → Tame frames guarded (with_slot page (slot (approved page.user f) a))
  unfolding writable
  tame-approved f a l =
      record {
        absent = λ p. absurd (true≢false (sym (present-approved page.user f) ∙ p));
        below = λ p. rw (frame_of-approved page.user f (omega arith)) l;
        unguarded = λ p w. absurd (true≢false (sym w ∙ approved-none page.user f 1 (omega arith) (omega arith)));
        user_runs = λ u p x. absurd (true≢false (sym u ∙ sym (no_execute-approved page.user f (omega arith)) ∙ x));
      }

  -- An ordinary entry is writable where its frame is not guarded.
  tame-ordinary : (x : Fields) (a : ℕ) → x.frame < frames → (x.writable ≡ true → guarded x.frame ≡ false)
      → Tame frames guarded (with_slot page (slot (ordinary page.user x) a))
  tame-ordinary x a l free =
      let frame : frame_of (ordinary page.user x) ≡ x.frame = frame_of-ordinary page.user x (omega arith) in
      record {
        absent = λ p. absurd (true≢false (sym (present-ordinary page.user x) ∙ p));
        below = λ p. rw frame l;
        unguarded = λ p w. rw frame (free (sym (writable-ordinary page.user x) ∙ w));
        user_runs = λ u p e.
            let runs = user-runs x.no_execute x.user (rw u at (sym (no_execute-ordinary page.user x (omega arith)) ∙ e)) in (
              user_bit-ordinary page.user x ∙ runs.0,
              kernel_no_execute-ordinary page.user x ∙ runs.1,
              approved_mark-ordinary page.user x,
            );
      }

-- A synchronisation: step 3 keeps a frame below F, and steps 4 and 5 and the rule of a pending frame leave writable what no one excludes.
stepped-tame : (policy : Policy) (guarded : ℕ → Bool) (page : Page) (k : ℕ) → policy.frames ≤ 4096
    → (eqb page.approval none ≡ false → page.approval < policy.frames) → ((f : ℕ) → page.excluded f ≡ false → guarded f ≡ false)
    → Tame policy.frames guarded (stepped policy page k)
unfolding stepped fields_of inspected
stepped-tame policy guarded page k most small free =
    step-cases (λ p. Tame policy.frames guarded (with_slot page p)) (rules page.user policy.frames page.pending page.excluded) k page.approval
    (tame-absent policy.frames most guarded page page.approval)
    (λ e. tame-approved policy.frames most guarded page page.approval page.approval (small e))
    (λ p l e. tame-ordinary policy.frames most guarded page (inspected (fields_of k)) page.approval l (λ w. absurd (false≢true w)))
    (λ l o e. tame-approved policy.frames most guarded page (frame_of k) (frame_of k) l)
    (λ p l o e. tame-ordinary policy.frames most guarded page (fields_of k) page.approval l (λ w. free (frame_of k) e))

-- A mode switch sets bit 63 by its rule, and keeps every other bit.
switched-runs : (entry : ℕ) → no_execute_in true entry ≡ false → (user_bit entry ≡ true) × (kernel_no_execute entry ≡ false) × (approved_mark entry ≡ false)
unfolding no_execute_in approved_no_execute
switched-runs entry q = by (approved_mark entry) refl q
  where
    by : (b : Bool) → approved_mark entry ≡ b → cond b true (ordinary_no_execute true (kernel_no_execute entry) (user_bit entry)) ≡ false
        → (user_bit entry ≡ true) × (kernel_no_execute entry ≡ false) × (approved_mark entry ≡ false)
    by true e q = absurd (true≢false q)
    by false e q = let runs = user-runs (kernel_no_execute entry) (user_bit entry) q in (runs.0, runs.1, e)

switched-tame : (user : Bool) (frames : ℕ) (guarded : ℕ → Bool) (page : Page) → Tame frames guarded page → Tame frames guarded (switched_page user page)
unfolding switched_page writable user_bit kernel_no_execute
switched-tame user frames guarded page h =
    record {
      absent = λ p.
          let gone : present page.entry ≡ false = rw present-switched at p in
          rw (switched-absent user page.entry gone) (h.absent gone);
      below = λ p. rw frame_of-switched (h.below (rw present-switched at p));
      unguarded = λ p w. rw frame_of-switched (h.unguarded (rw present-switched at p) (sym (switch-keeps user page.entry 1 (omega arith)) ∙ w));
      user_runs = λ u p x.
          let ruled : no_execute_in user page.entry ≡ false = sym (no_execute-switched user page.entry (rw present-switched at p)) ∙ x in
          let runs = switched-runs page.entry (rw u at ruled) in (
            switch-keeps user page.entry 2 (omega arith) ∙ runs.0,
            switch-keeps user page.entry 9 (omega arith) ∙ runs.1,
            approved_mark-switched user page.entry ∙ runs.2,
          );
    }

-- Other excluded frames and another pending one keep a page so, and so do other protected frames, if a writable entry's is none of them.
tame-pair : (frames : ℕ) (guarded : ℕ → Bool) (page : Page) (excluded : ℕ → Bool) (pending : ℕ) (own : Bool) → Tame frames guarded page
    → Tame frames guarded (with_pair page excluded pending own)
tame-pair frames guarded page excluded pending own h =
    record { absent = h.absent; below = h.below; unguarded = h.unguarded; user_runs = h.user_runs }

tame-guarded : (frames : ℕ) (guarded guarded' : ℕ → Bool) (page : Page)
    → (present page.entry ≡ true → writable page.entry ≡ true → guarded (frame_of page.entry) ≡ false → guarded' (frame_of page.entry) ≡ false)
    → Tame frames guarded page → Tame frames guarded' page
tame-guarded frames guarded guarded' page still h =
    record { absent = h.absent; below = h.below; unguarded = λ p w. still p w (h.unguarded p w); user_runs = h.user_runs }

-- What a synchronisation and a commit need besides: that no other frame is guarded than the excluded ones, and that the pending frame is below F.
abbrev Needs : ℕ → (ℕ → Bool) → Page → News → Type 0
Needs frames guarded page (synchronised k) = (f : ℕ) → page.excluded f ≡ false → guarded f ≡ false
Needs frames guarded page entered = Unit {0}
Needs frames guarded page exited = Unit {0}
Needs frames guarded page (asked own frame) = Unit {0}
Needs frames guarded page committed = page.pending < frames
Needs frames guarded page dropped = Unit {0}
Needs frames guarded page nothing = Unit {0}

-- Everything that a one-page guard is told keeps its page so.
told-tame : (policy : Policy) (guarded : ℕ → Bool) (page : Page) (n : News) → policy.frames ≤ 4096
    → (eqb page.approval none ≡ false → page.approval < policy.frames) → Needs policy.frames guarded page n
    → Tame policy.frames guarded page → Tame policy.frames guarded (told policy page n)
unfolding told asked_page committed_page committed_slot dropped_page
told-tame policy guarded page (synchronised k) most small needs h = stepped-tame policy guarded page k most small needs
told-tame policy guarded page entered most small needs h = switched-tame false policy.frames guarded page h
told-tame policy guarded page exited most small needs h = switched-tame true policy.frames guarded page h
told-tame policy guarded page (asked own frame) most small needs h = tame-pair policy.frames guarded page _ _ _ h
told-tame policy guarded page committed most small needs h =
    tame-pair policy.frames guarded _ page.excluded none false
    (cond_cases (λ (p : Slot). Tame policy.frames guarded (with_slot page p))
    (either page.own (both (eqb page.approval none) (maps page.pending page.entry)))
    (λ e. tame-approved policy.frames most guarded page page.pending page.pending needs) (λ e. h))
told-tame policy guarded page dropped most small needs h = tame-pair policy.frames guarded page _ _ _ h
told-tame policy guarded page nothing most small needs h = h

-- The guard: every page is so.
abbrev pub AllTame : Policy → Terms → Guard → Type 0
AllTame policy terms g = (p : ℕ) → Tame policy.frames (protected policy terms) (page_of g p)

module _ (policy : Policy) (terms : Terms) (g : Guard) (h : Invariant policy terms g) where
  abbrev guarded : ℕ → Bool
  guarded = protected policy terms

  free : (f : ℕ) → has_bit g.tables.exclusion f ≡ false → guarded f ≡ false
  free f e = sym (excluded-is policy terms g h f) ∙ e

  needs-sync : (p : ℕ) (b : Bool) (k : ℕ) → Needs policy.frames guarded (page_of g p) (cond b (synchronised k) nothing)
  needs-sync p true k = free
  needs-sync p false k = tt

  needs : (call : Call) → settled policy (page_of g) (reached_in g) call ≡ 0 → (p : ℕ) → Needs policy.frames guarded (page_of g p) (news policy p call)
  unfolding news news_of_one news_of_all settled questions_of
  needs (sync_page kernel page) passed p = needs-sync p (eqb p page) (entry_in kernel p)
  needs (sync_all kernel) passed p = needs-sync p (ltb p policy.pages) (entry_in kernel p)
  needs (sync_page_tree tree page) passed p = needs-sync p (eqb p page) (flat_at tree p)
  needs (sync_all_tree tree) passed p = needs-sync p (ltb p policy.pages) (flat_at tree p)
  needs (fetch page) passed p = tt
  needs (write address size) passed p = tt
  needs (enter index) passed p = tt
  needs (leave page) passed p = tt
  needs (device_write devices device address size) passed p = tt
  needs (ask page frame) passed p = tt
  needs commit passed p = pending-small policy terms g h (commit-pending (seen_by policy (page_of g) (reached_in g)) passed)
  needs drop passed p = tt

  -- 21: where an ask is accepted, a present entry that is writable has another frame.
  asked-other : (page frame p : ℕ) → settled policy (page_of g) (reached_in g) (ask page frame) ≡ 0 → present (page_of g p).entry ≡ true
      → writable (page_of g p).entry ≡ true → eqb (frame_of (page_of g p).entry) frame ≡ false
  unfolding settled questions_of maps_writable maps both present bit
  asked-other page frame p passed there w = by (ltb p policy.pages) refl
    where
      entry : ℕ
      entry = get_or g.tables.shadow p 0

      at : (b : Bool) → eqb (frame_of entry) frame ≡ b → maps_writable frame entry ≡ false → b ≡ false
      at true e q = sym (both_yes (both_yes there e) w) ∙ q
      at false e q = refl

      by : (b : Bool) → ltb p policy.pages ≡ b → eqb (frame_of entry) frame ≡ false
      by true e = at (eqb (frame_of entry) frame) refl (ask-unmapped (seen_by policy (page_of g) (reached_in g)) page frame passed p (ltb-true p policy.pages e))
      by false e =
          let past : policy.pages ≤ p = ltb-false p policy.pages e in
          let gone : entry ≡ 0 = get_or-eq_default g.tables.shadow 0 (omega (arith, h.shadow_length)) in
          absurd (false≢true (rw gone at there))

  -- What a writable entry's frame is after an accepted call: no new protected one.
  module _ (p : ℕ) where
    abbrev page_then : Call → Page
    page_then call = told policy (page_of g p) (news policy p call)

    abbrev Still : Call → Type 0
    Still call =
        let frame : ℕ = frame_of (page_then call).entry in
        present (page_then call).entry ≡ true → writable (page_then call).entry ≡ true → guarded frame ≡ false
        → protected policy (terms_after 0 call terms) frame ≡ false

    asked-still : (page frame : ℕ) → settled policy (page_of g) (reached_in g) (ask page frame) ≡ 0 → Still (ask page frame)
    unfolding terms_after term_after term_change_of settle protected news told asked_page
    asked-still page frame passed there w q = rw (asked-other page frame p passed there w) q

    still : (call : Call) → settled policy (page_of g) (reached_in g) call ≡ 0 → Still call
    unfolding terms_after term_after term_change_of settle protected
    still call passed = by (kinds call).1
      where
        by : Changing call → Still call
        by (keeps e) = λ there w q. rw e q
        by (asks page frame e) = rw e (asked-still page frame (rw e at passed))
        by (commits e) = λ there w q. rw (e, commit-in) (rw e at q)
        by (drops e) = λ there w q. rw e (drop-none (named policy _) (terms _) (rw e at q))

  -- What the one-page guards make of an accepted call, and so the guard, whose tables show them.
  pub page-tame : AllTame policy terms g → (call : Call) → settled policy (page_of g) (reached_in g) call ≡ 0 → (p : ℕ)
      → Tame policy.frames (protected policy (terms_after 0 call terms)) (pages_after policy 0 call (page_of g) p)
  unfolding pages_after settle
  page-tame tame call passed p =
      tame-guarded policy.frames guarded (protected policy (terms_after 0 call terms)) (page_then p call) (still p call passed)
      (told-tame policy guarded (page_of g p) (news policy p call) (most policy terms g h) (λ e. code_below policy terms g h _ ((h.good p).approval e))
      (needs call passed p) (tame p))
