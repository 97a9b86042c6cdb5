-- Demand 3: what is always true of a one-page guard, and that everything it is told keeps it so. The frames that kernel code may be fetched
-- from are a predicate throughout.
use Prim.Native.Nat.{ℕ, ◌≤◌, ◌<◌}
use mathlib.Core.Bool.{Bool, true, false, cond, true≢false, false≢true}
use mathlib.Core.Path.{◌≡◌, refl, sym, ◌∙◌}
use lib.Dec.{eqb}
use native.Mathlib.Omega.{arith}
use borrow.Author.Tests.{ne_eqb}
use Rattle.model.specs.declared.Fields.{Fields}
use Rattle.model.specs.Basics.{bit, both, either}
use Rattle.model.specs.Guard.{none}
use Rattle.model.specs.Policy.{Policy}
use Rattle.model.specs.Bits.{present, no_execute, frame_of, approved_mark, fields_of, approved_no_execute, approved, ordinary_no_execute, ordinary, inspected}
use Rattle.model.specs.Sync.{rules, Slot, slot}
use Rattle.model.specs.Switch.{no_execute_in}
use Rattle.model.specs.Approvals.{maps, committed_slot}
use Rattle.laws.proofs.SyncLaws.{cond_cases, step-cases}
use Rattle.claim.specs.OnePage.{Page, with_slot, with_pair, News, synchronised, entered, exited, asked, committed, dropped, nothing, switched_page, stepped}
use Rattle.claim.specs.OnePage.{asked_page, committed_page, dropped_page, told}
use Rattle.laws.proofs.BitLaws.{approved_mark-approved, frame_of-approved, approved_mark-ordinary, no_execute-ordinary, present-switched, approved_mark-switched}
use Rattle.laws.proofs.BitLaws.{frame_of-switched, no_execute-switched}

-- A good page: its approval, if it has one, is a frame of code; an entry with bits 0 and 10 has its approval for its frame; and in kernel
-- mode an entry with bit 0 set and bit 63 clear has bit 10.
pub record Good (code : ℕ → Bool) (page : Page) : Type 0 where
  pub approval : eqb page.approval none ≡ false → code page.approval ≡ true
  pub marked : present page.entry ≡ true → approved_mark page.entry ≡ true → eqb page.approval none ≡ false
  pub frame : present page.entry ≡ true → approved_mark page.entry ≡ true → frame_of page.entry ≡ page.approval
  pub executable : page.user ≡ false → present page.entry ≡ true → no_execute page.entry ≡ false → approved_mark page.entry ≡ true

-- In kernel mode, what may be fetched is code.
pub good-code : (code : ℕ → Bool) (page : Page) → Good code page → page.user ≡ false → present page.entry ≡ true
    → no_execute page.entry ≡ false → code (frame_of page.entry) ≡ true
good-code code page h user there clear =
    let mark : approved_mark page.entry ≡ true = h.executable user there clear in
    rw (h.frame there mark) (h.approval (h.marked there mark))

-- A yes and a no of one question.
both_ways : {A : Type 0} (b : Bool) → b ≡ true → b ≡ false → A
both_ways b p q = absurd (true≢false (sym p ∙ q))

-- The page that a step leaves, by the three kinds of entry that it may have.
module _ (code : ℕ → Bool) (page : Page) where
  pub good-absent : (a : ℕ) → (eqb a none ≡ false → code a ≡ true) → Good code (with_slot page (slot 0 a))
  unfolding present bit
  good-absent a h =
      record {
        approval = h;
        marked = λ p q. absurd (false≢true p);
        frame = λ p q. absurd (false≢true p);
        executable = λ u p q. absurd (false≢true p);
      }

  pub good-approved : (f : ℕ) → code f ≡ true → f < 4096 → Good code (with_slot page (slot (approved page.user f) f))
  good-approved f h l =
      record {
        approval = λ p. h;
        marked = λ p q. ne_eqb f none (λ e. omega arith);
        frame = λ p q. frame_of-approved page.user f (omega arith);
        executable = λ u p q. approved_mark-approved page.user f;
      }

  good-ordinary : (x : Fields) (a : ℕ) → x.frame < 4096 → (eqb a none ≡ false → code a ≡ true)
      → Good code (with_slot page (slot (ordinary page.user x) a))
  unfolding ordinary_no_execute
  good-ordinary x a l h =
      record {
        approval = h;
        marked = λ p q. both_ways _ q (approved_mark-ordinary page.user x);
        frame = λ p q. both_ways _ q (approved_mark-ordinary page.user x);
        executable = λ u p q. both_ways _ (no_execute-ordinary page.user x (omega arith) ∙ (rw u refl)) q;
      }

-- A synchronisation keeps a page good, if code is below F and every excluded frame but the pending one is code.
pub stepped-good : (policy : Policy) (code : ℕ → Bool) (page : Page) (k : ℕ) → policy.frames ≤ 4096
    → ((f : ℕ) → code f ≡ true → f < policy.frames) → ((f : ℕ) → page.excluded f ≡ true → eqb f page.pending ≡ false → code f ≡ true)
    → Good code page → Good code (stepped policy page k)
unfolding stepped fields_of inspected
stepped-good policy code page k most below excluded h =
    step-cases (λ p. Good code (with_slot page p)) (rules page.user policy.frames page.pending page.excluded) k page.approval
    (good-absent code page page.approval h.approval)
    (λ e. good-approved code page page.approval (h.approval e) (omega (arith, below page.approval (h.approval e))))
    (λ p l e. good-ordinary code page (inspected (fields_of k)) page.approval (omega arith) h.approval)
    (λ l o e. good-approved code page (frame_of k) (excluded (frame_of k) e o) (omega arith))
    (λ p l o e. good-ordinary code page (fields_of k) page.approval (omega arith) h.approval)

-- In kernel mode the rule for bit 63 clears it for an approved mark only.
clear-marked : (entry : ℕ) → no_execute_in false entry ≡ false → approved_mark entry ≡ true
unfolding no_execute_in ordinary_no_execute
clear-marked entry q = at (approved_mark entry) q
  where
    at : (b : Bool) → cond b (approved_no_execute false) true ≡ false → b ≡ true
    at true q = refl
    at false q = absurd (true≢false q)

-- A mode switch keeps a page good.
pub switched-good : (user : Bool) (code : ℕ → Bool) (page : Page) → Good code page → Good code (switched_page user page)
unfolding switched_page
switched-good user code page h =
    record {
      approval = h.approval;
      marked = λ p q. h.marked (rw present-switched at p) (rw approved_mark-switched at q);
      frame = λ p q. frame_of-switched user page.entry ∙ h.frame (rw present-switched at p) (rw approved_mark-switched at q);
      executable = λ u p q.
          let ruled : no_execute_in user page.entry ≡ false = sym (no_execute-switched user page.entry (rw present-switched at p)) ∙ q in
          rw approved_mark-switched (clear-marked page.entry (rw u at ruled));
    }

-- Other excluded frames and another pending one keep a page good, and so does more code.
pub good-pair : (code : ℕ → Bool) (page : Page) (excluded : ℕ → Bool) (pending : ℕ) (own : Bool) → Good code page
    → Good code (with_pair page excluded pending own)
good-pair code page excluded pending own h =
    record { approval = h.approval; marked = h.marked; frame = h.frame; executable = h.executable }

pub good_more : (code code' : ℕ → Bool) (page : Page) → ((f : ℕ) → code f ≡ true → code' f ≡ true) → Good code page → Good code' page
good_more code code' page more h =
    record { approval = λ e. more page.approval (h.approval e); marked = h.marked; frame = h.frame; executable = h.executable }

-- A commit keeps a page good, if the pending frame is code.
committed-good : (code : ℕ → Bool) (page : Page) → code page.pending ≡ true → page.pending < 4096 → Good code page → Good code (committed_page page)
unfolding committed_page committed_slot
committed-good code page is small h =
    good-pair code _ page.excluded none false
    (cond_cases (λ (p : Slot). Good code (with_slot page p)) (either page.own (both (eqb page.approval none) (maps page.pending page.entry)))
    (λ e. good-approved code page page.pending is small) (λ e. h))

-- What a commit needs besides: that the pending frame is code then.
abbrev pub Allows : (ℕ → Bool) → Page → News → Type 0
Allows code page (synchronised k) = Unit {0}
Allows code page entered = Unit {0}
Allows code page exited = Unit {0}
Allows code page (asked own frame) = Unit {0}
Allows code page committed = code page.pending ≡ true
Allows code page dropped = Unit {0}
Allows code page nothing = Unit {0}

-- Everything that a one-page guard is told keeps it good.
pub told-good : (policy : Policy) (code : ℕ → Bool) (page : Page) (n : News) → policy.frames ≤ 4096
    → ((f : ℕ) → code f ≡ true → f < policy.frames) → ((f : ℕ) → page.excluded f ≡ true → eqb f page.pending ≡ false → code f ≡ true)
    → Allows code page n → Good code page → Good code (told policy page n)
unfolding told asked_page dropped_page
told-good policy code page (synchronised k) most below excluded allows h = stepped-good policy code page k most below excluded h
told-good policy code page entered most below excluded allows h = switched-good false code page h
told-good policy code page exited most below excluded allows h = switched-good true code page h
told-good policy code page (asked own frame) most below excluded allows h = good-pair code page _ _ _ h
told-good policy code page committed most below excluded allows h = committed-good code page allows (omega (arith, below page.pending allows)) h
told-good policy code page dropped most below excluded allows h = good-pair code page _ _ _ h
told-good policy code page nothing most below excluded allows h = h
