-- Demand 3: an accepted start leaves what always holds, and its tables show the one-page guards as they begin.
use Prim.Native.Nat.{ℕ, suc, ◌≤◌, ◌<◌}
use mathlib.Core.Bool.{Bool, true, false, cond, true≢false, false≢true}
use mathlib.Core.List.{List, [], ◌∷◌}
use mathlib.Core.Logic.{◌⊎◌, inl, inr}
use mathlib.Core.Path.{◌≡◌, refl, sym, ap, subst, fun_ext, ◌∙◌}
use lib.Dec.{leb, ltb, eqb}
use lib.ListN.{length, get_or}
use native.Mathlib.Nat.{suc_inj}
use native.Mathlib.Omega.{arith}
use borrow.Author.Tests.{leb-true, eqb-true, ne_eqb}
use Rattle.model.specs.Basics.{both, either, table, member}
use Rattle.model.specs.Sizes.{pages_in_range, frames_in_range}
use Rattle.model.specs.Guard.{none, Tables, in_user, running, pending_frame, is_asked}
use Rattle.model.specs.Policy.{Givens, Policy, policy_of, frame_for, approval_for, named, first_entry, start_state, start_tables, start_guard}
use Rattle.model.specs.Bits.{approved}
use Rattle.model.specs.Questions.{first_no, pending_in_range, state_in_order, givens_in_range, Lengths, lengths_of, start_questions, rising}
use Rattle.model.specs.Calls.{Outcome, start_of}
use Rattle.claim.specs.OnePage.{Page, index_in, first_page}
use Rattle.claim.specs.Terms.{first_terms, in_term, is_committed, protected, code}
use Rattle.laws.proofs.QuestionLaws.{both_first, both-second, within-yes, settle-accepted, settle-number}
use Rattle.laws.proofs.StateLaws.{state-whole}
use Rattle.laws.proofs.TableLaws.{length-table, past-no, table-read}
use Rattle.laws.proofs.PolicyLaws.{Passed, start-passed, start-given, length-numbers_at, all_below-get_or, all_below-member, member-here, member-there}
use Rattle.laws.proofs.PolicyLaws.{member-later, frame_for-unlisted, frame_for-member}
use Rattle.laws.proofs.VectorLaws.{vector_of-bit, vector_of-same}
use Rattle.claim.proofs.PageLaws.{Good, good-absent, good-approved}
use Rattle.claim.proofs.TermLaws.{is_waiting, awaited}
use Rattle.claim.proofs.Invariant.{Invariant, page_of}

-- The frame listed for a listed page is one of the frames, where there is one for each page.
frame_for-listed : (ps fs : List ℕ) (page other : ℕ) → length ps ≡ length fs → member page ps ≡ true → member (frame_for ps fs page other) fs ≡ true
unfolding frame_for member
frame_for-listed [] fs page other same listed = absurd (false≢true listed)
frame_for-listed (p ∷ ps) [] page other same listed = absurd (omega arith)
frame_for-listed (p ∷ ps) (f ∷ fs) page other same listed =
    at (eqb page p) refl (λ m. frame_for-listed ps fs page other (suc_inj same) m)
  where
    here : (r : ℕ) → (r ≡ f) ⊎ (member r fs ≡ true) → member r (f ∷ fs) ≡ true
    here r (inl e) = member-here r f fs e
    here r (inr m) = member-later r f fs m

    given : Bool → Type 0
    given b = member (frame_for ps fs page (cond b f other)) (f ∷ fs) ≡ true

    at : (b : Bool) → eqb page p ≡ b → (member page ps ≡ true → member (frame_for ps fs page other) fs ≡ true) → given (eqb page p)
    at true e rest = subst given (sym e) (here (frame_for ps fs page f) (frame_for-member ps fs page f))
    at false e rest = subst given (sym e) (member-later (frame_for ps fs page other) f fs (rest (sym (member-there page p ps e) ∙ listed)))

-- A page below all that a rising array still lists is not listed there.
rising-unlisted : (pages least : ℕ) (ps : List ℕ) (page : ℕ) → rising pages least ps ≡ true → page < least → member page ps ≡ false
unfolding rising member either
rising-unlisted pages least [] page up low = refl
rising-unlisted pages least (p ∷ ps) page up low =
    let above : least ≤ p = leb-true least p (both_first _ _ (both_first _ _ up)) in
    rw (ne_eqb page p (λ e. omega arith))
    (rising-unlisted pages (suc p) ps page (both-second (both (leb least p) (ltb p pages)) (rising pages (suc p) ps) up) (omega arith))

-- Of rising pages with a frame each, the frame that the start gives a listed page is the one at the page's own place.
frame_for-own : (pages least : ℕ) (ps fs : List ℕ) (page other : ℕ) → length ps ≡ length fs → rising pages least ps ≡ true → member page ps ≡ true
    → frame_for ps fs page other ≡ get_or fs (index_in page ps) 0
unfolding frame_for member index_in rising
frame_for-own pages least [] fs page other same up there = absurd (false≢true there)
frame_for-own pages least (p ∷ ps) [] page other same up there = absurd (omega arith)
frame_for-own pages least (p ∷ ps) (f ∷ fs) page other same up there =
    at (eqb page p) refl (λ m. frame_for-own pages (suc p) ps fs page other (suc_inj same) later m)
  where
    later : rising pages (suc p) ps ≡ true
    later = both-second (both (leb least p) (ltb p pages)) (rising pages (suc p) ps) up

    at : (b : Bool) → eqb page p ≡ b → (member page ps ≡ true → frame_for ps fs page other ≡ get_or fs (index_in page ps) 0)
        → frame_for ps fs page (cond (eqb page p) f other) ≡ get_or (f ∷ fs) (cond (eqb page p) 0 (suc (index_in page ps))) 0
    at true e rest = rw e (frame_for-unlisted ps fs page f (rising-unlisted pages (suc p) ps page later (omega (arith, eqb-true page p e))))
    at false e rest = rw e (rest (sym (member-there page p ps e) ∙ there))

-- A start with no number passed its questions, and leaves the guard that the policy sets.
module _ (given : Givens) (bytes : List ℕ) (t : Tables) (accepted : (start_of given bytes t).reply.number ≡ 0) where
  pub start-settled : first_no (start_questions given bytes (policy_of bytes) (lengths_of t)) ≡ 0
  unfolding start_of
  start-settled =
      sym (settle-number (λ (o : Outcome). o.reply.number) (first_no (start_questions given bytes (policy_of bytes) (lengths_of t))) _ _ refl (λ k. refl))
      ∙ accepted

  pub start-guard : (start_of given bytes t).guard ≡ start_guard given (policy_of bytes)
  unfolding start_of
  start-guard = ap (λ (o : Outcome). o.guard) (settle-accepted _ _ start-settled)

module _ (given : Givens) (bytes : List ℕ) (l : Lengths) (accepted : first_no (start_questions given bytes (policy_of bytes) l) ≡ 0) where
  abbrev policy : Policy
  policy = policy_of bytes

  -- Whether a page is listed, and the frame that the start gives it.
  abbrev listed : ℕ → Bool
  listed p = member p policy.listed_pages

  abbrev frame : ℕ → ℕ
  frame p = frame_for policy.listed_pages policy.listed_frames p none

  passed : Passed policy
  passed = start-passed given bytes policy l accepted

  pages-length : length policy.listed_pages ≡ policy.count
  unfolding policy_of
  pages-length = length-numbers_at bytes 8 policy.count

  frames-length : length policy.listed_frames ≡ policy.count
  unfolding policy_of
  frames-length = length-numbers_at bytes _ policy.count

  named-below : (f : ℕ) → named policy f ≡ true → f < policy.frames
  unfolding named
  named-below f e = all_below-member policy.frames f policy.listed_frames passed.frames-below e

  start_fits : state_in_order (start_state given policy) ≡ true
  unfolding start_state pages_in_range frames_in_range givens_in_range pending_in_range running
  start_fits =
      state-whole (start_state given policy)
      (record {
        pages = within-yes 1 2048 policy.pages passed.pages-low passed.pages-high;
        frames = within-yes 1 4096 policy.frames passed.frames-low passed.frames-high;
        entry_count = within-yes 1 16 policy.entry_count passed.entry-count-low passed.entry-count-high;
        running-below = all_below-get_or policy.pages policy.listed_pages 0 passed.pages-below (omega (arith, passed.count_low, pages-length));
        devices = start-given given bytes policy l accepted;
        pending = refl;
      })

  -- The frame of a listed page is named in the policy, so it is not 65535. No page past V is listed.
  listed-named : (p : ℕ) → listed p ≡ true → named policy (frame p) ≡ true
  unfolding named
  listed-named p e = frame_for-listed policy.listed_pages policy.listed_frames p none (pages-length ∙ sym frames-length) e

  listed_small : (p : ℕ) → listed p ≡ true → frame p < 4096
  listed_small p e = omega (arith, named-below (frame p) (listed-named p e), passed.frames-high)

  past-unlisted : (p : ℕ) → policy.pages ≤ p → listed p ≡ false
  past-unlisted = past-no listed policy.pages (λ p e. all_below-member policy.pages p policy.listed_pages passed.pages-below e)

  -- The number at a page's own place of the second array.
  abbrev own_frame : ℕ → ℕ
  own_frame p = get_or policy.listed_frames (index_in p policy.listed_pages) 0

  frame-own : (p : ℕ) → listed p ≡ true → frame p ≡ own_frame p
  frame-own p e = frame_for-own policy.pages 0 policy.listed_pages policy.listed_frames p none (pages-length ∙ sym frames-length) passed.pages-rising e

  -- The map's number and the shadow entry of a page, by whether it is listed.
  first-approval : (p : ℕ) (b : Bool) → listed p ≡ b → approval_for policy p ≡ cond b (own_frame p) none
  unfolding approval_for
  first-approval p true e = frame-own p e
  first-approval p false e = frame_for-unlisted policy.listed_pages policy.listed_frames p none e

  own-named : (p : ℕ) → listed p ≡ true → named policy (own_frame p) ≡ true
  own-named p e = rw (← (frame-own p e)) (listed-named p e)

  own-small : (p : ℕ) → listed p ≡ true → own_frame p < 4096
  own-small p e = rw (← (frame-own p e)) (listed_small p e)

  pub own_below : (p : ℕ) → listed p ≡ true → own_frame p < policy.frames
  own_below p e = named-below (own_frame p) (own-named p e)

  first_entry_lem : (p : ℕ) (b : Bool) → listed p ≡ b → first_entry (approval_for policy p) ≡ cond b (approved false (own_frame p)) 0
  unfolding first_entry
  first_entry_lem p true e = rw (first-approval p true e, ne_eqb (own_frame p) none (λ k. omega (arith, own-small p e)))
  first_entry_lem p false e = rw (first-approval p false e)

  -- The tables of the start show the one-page guards as they begin.
  pub first-pages : page_of (start_guard given policy) ≡ first_page policy
  unfolding start_guard start_state start_tables in_user pending_frame is_asked first_page
  first-pages =
      fun_ext λ p i.
      record {
        user = false;
        entry = (at_entry p ∙ first_entry_lem p (listed p) refl) i;
        approval = (at-approval p ∙ first-approval p (listed p) refl) i;
        excluded = (fun_ext (vector_of-bit policy.frames (named policy) (named-below))) i;
        pending = none;
        own = false;
      }
    where
      at-approval : (p : ℕ) → get_or (table policy.pages (approval_for policy)) p none ≡ approval_for policy p
      at-approval p = table-read policy.pages (approval_for policy) p none (λ past. first-approval p false (past-unlisted p past))

      at_entry : (p : ℕ) → get_or (table policy.pages (λ q. first_entry (approval_for policy q))) p 0 ≡ first_entry (approval_for policy p)
      at_entry p = table-read policy.pages (λ q. first_entry (approval_for policy q)) p 0 (λ past. first_entry_lem p false (past-unlisted p past))

  first_good : (p : ℕ) → Good (named policy) (first_page policy p)
  unfolding first_page
  first_good p = at (listed p) refl
    where
      at : (b : Bool) → listed p ≡ b
          → Good (named policy)
          (record {
            user = false;
            entry = cond b (approved false (own_frame p)) 0;
            approval = cond b (own_frame p) none;
            excluded = named policy;
            pending = none;
            own = false;
          })
      at true e = good-approved (named policy) (first_page policy p) (own_frame p) (own-named p e) (own-small p e)
      at false e = good-absent (named policy) (first_page policy p) none (λ k. absurd (true≢false k))

  -- No frame has a term yet: the policy's alone are protected, and they are code.
  either-false : (b : Bool) → either b false ≡ b
  unfolding either
  either-false true = refl
  either-false false = refl

  protected-first : (f : ℕ) → protected policy first_terms f ≡ named policy f
  unfolding protected first_terms in_term
  protected-first f = either-false (named policy f)

  code-first : code policy first_terms ≡ named policy
  unfolding code first_terms is_committed
  code-first = fun_ext (λ f. either-false (named policy f))

  pub start-kept : Invariant policy first_terms (start_guard given policy)
  unfolding start_guard start_state start_tables first_terms is_waiting awaited
  start-kept =
      record {
        pages = refl;
        frames = refl;
        entry_count = refl;
        entry_pages = refl;
        fits = start_fits;
        shadow_length = length-table policy.pages (λ p. first_entry (approval_for policy p));
        map_length = length-table policy.pages (approval_for policy);
        exclusion = vector_of-same policy.frames _ _ (λ f. sym (protected-first f));
        below = λ f e. named-below f (sym (protected-first f) ∙ e);
        waiting = λ f. refl;
        unnamed = λ f e. absurd (false≢true e);
        good = λ p. rw code-first (subst (λ (ps : ℕ → Page). Good (named policy) (ps p)) (sym first-pages) (first_good p));
      }
