-- The term of a frame, by the accepted calls of a list: a committed one was asked for and committed in the list.
use Prim.Native.Nat.{ℕ, zero, suc}
use mathlib.Core.Bool.{Bool, true, false, cond, true≢false, false≢true}
use mathlib.Core.List.{List, [], ◌∷◌, ◌++◌}
use mathlib.Core.Path.{◌≡◌, refl, sym, ap, ◌∙◌}
use lib.Dec.{eqb}
use native.Mathlib.Omega.{arith}
use borrow.Author.Tests.{eqb-true}
use Rattle.model.specs.Guard.{Guard}
use Rattle.model.specs.Calls.{settle, Call, ask, commit, drop}
use Rattle.claim.specs.CallKinds.{unchanged, ended, term_change_of}
use Rattle.claim.specs.Terms.{Term, no_term, pending_term, committed_term, Terms, first_terms, after_commit, after_drop, term_after, terms_after, is_committed}
use Rattle.claim.specs.Lists.{outcome_of, Accepts, guard_after, terms_along, EachAccepted}
use Rattle.claim.specs.Committing.{NoDrop}
use Rattle.claim.specs.Consequences.{Committed}
use Rattle.claim.proofs.KindLaws.{Changing, keeps, asks, commits, drops, kinds}
use Rattle.claim.proofs.TermLaws.{is_waiting, drop-over, drop_code}

-- A pending frame's commit in a list.
record Confirmed (g : Guard) (calls : List Call) : Type 0 where
  between : List Call
  after : List Call
  split : calls ≡ between ++ (commit ∷ after)
  undropped : EachAccepted NoDrop g between
  confirmed : Accepts (guard_after g between) commit

-- How a frame comes to be committed after a list, by its term before it.
data History (f : ℕ) (t : Term) (g : Guard) (calls : List Call) : Type 0 where
  already : is_committed t ≡ true → History f t g calls
  awaiting : is_waiting t ≡ true → Confirmed g calls → History f t g calls
  within : Committed f g calls → History f t g calls

-- A list that commits a frame does so with a call in front.
committed-later : (f : ℕ) (g : Guard) (call : Call) (calls : List Call) → Committed f (outcome_of g call).guard calls → Committed f g (call ∷ calls)
unfolding guard_after
committed-later f g call calls h =
    record {
      before = call ∷ h.before;
      page = h.page;
      between = h.between;
      after = h.after;
      split = ap (λ (l : List Call). call ∷ l) h.split;
      asked = h.asked;
      undropped = h.undropped;
      confirmed = h.confirmed;
    }

-- Where a call changes nothing of the term and drops nothing, the list with it in front has the same history.
later : (f : ℕ) (t : Term) (g : Guard) (call : Call) (calls : List Call) → (Accepts g call → NoDrop g call) → History f t (outcome_of g call).guard calls
    → History f t g (call ∷ calls)
unfolding guard_after
later f t g call calls kept (already c) = already c
later f t g call calls kept (awaiting w h) =
    awaiting w
    (record {
      between = call ∷ h.between;
      after = h.after;
      split = ap (λ (l : List Call). call ∷ l) h.split;
      undropped = (kept, h.undropped);
      confirmed = h.confirmed;
    })
later f t g call calls kept (within h) = within (committed-later f g call calls h)

-- Only a drop is a drop.
ask-no-drop : (page f : ℕ) → ask page f ≡ drop → ⊥
ask-no-drop page f same = let z : ◌≡◌ {A = ℕ} 0 1 = cc in omega arith

commit-no-drop : commit ≡ drop → ⊥
commit-no-drop same = let z : ◌≡◌ {A = ℕ} 0 1 = cc in omega arith

keeps-no-drop : (call : Call) → term_change_of call ≡ unchanged → call ≡ drop → ⊥
unfolding term_change_of
keeps-no-drop call e same =
    let ends : unchanged ≡ ended = sym e ∙ ap term_change_of same in
    let z : ◌≡◌ {A = ℕ} 0 1 = cc in omega arith

-- An accepted call by what it does to the term of f.
module _ (f : ℕ) (g : Guard) (calls : List Call) where
  abbrev After : Call → Guard
  After call = (outcome_of g call).guard

  begins : (t : Term) (page : ℕ) → Accepts g (ask page f) → History f pending_term (After (ask page f)) calls → History f t g (ask page f ∷ calls)
  unfolding guard_after is_committed
  begins t page e (already c) = absurd (false≢true c)
  begins t page e (awaiting w h) =
      within
      (record {
        before = [];
        page = page;
        between = h.between;
        after = h.after;
        split = ap (λ (l : List Call). ask page f ∷ l) h.split;
        asked = e;
        undropped = h.undropped;
        confirmed = h.confirmed;
      })
  begins t page e (within h) = later f t g (ask page f) calls (λ a. ask-no-drop page f) (within h)

  asks_of : (t : Term) (page frame : ℕ) (b : Bool) → eqb f frame ≡ b → Accepts g (ask page frame)
      → History f (cond b pending_term t) (After (ask page frame)) calls → History f t g (ask page frame ∷ calls)
  asks_of t page frame true same e h =
      let is : f ≡ frame = eqb-true f frame same in
      rw (← is) (begins t page (rw (← is) at e) (rw (← is) at h))
  asks_of t page frame false same e h = later f t g (ask page frame) calls (λ a. ask-no-drop page frame) h

  -- A commit finds the frame pending, or committed already.
  confirms : (t : Term) → Accepts g commit → History f (after_commit t) (After commit) calls → History f t g (commit ∷ calls)
  unfolding guard_after is_committed is_waiting after_commit
  confirms no_term e h = later f no_term g commit calls (λ a. commit-no-drop) h
  confirms pending_term e h =
      awaiting refl (record { between = []; after = calls; split = refl; undropped = tt; confirmed = e })
  confirms committed_term e h = already refl

  -- A drop ends a pending term, and no other.
  ends : (t : Term) → History f (after_drop t) (After drop) calls → History f t g (drop ∷ calls)
  unfolding is_committed is_waiting after_drop
  ends t (already c) = already (sym (drop_code t) ∙ c)
  ends t (awaiting w h) = absurd (true≢false (sym w ∙ drop-over t))
  ends t (within h) = within (committed-later f g drop calls h)

history : (f : ℕ) (calls : List Call) (terms : Terms) (g : Guard) → is_committed (terms_along g terms calls f) ≡ true → History f (terms f) g calls
unfolding terms_along term_after term_change_of terms_after settle
history f [] terms g c = already c
history f (call ∷ calls) terms g c =
    by (outcome_of g call).reply.number refl
    (history f calls (terms_after (outcome_of g call).reply.number call terms) (outcome_of g call).guard c)
  where
    by_kind : Changing call → Accepts g call → History f (term_after (term_change_of call) f (terms f)) (outcome_of g call).guard calls
        → History f (terms f) g (call ∷ calls)
    by_kind (keeps e) a h = later f (terms f) g call calls (λ a. keeps-no-drop call e) (rw e at h)
    by_kind (asks page frame e) a h = rw e (asks_of f g calls (terms f) page frame (eqb f frame) refl (rw e at a) (rw e at h))
    by_kind (commits e) a h = rw e (confirms f g calls (terms f) (rw e at a) (rw e at h))
    by_kind (drops e) a h = rw e (ends f g calls (terms f) (rw e at h))

    by : (n : ℕ) → (outcome_of g call).reply.number ≡ n → History f (terms_after n call terms f) (outcome_of g call).guard calls
        → History f (terms f) g (call ∷ calls)
    by zero e h = by_kind (kinds call).1 e h
    by (suc n) e h = later f (terms f) g call calls (λ a. absurd (omega arith)) h

-- From a start no frame has a term, so that a frame which is committed after a list was asked for and committed in it.
pub committed-in-list : (f : ℕ) (calls : List Call) (g : Guard) → is_committed (terms_along g first_terms calls f) ≡ true → Committed f g calls
unfolding first_terms is_committed is_waiting
committed-in-list f calls g c = by (history f calls first_terms g c)
  where
    by : History f (first_terms f) g calls → Committed f g calls
    by (already e) = absurd (false≢true e)
    by (awaiting w h) = absurd (false≢true w)
    by (within h) = h
