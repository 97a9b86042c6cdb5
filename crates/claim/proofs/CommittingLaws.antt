-- K6, from the claim alone: a frame that is committed was protected from its ask on, and stays so.
use Prim.Native.Nat.{ℕ, zero, suc, ◌+◌, ◌-◌, ◌*◌, ◌/◌, ◌≤◌, ◌<◌}
use mathlib.Core.Bool.{Bool, true, false, cond, true≢false}
use mathlib.Core.List.{List, [], ◌∷◌, ◌++◌, append-nil, append_assoc}
use mathlib.Core.Path.{◌≡◌, refl, sym, ap, subst, ◌∙◌}
use lib.Dec.{eqb}
use lib.ListN.{length, get_or}
use borrow.Author.Tests.{lt-ltb, eq-eqb, eqb-true}
use native.Mathlib.Omega.{arith}
use Rattle.model.specs.declared.Device.{Device}
use Rattle.model.specs.Basics.{both, every_from}
use Rattle.model.specs.Sizes.{page_bytes, devices_in_range, last_byte, last_page, touched}
use Rattle.model.specs.Guard.{Tables, Guard}
use Rattle.model.specs.Policy.{Givens, Policy, policy_of, named, start_state, start_guard}
use Rattle.model.specs.Devices.{device_of, device_at, in_window}
use Rattle.model.specs.Questions.{View, givens_in_range, lengths_of, in_order, free, every_touched, device_write_questions}
use Rattle.model.specs.Calls.{settle, start_of, Call, write, device_write, ask, commit, drop, questions_of}
use Rattle.laws.specs.Windows.{DevicesKept}
use Rattle.claim.specs.CallKinds.{touch_of, term_change_of}
use Rattle.claim.specs.OnePage.{reached_in, seen_by, settled}
use Rattle.claim.specs.Terms.{Term, pending_term, Terms, first_terms, term_after, terms_after, in_term, is_committed, protected}
use Rattle.claim.specs.Claim.{Claim}
use Rattle.claim.specs.Lists.{outcome_of, Accepts, guard_after, terms_along, EachAccepted}
use Rattle.claim.specs.Committing.{Avoids, NoDrop, CommittedKept, CommittedMissed}
use Rattle.laws.proofs.QuestionLaws.{both_yes, within_low, within-yes, first_no-yes, either_second}
use Rattle.laws.proofs.AcceptedLaws.{ask-frame, ask-free}
use Rattle.laws.proofs.CallLaws.{none_left}
use Rattle.laws.proofs.DeviceLaws.{devices-kept}
use Rattle.laws.proofs.PolicyLaws.{start-given}
use Rattle.claim.proofs.KindLaws.{Touching, touchless, fetches, writes, transfers, Changing, keeps, asks, commits, drops, kinds}
use Rattle.claim.proofs.TermLaws.{commit-in, commit-code, drop_code, committed-in}
use Rattle.claim.proofs.StartLaws.{start-settled, start-guard}
use Rattle.claim.proofs.AlongLaws.{guard-snoc, guard-append, terms-snoc, at, terms_at, pages_at, numbered, settles, transfer-is-safe, written-clear}

-- A list of devices with one record throughout.
many : ℕ → Device → List Device
many zero d = []
many (suc n) d = d ∷ many n d

many-length : (n : ℕ) (d : Device) → length (many n d) ≡ n
unfolding many
many-length zero d = refl
many-length (suc n) d = ap suc (many-length n d)

many-first : (n : ℕ) (d other : Device) → 1 ≤ n → get_or (many n d) 0 other ≡ d
unfolding many
many-first zero d other some = absurd (omega arith)
many-first (suc n) d other some = refl

-- A test of one number alone.
every_one : (test : ℕ → Bool) (first count : ℕ) → count ≡ 1 → test first ≡ true → every_from test first count ≡ true
unfolding every_from
every_one test first count e p = rw e (both_yes p refl)

-- No call changes the number of devices.
devices-along : (calls : List Call) (g : Guard) → (guard_after g calls).state.devices ≡ g.state.devices
unfolding guard_after DevicesKept
devices-along [] g = refl
devices-along (call ∷ calls) g = devices-along calls (outcome_of g call).guard ∙ devices-kept g call

-- What holds of each accepted call of two lists, one after the other.
each_append : (P : Guard → Call → Type 0) (g : Guard) (xs ys : List Call) → EachAccepted P g xs → EachAccepted P (guard_after g xs) ys
    → EachAccepted P g (xs ++ ys)
unfolding guard_after
each_append P g [] ys a b = b
each_append P g (x ∷ xs) ys a b = (a.0, each_append P (outcome_of g x).guard xs ys a.1 b)

-- A refused call changes no term, so it is enough to look at an accepted one.
after_call : (P : Term → Type 0) (n : ℕ) (call : Call) (terms : Terms) (f : ℕ) → P (terms f) → (n ≡ 0 → P (term_after (term_change_of call) f (terms f)))
    → P (terms_after n call terms f)
unfolding terms_after settle
after_call P zero call terms f before accepted = accepted refl
after_call P (suc n) call terms f before accepted = before

-- A term goes on at every accepted call that is no drop.
asked_in : (b : Bool) (t : Term) → in_term t ≡ true → in_term (cond b pending_term t) ≡ true
unfolding in_term
asked_in true t p = refl
asked_in false t p = p

goes_on : (call : Call) (f : ℕ) (t : Term) → (call ≡ drop → ⊥) → in_term t ≡ true → in_term (term_after (term_change_of call) f t) ≡ true
unfolding term_after term_change_of
goes_on call f t undropped p = by (kinds call).1
  where
    by : Changing call → in_term (term_after (term_change_of call) f t) ≡ true
    by (keeps e) = rw e p
    by (asks page frame e) = rw e (asked_in (eqb f frame) t p)
    by (commits e) = rw e (commit-in t ∙ p)
    by (drops e) = absurd (undropped e)

module _ (claimed : Claim) (given : Givens) (bytes : List ℕ) (t : Tables) (accepted : (start_of given bytes t).reply.number ≡ 0) where
  abbrev policy : Policy
  policy = policy_of bytes

  abbrev start : Guard
  start = (start_of given bytes t).guard

  -- The guard and the terms after a list.
  abbrev now : List Call → Guard
  now = at claimed given bytes t accepted

  abbrev terms_now : List Call → Terms
  terms_now = terms_at claimed given bytes t accepted

  some-device : (calls : List Call) → 1 ≤ (now calls).state.devices
  unfolding start_guard start_state givens_in_range devices_in_range
  some-device calls =
      rw (devices-along calls start, start-guard given bytes t accepted)
      (within_low 1 64 given.devices (start-given given bytes policy (lengths_of t) (start-settled given bytes t accepted)))

  -- A frame below F that no one-page guard excludes may be written to by a device that has it for a window, so that it is not protected.
  module _ (calls : List Call) (f : ℕ) (small : f < policy.frames) where
    abbrev v : View
    v = seen_by policy (pages_at claimed given bytes t accepted calls) (reached_in (now calls))

    abbrev devices : List Device
    devices = many (now calls).state.devices (device_of f f)

    abbrev transfer : Call
    transfer = device_write devices 0 (f * page_bytes) 1

    its-window : get_or devices 0 (device_of 1 0) ≡ device_of f f
    its-window = many-first (now calls).state.devices (device_of f f) (device_of 1 0) (some-device calls)

    its-frame : f * page_bytes / page_bytes ≡ f
    its-frame = omega arith

    touches-one : (test : ℕ → Bool) → test f ≡ true → every_touched test (f * page_bytes) 1 ≡ true
    unfolding every_touched touched last_page last_byte
    touches-one test p = every_one test (f * page_bytes / page_bytes) _ (omega arith) (rw its-frame p)

    passes : v.excluded f ≡ false → settled policy (pages_at claimed given bytes t accepted calls) (reached_in (now calls)) transfer ≡ 0
    unfolding settled questions_of device_write_questions in_order both device_at in_window last_page last_byte free
    passes clear =
        first_no-yes 7 _ (rw (eq-eqb (length devices) (now calls).state.devices (many-length _ _)) refl)
        ∙ first_no-yes 8 _ (within-yes 1 1048576 1 (omega arith) (omega arith))
        ∙ first_no-yes 18 _ (lt-ltb 0 (length devices) (rw many-length (some-device calls)))
        ∙ first_no-yes 9 _ (lt-ltb (f * page_bytes + 1 - 1) (policy.frames * page_bytes) (omega arith))
        ∙ first_no-yes 19 _ (rw its-window (both_yes (within-yes f f _ (omega arith) (omega arith)) (within-yes f f _ (omega arith) (omega arith))))
        ∙ first_no-yes 13 _ (touches-one (free v) (both_yes (lt-ltb f policy.frames small) (rw clear refl)))
        ∙ sym none_left

    free-unprotected : v.excluded f ≡ false → protected policy (terms_now calls) f ≡ false
    free-unprotected clear =
        rw its-frame at
        ((transfer-is-safe claimed given bytes t accepted calls devices 0 (f * page_bytes) 1
        (numbered claimed given bytes t accepted calls transfer ∙ passes clear)).bytes (f * page_bytes) (omega arith) (omega arith)).unprotected

  -- So an ask for a protected frame is refused.
  ask-unprotected : (calls : List Call) (page frame : ℕ) → Accepts (now calls) (ask page frame) → protected policy (terms_now calls) frame ≡ false
  unfolding settled questions_of
  ask-unprotected calls page frame e =
      let view : View = seen_by policy (pages_at claimed given bytes t accepted calls) (reached_in (now calls)) in
      let passed : settled policy (pages_at claimed given bytes t accepted calls) (reached_in (now calls)) (ask page frame) ≡ 0 =
      settles claimed given bytes t accepted calls (ask page frame) e in
      free-unprotected calls frame (ask-frame view page frame passed) (ask-free view page frame passed)

  -- A protected frame: an allowed write or transfer covers no byte of it.
  module _ (calls : List Call) (f : ℕ) (is : protected policy (terms_now calls) f ≡ true) where
    other : (x : ℕ) → protected policy (terms_now calls) x ≡ false → x ≡ f → ⊥
    other x clear same = true≢false (sym is ∙ (rw same at clear))

    avoids : (call : Call) → Accepts (now calls) call → Avoids f (now calls) call
    unfolding touch_of
    avoids call e = by (kinds call).0
      where
        by : Touching call → Avoids f (now calls) call
        by (touchless is) = rw is tt
        by (fetches page is) = rw is tt
        by (writes address size is) =
            rw is (λ a l m same. other _ (written-clear claimed given bytes t accepted calls address size (rw is at e) a l m).1 same)
        by (transfers devices device address size is) =
            rw is (λ a l m same. other _ ((transfer-is-safe claimed given bytes t accepted calls devices device address size (rw is at e)).bytes a l m).unprotected same)

  module _ (f : ℕ) where
    abbrev Open : Term → Type 0
    Open t = in_term t ≡ true

    abbrev Lasts : Term → Type 0
    Lasts t = is_committed t ≡ true

    open-protected : (terms : Terms) → Open (terms f) → protected policy terms f ≡ true
    unfolding protected
    open-protected terms p = either_second (named policy f) p

    -- The term after a call more.
    term-next : (P : Term → Type 0) (calls : List Call) (call : Call) → P (terms_now calls f)
        → (Accepts (now calls) call → P (term_after (term_change_of call) f (terms_now calls f))) → P (terms_now (calls ++ (call ∷ [])) f)
    term-next P calls call before then =
        rw (terms-snoc start first_terms calls call) (after_call P (outcome_of (now calls) call).reply.number call (terms_now calls) f before then)

    -- A committed frame stays so: an ask for it is refused.
    lasts : (calls : List Call) (call : Call) → Lasts (terms_now calls f) → Accepts (now calls) call → Lasts (term_after (term_change_of call) f (terms_now calls f))
    unfolding term_after term_change_of
    lasts calls call p e = by (kinds call).1
      where
        asked-other : (page frame : ℕ) → Accepts (now calls) (ask page frame) → (b : Bool) → eqb f frame ≡ b → Lasts (cond b pending_term (terms_now calls f))
        asked-other page frame e true same =
            let free : protected policy (terms_now calls) f ≡ false = rw (← (eqb-true f frame same)) at (ask-unprotected calls page frame e) in
            absurd (true≢false (sym (open-protected (terms_now calls) (committed-in (terms_now calls f) p)) ∙ free))
        asked-other page frame e false same = p

        by : Changing call → Lasts (term_after (term_change_of call) f (terms_now calls f))
        by (keeps is) = rw is p
        by (asks page frame is) = rw is (asked-other page frame (rw is at e) (eqb f frame) refl)
        by (commits is) = rw is (commit-code (terms_now calls f) ∙ committed-in (terms_now calls f) p)
        by (drops is) = rw is (drop_code (terms_now calls f) ∙ p)

    -- From its commit on.
    for-good : (rest calls : List Call) → Lasts (terms_now calls f) → EachAccepted (Avoids f) (now calls) rest
    for-good [] calls p = tt
    for-good (call ∷ rest) calls p = (
      avoids calls f (open-protected (terms_now calls) (committed-in (terms_now calls f) p)) call,
      subst (λ (g : Guard). EachAccepted (Avoids f) g rest) (guard-snoc start calls call)
          (for-good rest (calls ++ (call ∷ [])) (term-next Lasts calls call p (lasts calls call p))),
    )

    -- From its ask to its commit.
    until : (rest calls : List Call) → Open (terms_now calls f) → EachAccepted NoDrop (now calls) rest
        → EachAccepted (Avoids f) (now calls) rest × Open (terms_now (calls ++ rest) f)
    until [] calls p undropped = (tt, rw append-nil p)
    until (call ∷ rest) calls p undropped =
        let next = until rest (calls ++ (call ∷ [])) (term-next Open calls call p (λ e. goes_on call f (terms_now calls f) (undropped.0 e) p))
        (rw (guard-snoc start calls call) undropped.1) in (
          (avoids calls f (open-protected (terms_now calls) p) call, rw (guard-snoc start calls call) at next.0),
          rw append_assoc at next.1,
        )

pub committed-kept : Claim → CommittedKept
unfolding terms_after settle term_after term_change_of touch_of in_term
committed-kept claimed given bytes t before between after page frame accepted asking undropped committing =
    each_append (Avoids frame) asked between (commit ∷ after) (rw there at kept.0) ((λ _. tt), then)
  where
    start : Guard
    start = (start_of given bytes t).guard

    asked : Guard
    asked = (outcome_of (guard_after start before) (ask page frame)).guard

    -- The calls up to the ask, up to the commit, and with it.
    one : List Call
    one = before ++ (ask page frame ∷ [])

    two : List Call
    two = one ++ between

    three : List Call
    three = two ++ (commit ∷ [])

    there : guard_after start one ≡ asked
    there = guard-snoc start before (ask page frame)

    there-two : guard_after start two ≡ guard_after asked between
    there-two = guard-append start one between ∙ ap (λ (g : Guard). guard_after g between) there

    opened : in_term (terms_along start first_terms one frame) ≡ true
    opened = rw (terms-snoc start first_terms before (ask page frame), asking, eq-eqb frame frame refl) refl

    kept : EachAccepted (Avoids frame) (guard_after start one) between × (in_term (terms_along start first_terms two frame) ≡ true)
    kept = until claimed given bytes t accepted frame between one opened (rw there undropped)

    lasting : is_committed (terms_along start first_terms three frame) ≡ true
    lasting = rw (terms-snoc start first_terms two commit, there-two, committing) (commit-code (terms_along start first_terms two frame) ∙ kept.1)

    then : EachAccepted (Avoids frame) (outcome_of (guard_after asked between) commit).guard after
    then = rw (← there-two, ← (guard-snoc start two commit)) (for-good claimed given bytes t accepted frame after three lasting)

-- No accepted drop at any place of a list.
no-drops : (g : Guard) (calls : List Call) → ((xs ys : List Call) → calls ≡ xs ++ (drop ∷ ys) → Accepts (guard_after g xs) drop → ⊥)
    → EachAccepted NoDrop g calls
unfolding guard_after
no-drops g [] none = tt
no-drops g (call ∷ calls) none = (
  (λ e same. none [] calls (ap (λ (c : Call). c ∷ calls) same) (rw same at e)),
  no-drops (outcome_of g call).guard calls (λ xs ys split e. none (call ∷ xs) ys (ap (λ (l : List Call). call ∷ l) split) e),
)

-- What holds of each accepted call holds of the one at a place.
each_at : (P : Guard → Call → Type 0) (g : Guard) (xs ys : List Call) (call : Call) → EachAccepted P g (xs ++ (call ∷ ys)) → Accepts (guard_after g xs) call
    → P (guard_after g xs) call
unfolding guard_after
each_at P g [] ys call each e = each.0 e
each_at P g (x ∷ xs) ys call each e = each_at P (outcome_of g x).guard xs ys call each.1 e

pub committed-missed : CommittedKept → CommittedMissed
unfolding touch_of
committed-missed kept given bytes t before between after page frame accepted asking none committing xs ys = (
  (λ address size split e. each_at (Avoids frame) asked xs ys (write address size) (rw split at all) e),
  (λ devices device address size split e. each_at (Avoids frame) asked xs ys (device_write devices device address size) (rw split at all) e),
)
  where
    asked : Guard
    asked = (outcome_of (guard_after (start_of given bytes t).guard before) (ask page frame)).guard

    all : EachAccepted (Avoids frame) asked (between ++ (commit ∷ after))
    all = kept given bytes t before between after page frame accepted asking (no-drops asked between none) committing
