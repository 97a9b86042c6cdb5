-- From what the claim says of a whole list to what it says at each point of it: the guard, the terms of frames and the one-page guards after the calls so far.
use Prim.Native.Nat.{ℕ, zero, suc, ◌+◌, ◌*◌, ◌/◌, ◌%◌, ◌≤◌, ◌<◌}
use mathlib.Core.Bool.{false}
use mathlib.Core.List.{List, [], ◌∷◌, ◌++◌}
use mathlib.Core.Path.{◌≡◌, refl, sym, subst, fun_ext, ◌∙◌}
use lib.Dec.{eqb}
use lib.ListN.{get_or}
use native.Mathlib.Omega.{arith}
use Rattle.model.specs.declared.Device.{Device}
use Rattle.model.specs.Sizes.{page_bytes, last_byte, last_page}
use Rattle.model.specs.Guard.{Tables, Guard}
use Rattle.model.specs.Policy.{Givens, Policy, policy_of}
use Rattle.model.specs.Bits.{frame_of}
use Rattle.model.specs.Devices.{device_of}
use Rattle.model.specs.Calls.{settle, start_of, Call, fetch, write, device_write, questions_of}
use Rattle.claim.specs.CallKinds.{touch_of}
use Rattle.claim.specs.OnePage.{Page, News, first_page, news, reached_in, seen_by, settled, pages_after}
use Rattle.claim.specs.Terms.{Terms, first_terms, terms_after, protected}
use Rattle.claim.specs.Claim.{Agree, covered_by, FetchSafe, WriteSafe, DeviceWriteSafe, Safe, Always, Claim}
use Rattle.claim.specs.Lists.{outcome_of, Accepts, guard_after, terms_along}
use Rattle.claim.specs.Consequences.{heard, told_all, page_after}
use Rattle.laws.proofs.AcceptedLaws.{fetch-page, write-page}

-- A call more at the end of a list.
pub guard-snoc : (g : Guard) (calls : List Call) (call : Call) → guard_after g (calls ++ (call ∷ [])) ≡ (outcome_of (guard_after g calls) call).guard
unfolding guard_after
guard-snoc g [] call = refl
guard-snoc g (c ∷ calls) call = guard-snoc (outcome_of g c).guard calls call

pub guard-append : (g : Guard) (xs ys : List Call) → guard_after g (xs ++ ys) ≡ guard_after (guard_after g xs) ys
unfolding guard_after
guard-append g [] ys = refl
guard-append g (x ∷ xs) ys = guard-append (outcome_of g x).guard xs ys

pub terms-snoc : (g : Guard) (terms : Terms) (calls : List Call) (call : Call)
    → terms_along g terms (calls ++ (call ∷ [])) ≡ terms_after (outcome_of (guard_after g calls) call).reply.number call (terms_along g terms calls)
unfolding guard_after terms_along
terms-snoc g terms [] call = refl
terms-snoc g terms (c ∷ calls) call = terms-snoc (outcome_of g c).guard (terms_after (outcome_of g c).reply.number c terms) calls call

-- What a one-page guard is told of a call first, and then of the rest.
told-first : (policy : Policy) (n : ℕ) (call : Call) (ps : ℕ → Page) (p : ℕ) (later : List News)
    → told_all policy (pages_after policy n call ps p) later ≡ told_all policy (ps p) (settle n (news policy p call ∷ later) (λ k. later))
unfolding pages_after settle told_all
told-first policy zero call ps p later = refl
told-first policy (suc n) call ps p later = refl

along : (policy : Policy) (calls rest : List Call) (terms : Terms) (g : Guard) (ps : ℕ → Page) → Always policy terms g ps (calls ++ rest)
    → Always policy (terms_along g terms calls) (guard_after g calls) (λ p. told_all policy (ps p) (heard policy p g calls)) rest
unfolding guard_after terms_along heard told_all
along policy [] rest terms g ps always = always
along policy (call ∷ calls) rest terms g ps always =
    let n : ℕ = (outcome_of g call).reply.number in
    let after : Guard = (outcome_of g call).guard in
    let is : n ≡ settled policy ps (reached_in g) call = always.1 in
    subst (λ (qs : ℕ → Page). Always policy (terms_along after (terms_after n call terms) calls) (guard_after after calls) qs rest)
    (fun_ext (λ p. told-first policy n call ps p (heard policy p after calls)))
    (along policy calls rest (terms_after n call terms) after (pages_after policy n call ps) (rw (← is) at always.4))

-- The claim of an accepted start, at each point of a list.
module _ (claimed : Claim) (given : Givens) (bytes : List ℕ) (t : Tables) (accepted : (start_of given bytes t).reply.number ≡ 0) where
  abbrev policy : Policy
  policy = policy_of bytes

  abbrev start : Guard
  start = (start_of given bytes t).guard

  module _ (calls : List Call) where
    abbrev pub at : Guard
    at = guard_after start calls

    abbrev pub terms_at : Terms
    terms_at = terms_along start first_terms calls

    abbrev pub pages_at : ℕ → Page
    pages_at = page_after policy start calls

    point : (rest : List Call) → Always policy terms_at at pages_at rest
    point rest = along policy calls rest first_terms start (first_page policy) (claimed given bytes t (calls ++ rest) accepted)

    pub agrees : Agree policy at pages_at
    agrees = point []

    module _ (call : Call) where
      pub numbered : (outcome_of at call).reply.number ≡ settled policy pages_at (reached_in at) call
      numbered = (point (call ∷ [])).1

      pub settles : Accepts at call → settled policy pages_at (reached_in at) call ≡ 0
      settles e = sym numbered ∙ e

      pub allows : (outcome_of at call).reply.allowed ≡ eqb (outcome_of at call).reply.number 0
      allows = rw numbered (point (call ∷ [])).2

      is-safe : Accepts at call → Safe policy terms_at pages_at (touch_of call) (outcome_of at call).reply
      is-safe e = (point (call ∷ [])).3 (settles e)

      pub agrees_after : Agree policy (outcome_of at call).guard (pages_after policy (outcome_of at call).reply.number call pages_at)
      agrees_after =
          subst (λ (n : ℕ). Agree policy (outcome_of at call).guard (pages_after policy n call pages_at)) (sym numbered) (point (call ∷ [])).4

    -- An allowed fetch, write and transfer.
    pub fetch-below : (page : ℕ) → Accepts at (fetch page) → page < policy.pages
    unfolding settled questions_of
    fetch-below page e = fetch-page (seen_by policy pages_at (reached_in at)) page (settles (fetch page) e)

    pub fetch-is-safe : (page : ℕ) → Accepts at (fetch page) → FetchSafe policy terms_at pages_at page (outcome_of at (fetch page)).reply
    unfolding touch_of
    fetch-is-safe page e = is-safe (fetch page) e

    pub write-below : (address size : ℕ) → Accepts at (write address size) → last_page address size < policy.pages
    unfolding settled questions_of
    write-below address size e = write-page (seen_by policy pages_at (reached_in at)) address size (settles (write address size) e)

    pub write-is-safe : (address size : ℕ) → Accepts at (write address size)
        → WriteSafe policy terms_at pages_at address size (outcome_of at (write address size)).reply
    unfolding touch_of
    write-is-safe address size e = is-safe (write address size) e

    pub transfer-is-safe : (devices : List Device) (device address size : ℕ) → Accepts at (device_write devices device address size)
        → DeviceWriteSafe policy terms_at (get_or devices device (device_of 1 0)) address size
    unfolding touch_of
    transfer-is-safe devices device address size e = is-safe (device_write devices device address size) e

    -- The frame that a byte of an allowed write lies in, by the shadow table.
    pub written-clear : (address size : ℕ) → Accepts at (write address size) → (a : ℕ) → address ≤ a → a < address + size
        → let frame : ℕ = frame_of (get_or at.tables.shadow (a / page_bytes) 0) in
        (frame < policy.frames) × (protected policy terms_at frame ≡ false)
    unfolding covered_by last_page last_byte
    written-clear address size e a l m =
        let last : last_page address size < policy.pages = write-below address size e in
        let entry : get_or at.tables.shadow (a / page_bytes) 0 ≡ (pages_at (a / page_bytes)).entry = agrees.entry (a / page_bytes) (omega arith) in
        let frame : ℕ = frame_of (pages_at (a / page_bytes)).entry in
        let clear = (write-is-safe address size e).bytes a l m in
        let here : (frame * page_bytes + a % page_bytes) / page_bytes ≡ frame = omega arith in
        let low : frame * page_bytes + a % page_bytes < policy.frames * page_bytes = clear.below in
        rw entry (omega arith, rw here at clear.unprotected)
