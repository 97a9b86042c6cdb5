-- What follows from the claim alone, sentence by sentence.
use Prim.Native.Nat.{ℕ, zero, suc, ◌/◌, ◌<◌}
use mathlib.Core.Bool.{Bool, true, false}
use mathlib.Core.List.{List}
use mathlib.Core.Logic.{◌⊎◌, inl, inr}
use mathlib.Core.Path.{◌≡◌, refl, sym, ap, ◌∙◌}
use lib.ListN.{get_or}
use lib.Seq.{ext_get_or}
use native.Mathlib.Omega.{arith}
use Rattle.model.specs.Basics.{either}
use Rattle.model.specs.Sizes.{page_bytes, last_byte, last_page}
use Rattle.model.specs.Guard.{none, Tables, Guard, in_user}
use Rattle.model.specs.Policy.{Givens, Policy, policy_of, named}
use Rattle.model.specs.Bits.{frame_of}
use Rattle.model.specs.Questions.{lengths_of}
use Rattle.model.specs.Calls.{Reply, settle, start_of, Call, fetch, write, questions_of}
use Rattle.claim.specs.OnePage.{Page, reached_in, seen_by, settled, pages_after}
use Rattle.claim.specs.Terms.{Terms, first_terms, protected, code, is_committed}
use Rattle.claim.specs.Claim.{Agree, FetchSafe, Claim}
use Rattle.claim.specs.Lists.{outcome_of, Accepts, guard_after, terms_along}
use Rattle.claim.specs.Consequences.{Committed, page_after, FetchReadsCode, WriteMissesPolicy, WriteAnswersFrames, TransferMissesPolicy, TransferInWindow}
use Rattle.claim.specs.Consequences.{PageIsFold, ModeIsFold, LengthsKept, ExclusionIsFold, NumberIsSettled, RefusedKeepsTables}
use Rattle.laws.proofs.AcceptedLaws.{write-some}
use Rattle.laws.proofs.PolicyLaws.{start-passed}
use Rattle.laws.proofs.VectorLaws.{vector_of-length}
use Rattle.claim.proofs.TermLaws.{term-named}
use Rattle.claim.proofs.StartLaws.{start-settled}
use Rattle.claim.proofs.HistoryLaws.{committed-in-list}
use Rattle.claim.proofs.AlongLaws.{agrees, numbered, allows, settles, agrees_after, fetch-below, fetch-is-safe, write-below, write-is-safe}
use Rattle.claim.proofs.AlongLaws.{transfer-is-safe, written-clear}

-- A refused call tells the one-page guards nothing.
untold : (policy : Policy) (n : ℕ) (call : Call) (ps : ℕ → Page) → (n ≡ 0 → ⊥) → pages_after policy n call ps ≡ ps
unfolding pages_after settle
untold policy zero call ps refused = absurd (refused refl)
untold policy (suc n) call ps refused = refl

module _ (claimed : Claim) (given : Givens) (bytes : List ℕ) (t : Tables) (calls : List Call) (accepted : (start_of given bytes t).reply.number ≡ 0) where
  abbrev policy : Policy
  policy = policy_of bytes

  abbrev start : Guard
  start = (start_of given bytes t).guard

  abbrev g : Guard
  g = guard_after start calls

  abbrev ps : ℕ → Page
  ps = page_after policy start calls

  abbrev terms : Terms
  terms = terms_along start first_terms calls

  agree : Agree policy g ps
  agree = agrees claimed given bytes t accepted calls

  -- There is a page 0.
  some-page : 0 < policy.pages
  some-page = let low = (start-passed given bytes policy (lengths_of t) (start-settled given bytes t accepted)).pages-low in omega arith

  -- A frame that is not protected is not named.
  unnamed : (f : ℕ) → protected policy terms f ≡ false → named policy f ≡ false
  unfolding protected
  unnamed f free = term-named (named policy f) (terms f) free

  -- A frame of code is named, or was committed.
  code-from : (f : ℕ) → code policy terms f ≡ true → (named policy f ≡ true) ⊎ Committed f start calls
  unfolding code either
  code-from f c = by (named policy f) refl c
    where
      by : (b : Bool) → named policy f ≡ b → either b (is_committed (terms f)) ≡ true → (named policy f ≡ true) ⊎ Committed f start calls
      by true e c = inl e
      by false e c = inr (committed-in-list f calls start c)

  module _ (page : ℕ) (e : Accepts g (fetch page)) where
    abbrev reply : Reply
    reply = (outcome_of g (fetch page)).reply

    safe : FetchSafe policy terms ps page reply
    safe = fetch-is-safe claimed given bytes t accepted calls page e

    below : page < policy.pages
    below = fetch-below claimed given bytes t accepted calls page e

    fetched-entry : frame_of (get_or g.tables.shadow page 0) ≡ frame_of (ps page).entry
    fetched-entry = ap frame_of (agree.entry page below)

    fetched : (reply.first ≡ frame_of (get_or g.tables.shadow page 0)) × (reply.second ≡ frame_of (get_or g.tables.shadow page 0))
        × (in_user g.state.mode ≡ false → (named policy reply.first ≡ true) ⊎ Committed reply.first start calls)
    fetched = (
      safe.first ∙ sym fetched-entry,
      safe.second ∙ sym fetched-entry,
      (λ kernel. rw safe.first (code-from (frame_of (ps page).entry) (safe.approved (sym (agree.mode page below) ∙ kernel)))),
    )

  written : (address size : ℕ) → Accepts g (write address size) → let reply : Reply = (outcome_of g (write address size)).reply in
      (reply.first ≡ frame_of (get_or g.tables.shadow (address / page_bytes) 0))
      × (reply.second ≡ frame_of (get_or g.tables.shadow (last_page address size) 0))
  unfolding last_page last_byte settled questions_of
  written address size e =
      let safe = write-is-safe claimed given bytes t accepted calls address size e in
      let last : last_page address size < policy.pages = write-below claimed given bytes t accepted calls address size e in
      let some = write-some (seen_by policy ps (reached_in g)) address size (settles claimed given bytes t accepted calls (write address size) e) in (
        safe.first ∙ sym (ap frame_of (agree.entry (address / page_bytes) (omega arith))),
        safe.second ∙ sym (ap frame_of (agree.entry (last_page address size) last)),
      )

  -- A call that is refused leaves every table as the one-page guards have it, and these were told nothing.
  module _ (call : Call) (refused : Accepts g call → ⊥) where
    abbrev after : Guard
    after = (outcome_of g call).guard

    still : Agree policy after ps
    still = rw (untold policy (outcome_of g call).reply.number call ps refused) at (agrees_after claimed given bytes t accepted calls call)

    left : (after.tables.shadow ≡ g.tables.shadow) × (after.tables.map ≡ g.tables.map) × (after.tables.exclusion ≡ g.tables.exclusion)
        × (in_user after.state.mode ≡ in_user g.state.mode)
    left = (
      ext_get_or 0 after.tables.shadow g.tables.shadow (still.shadow_length ∙ sym agree.shadow_length)
          (λ i l. let below : i < policy.pages = omega (arith, still.shadow_length) in still.entry i below ∙ sym (agree.entry i below)),
      ext_get_or none after.tables.map g.tables.map (still.map_length ∙ sym agree.map_length)
          (λ i l. let below : i < policy.pages = omega (arith, still.map_length) in still.approval i below ∙ sym (agree.approval i below)),
      still.exclusion 0 some-page ∙ sym (agree.exclusion 0 some-page),
      still.mode 0 some-page ∙ sym (agree.mode 0 some-page),
    )

-- The consequences.
pub fetch-reads-code : Claim → FetchReadsCode
fetch-reads-code claimed given bytes t calls accepted page e = fetched claimed given bytes t calls accepted page e

pub write-misses-policy : Claim → WriteMissesPolicy
write-misses-policy claimed given bytes t calls accepted address size e a l m =
    let clear = written-clear claimed given bytes t accepted calls address size e a l m in
    (clear.0, unnamed claimed given bytes t calls accepted _ clear.1)

pub write-answers-frames : Claim → WriteAnswersFrames
unfolding last_page last_byte
write-answers-frames claimed given bytes t calls accepted address size e = written claimed given bytes t calls accepted address size e

pub transfer-misses-policy : Claim → TransferMissesPolicy
transfer-misses-policy claimed given bytes t calls accepted devices device address size e a l m =
    let clear = (transfer-is-safe claimed given bytes t accepted calls devices device address size e).bytes a l m in
    (clear.below, unnamed claimed given bytes t calls accepted _ clear.unprotected)

pub transfer-in-window : Claim → TransferInWindow
transfer-in-window claimed given bytes t calls accepted devices device address size e =
    (transfer-is-safe claimed given bytes t accepted calls devices device address size e).windowed

pub page-is-fold : Claim → PageIsFold
page-is-fold claimed given bytes t calls accepted p below =
    let agree = agrees claimed given bytes t accepted calls in (agree.entry p below, agree.approval p below)

pub mode-is-fold : Claim → ModeIsFold
mode-is-fold claimed given bytes t calls accepted = (agrees claimed given bytes t accepted calls).mode

pub lengths-kept : Claim → LengthsKept
lengths-kept claimed given bytes t calls accepted =
    let agree = agrees claimed given bytes t accepted calls in (
      agree.shadow_length,
      agree.map_length,
      rw (agree.exclusion 0 (some-page claimed given bytes t calls accepted)) (vector_of-length _ _),
    )

pub exclusion-is-fold : Claim → ExclusionIsFold
exclusion-is-fold claimed given bytes t calls accepted = (agrees claimed given bytes t accepted calls).exclusion

pub number-is-settled : Claim → NumberIsSettled
unfolding settled
number-is-settled claimed given bytes t calls accepted call =
    (numbered claimed given bytes t accepted calls call, allows claimed given bytes t accepted calls call)

pub refused-keeps-tables : Claim → RefusedKeepsTables
refused-keeps-tables claimed given bytes t calls accepted call refused = left claimed given bytes t calls accepted call refused
