-- What the shadow table lets a processor do: what is true of every page's entry, that everything a one-page guard is told keeps it so, and so after every list.
use Prim.Native.Nat.{ℕ, ◌≤◌, ◌<◌}
use mathlib.Core.Bool.{Bool, true, false, cond, true≢false}
use mathlib.Core.List.{List, [], ◌∷◌, ◌++◌}
use mathlib.Core.Logic.{◌⊎◌, inl, inr}
use mathlib.Core.Path.{◌≡◌, refl, sym, subst, ◌∙◌}
use lib.ListN.{get_or}
use borrow.Author.Tests.{eq-eqb}
use Rattle.model.specs.Basics.{member, bit, either}
use Rattle.model.specs.Guard.{none, Tables, Guard, has_bit, in_user}
use Rattle.model.specs.Policy.{Givens, Policy, policy_of, named, start_guard}
use Rattle.model.specs.Bits.{present, writable, user_bit, no_execute, frame_of, kernel_no_execute, approved_mark, approved}
use Rattle.model.specs.Questions.{first_no, Lengths, start_questions, lengths_of}
use Rattle.model.specs.Calls.{start_of, Call, ask}
use Rattle.model.specs.Calls.{settle}
use Rattle.claim.specs.CallKinds.{term_change_of}
use Rattle.claim.specs.OnePage.{Page, index_in, first_page}
use Rattle.claim.specs.OnePage.{reached_in, settled, pages_after}
use Rattle.claim.specs.Terms.{Terms, first_terms, term_after, terms_after, in_term, is_committed, protected, code}
use Rattle.claim.specs.Lists.{outcome_of, Accepts, guard_after, terms_along}
use Rattle.claim.specs.Consequences.{Committed}
use Rattle.claim.specs.Installed.{Harmless, Installed, InstalledMaps, InstalledWrites, InstalledRuns, SpareBitsZero}
use Rattle.laws.specs.Cache.{digit, frame_field}
use Rattle.laws.proofs.QuestionLaws.{either_second}
use Rattle.laws.proofs.TableLaws.{past-no}
use Rattle.laws.proofs.PolicyLaws.{start-passed}
use Rattle.claim.proofs.TermLaws.{term-named, code-protected}
use Rattle.claim.proofs.PageLaws.{good-code}
use Rattle.claim.proofs.Invariant.{Invariant, page_of, excluded-is}
use Rattle.claim.proofs.StartLaws.{start-settled, start-guard, first-pages, start-kept, own_below}
use Rattle.claim.proofs.ListLaws.{kept-along}
use Rattle.claim.proofs.HistoryLaws.{committed-in-list}
use Rattle.claim.proofs.AlongLaws.{guard-snoc, terms-snoc}
use Rattle.claim.proofs.TameLaws.{Tame, AllTame, tame-absent, tame-approved, page-tame}

module _ (policy : Policy) (terms : Terms) (g : Guard) (h : Invariant policy terms g) where
  tame-after : AllTame policy terms g → (call : Call) → settled policy (page_of g) (reached_in g) call ≡ 0
      → pages_after policy 0 call (page_of g) ≡ page_of (outcome_of g call).guard → AllTame policy (terms_after 0 call terms) (outcome_of g call).guard
  tame-after tame call passed pages p =
      subst (λ (ps : ℕ → Page). Tame policy.frames (protected policy (terms_after 0 call terms)) (ps p)) pages (page-tame policy terms g h tame call passed p)

  -- So each entry does no harm, with what a good page has of kernel mode.
  entry-harmless : AllTame policy terms g → (p : ℕ) → let entry : ℕ = get_or g.tables.shadow p 0 in
      (digit 0 entry ≡ true → Harmless policy terms (in_user g.state.mode) entry) × (digit 0 entry ≡ false → entry ≡ 0)
  unfolding present writable user_bit no_execute frame_of kernel_no_execute approved_mark bit
  entry-harmless tame p = (
    (λ there. record {
      below = (tame p).below there;
      unprotected = λ w. (tame p).unguarded there w;
      kernel_runs = λ kernel x. good-code (code policy terms) (page_of g p) (h.good p) kernel there x;
      user_runs = λ user x. (tame p).user_runs user there x;
    }),
    (λ gone. (tame p).absent gone),
  )

-- An accepted start: a listed page has an approved entry, and any other none.
start-tame : (given : Givens) (bytes : List ℕ) (l : Lengths) → first_no (start_questions given bytes (policy_of bytes) l) ≡ 0
    → AllTame (policy_of bytes) first_terms (start_guard given (policy_of bytes))
unfolding first_page
start-tame given bytes l passed p =
    subst (λ (ps : ℕ → Page). Tame policy.frames (protected policy first_terms) (ps p)) (sym (first-pages given bytes l passed))
    (at (member p policy.listed_pages) refl)
  where
    policy : Policy
    policy = policy_of bytes

    frame : ℕ
    frame = get_or policy.listed_frames (index_in p policy.listed_pages) 0

    most-frames : policy.frames ≤ 4096
    most-frames = (start-passed given bytes policy l passed).frames-high

    at : (b : Bool) → member p policy.listed_pages ≡ b
        → Tame policy.frames (protected policy first_terms)
        (record {
          user = false;
          entry = cond b (approved false frame) 0;
          approval = cond b frame none;
          excluded = named policy;
          pending = none;
          own = false;
        })
    at true e = tame-approved policy.frames most-frames (protected policy first_terms) (first_page policy p) frame frame (own_below given bytes l passed p e)
    at false e = tame-absent policy.frames most-frames (protected policy first_terms) (first_page policy p) none

module _ (given : Givens) (bytes : List ℕ) (t : Tables) (calls : List Call) (accepted : (start_of given bytes t).reply.number ≡ 0) where
  abbrev start : Guard
  start = (start_of given bytes t).guard

  always-tame : Invariant (policy_of bytes) (terms_along start first_terms calls) (guard_after start calls)
      × AllTame (policy_of bytes) (terms_along start first_terms calls) (guard_after start calls)
  always-tame =
      let passed : first_no (start_questions given bytes (policy_of bytes) (lengths_of t)) ≡ 0 = start-settled given bytes t accepted in
      rw (start-guard given bytes t accepted)
      (kept-along (policy_of bytes) (AllTame (policy_of bytes)) (λ terms g h tame. tame-after (policy_of bytes) terms g h tame) calls first_terms
      (start_guard given (policy_of bytes)) (start-kept given bytes (lengths_of t) passed) (start-tame given bytes (lengths_of t) passed))

pub installed : Installed
installed given bytes t calls accepted p below =
    let always = always-tame given bytes t calls accepted in
    entry-harmless (policy_of bytes) _ _ always.0 always.1 p

-- From it alone: the frames that entries map, those that they may write to, and those that they may execute.
pub installed-maps : Installed → InstalledMaps
installed-maps all given bytes t calls accepted p below =
    let entry = all given bytes t calls accepted p below in ((λ there. (entry.0 there).below), entry.1)

pub installed-writes : Installed → InstalledWrites
unfolding protected terms_after settle term_after term_change_of in_term
installed-writes all given bytes t calls accepted = (
  (λ p below there w. term-named (named policy _) (terms_along start first_terms calls _) (((all given bytes t calls accepted p below).0 there).unprotected w)),
  asked-frame,
)
  where
    policy : Policy
    policy = policy_of bytes

    start : Guard
    start = (start_of given bytes t).guard

    asked-frame : (page frame : ℕ) → Accepts (guard_after start calls) (ask page frame) → (p : ℕ) → p < policy.pages
        → let entry : ℕ = get_or (outcome_of (guard_after start calls) (ask page frame)).guard.tables.shadow p 0 in
        digit 0 entry ≡ true → digit 1 entry ≡ true → frame_field entry ≡ frame → ⊥
    asked-frame page frame e p below there w is =
        let harmless = rw (guard-snoc start calls (ask page frame), terms-snoc start first_terms calls (ask page frame)) at
        (all given bytes t (calls ++ (ask page frame ∷ [])) accepted p below).0 in
        let free = rw e at (rw is at ((harmless there).unprotected w)) in
        true≢false (sym (either_second (named policy frame) (rw (eq-eqb frame frame refl) refl)) ∙ free)

pub installed-runs : Installed → InstalledRuns
unfolding code either
installed-runs all given bytes t calls accepted p below there runs = (
  (λ kernel. (unwritable kernel (digit 1 entry) refl, code_of (named policy (frame_field entry)) refl (h.kernel_runs kernel runs))),
  (λ user. h.user_runs user runs),
)
  where
    policy : Policy
    policy = policy_of bytes

    start : Guard
    start = (start_of given bytes t).guard

    terms : Terms
    terms = terms_along start first_terms calls

    g : Guard
    g = guard_after start calls

    entry : ℕ
    entry = get_or g.tables.shadow p 0

    h : Harmless policy terms (in_user g.state.mode) entry
    h = (all given bytes t calls accepted p below).0 there

    unwritable : in_user g.state.mode ≡ false → (b : Bool) → digit 1 entry ≡ b → b ≡ false
    unwritable kernel false e = refl
    unwritable kernel true e = absurd (true≢false (sym (code-protected policy terms (frame_field entry) (h.kernel_runs kernel runs)) ∙ h.unprotected e))

    code_of : (b : Bool) → named policy (frame_field entry) ≡ b → either b (is_committed (terms (frame_field entry))) ≡ true
        → (named policy (frame_field entry) ≡ true) ⊎ Committed (frame_field entry) start calls
    code_of true e c = inl e
    code_of false e c = inr (committed-in-list (frame_field entry) calls start c)

-- The exclusion vector has the bits of the protected frames, and these are below F.
pub spare-bits-zero : SpareBitsZero
unfolding has_bit bit
spare-bits-zero given bytes t calls accepted f over =
    let always = (always-tame given bytes t calls accepted).0 in
    excluded-is (policy_of bytes) _ _ always f ∙ past-no (protected (policy_of bytes) _) (policy_of bytes).frames always.below f over
