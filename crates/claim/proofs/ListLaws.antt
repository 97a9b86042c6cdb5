-- Demand 3: the claim about the whole list, by induction on it. One call at a time, refused or accepted, and then the rest.
use Prim.Native.Nat.{ℕ, zero, suc}
use mathlib.Core.List.{List, [], ◌∷◌}
use mathlib.Core.Path.{◌≡◌, refl, sym, ap, subst, fun_ext, ◌∙◌}
use native.Mathlib.Omega.{arith}
use borrow.Author.Tests.{ne_eqb}
use Rattle.model.specs.Guard.{Guard}
use Rattle.model.specs.Policy.{Policy, policy_of, start_guard}
use Rattle.model.specs.Questions.{first_no, lengths_of, start_questions}
use Rattle.model.specs.Calls.{Reply, refused, settle, Outcome, refused_of, brought_by, Call, effect_of, answer}
use Rattle.claim.specs.OnePage.{reached_in, settled, pages_after}
use Rattle.claim.specs.Claim.{Agree, Always, Claim}
use Rattle.claim.specs.Terms.{Terms, first_terms, terms_after}
use Rattle.claim.specs.Lists.{outcome_of, guard_after, terms_along}
use Rattle.laws.proofs.QuestionLaws.{settle-accepted, settle-refused}
use Rattle.laws.proofs.CallLaws.{effects}
use Rattle.claim.proofs.Invariant.{Invariant, page_of, exclusion-whole, answered}
use Rattle.claim.proofs.CommuteLaws.{commutes, kept}
use Rattle.claim.proofs.SafeLaws.{safe}
use Rattle.claim.proofs.StartLaws.{start-settled, start-guard, first-pages, start-kept}

-- A refused call changes no term.
terms-refused : (n : ℕ) (call : Call) (terms : Terms) → terms_after (suc n) call terms ≡ terms
unfolding terms_after settle
terms-refused n call terms = refl

-- The tables agree with the one-page guards that they show.
agree : (policy : Policy) (terms : Terms) (g : Guard) → Invariant policy terms g → Agree policy g (page_of g)
agree policy terms g h =
    record {
      shadow_length = h.shadow_length;
      map_length = h.map_length;
      mode = λ p l. refl;
      entry = λ p l. refl;
      approval = λ p l. refl;
      exclusion = λ p l. exclusion-whole policy terms g h;
    }

-- What an accepted call gives and hands on, and a refused one, by the number that the one-page guards settle.
module _ (policy : Policy) (terms : Terms) (g : Guard) (h : Invariant policy terms g) (call : Call) where
  abbrev number : ℕ
  number = settled policy (page_of g) (reached_in g) call

  record Accepted : Type 0 where
    reply : (outcome_of g call).reply ≡ (effect_of g call).reply
    pages : pages_after policy 0 call (page_of g) ≡ page_of (outcome_of g call).guard
    still : Invariant policy (terms_after 0 call terms) (outcome_of g call).guard

  accepted : number ≡ 0 → Accepted
  unfolding pages_after settle
  accepted e =
      let outcome : answer g call ≡ effect_of g call = answered policy terms g h call ∙ settle-accepted (effect_of g call) (refused_of g (brought_by call)) e in
      record {
        reply = ap (λ (o : Outcome). o.reply) outcome;
        pages = rw outcome (fun_ext (λ p. commutes policy terms g h call e p));
        still = rw outcome (kept policy terms g h call e);
      }

  record Refused (n : ℕ) : Type 0 where
    reply : (outcome_of g call).reply ≡ refused (suc n)
    guard : (outcome_of g call).guard ≡ g

  refused-call : (n : ℕ) → number ≡ suc n → Refused n
  unfolding settle
  refused-call n e =
      let outcome : answer g call ≡ refused_of g (brought_by call) (suc n) =
      answered policy terms g h call ∙ settle-refused n (effect_of g call) (refused_of g (brought_by call)) e in
      record { reply = ap (λ (o : Outcome). o.reply) outcome; guard = rw outcome refl }

-- What always holds gives the whole of the claim, for any list.
always : (policy : Policy) (calls : List Call) (terms : Terms) (g : Guard) → Invariant policy terms g
    → Always policy terms g (page_of g) calls
unfolding pages_after settle
always policy [] terms g h = agree policy terms g h
always policy (call ∷ calls) terms g h = by_number (number policy terms g h call) refl (always policy calls)
  where
    now : Agree policy g (page_of g)
    now = agree policy terms g h

    by_number : (n : ℕ) → number policy terms g h call ≡ n
        → ((still : Terms) (after : Guard) → Invariant policy still after → Always policy still after (page_of after) calls)
        → Always policy terms g (page_of g) (call ∷ calls)
    by_number zero e rest =
        let done = accepted policy terms g h call e in (
          now,
          rw (done.reply, e) (effects g call).number,
          rw (done.reply, e) (effects g call).allowed,
          (λ _. rw done.reply (safe policy terms g h call e)),
          rw (e, done.pages) (rest _ _ done.still),
        )
    by_number (suc n) e rest =
        let none = refused-call policy terms g h call n e in (
          now,
          rw (none.reply, e) refl,
          rw (none.reply, e) (sym (ne_eqb (suc n) 0 (λ z. omega arith))),
          (λ z. absurd (omega arith)),
          rw (e, terms-refused) (subst (λ (after : Guard). Always policy terms after (page_of g) calls) (sym none.guard) (rest terms g h)),
        )

-- What always holds, with anything besides that every accepted call keeps, holds after every list.
pub kept-along : (policy : Policy) (P : Terms → Guard → Type 0)
    → ((terms : Terms) (g : Guard) → Invariant policy terms g → P terms g → (call : Call) → settled policy (page_of g) (reached_in g) call ≡ 0
    → pages_after policy 0 call (page_of g) ≡ page_of (outcome_of g call).guard → P (terms_after 0 call terms) (outcome_of g call).guard)
    → (calls : List Call) (terms : Terms) (g : Guard) → Invariant policy terms g → P terms g
    → Invariant policy (terms_along g terms calls) (guard_after g calls) × P (terms_along g terms calls) (guard_after g calls)
unfolding guard_after terms_along
kept-along policy P keeps [] terms g h p = (h, p)
kept-along policy P keeps (call ∷ calls) terms g h p =
    let after = by_number (number policy terms g h call) refl in
    kept-along policy P keeps calls (terms_after (outcome_of g call).reply.number call terms) (outcome_of g call).guard after.0 after.1
  where
    Both : ℕ → Guard → Type 0
    Both n after = Invariant policy (terms_after n call terms) after × P (terms_after n call terms) after

    by_number : (n : ℕ) → number policy terms g h call ≡ n → Both (outcome_of g call).reply.number (outcome_of g call).guard
    by_number zero e =
        let done = accepted policy terms g h call e in
        subst (λ (n : ℕ). Both n (outcome_of g call).guard) (sym (ap (λ (r : Reply). r.number) done.reply ∙ (effects g call).number))
        (done.still, keeps terms g h p call e done.pages)
    by_number (suc n) e =
        let none = refused-call policy terms g h call n e in
        subst (λ (m : ℕ). Both m (outcome_of g call).guard) (sym (ap (λ (r : Reply). r.number) none.reply))
        (subst (Both (suc n)) (sym none.guard) (rw terms-refused (h, p)))

-- The list of an accepted start begins with what always holds.
pub claim : Claim
claim given bytes t calls accepted =
    let passed : first_no (start_questions given bytes (policy_of bytes) (lengths_of t)) ≡ 0 = start-settled given bytes t accepted in
    rw (start-guard given bytes t accepted, ← (first-pages given bytes (lengths_of t) passed))
    (always (policy_of bytes) calls first_terms (start_guard given (policy_of bytes)) (start-kept given bytes (lengths_of t) passed))
