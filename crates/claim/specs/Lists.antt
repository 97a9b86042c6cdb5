-- The guard along a list of calls: "Each call gets these as the last one returned or left them."
use Rattle.std.specs.Prelude.{ℕ, List, [], ◌∷◌, ◌≡◌}
use Rattle.model.specs.Guard.{Tables, Guard}
use Rattle.model.specs.Policy.{Givens, Policy, policy_of}
use Rattle.model.specs.Calls.{Outcome, start_of, Call, answer}
use Rattle.claim.specs.Terms.{Terms, terms_after}

-- What the guard gives for a call of a list, and hands on to the next one. Every statement of this crate about lists runs the guard here.
abbrev pub outcome_of : Guard → Call → Outcome
outcome_of g call = answer g call

-- The guard accepts a call.
abbrev pub Accepts : Guard → Call → Type 0
Accepts g call = (outcome_of g call).reply.number ≡ 0

-- The guard after a list of calls.
unfoldable pub guard_after : Guard → List Call → Guard
guard_after g [] = g
guard_after g (call ∷ calls) = guard_after (outcome_of g call).guard calls

-- The terms of frames after it.
unfoldable pub terms_along : Guard → Terms → List Call → Terms
terms_along g terms [] = terms
terms_along g terms (call ∷ calls) = terms_along (outcome_of g call).guard (terms_after (outcome_of g call).reply.number call terms) calls

-- What holds of each accepted call of a list, with the guard that it reaches.
abbrev pub EachAccepted : (Guard → Call → Type 0) → Guard → List Call → Type 0
EachAccepted holds g [] = Unit {0}
EachAccepted holds g (call ∷ calls) = (Accepts g call → holds g call) × EachAccepted holds (outcome_of g call).guard calls

-- What holds of every accepted start, with its policy and guard, and every list of calls, with the guard after it.
abbrev pub AfterEvery : (Policy → Guard → List Call → Guard → Type 0) → Type 0
AfterEvery holds =
    (given : Givens) (bytes : List ℕ) (t : Tables) (calls : List Call) →
    (start_of given bytes t).reply.number ≡ 0 →
    let start : Guard = (start_of given bytes t).guard in
    holds (policy_of bytes) start calls (guard_after start calls)
