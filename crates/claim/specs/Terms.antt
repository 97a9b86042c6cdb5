-- Document 02, K6: the frames that a list of calls protects and those that it makes kernel code, by the policy and the accepted asks, commits and drops
-- of the list alone.
use Rattle.std.specs.Prelude.{ℕ, Bool, true, false, cond, eqb}
use Rattle.model.specs.Basics.{either}
use Rattle.model.specs.Policy.{Policy, named}
use Rattle.model.specs.Calls.{settle, Call}
use Rattle.claim.specs.CallKinds.{TermChange, unchanged, begun, confirmed, ended, term_change_of}

-- The term of a frame begins with an accepted ask for it and ends with the drop of that ask. A commit makes it lasting.
pub data Term : Type 0 where
  no_term : Term
  pending_term : Term
  committed_term : Term

-- "at most one pending pair": the frame whose term is pending is the one that a commit or a drop is about.
unfoldable pub after_commit : Term → Term
after_commit no_term = no_term
after_commit pending_term = committed_term
after_commit committed_term = committed_term

unfoldable pub after_drop : Term → Term
after_drop no_term = no_term
after_drop pending_term = no_term
after_drop committed_term = committed_term

-- The term of frame f after an accepted call, by what that does to terms.
unfoldable pub term_after : TermChange → ℕ → Term → Term
term_after unchanged f term = term
term_after (begun frame) f term = cond (eqb f frame) pending_term term
term_after confirmed f term = after_commit term
term_after ended f term = after_drop term

-- The term of each frame: none at first, and after a call that was settled with this number. A refused call changes none.
abbrev pub Terms : Type 0
Terms = ℕ → Term

unfoldable pub first_terms : Terms
first_terms f = no_term

unfoldable pub terms_after : ℕ → Call → Terms → Terms
terms_after number call terms f = settle number (term_after (term_change_of call) f (terms f)) (λ n. terms f)

unfoldable pub in_term : Term → Bool
in_term no_term = false
in_term pending_term = true
in_term committed_term = true

unfoldable pub is_committed : Term → Bool
is_committed no_term = false
is_committed pending_term = false
is_committed committed_term = true

-- The frames of which no allowed write or transfer covers a byte: those named in the policy, and each from its ask on.
unfoldable pub protected : Policy → Terms → ℕ → Bool
protected policy terms f = either (named policy f) (in_term (terms f))

-- The frames that kernel code may be fetched from: "Kernel fetches now read policy or committed frames."
unfoldable pub code : Policy → Terms → ℕ → Bool
code policy terms f = either (named policy f) (is_committed (terms f))
