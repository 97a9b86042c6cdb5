-- Demand 3: what is always true of the guard after an accepted start, and the one-page guards that its tables show. The questions of a call
-- see the same through both, so that the guard's answer is the one that they settle.
use Prim.Native.Nat.{ℕ, ◌<◌}
use mathlib.Core.Bool.{true, false}
use mathlib.Core.Path.{◌≡◌, sym, ap, ◌∙◌}
use lib.ListN.{length, get_or}
use borrow.Author.Tests.{eq-eqb}
use Rattle.model.specs.Guard.{none, Guard, vector_bytes, has_bit, vector_of, in_user, pending_frame, is_asked}
use Rattle.model.specs.Policy.{Policy, named, entry_pages}
use Rattle.model.specs.Questions.{View, first_no, seen, state_in_order}
use Rattle.model.specs.Calls.{settle, refused_of, brought_by, Call, questions_of, effect_of, answer}
use Rattle.claim.specs.OnePage.{Page, reached_in, seen_by, settled}
use Rattle.claim.specs.Terms.{Terms, protected, code}
use Rattle.claim.proofs.TermLaws.{is_waiting, awaited, code-protected}
use Rattle.laws.proofs.VectorLaws.{vector_of-length, vector_of-bit, vector_of-same}
use Rattle.claim.proofs.PageLaws.{Good}

-- The one-page guard of a page, as the tables show it: in the proof only. Beyond V it reads 0 and 65535.
abbrev pub page_of : Guard → ℕ → Page
page_of g p =
    record {
      user = in_user g.state.mode;
      entry = get_or g.tables.shadow p 0;
      approval = get_or g.tables.map p none;
      excluded = has_bit g.tables.exclusion;
      pending = pending_frame g.state.pending;
      own = is_asked g.state.pending p;
    }

-- What holds of the guard after the start and after every call. What a later call excludes or approves changes the fields about frames alone.
pub record Invariant (policy : Policy) (terms : Terms) (g : Guard) : Type 0 where
  -- the state's sizes and entry pages are the policy's
  pub pages : g.state.pages ≡ policy.pages
  pub frames : g.state.frames ≡ policy.frames
  pub entry_count : g.state.entry_count ≡ policy.entry_count
  pub entry_pages : g.state.entry_pages ≡ entry_pages policy
  -- the state passes question 7
  pub fits : state_in_order g.state ≡ true
  -- the tables have their lengths
  pub shadow_length : length g.tables.shadow ≡ policy.pages
  pub map_length : length g.tables.map ≡ policy.pages
  -- the excluded frames are the protected ones, the policy's, the committed ones and the pending one, and they are below F
  pub exclusion : g.tables.exclusion ≡ vector_of policy.frames (protected policy terms)
  pub below : (f : ℕ) → protected policy terms f ≡ true → f < policy.frames
  -- the frame whose term is pending is the state's pending frame, and none of the policy's
  pub waiting : (f : ℕ) → is_waiting (terms f) ≡ awaited g.state.pending f
  pub unnamed : (f : ℕ) → is_waiting (terms f) ≡ true → named policy f ≡ false
  -- every page is good
  pub good : (p : ℕ) → Good (code policy terms) (page_of g p)

module _ (policy : Policy) (terms : Terms) (g : Guard) (h : Invariant policy terms g) where
  -- The exclusion vector: its length, a frame's bit, and that it is made of its own bits.
  pub exclusion-length : length g.tables.exclusion ≡ vector_bytes policy.frames
  exclusion-length = rw h.exclusion (vector_of-length policy.frames (protected policy terms))

  pub excluded-is : (f : ℕ) → has_bit g.tables.exclusion f ≡ protected policy terms f
  excluded-is f = rw h.exclusion (vector_of-bit policy.frames (protected policy terms) h.below f)

  pub exclusion-whole : g.tables.exclusion ≡ vector_of policy.frames (has_bit g.tables.exclusion)
  exclusion-whole = h.exclusion ∙ vector_of-same policy.frames _ _ (λ f. sym (excluded-is f))

  -- The frames of code are protected, so they are below F.
  pub code_below : (f : ℕ) → code policy terms f ≡ true → f < policy.frames
  code_below f c = h.below f (code-protected policy terms f c)

  -- The questions see the same in the tables as in the one-page guards.
  same_view : seen g ≡ seen_by policy (page_of g) (reached_in g)
  same_view i =
      record {
        pages = h.pages i;
        frames = h.frames i;
        entry_count = h.entry_count i;
        entry_page = λ n. get_or (h.entry_pages i) n 0;
        devices = g.state.devices;
        pending = g.state.pending;
        user = in_user g.state.mode;
        shadow = λ p. get_or g.tables.shadow p 0;
        approval = λ p. get_or g.tables.map p none;
        excluded = has_bit g.tables.exclusion;
        state_fits = h.fits i;
        shadow_fits = (eq-eqb (length g.tables.shadow) g.state.pages (h.shadow_length ∙ sym h.pages)) i;
        map_fits = (eq-eqb (length g.tables.map) g.state.pages (h.map_length ∙ sym h.pages)) i;
        exclusion_fits = (eq-eqb (length g.tables.exclusion) (vector_bytes g.state.frames) (exclusion-length ∙ sym (ap vector_bytes h.frames))) i;
      }

  -- The guard's outcome, by the number that the one-page guards settle.
  pub answered : (call : Call) → answer g call ≡ settle (settled policy (page_of g) (reached_in g) call) (effect_of g call) (refused_of g (brought_by call))
  unfolding answer settled
  answered call = ap (λ (v : View). settle (first_no (questions_of v call)) (effect_of g call) (refused_of g (brought_by call))) same_view
