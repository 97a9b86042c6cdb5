-- What ask, commit and drop ask and give, and the bounds on the way.
use Rattle.std.specs.Prelude.{None, Some, Option}
use Rattle.std.specs.List.{list_all}
use Prim.Native.Nat.{ℕ, zero, suc, ◌≤◌, ◌<◌}
use mathlib.Core.Bool.{Bool, true, false, not, ◌&&◌}
use mathlib.Core.List.{List, [], ◌∷◌}
use mathlib.Core.Path.{◌≡◌, refl, sym, ap, ◌∙◌}
use lib.ListN.{length, get_or}
use lib.Dec.{ltb, eqb}
use borrow.Author.Tests.{eqb-true, ltb-true}
use mir.Syntax.{w16}
use mir.Val.{Fits}
use native.Mathlib.Omega.{arith}
use Rattle.model.specs.declared.Pending.{Pending}
use Rattle.model.specs.declared.State.{State}
use Rattle.model.specs.Basics.{both, every_from}
use Rattle.model.specs.Guard.{none, pair, Tables, with_shadow, with_map, with_exclusion, Guard, guard_of, with_bit, in_user, is_pending, pending_frame, is_asked, with_pending}
use Rattle.model.specs.Approvals.{maps_writable, committed_slot}
use Rattle.model.specs.Sync.{Sweep, sweep, sweep_from}
use Rattle.model.specs.Questions.{question, View, pending_in_range, state_in_order, in_order, ask_questions, page_unapproved, commit_questions, drop_questions}
use Rattle.model.specs.Calls.{accepted, Outcome, outcome, ask, commit, drop, questions_of, bit_put, pair_committed, effect_of}
use Rattle.laws.proofs.QuestionLaws.{both_first, both-second}
use Rattle.laws.proofs.StateLaws.{pages-few, frames-few, in_order_lem, state-parts}
use Rattle.approvals.proofs.CommitLaws.{committing}

-- Question 21: the shadow table's entries one after the other, and as the model counts their places.
every-suc : (test : ℕ → Bool) (first count : ℕ) → every_from test (suc first) count ≡ every_from (λ p. test (suc p)) first count
unfolding every_from
every-suc test first zero = refl
every-suc test first (suc count) = rw (every-suc test (suc first) count) refl

every_entry : (test : ℕ → Bool) (l : List ℕ) → list_all test l ≡ every_from (λ p. test (get_or l p 0)) 0 (length l)
unfolding every_from both
every_entry test [] = refl
every_entry test (x ∷ xs) =
    by (test x) (list_all test xs)
    ∙ ap (both (test x)) (every_entry test xs ∙ sym (every-suc (λ p. test (get_or (x ∷ xs) p 0)) 0 (length xs)))
  where
    by : (a b : Bool) → (a && b) ≡ both a b
    by true b = refl
    by false b = refl

pub with_pending_is : (s : State) (pending : Option Pending) → with_pending s pending ≡ record s { pending = pending }
unfolding with_pending
with_pending_is s pending = refl

pub ask_asks : (v : View) (page frame : ℕ) → questions_of v (ask page frame)
    ≡ (question 7 (in_order v.state_fits (v.shadow_fits ∷ v.map_fits ∷ v.exclusion_fits ∷ []))
    ∷ question 9 (both (ltb page v.pages) (ltb frame v.frames))
    ∷ question 20 (both (not (is_pending v.pending)) (both (eqb (v.approval page) none) (not (v.excluded frame))))
    ∷ question 21 (every_from (λ p. not (maps_writable frame (v.shadow p))) 0 v.pages)
    ∷ [])
unfolding questions_of ask_questions
ask_asks v page frame = refl

pub ask_gives : (g : Guard) (page frame : ℕ) → effect_of g (ask page frame)
    ≡ outcome (accepted 0 0) (guard_of (with_pending g.state (pair page frame)) (with_exclusion (with_bit true g.tables.exclusion frame) g.tables))
unfolding effect_of bit_put
ask_gives g page frame = refl

pub ruleset asks = (ask_asks, ask_gives, with_pending_is)

-- Question 21, of a table that question 7 has let pass.
pub asked_21 : (s : State) (frame : ℕ) (shadow : List ℕ) (others : List Bool) (r : Bool)
    → true ≡ in_order (state_in_order s) (eqb (length shadow) s.pages ∷ others) → r ≡ list_all (λ entry. not (maps_writable frame entry)) shadow
    → r ≡ every_from (λ p. not (maps_writable frame (get_or shadow p 0))) 0 s.pages
asked_21 s frame shadow others r y7 e =
    let full : length shadow ≡ s.pages = eqb-true _ _ (in_order_lem _ (eqb (length shadow) s.pages ∷ others) (sym y7)).1.0 in
    rw full at (e ∙ every_entry (λ entry. not (maps_writable frame entry)) shadow)

-- A frame that questions 7 and 9 have let pass fits 16 bits.
pub ask-narrow : (s : State) (others : List Bool) (page frame : ℕ) → true ≡ in_order (state_in_order s) others
    → true ≡ both (ltb page s.pages) (ltb frame s.frames) → Fits w16 frame
ask-narrow s others page frame y7 y9 =
    let below : frame < s.frames = ltb-true frame s.frames (both-second (ltb page s.pages) (ltb frame s.frames) (sym y9)) in
    let few : s.frames ≤ 4096 = frames-few s (in_order_lem _ others (sym y7)).0 in
    record { fits = omega arith }

pub commit_asks : (v : View) → questions_of v commit
    ≡ (question 7 (in_order v.state_fits (v.shadow_fits ∷ v.map_fits ∷ [])) ∷ question 20 (page_unapproved v v.pending)
    ∷ question 22 (is_pending v.pending) ∷ [])
unfolding questions_of commit_questions
commit_asks v = refl

pub drop_asks : (v : View) → questions_of v drop
    ≡ (question 7 (in_order v.state_fits (v.exclusion_fits ∷ [])) ∷ question 22 (is_pending v.pending) ∷ [])
unfolding questions_of drop_questions
drop_asks v = refl

pub drop_gives : (g : Guard) → effect_of g drop
    ≡ outcome (accepted 0 0) (guard_of (with_pending g.state None) (with_exclusion (with_bit false g.tables.exclusion (pending_frame g.state.pending)) g.tables))
unfolding effect_of bit_put
drop_gives g = refl

-- What is asked of a pair that is pending, and where none is.
pub none_pending : is_pending None ≡ false
unfolding is_pending
none_pending = refl

pub pair_pending : (asked : Pending) → is_pending (Some asked) ≡ true
unfolding is_pending
pair_pending asked = refl

pub frame_of_pair : (asked : Pending) → pending_frame (Some asked) ≡ asked.frame
unfolding pending_frame
frame_of_pair asked = refl

pub none_unapproved : (v : View) → page_unapproved v None ≡ true
unfolding page_unapproved
none_unapproved v = refl

pub pair_unapproved : (v : View) (asked : Pending) → page_unapproved v (Some asked) ≡ eqb (v.approval asked.page) none
unfolding page_unapproved
pair_unapproved v asked = refl

pub ruleset commits = (commit_asks, none_pending, pair_pending, none_unapproved, pair_unapproved, with_pending_is)

pub ruleset drops = (drop_asks, drop_gives, none_pending, pair_pending, frame_of_pair, with_pending_is)

-- Question 7 of a commit has settled that the tables have V entries, and that the pair is below V and F.
pub commit-inside : (s : State) (long joined : ℕ) (asked : Pending) → true ≡ in_order (state_in_order s) (eqb long s.pages ∷ eqb joined s.pages ∷ [])
    → s.pending ≡ Some asked → (joined ≡ long) × (long ≤ 2048) × (asked.page < long) × (asked.frame < 4096)
unfolding pending_in_range
commit-inside s long joined asked y7 is =
    let all = in_order_lem _ (eqb long s.pages ∷ eqb joined s.pages ∷ []) (sym y7) in
    let full : long ≡ s.pages = eqb-true long s.pages all.1.0 in
    let same : joined ≡ s.pages = eqb-true joined s.pages all.1.1.0 in
    let few : s.pages ≤ 2048 = pages-few s all.0 in
    let below : both (ltb asked.page s.pages) (ltb asked.frame s.frames) ≡ true = rw is at (state-parts s all.0).pending in
    let inside : asked.page < s.pages = ltb-true asked.page s.pages (both_first _ _ below) in
    let frame : asked.frame < s.frames = ltb-true asked.frame s.frames (both-second (ltb asked.page s.pages) (ltb asked.frame s.frames) below) in
    let few-frames : s.frames ≤ 4096 = frames-few s all.0 in
    (omega arith, omega arith, omega arith, omega arith)

-- What a commit gives, by the sweep that its code has made.
pub commit_gives : (s : State) (asked : Pending) (user : Bool) (shadow map shadow' map' : List ℕ) (x y : ℕ) (t : Tables) → s.pending ≡ Some asked
    → user ≡ in_user s.mode → sweep shadow' map' x y ≡ sweep_from (committing user asked.page asked.frame) 0 shadow map
    → effect_of (guard_of s (with_shadow shadow (with_map map t))) commit
    ≡ outcome (accepted x y) (guard_of (with_pending s None) (with_shadow shadow' (with_map map' t)))
unfolding effect_of pair_committed pending_frame is_asked
commit_gives s asked user shadow map shadow' map' x y t is u p =
    ap (λ (pending : Option Pending).
    gives (sweep_from (λ q entry approval. committed_slot (in_user s.mode) (pending_frame pending) (is_asked pending q) entry approval) 0 shadow map)) is
    ∙ sym (ap gives (rw u at p))
  where
    gives : Sweep → Outcome
    gives r = outcome (accepted r.changed r.joined) (guard_of (with_pending s None) (with_shadow r.shadow (with_map r.map t)))
