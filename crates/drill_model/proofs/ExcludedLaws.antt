-- K7: a started drill has a frame excluded, and its output ends with the start's share.
use Prim.Native.Nat.{ℕ, zero, suc, ◌+◌, ◌≤◌, ◌<◌}
use mathlib.Core.Bool.{Bool, true, cond}
use mathlib.Core.List.{List, [], ◌∷◌, ◌++◌, append_assoc}
use mathlib.Core.Logic.{◌⊎◌, inl, inr}
use mathlib.Core.Path.{◌≡◌, refl, sym, ap, subst, ◌∙◌}
use lib.Dec.{eqb}
use lib.ListN.{length, take, drop, replicate}
use native.Mathlib.Nat.{eq-or-lt_of_le}
use native.Mathlib.Omega.{arith}
use Rattle.model.specs.Basics.{member}
use Rattle.model.specs.Guard.{Tables, Guard, vector_bytes, has_bit, in_mode}
use Rattle.model.specs.Policy.{policy_of, named, start_state, start_tables, start_guard}
use Rattle.model.specs.Questions.{first_no, seen, Lengths, lengths_of, all_below, start_questions}
use Rattle.model.specs.Calls.{Outcome, settle, start_of, Call, sync_page, sync_all, fetch, write, enter, leave, device_write, brought_by, questions_of, page_from}
use Rattle.model.specs.Calls.{all_from, page_synced, all_synced, switch_to, effect_of, refused_of, answer}
use Rattle.laws.proofs.PolicyLaws.{Passed, start-passed, length-numbers_at, all_below-member, member-here}
use Rattle.laws.proofs.QuestionLaws.{settle-accepted, settle-refused}
use Rattle.laws.proofs.SyncLaws.{cond_cases}
use Rattle.laws.proofs.VectorLaws.{vector_of-bit}
use Rattle.drill_model.specs.Drill.{policy_extent, Drill, drill_given, drill_start, begun, kind_of, index_of, length_of, value_of, Drilled, with_guard, edited}
use Rattle.drill_model.specs.Drill.{call_of, performed, start_line, Turn, turn_of, turn, entry_lines, count_from, share_line, closing, call_limit, call_lines}
use Rattle.drill_model.specs.Drill.{drill_output}
use Rattle.drill_model.specs.Share.{SomeExcluded, EndsWith, ShareLast}
use Rattle.drill_model.proofs.ShareLaws.{counted}

-- Of numbers of which one passes the test, one is counted at least.
count-some : (test : ℕ → Bool) (first count f : ℕ) → first ≤ f → f < first + count → test f ≡ true → 1 ≤ count_from test first count
unfolding count_from
count-some test first zero f p q e = absurd (omega arith)
count-some test first (suc count) f p q e = by (eq-or-lt_of_le p) (λ s. count-some test (suc first) count f s (omega arith) e)
  where
    by : (first ≡ f) ⊎ (first < f) → (first < f → 1 ≤ count_from test (suc first) count) → 1 ≤ cond (test first) 1 0 + count_from test (suc first) count
    by (inl s) rest = rw (s, e) (omega arith)
    by (inr s) rest = omega (arith, rest s)

-- A policy's list has a first frame, which is below F.
some-listed : (fs : List ℕ) (test : ℕ → Bool) (frames : ℕ) → 1 ≤ length fs → all_below frames fs ≡ true → ((f : ℕ) → member f fs ≡ true → test f ≡ true)
    → 1 ≤ count_from test 0 frames
some-listed [] test frames p below h = absurd (omega arith)
some-listed (f ∷ fs) test frames p below h =
    let here : member f (f ∷ fs) ≡ true = member-here f f fs refl in
    let small : f < frames = all_below-member frames f (f ∷ fs) below here in count-some test 0 frames f (omega arith) (omega arith) (h f here)

module _ (bytes : List ℕ) (l : Lengths) (accepted : first_no (start_questions drill_given bytes (policy_of bytes) l) ≡ 0) where
  passed : Passed (policy_of bytes)
  passed = start-passed drill_given bytes (policy_of bytes) l accepted

  some-frame : 1 ≤ length (policy_of bytes).listed_frames
  unfolding policy_of
  some-frame = rw length-numbers_at passed.count_low

  listed-excluded : (f : ℕ) → member f (policy_of bytes).listed_frames ≡ true
      → has_bit (start_guard drill_given (policy_of bytes)).tables.exclusion f ≡ true
  unfolding start_guard start_tables named
  listed-excluded f m =
      vector_of-bit (policy_of bytes).frames (named (policy_of bytes))
      (λ g e. all_below-member (policy_of bytes).frames g (policy_of bytes).listed_frames passed.frames-below e) f ∙ m

  started-some : 1 ≤ count_from (has_bit (start_guard drill_given (policy_of bytes)).tables.exclusion) 0 (start_guard drill_given (policy_of bytes)).state.frames
  unfolding start_guard start_state
  started-some =
      (some-listed (policy_of bytes).listed_frames _ (policy_of bytes).frames some-frame passed.frames-below
      listed-excluded)

-- The tables that the drill's start is lent.
abbrev lent : List ℕ → Tables
lent bytes =
    record {
      shadow = replicate (policy_of bytes).pages 0;
      map = replicate (policy_of bytes).pages 0;
      exclusion = replicate (vector_bytes (policy_of bytes).frames) 0;
    }

pub some-excluded : SomeExcluded
unfolding SomeExcluded drill_start start_of
some-excluded bytes accepted =
    rw (← counted (drill_start bytes).guard.state.frames (drill_start bytes).guard.tables.exclusion)
    (by_number (first_no (start_questions drill_given bytes (policy_of bytes) (lengths_of (lent bytes)))) refl)
  where
    by_number : (n : ℕ) → first_no (start_questions drill_given bytes (policy_of bytes) (lengths_of (lent bytes))) ≡ n
        → 1 ≤ count_from (has_bit (drill_start bytes).guard.tables.exclusion) 0 (drill_start bytes).guard.state.frames
    by_number zero e =
        let guard : (drill_start bytes).guard ≡ start_guard drill_given (policy_of bytes) = ap (λ (o : Outcome). o.guard) (settle-accepted _ _ e) in
        rw guard (started-some bytes (lengths_of (lent bytes)) e)
    by_number (suc n) e =
        let number : (drill_start bytes).reply.number ≡ suc n = ap (λ (o : Outcome). o.reply.number) (settle-refused n _ _ e) in
        absurd (omega arith)

-- The vector and F are the same.
abbrev Same : Guard → Guard → Type 0
Same g h = (h.tables.exclusion ≡ g.tables.exclusion) × (h.state.frames ≡ g.state.frames)

settle-cases : {A : Type 0} (P : A → Type 0) (n : ℕ) (done : A) (refusal : ℕ → A) → P done → ((k : ℕ) → P (refusal k)) → P (settle n done refusal)
unfolding settle
settle-cases P zero done refusal p q = p
settle-cases P (suc n) done refusal p q = q (suc n)

module _ (d : Drill) where
  abbrev After : Call → Type 0
  After call = Same d.guard (answer d.guard call).guard

  answered : (call : Call) → Same d.guard (effect_of d.guard call).guard → After call
  unfolding answer
  answered call p =
      settle-cases (λ (o : Outcome). Same d.guard o.guard) (first_no (questions_of (seen d.guard) call)) _ (refused_of d.guard (brought_by call)) p
      (λ k. (refl, refl))

  called : (kind index size value : ℕ) → After (call_of d.kernel d.devices kind index size value)
  unfolding call_of effect_of page_from all_from page_synced all_synced switch_to in_mode
  called kind index size value =
      cond_cases After (eqb kind 1) (λ e. answered (sync_page d.kernel index) (refl, refl)) (λ e.
      cond_cases After (eqb kind 2) (λ e. answered (sync_all d.kernel) (refl, refl)) (λ e.
      cond_cases After (eqb kind 3) (λ e. answered (fetch index) (refl, refl)) (λ e.
      cond_cases After (eqb kind 4) (λ e. answered (write value size) (refl, refl)) (λ e.
      cond_cases After (eqb kind 5) (λ e. answered (enter index) (refl, refl)) (λ e.
      cond_cases After (eqb kind 6) (λ e. answered (leave index) (refl, refl)) (λ e.
      answered (device_write d.devices index value size) (refl, refl)))))))

  abbrev Drilled-same : Drilled → Type 0
  Drilled-same r = Same d.guard r.drill.guard

  performed-same : (kind index size value : ℕ) → Drilled-same (performed d kind index size value)
  unfolding performed edited with_guard
  performed-same kind index size value =
      cond_cases Drilled-same (eqb kind 0) (λ e. settle-cases Drilled-same _ _ _ (refl, refl) (λ k. (refl, refl))) (λ e.
      called kind index size value)

turn-same : (d : Drill) (bytes : List ℕ) → Same d.guard (turn d bytes).drill.guard
unfolding turn turn_of
turn-same d [] = (refl, refl)
turn-same d (first ∷ rest) =
    let bytes : List ℕ = first ∷ rest in
    settle-cases (λ (t : Turn). Same d.guard t.drill.guard) _ _ _ (performed-same d (kind_of bytes) (index_of bytes) (length_of bytes) (value_of bytes))
    (λ k. (refl, refl))

-- The lines of any calls end with the share of the guard before them.
abbrev share_by : Guard → List ℕ
share_by g = share_line g.state.frames g.tables.exclusion

ends-after : (line : List ℕ) {last whole : List ℕ} → EndsWith last whole → EndsWith last (line ++ whole)
ends-after line e = record { front = line ++ e.front; same = ap (λ xs. line ++ xs) e.same ∙ sym (append_assoc line e.front _) }

closing-ends : (g : Guard) → EndsWith (share_by g) (closing g)
unfolding closing
closing-ends g = record { front = entry_lines g.tables.shadow; same = refl }

same-share : (g h : Guard) → Same g h → share_by h ≡ share_by g
same-share g h e = rw (e.0, e.1) refl

lines_end : (calls : ℕ) (d : Drill) (rest : List ℕ) → EndsWith (share_by d.guard) (call_lines calls d rest)
unfolding call_lines
lines_end zero d rest = closing-ends d.guard
lines_end (suc calls) d rest =
    let t : Turn = turn d (take 16 rest) in
    let share-same : share_by t.drill.guard ≡ share_by d.guard = same-share d.guard t.drill.guard (turn-same d (take 16 rest)) in
    subst (λ (last : List ℕ). EndsWith last (call_lines (suc calls) d rest)) share-same
    (ends-after t.line
    (cond_cases (EndsWith (share_by t.drill.guard)) t.goes (λ e. lines_end calls t.drill (drop 16 rest)) (λ e. closing-ends t.drill.guard)))

pub share-last : ShareLast
unfolding ShareLast drill_output begun
share-last input accepted =
    let start : Outcome = drill_start (take (policy_extent input) input) in
    ends-after (start_line start)
    (rw (settle-accepted _ _ accepted) (lines_end call_limit (begun start.guard) (drop (policy_extent input) input)))
