-- Laws of what an exported call returns and leaves: the runs not usable, the call made. One of each serves every call.
use Prim.Native.Nat.{ℕ, zero, suc, ◌<◌}
use mathlib.Core.Bool.{Bool, true, false, cond}
use mathlib.Core.List.{List, []}
use mathlib.Core.Path.{◌≡◌, refl, sym, ◌∙◌}
use lib.ListN.{length}
use Rattle.std.specs.Prelude.{Result, Ok, Err}
use Rattle.std.specs.Result.{MatchResult}
use Rattle.decode.specs.Lent.{usable, lent_state}
use Rattle.model.specs.declared.Refusal.{Refusal}
use Rattle.model.specs.declared.Refusal.TheVariants.{StateOrTable}
use Rattle.model.specs.declared.State.{State}
use Rattle.model.specs.declared.Device.{Device}
use Rattle.model.specs.Basics.{both}
use Rattle.model.specs.Guard.{Tables, with_shadow, guard_of}
use Rattle.model.specs.Devices.{device_at}
use Rattle.model.specs.Questions.{state_in_order}
use Rattle.model.specs.Calls.{Answer, reply_of, settle, outcome_by, Call, device_write, answer}
use Rattle.laws.proofs.QuestionLaws.{both_first}
use Rattle.laws.proofs.CallLaws.{answer-unfit}
use Rattle.boundary_model.specs.Words.{state_words, state_in, numbers_by, changed_by, with_words, with_numbers, lendable, run_after}
use Rattle.decode.proofs.WordLaws.{run_lent}
use Rattle.boundary_model.specs.Boundary.{returned, replied, call_at}

-- What an answer returns and says to the numbers run of a call that gives count numbers.
abbrev pub Says : ℕ → Answer → ℕ → List ℕ → List ℕ → Type 0
Says count a r numbers after = (r ≡ (reply_of a).number) × (after ≡ with_numbers count numbers (reply_of a))

-- The state run after a call that may change the state: an accepted one has put there what it can change.
abbrev pub put : List ℕ → Call → Answer → State → List ℕ
put run call a s = settle (reply_of a).number (with_words run s (changed_by call)) (λ _. run)

-- What the boundary's part of question 7 gives: the refusal, or the state that the run holds.
refused-where : (u : Bool) (s : State) (refusal : Refusal) → Err refusal ≡ cond u (Ok s) (Err StateOrTable) → (u ≡ false) × (refusal ≡ StateOrTable)
refused-where true s refusal e = (cc, cc)
refused-where false s refusal e = (refl, cc)

lent-where : (u : Bool) (s x : State) → Ok x ≡ cond u (Ok s) (Err StateOrTable) → (u ≡ true) × (s ≡ x)
lent-where true s x e = (refl, cc)
lent-where false s x e = (cc, cc)

module _ (run numbers : List ℕ) (o : Result State Refusal) where
  -- Question 7 of each call: a run cannot be lent, or the state is not in order.
  pub unused : (call : Call) (refusal : Refusal) (after : List ℕ) (r : ℕ) (t : Tables) → o ≡ lent_state (numbers_by call) run numbers → o ≡ Err refusal
      → Says (numbers_by call) (Err refusal) r numbers after → returned r run after t ≡ call_at run numbers t call
  unfolding call_at replied reply_of both run_after settle
  unused call refusal after r t lent is says =
      let no = refused-where (usable (numbers_by call) run numbers) (state_in run) refusal (sym is ∙ lent) in
      by (lendable (numbers_by call) run numbers) refl no.0 (rw no.1 at says.0) (rw no.1 at says.1)
    where
      by : (l : Bool) → lendable (numbers_by call) run numbers ≡ l → usable (numbers_by call) run numbers ≡ false → r ≡ 7
          → after ≡ with_numbers (numbers_by call) numbers (reply_of (Err StateOrTable)) → returned r run after t ≡ call_at run numbers t call
      by true e u n w = rw (e, answer-unfit (guard_of (state_in run) t) call (rw e at u), n, w) refl
      by false e u n w = rw (e, n, w) refl

  -- The state that a call is lent: the runs are usable, and it is the one in the run.
  module _ (count : ℕ) (s : State) (lent : o ≡ lent_state count run numbers) (is : o ≡ Ok s) where
    in-use : (usable count run numbers ≡ true) × (state_in run ≡ s)
    in-use = lent-where (usable count run numbers) (state_in run) s (sym is ∙ lent)

    lends : lendable count run numbers ≡ true
    lends = both_first (lendable count run numbers) (state_in_order (state_in run)) in-use.0

    pub run-used : length run ≡ state_words
    run-used = run_lent count run numbers lends

-- A call that can change no word of the state run.
none-changed : (run : List ℕ) (s : State) (n : ℕ) → run ≡ settle n (with_words run s []) (λ _. run)
unfolding settle with_words
none-changed run s zero = refl
none-changed run s (suc n) = refl

module _ (run numbers : List ℕ) (o : Result State Refusal) (call : Call) (s : State) (lent : o ≡ lent_state (numbers_by call) run numbers) (is : o ≡ Ok s) where
  -- The call's own answer, of a call that may change the state and of one that keeps it. What it is lent and what it leaves, of any tables.
  module _ (after : List ℕ) (r : ℕ) (a : Answer) (before after' : Tables → Tables) where
    pub called : (run' : List ℕ) (s' : State) → ((t : Tables) → outcome_by a s' (after' t) ≡ answer (guard_of s (before t)) call)
        → Says (numbers_by call) a r numbers after → run' ≡ put run call a s'
        → (t : Tables) → returned r run' after (after' t) ≡ call_at run numbers (before t) call
    unfolding call_at replied outcome_by run_after
    called run' s' e says p t =
        let used = in-use run numbers o (numbers_by call) s lent is in
        rw (lends run numbers o (numbers_by call) s lent is, sym (rw (sym used.1) at (e t)), says.0, says.1, p) refl

    pub kept : changed_by call ≡ [] → ((t : Tables) → outcome_by a s (after' t) ≡ answer (guard_of s (before t)) call)
        → Says (numbers_by call) a r numbers after → (t : Tables) → returned r run after (after' t) ≡ call_at run numbers (before t) call
    kept none e says = called run s e says (rw none (none-changed run s (reply_of a).number))

  -- The same of a call that is lent the shadow table.
  module _ (after : List ℕ) (r : ℕ) (a : Answer) where
    pub shadow-called : (shadow shadow' run' : List ℕ) (s' : State)
        → ((t : Tables) → outcome_by a s' (with_shadow shadow' t) ≡ answer (guard_of s (with_shadow shadow t)) call)
        → Says (numbers_by call) a r numbers after → run' ≡ put run call a s'
        → (t : Tables) → returned r run' after (with_shadow shadow' t) ≡ call_at run numbers (with_shadow shadow t) call
    shadow-called shadow shadow' = called after r a (with_shadow shadow) (with_shadow shadow')

-- A call that reads what it is lent, by what `and_then` gives: its answer on the state, or the refusal of question 7.
pub read-answered : (run numbers : List ℕ) (o : Result State Refusal) (call : Call) (after : List ℕ) (r : ℕ) (a : Answer) (tables : Tables → Tables)
    → changed_by call ≡ [] → o ≡ lent_state (numbers_by call) run numbers
    → MatchResult o (λ s. (t : Tables) → outcome_by a s (tables t) ≡ answer (guard_of s (tables t)) call) (λ refusal. a ≡ Err refusal)
    → Says (numbers_by call) a r numbers after → (t : Tables) → returned r run after (tables t) ≡ call_at run numbers (tables t) call
read-answered run numbers (Ok s) call after r a tables none lent e says t = kept run numbers (Ok s) call s lent refl after r a tables tables none e says t
read-answered run numbers (Err refusal) call after r a tables none lent e says t =
    unused run numbers (Err refusal) call refusal after r (tables t) lent refl (rw e at says)

-- A device write's answer is of every list so long and with this record for its device, and so of one of them (K5).
pub of-list : (o : Result State Refusal) (a : Answer) (listed : ℕ) (d : Device) (device address size : ℕ) (tables : Tables → Tables)
    → MatchResult o
    (λ s. (t : Tables) (devices : List Device) → length devices ≡ listed → (device < listed → device_at devices device ≡ d)
    → outcome_by a s (tables t) ≡ answer (guard_of s (tables t)) (device_write devices device address size))
    (λ refusal. a ≡ Err refusal)
    → (devices : List Device) → length devices ≡ listed → (device < listed → device_at devices device ≡ d)
    → MatchResult o (λ s. (t : Tables) → outcome_by a s (tables t) ≡ answer (guard_of s (tables t)) (device_write devices device address size)) (λ refusal. a ≡ Err refusal)
of-list (Ok s) a listed d device address size tables e devices long placed = λ t. e t devices long placed
of-list (Err refusal) a listed d device address size tables e devices long placed = e
