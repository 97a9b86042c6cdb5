-- Laws of the start's answers: made of the record, refused by it, refused by question 7, accepted.
use Prim.Native.Nat.{ℕ, ◌≤◌}
use mathlib.Core.Bool.{Bool, true, false, not, cond}
use mathlib.Core.List.{List, [], ◌∷◌}
use mathlib.Core.Path.{◌≡◌, refl, sym, ◌∙◌}
use lib.Dec.{eqb}
use lib.ListN.{length, get_or, take, replicate, length-replicate}
use lib.Seq.{length-take-le}
use native.Mathlib.Omega.{arith}
use borrow.Author.Tests.{not-true, not-false}
use Rattle.model.specs.declared.State.{State}
use Rattle.model.specs.declared.Refusal.{Refusal}
use Rattle.model.specs.declared.Refusal.TheVariants.{StateOrTable}
use Rattle.model.specs.declared.Mode.TheVariants.{Kernel}
use Rattle.std.specs.Prelude.{None, Ok, Err}
use Rattle.model.specs.Refusals.{number_of}
use Rattle.model.specs.Guard.{Tables, tables, vector_bytes, state_of}
use Rattle.model.specs.Policy.{Givens, number_at, policy_of, entry_pages, start_state, start_tables, start_guard, zero_state}
use Rattle.model.specs.Questions.{first_no, policy_questions, in_order, record_questions, Lengths, lengths_of, lengths_fit, start_questions}
use Rattle.model.specs.Calls.{reply_of, outcome_by, start_of}
use Rattle.laws.proofs.QuestionLaws.{settle-accepted}
use Rattle.laws.proofs.CallLaws.{settle-refused-by}
use Rattle.laws.proofs.CallLaws.{numbered as is_numbered}
use Rattle.laws.proofs.PolicyLaws.{Passed, policy-passed, Fitting, start-fitting}
use Rattle.policy.proofs.RecordLaws.{start-refused, start-asked}
use Rattle.start.specs.Start.{entry_table, with_each}
use Rattle.start.proofs.LoopLaws.{frames-small}
use Rattle.start.proofs.TablesSet.{entries-are, first-is, each-length, vector-is}

-- The state of an accepted start, made of the numbers that were read, the first page among them.
pub first-state-is : (given : Givens) (bytes : List ℕ) (pages frames count entries devices first : ℕ) (entry : List ℕ)
    → (pages ≡ number_at bytes 0) × (frames ≡ number_at bytes 2) × (count ≡ number_at bytes 4) × (entries ≡ number_at bytes 6)
    → first_no (policy_questions true true true (policy_of bytes)) ≡ 0 → entry ≡ entry_table bytes entries
    → first ≡ get_or (policy_of bytes).listed_pages 0 0 → devices ≡ given.devices
    → state_of pages frames entries entry (Kernel first) devices None ≡ start_state given (policy_of bytes)
unfolding start_state policy_of
first-state-is given bytes pages frames count entries devices first entry read asked t f d =
    let p : Passed (policy_of bytes) = policy-passed true true true (policy_of bytes) asked in
    let whole : entry ≡ entry_pages (policy_of bytes) = t ∙ entries-are bytes entries read.3 p.entry-count-listed in
    rw (f, whole, read.3, read.0, read.1, d) refl

-- The same, whose first page is the first entry page.
pub state_is : (given : Givens) (bytes : List ℕ) (pages frames count entries devices : ℕ) (entry : List ℕ)
    → (pages ≡ number_at bytes 0) × (frames ≡ number_at bytes 2) × (count ≡ number_at bytes 4) × (entries ≡ number_at bytes 6)
    → first_no (policy_questions true true true (policy_of bytes)) ≡ 0 → entry ≡ entry_table bytes entries → devices ≡ given.devices
    → state_of pages frames entries entry (Kernel (get_or entry 0 0)) devices None ≡ start_state given (policy_of bytes)
state_is given bytes pages frames count entries devices entry read asked t d =
    let p : Passed (policy_of bytes) = policy-passed true true true (policy_of bytes) asked in
    let whole : entry ≡ entry_pages (policy_of bytes) = t ∙ entries-are bytes entries read.3 p.entry-count-listed in
    let first : get_or entry 0 0 ≡ get_or (policy_of bytes).listed_pages 0 0 = rw whole (first-is (policy_of bytes) p.entry-count-low) in
    first-state-is given bytes pages frames count entries devices _ entry read asked t first d

-- The first of a list, as an iterator gives it.
pub first_of : (list rest : List ℕ) (n : ℕ) → list ≡ n ∷ rest → n ≡ get_or list 0 0
first_of list rest n e = rw e refl

-- The buffer is as long as every vector, which is its front.
module _ (bytes : List ℕ) (asked : first_no (policy_questions true true true (policy_of bytes)) ≡ 0) (n : ℕ) (is : n ≡ vector_bytes (policy_of bytes).frames)
    (buffer : List ℕ) (e : buffer ≡ with_each (policy_of bytes).listed_frames (replicate 512 0)) where
  pub buffer-room : n ≤ length buffer
  unfolding vector_bytes
  buffer-room =
      let p : Passed (policy_of bytes) = policy-passed true true true (policy_of bytes) asked in
      rw (e, each-length, length-replicate) (omega arith)

  pub buffer-front : n ≡ length (take n buffer)
  buffer-front = sym (length-take-le n buffer buffer-room)

  pub exclusion-set : (t : List ℕ) → t ≡ take n buffer → t ≡ (start_tables (policy_of bytes)).exclusion
  exclusion-set t cut =
      let p : Passed (policy_of bytes) = policy-passed true true true (policy_of bytes) asked in
      vector-is (policy_of bytes) buffer t n is p.frames-high (frames-small bytes asked) e cut

-- The start's questions: the record's, and then question 7 by the V and F that were read.
module _ (given : Givens) (bytes : List ℕ) (l : Lengths) where
  pub asks-record : (question : ℕ) → question ≡ first_no (record_questions given bytes (policy_of bytes)) → (question ≡ 0 → ⊥)
      → question ≡ first_no (start_questions given bytes (policy_of bytes) l)
  asks-record question asked named = sym (start-refused given bytes question l asked named)

  module _ (asked : 0 ≡ first_no (record_questions given bytes (policy_of bytes))) (pages frames : ℕ) (e_v : pages ≡ number_at bytes 0)
      (e_f : frames ≡ number_at bytes 2) (fits : Bool)
      (e7 : fits ≡ in_order true (eqb l.shadow pages ∷ eqb l.map pages ∷ eqb l.exclusion (vector_bytes frames) ∷ [])) where
    last : first_no (start_questions given bytes (policy_of bytes) l) ≡ cond fits 0 7
    unfolding policy_of lengths_fit
    last = start-asked given bytes 0 l asked refl ∙ rw (e7, e_v, e_f) refl

    pub asks-lengths : not fits ≡ true → 7 ≡ first_no (start_questions given bytes (policy_of bytes) l)
    asks-lengths short = sym (last ∙ rw (not-true fits short) refl)

    module _ (ok : not fits ≡ false) where
      pub asks_none : 0 ≡ first_no (start_questions given bytes (policy_of bytes) l)
      asks_none = sym (last ∙ rw (not-false fits ok) refl)

      -- What the tables require.
      pub tables-ready : (l.shadow ≡ (policy_of bytes).pages) × (l.map ≡ (policy_of bytes).pages) × (l.exclusion ≡ vector_bytes (policy_of bytes).frames)
      tables-ready =
          let fitting : Fitting (policy_of bytes) l = start-fitting given bytes (policy_of bytes) l (sym asks_none) in
          (fitting.shadow, fitting.map, fitting.exclusion)

-- The answers: refused by the record, refused by question 7, accepted. A refused start leaves the tables as they were, and a state of zeros.
module _ (given : Givens) (bytes : List ℕ) (t : Tables) where
  refuses : (refusal : Refusal) (s : State) → s ≡ zero_state → number_of refusal ≡ first_no (start_questions given bytes (policy_of bytes) (lengths_of t))
      → outcome_by (Err refusal) s t ≡ start_of given bytes t
  unfolding start_of outcome_by reply_of
  refuses refusal s zeros asked = rw zeros (sym (settle-refused-by (number_of refusal) _ _ (is_numbered refusal) (sym asked)))

  pub record-refuses : (refusal : Refusal) (s : State) → s ≡ zero_state
      → number_of refusal ≡ first_no (record_questions given bytes (policy_of bytes)) → outcome_by (Err refusal) s t ≡ start_of given bytes t
  record-refuses refusal s zeros asked =
      refuses refusal s zeros (asks-record given bytes (lengths_of t) (number_of refusal) asked (is_numbered refusal))

  module _ (asked : 0 ≡ first_no (record_questions given bytes (policy_of bytes))) (pages frames : ℕ) (e_v : pages ≡ number_at bytes 0)
      (e_f : frames ≡ number_at bytes 2) (fits : Bool)
      (e7 : fits ≡ in_order true (eqb (lengths_of t).shadow pages ∷ eqb (lengths_of t).map pages ∷ eqb (lengths_of t).exclusion (vector_bytes frames) ∷ []))
    where
      pub lengths-refuse : not fits ≡ true → (s : State) → s ≡ zero_state → outcome_by (Err StateOrTable) s t ≡ start_of given bytes t
      lengths-refuse short s zeros = refuses StateOrTable s zeros (asks-lengths given bytes (lengths_of t) asked pages frames e_v e_f fits e7 short)

      pub start-accepts : not fits ≡ false → (count entries : ℕ) → count ≡ number_at bytes 4 → entries ≡ number_at bytes 6 → (state : State)
          → state ≡ start_state given (policy_of bytes) → (shadow map exclusion : List ℕ) → shadow ≡ (start_tables (policy_of bytes)).shadow
          → map ≡ (start_tables (policy_of bytes)).map → exclusion ≡ (start_tables (policy_of bytes)).exclusion
          → outcome_by (Ok (count, entries)) state (tables shadow map exclusion) ≡ start_of given bytes t
      unfolding start_of outcome_by reply_of start_guard policy_of
      start-accepts ok count entries n e state is shadow map exclusion es em ex =
          rw (is, n, e, es, em, ex) (sym (settle-accepted _ _ (sym (asks_none given bytes (lengths_of t) asked pages frames e_v e_f fits e7 ok))))
