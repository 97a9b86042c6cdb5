-- Laws of a record as it is written: a number, numbers in a row, the sizes, the whole; and the call, by the first no of its questions.
use Prim.Native.Nat.{ℕ, suc, ◌+◌, ◌*◌, ◌/◌, ◌%◌, ◌≤◌, ◌<◌}
use mathlib.Core.Bool.{Bool, true, false, not}
use mathlib.Core.List.{List, [], ◌∷◌, ◌++◌}
use mathlib.Core.Path.{◌≡◌, refl, sym, ap, ◌∙◌}
use lib.Dec.{leb, eqb}
use lib.ListN.{length, get_or, set, drop}
use lib.Seq.{sets, sets-eq}
use mir.Syntax.{w16}
use mir.Val.{Fits}
use native.Mathlib.Numerals.{add-one}
use native.Mathlib.Omega.{arith}
use borrow.Author.Tests.{le-leb, lt-leb, eqb-true}
use Rattle.std.specs.Prelude.{Ok, Err}
use Rattle.model.specs.declared.Refusal.{Refusal}
use Rattle.model.specs.Refusals.{number_of}
use Rattle.model.specs.Basics.{both}
use Rattle.model.specs.Policy.{Policy}
use Rattle.model.specs.Questions.{question, first_no, policy_questions}
use Rattle.model.specs.Calls.{reply_of}
use Rattle.record_model.specs.Record.{policy_by, number_bytes, numbers_bytes, record_of, arrays_exact, write_record_questions, written, write_record_of}
use Rattle.laws.proofs.QuestionLaws.{both_first, both-second, first_no-yes, first_no-no, first_no-front, first_no-back, first_no-both, numbered}
use Rattle.laws.proofs.CallLaws.{passed, stopped, none_left, settle-refused-by}
use Rattle.laws.proofs.CallLaws.{numbered as is_numbered}
use Rattle.laws.proofs.PolicyLaws.{Passed, policy-passed, exact-yes}
use Rattle.std.specs.Int.{to_le_bytes}
use Rattle.record_model.proofs.RecordLaws.{length-numbers_bytes, numbers_bytes-append, written-length, pages-exact, frames-exact, room-there}
use Rattle.record_model.proofs.RecordLaws.{written_is}
use Rattle.record.proofs.ArrayLaws.{array-front, array-ends}

-- Two stores put a number.
pub number_put : (buffer : List ℕ) (at number : ℕ) (bytes : List ℕ) → number < 65536 → bytes ≡ to_le_bytes w16 number
    → set (set buffer at (get_or bytes 0 0)) (at + 1) (get_or bytes 1 0) ≡ sets buffer at (number_bytes number)
unfolding number_bytes
number_put buffer at number bytes small e =
    let low : get_or bytes 0 0 ≡ number % 256 = rw e (omega arith) in
    let high : get_or bytes 1 0 ≡ number / 256 = rw e (omega arith) in
    rw (low, high, add-one)

-- Numbers in a row, at the number at place i. `whole` is the buffer with all of them.
module _ (numbers buffer : List ℕ) (place i : ℕ) (whole : List ℕ) (e : sets buffer place (numbers_bytes (drop i numbers)) ≡ whole) where
  pub numbers-end : length numbers ≤ i → buffer ≡ whole
  unfolding numbers_bytes
  numbers-end h = rw (array-ends numbers i h) at e

  pub numbers_more : (next : List ℕ) → i < length numbers → next ≡ sets buffer place (number_bytes (get_or numbers i 0))
      → sets next (place + 2) (numbers_bytes (drop (i + 1) numbers)) ≡ whole
  unfolding numbers_bytes number_bytes
  numbers_more next more put =
      let after : place + 2 ≡ suc (suc place) = omega arith in
      rw (put, after) (rw (array-front numbers i more) at e)

-- The four sizes, one after the other.
pub sizes-put : (buffer b1 b2 b3 b4 : List ℕ) (pages frames count entries : ℕ) → b1 ≡ sets buffer 0 (number_bytes pages) → b2 ≡ sets b1 2 (number_bytes frames)
    → b3 ≡ sets b2 4 (number_bytes count) → b4 ≡ sets b3 6 (number_bytes entries) → b4 ≡ sets buffer 0 (numbers_bytes (pages ∷ frames ∷ count ∷ entries ∷ []))
unfolding number_bytes numbers_bytes
sizes-put buffer b1 b2 b3 b4 pages frames count entries e1 e2 e3 e4 = rw (e4, e3, e2, e1) refl

-- Bytes put behind others.
sets-append : (l : List ℕ) (i : ℕ) (xs ys : List ℕ) (at : ℕ) → at ≡ i + length xs → sets (sets l i xs) at ys ≡ sets l i (xs ++ ys)
sets-append l i [] ys at e = ap (λ (k : ℕ). sets l k ys) (omega arith)
sets-append l i (x ∷ xs) ys at e = sets-append (set l i x) (suc i) xs ys at (omega arith)

-- Numbers put behind others, and so the sizes, the pages and the frames: the record.
row_put : (buffer b1 b2 xs ys : List ℕ) (at : ℕ) → at ≡ 2 * length xs → b1 ≡ sets buffer 0 (numbers_bytes xs) → b2 ≡ sets b1 at (numbers_bytes ys)
    → b2 ≡ sets buffer 0 (numbers_bytes (xs ++ ys))
row_put buffer b1 b2 xs ys at e e1 e2 =
    rw (e2, e1)
    (sets-append buffer 0 (numbers_bytes xs) (numbers_bytes ys) at (omega (arith, length-numbers_bytes xs)) ∙ ap (sets buffer 0) (sym (numbers_bytes-append xs ys)))

pub record-put : (buffer b1 b2 b3 : List ℕ) (pages frames count entries : ℕ) (ps fs : List ℕ)
    → b1 ≡ sets buffer 0 (numbers_bytes (pages ∷ frames ∷ count ∷ entries ∷ [])) → b2 ≡ sets b1 8 (numbers_bytes ps)
    → b3 ≡ sets b2 (8 + 2 * length ps) (numbers_bytes fs) → b3 ≡ sets buffer 0 (record_of (policy_by pages frames count entries ps fs))
unfolding record_of
record-put buffer b1 b2 b3 pages frames count entries ps fs e1 e2 e3 =
    row_put buffer b2 b3 (pages ∷ frames ∷ count ∷ entries ∷ ps) fs (8 + 2 * length ps) (omega arith)
    (row_put buffer b1 b2 (pages ∷ frames ∷ count ∷ entries ∷ []) ps 8 refl e1 e2) e3

-- The call, by the first no of its questions: that of questions 2 to 6, or 7, or 16. Past question 6, n is at most 2,048. `bytes` is the record's length.
module _ (policy : Policy) (number : ℕ) (asks : number ≡ first_no (policy_questions true true (arrays_exact policy) policy)) where
  pub write-refused : (numbers_fit : Bool) (room : ℕ) → (number ≡ 0 → ⊥) → number ≡ first_no (write_record_questions numbers_fit policy room)
  unfolding write_record_questions
  write-refused numbers_fit room named = asks ∙ sym (first_no-front (policy_questions true true (arrays_exact policy) policy) _ (λ z. named (asks ∙ z)))

  module _ (six : number ≡ 0) where
    pub count-few : policy.count ≤ 2048
    count-few = let p : Passed policy = policy-passed true true (arrays_exact policy) policy (sym asks ∙ six) in omega arith

    module _ (numbers_fit : Bool) (room : ℕ) where
      past6 : (k : ℕ) → k ≡ first_no (question 7 numbers_fit ∷ question 16 (leb (8 + 4 * policy.count) room) ∷ [])
          → k ≡ first_no (write_record_questions numbers_fit policy room)
      unfolding write_record_questions policy_questions numbered both
      past6 k rest = rest ∙ sym (first_no-back (policy_questions true true (arrays_exact policy) policy) _ refl (sym asks ∙ six))

      pub write-7 : not numbers_fit ≡ true → 7 ≡ first_no (write_record_questions numbers_fit policy room)
      write-7 h = past6 7 (stopped 7 numbers_fit _ _ refl h)

      module _ (fits : not numbers_fit ≡ false) (bytes : ℕ) (long : bytes ≡ 8 + 4 * policy.count) where
        pub write-16 : room < bytes → 16 ≡ first_no (write_record_questions numbers_fit policy room)
        write-16 short =
            past6 16 (passed 7 16 numbers_fit _ _ refl fits (sym (first_no-no 16 _ (lt-leb (8 + 4 * policy.count) room (omega arith)))))

        pub write-yes : bytes ≤ room → 0 ≡ first_no (write_record_questions numbers_fit policy room)
        write-yes enough =
            past6 0 (passed 7 0 numbers_fit _ _ refl fits (none_left ∙ sym (first_no-yes 16 _ (le-leb (8 + 4 * policy.count) room (omega arith)))))

-- What questions 2 to 6 have shown of a policy that the call names: its numbers have 16 bits, and its arrays n numbers.
module _ (own policy : Policy) (same : own ≡ policy) (front : first_no (policy_questions true true (arrays_exact policy) policy) ≡ 0) where
  yes : first_no (policy_questions true true (arrays_exact own) own) ≡ 0
  yes = rw same front

  passes : Passed own
  passes = policy-passed true true (arrays_exact own) own yes

  pub pages-cast : Fits w16 own.pages
  pages-cast = let p = passes in record { fits = omega arith }

  pub frames-cast : Fits w16 own.frames
  frames-cast = let p = passes in record { fits = omega arith }

  pub count-cast : Fits w16 own.count
  count-cast = let p = passes in record { fits = omega arith }

  pub entries-cast : Fits w16 own.entry_count
  entries-cast = let p = passes in record { fits = omega arith }

  exact : arrays_exact own ≡ true
  exact = exact-yes true true (arrays_exact own) own yes

  pub record-room : (room : ℕ) → 8 + 4 * policy.count ≤ room → 8 + 2 * length own.listed_pages + 2 * length own.listed_frames ≤ room
  unfolding arrays_exact
  record-room room there =
      let pages : length own.listed_pages ≡ own.count = eqb-true _ _ (both_first _ (eqb (length own.listed_frames) own.count) exact) in
      let frames : length own.listed_frames ≡ own.count = eqb-true _ _ (both-second (eqb (length own.listed_pages) own.count) _ exact) in
      let counts : own.count ≡ policy.count = ap (λ (p : Policy). p.count) same in
      omega arith

-- Refused, or accepted. An accepted call has shown what writing requires.
module _ (policy : Policy) (numbers_fit : Bool) (buffer : List ℕ) (number : ℕ)
    (asks : number ≡ first_no (write_record_questions numbers_fit policy (length buffer))) where
  pub write-refuses : (refusal : Refusal) → number ≡ number_of refusal → written (reply_of (Err refusal)) buffer ≡ write_record_of numbers_fit policy buffer
  unfolding write_record_of reply_of
  write-refuses refusal is = sym (settle-refused-by (number_of refusal) _ _ (is_numbered refusal) (sym asks ∙ is))

  module _ (none : number ≡ 0) where
    all : first_no (write_record_questions numbers_fit policy (length buffer)) ≡ 0
    all = sym asks ∙ none

    pub policy-yes : first_no (policy_questions true true (arrays_exact policy) policy) ≡ 0
    unfolding write_record_questions
    policy-yes = first_no-both (policy_questions true true (arrays_exact policy) policy) _ all

    pub room-yes : 8 + 4 * policy.count ≤ length buffer
    room-yes = room-there numbers_fit policy (length buffer) all

    pub count-written : policy.count ≤ 2048
    count-written = let p : Passed policy = policy-passed true true (arrays_exact policy) policy policy-yes in omega arith

    pub write-accepts : (after : List ℕ) (bytes : ℕ) → after ≡ sets buffer 0 (record_of policy) → bytes ≡ 8 + 4 * policy.count
        → written (reply_of (Ok (bytes, 0))) after ≡ write_record_of numbers_fit policy buffer
    unfolding reply_of
    write-accepts after bytes put is =
        let pages : length policy.listed_pages ≡ policy.count = pages-exact numbers_fit policy (length buffer) all in
        let frames : length policy.listed_frames ≡ policy.count = frames-exact numbers_fit policy (length buffer) all in
        let long : length (record_of policy) ≡ bytes = written-length policy pages frames ∙ sym is in
        let front : sets buffer 0 (record_of policy) ≡ record_of policy ++ drop (0 + length (record_of policy)) buffer =
        sets-eq (record_of policy) buffer 0 (omega (arith, room-yes)) in
        let past : 0 + length (record_of policy) ≡ length (record_of policy) = omega arith in
        rw (put, front, past, ← long) (sym (written_is numbers_fit policy buffer all))

-- What the questions of the call, and the call, are proved by.
pub ruleset asking = (write-refused, count-few, write-7, write-16, write-yes, is_numbered)

pub ruleset settling = (write-refuses, policy-yes, room-yes, count-written)
