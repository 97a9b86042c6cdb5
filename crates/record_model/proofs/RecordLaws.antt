-- Laws of a policy record as it is written: how long it is, that it reads back as its policy, that what was read is written as the same bytes,
-- and what a call that writes one has asked.
use Prim.Native.Nat.{ℕ, zero, suc, ◌+◌, ◌*◌, ◌/◌, ◌%◌, ◌≤◌, ◌<◌}
use mathlib.Core.Bool.{Bool, true}
use mathlib.Core.List.{List, [], ◌∷◌, ◌++◌}
use mathlib.Core.Path.{◌≡◌, refl, sym, ap, ◌∙◌}
use lib.Dec.{eqb}
use lib.ListN.{length, get_or, take, drop, length-append, get_or-append}
use lib.Seq.{ext_get_or, take_all, drop-cons, get_or-append-add, take-append_seam}
use native.Mathlib.Nat.{zero-add, suc-add, le_of_suc-le-suc}
use native.Mathlib.Numerals.{add-one}
use native.Mathlib.Omega.{arith}
use borrow.Author.Tests.{lt-ltb, le-leb, leb-true, eq-eqb, eqb-true}
use Rattle.model.specs.Basics.{both, either}
use Rattle.model.specs.Sizes.{devices_in_range}
use Rattle.model.specs.Guard.{Tables, vector_bytes}
use Rattle.model.specs.Policy.{Givens, Policy, number_at, numbers_at, policy_of, start_guard}
use Rattle.model.specs.Questions.{first_no, all_below, in_order, policy_questions, givens_in_range, record_questions, lengths_of, lengths_fit, start_questions}
use Rattle.model.specs.Calls.{accepted, outcome, start_of}
use Rattle.record_model.specs.Record.{number_bytes, numbers_bytes, record_of, arrays_exact, write_record_questions, Written, written, write_record_of}
use Rattle.record_model.specs.Record.{Ready, WrittenStarts, WrittenAgain}
use Rattle.laws.proofs.QuestionLaws.{both_yes, both_first, both-second, within-yes}
use Rattle.laws.proofs.QuestionLaws.{asked, numbered, all_yes, first_no-yes, first_no-back, first_no-both, settle-accepted, settle-number}
use Rattle.laws.proofs.CallLaws.{none_left}
use Rattle.laws.proofs.PolicyLaws.{length-numbers_at, get_or-numbers_at, exact-yes, policy-asked, record-length, all_below-more, all_below-head, all_below-tail}
use Rattle.laws.proofs.PolicyLaws.{all_below-wider, Passed, policy-passed}

-- The bytes of numbers in a row: how many, those of two rows, and each number read back.
pub length-numbers_bytes : (numbers : List ℕ) → length (numbers_bytes numbers) ≡ 2 * length numbers
unfolding numbers_bytes number_bytes
length-numbers_bytes [] = refl
length-numbers_bytes (x ∷ numbers) = omega (arith, length-numbers_bytes numbers)

pub numbers_bytes-append : (xs ys : List ℕ) → numbers_bytes (xs ++ ys) ≡ numbers_bytes xs ++ numbers_bytes ys
unfolding numbers_bytes number_bytes
numbers_bytes-append [] ys = refl
numbers_bytes-append (x ∷ xs) ys = rw (numbers_bytes-append xs ys) refl

number-later : (a b : ℕ) (bytes : List ℕ) (at : ℕ) → number_at (a ∷ b ∷ bytes) (suc (suc at)) ≡ number_at bytes at
unfolding number_at
number-later a b bytes at = rw (add-one, add-one)

number-back : (numbers : List ℕ) (i : ℕ) → i < length numbers → number_at (numbers_bytes numbers) (2 * i) ≡ get_or numbers i 0
unfolding numbers_bytes number_bytes number_at
number-back [] i h = absurd (omega arith)
number-back (x ∷ numbers) zero h = omega arith
number-back (x ∷ numbers) (suc i) h =
    let e : 2 * suc i ≡ suc (suc (2 * i)) = omega arith in
    ap (number_at (numbers_bytes (x ∷ numbers))) e ∙
    (number-later (x % 256) (x / 256) (numbers_bytes numbers) (2 * i) ∙ number-back numbers i (le_of_suc-le-suc h))

-- The bytes of 16-bit numbers are bytes.
bytes_small : (numbers : List ℕ) → all_below 65536 numbers ≡ true → (i : ℕ) → i < length (numbers_bytes numbers) → get_or (numbers_bytes numbers) i 0 < 256
unfolding numbers_bytes number_bytes
bytes_small [] small i h = absurd (omega arith)
bytes_small (x ∷ numbers) small zero h = omega arith
bytes_small (x ∷ numbers) small (suc zero) h = omega (arith, all_below-head 65536 x numbers small)
bytes_small (x ∷ numbers) small (suc (suc i)) h = bytes_small numbers (all_below-tail 65536 x numbers small) i (le_of_suc-le-suc (le_of_suc-le-suc h))

module _ (limit : ℕ) where
  below_one : (x : ℕ) (xs : List ℕ) → x < limit → all_below limit xs ≡ true → all_below limit (x ∷ xs) ≡ true
  below_one x xs h rest = all_below-more limit x xs (sym (lt-ltb x limit h)) refl ∙ rest

  below-append : (xs ys : List ℕ) → all_below limit xs ≡ true → all_below limit ys ≡ true → all_below limit (xs ++ ys) ≡ true
  below-append [] ys h k = k
  below-append (x ∷ xs) ys h k = below_one x (xs ++ ys) (all_below-head limit x xs h) (below-append xs ys (all_below-tail limit x xs h) k)

-- The numbers that stand in a row from a place on.
numbers-back : (bytes numbers : List ℕ) (at count : ℕ) → length numbers ≡ count → ((i : ℕ) → i < count → number_at bytes (at + 2 * i) ≡ get_or numbers i 0)
    → numbers_at bytes at count ≡ numbers
numbers-back bytes numbers at count e read =
    ext_get_or 0 (numbers_at bytes at count) numbers (length-numbers_at bytes at count ∙ sym e)
    (λ i l. let below : i < count = rw length-numbers_at at l in get_or-numbers_at bytes at count i below ∙ read i below)

-- A record whose arrays have n numbers each: its length, and the policy that it reads back as.
module _ (policy : Policy) (pages-fit : length policy.listed_pages ≡ policy.count) (frames-fit : length policy.listed_frames ≡ policy.count) where
  numbers : List ℕ
  numbers = policy.pages ∷ policy.frames ∷ policy.count ∷ policy.entry_count ∷ (policy.listed_pages ++ policy.listed_frames)

  numbers-length : length numbers ≡ 4 + 2 * policy.count
  unfolding numbers
  numbers-length = omega (arith, length-append policy.listed_pages policy.listed_frames)

  pub written-length : length (record_of policy) ≡ 8 + 4 * policy.count
  unfolding record_of numbers
  written-length = omega (arith, length-numbers_bytes numbers, numbers-length)

  at : (i place : ℕ) → place ≡ 2 * i → i < 4 + 2 * policy.count → number_at (record_of policy) place ≡ get_or numbers i 0
  unfolding record_of numbers
  at i place e h = ap (number_at (record_of policy)) e ∙ number-back numbers i (omega (arith, numbers-length))

  page-back : (i : ℕ) → i < policy.count → number_at (record_of policy) (8 + 2 * i) ≡ get_or policy.listed_pages i 0
  unfolding numbers
  page-back i h =
      at (suc (suc (suc (suc i)))) (8 + 2 * i) (omega arith) (omega arith)
      ∙ get_or-append policy.listed_pages policy.listed_frames 0 i (omega arith)

  frame_back : (i : ℕ) → i < policy.count → number_at (record_of policy) (8 + 2 * policy.count + 2 * i) ≡ get_or policy.listed_frames i 0
  unfolding numbers
  frame_back i h =
      at (suc (suc (suc (suc (length policy.listed_pages + i))))) (8 + 2 * policy.count + 2 * i) (omega arith) (omega arith)
      ∙ get_or-append-add policy.listed_pages policy.listed_frames i 0

  pub record-back : policy_of (record_of policy) ≡ policy
  unfolding policy_of numbers
  record-back =
      rw (
        at 0 0 refl (omega arith),
        at 1 2 refl (omega arith),
        at 2 4 refl (omega arith),
        at 3 6 refl (omega arith),
        numbers-back (record_of policy) policy.listed_pages 8 policy.count pages-fit page-back,
        numbers-back (record_of policy) policy.listed_frames (8 + 2 * policy.count) policy.count frames-fit frame_back,
      )
      refl

-- Numbers in a row, as two rows, and their bytes: those that they were read from.
numbers_at-append : (bytes : List ℕ) (at a b : ℕ) → numbers_at bytes at (a + b) ≡ numbers_at bytes at a ++ numbers_at bytes (at + 2 * a) b
unfolding numbers_at
numbers_at-append bytes at zero b = rw zero-add (ap (λ (k : ℕ). numbers_at bytes k b) (omega arith))
numbers_at-append bytes at (suc a) b =
    let next : at + 2 + 2 * a ≡ at + 2 * suc a = omega arith in
    rw (suc-add, numbers_at-append bytes (at + 2) a b, next) refl

two-more : (bytes : List ℕ) (at : ℕ) → at + 1 < length bytes → drop at bytes ≡ get_or bytes at 0 ∷ get_or bytes (at + 1) 0 ∷ drop (at + 2) bytes
two-more bytes at h =
    let one : at + 1 ≡ suc at = omega arith in
    let two : at + 2 ≡ suc (suc at) = omega arith in
    rw (one, two) (drop-cons bytes at 0 (omega arith) ∙ ap (λ (rest : List ℕ). get_or bytes at 0 ∷ rest) (drop-cons bytes (suc at) 0 (omega arith)))

same_bytes : (bytes : List ℕ) → ((i : ℕ) → i < length bytes → get_or bytes i 0 < 256) → (at count : ℕ) → at + 2 * count ≤ length bytes
    → numbers_bytes (numbers_at bytes at count) ≡ take (2 * count) (drop at bytes)
unfolding numbers_at numbers_bytes number_bytes number_at
same_bytes bytes small at zero h = refl
same_bytes bytes small at (suc count) h =
    let low : get_or bytes at 0 < 256 = small at (omega arith) in
    let high : get_or bytes (at + 1) 0 < 256 = small (at + 1) (omega arith) in
    let first : (get_or bytes at 0 + 256 * get_or bytes (at + 1) 0) % 256 ≡ get_or bytes at 0 = omega arith in
    let second : (get_or bytes at 0 + 256 * get_or bytes (at + 1) 0) / 256 ≡ get_or bytes (at + 1) 0 = omega arith in
    let twice : 2 * suc count ≡ suc (suc (2 * count)) = omega arith in
    rw (first, second, twice, two-more bytes at (omega arith), same_bytes bytes small (at + 2) count (omega arith)) refl

-- What was read from whole bytes is written as these bytes.
all-numbers : (bytes : List ℕ) (n : ℕ) → numbers_at bytes 0 (suc (suc (suc (suc (n + n)))))
    ≡ number_at bytes 0 ∷ number_at bytes 2 ∷ number_at bytes 4 ∷ number_at bytes 6 ∷ (numbers_at bytes 8 n ++ numbers_at bytes (8 + 2 * n) n)
unfolding numbers_at
all-numbers bytes n = rw (numbers_at-append bytes 8 n n) refl

pub record_same : (bytes : List ℕ) → ((i : ℕ) → i < length bytes → get_or bytes i 0 < 256) → length bytes ≡ 8 + 4 * (policy_of bytes).count
    → record_of (policy_of bytes) ≡ bytes
unfolding record_of policy_of
record_same bytes small long =
    ap numbers_bytes (sym (all-numbers bytes (number_at bytes 4)))
    ∙ (same_bytes bytes small 0 (suc (suc (suc (suc (number_at bytes 4 + number_at bytes 4))))) (omega arith)
    ∙ take_all (2 * suc (suc (suc (suc (number_at bytes 4 + number_at bytes 4))))) bytes (omega arith))

-- A call that writes a record and is accepted: its policy has passed questions 2 to 6, and both arrays have n numbers.
module _ (numbers_fit : Bool) (policy : Policy) (room : ℕ) (h : first_no (write_record_questions numbers_fit policy room) ≡ 0) where
  front : first_no (policy_questions true true (arrays_exact policy) policy) ≡ 0
  unfolding write_record_questions
  front = first_no-both (policy_questions true true (arrays_exact policy) policy) _ h

  pub write-passed : first_no (policy_questions true true true policy) ≡ 0
  write-passed = policy-asked true true (arrays_exact policy) policy front

  exact : arrays_exact policy ≡ true
  exact = exact-yes true true (arrays_exact policy) policy front

  pub pages-exact : length policy.listed_pages ≡ policy.count
  unfolding arrays_exact
  pages-exact = eqb-true _ _ (both_first _ _ exact)

  pub frames-exact : length policy.listed_frames ≡ policy.count
  unfolding arrays_exact
  frames-exact = eqb-true _ _ (both-second (eqb (length policy.listed_pages) policy.count) _ exact)

  pub room-there : 8 + 4 * policy.count ≤ room
  unfolding write_record_questions policy_questions asked numbered both either
  room-there = leb-true (8 + 4 * policy.count) room (both_first _ true (all_yes 16 (write_record_questions numbers_fit policy room) refl h))

-- Questions 2, 3, 5 and 6 are the start's: a policy that passes them passes those of its record, where the bytes and what else is given are in order.
record-asked : (given : Givens) (bytes : List ℕ) (policy : Policy) → first_no (policy_questions true true true policy) ≡ 0
    → length bytes ≡ 8 + 4 * policy.count → givens_in_range given ≡ true → first_no (record_questions given bytes policy) ≡ 0
unfolding record_questions
record-asked given bytes policy h long more =
    rw (le-leb 8 (length bytes) (omega arith), more, eq-eqb (length bytes) (8 + 4 * policy.count) long) h

-- And those of a call that writes its record, where both arrays have n numbers and the buffer is long enough.
write-asked : (policy : Policy) (room : ℕ) → first_no (policy_questions true true true policy) ≡ 0
    → length policy.listed_pages ≡ policy.count → length policy.listed_frames ≡ policy.count → 8 + 4 * policy.count ≤ room
    → first_no (write_record_questions true policy room) ≡ 0
unfolding write_record_questions arrays_exact policy_questions numbered both
write-asked policy room h pages-fit frames-fit fits =
    rw (eq-eqb _ _ pages-fit, eq-eqb _ _ frames-fit)
    (first_no-back (policy_questions true true true policy) _ refl h
    ∙ (first_no-yes 7 _ refl ∙ (first_no-yes 16 [] (le-leb (8 + 4 * policy.count) room fits) ∙ sym none_left)))

-- The number of a call is that of its first no, and an accepted call leaves the record in front of the buffer's other bytes.
write-number : (numbers_fit : Bool) (policy : Policy) (buffer : List ℕ)
    → (write_record_of numbers_fit policy buffer).reply.number ≡ first_no (write_record_questions numbers_fit policy (length buffer))
unfolding write_record_of
write-number numbers_fit policy buffer = settle-number (λ (w : Written). w.reply.number) _ _ _ refl (λ k. refl)

pub written_is : (numbers_fit : Bool) (policy : Policy) (buffer : List ℕ) → first_no (write_record_questions numbers_fit policy (length buffer)) ≡ 0
    → write_record_of numbers_fit policy buffer
    ≡ written (accepted (length (record_of policy)) 0) (record_of policy ++ drop (length (record_of policy)) buffer)
unfolding write_record_of
written_is numbers_fit policy buffer h = settle-accepted _ _ h

-- What the start asks of its tables and of what else it is given.
module _ {policy : Policy} {given : Givens} {t : Tables} (r : Ready policy given t) where
  devices-asked : givens_in_range given ≡ true
  unfolding givens_in_range devices_in_range
  devices-asked = within-yes 1 64 given.devices r.some_device r.not_more

  lengths-asked : lengths_fit policy (lengths_of t) ≡ true
  unfolding lengths_fit in_order vector_bytes
  lengths-asked =
      both_yes (eq-eqb _ _ r.shadow_length) (both_yes (eq-eqb _ _ r.map_length) (both_yes (eq-eqb _ _ r.exclusion_length) refl))

-- An accepted call's record, cut to its length, is the policy's.
module _ (numbers_fit : Bool) (policy : Policy) (buffer : List ℕ) (h : (write_record_of numbers_fit policy buffer).reply.number ≡ 0) where
  asked-all : first_no (write_record_questions numbers_fit policy (length buffer)) ≡ 0
  asked-all = sym (write-number numbers_fit policy buffer) ∙ h

  cut : take (write_record_of numbers_fit policy buffer).reply.first (write_record_of numbers_fit policy buffer).buffer ≡ record_of policy
  cut = rw (written_is numbers_fit policy buffer asked-all) (take-append_seam (record_of policy) (drop (length (record_of policy)) buffer))

  fits-pages : length policy.listed_pages ≡ policy.count
  fits-pages = pages-exact numbers_fit policy (length buffer) asked-all

  fits-frames : length policy.listed_frames ≡ policy.count
  fits-frames = frames-exact numbers_fit policy (length buffer) asked-all

  back : policy_of (record_of policy) ≡ policy
  back = record-back policy fits-pages fits-frames

  small : (i : ℕ) → i < length (record_of policy) → get_or (record_of policy) i 0 < 256
  unfolding record_of
  small =
      let p : Passed policy = policy-passed true true true policy (write-passed numbers_fit policy (length buffer) asked-all) in
      let ps : all_below 65536 policy.listed_pages ≡ true = all_below-wider policy.pages 65536 policy.listed_pages (omega arith) p.pages-below in
      let fs : all_below 65536 policy.listed_frames ≡ true = all_below-wider policy.frames 65536 policy.listed_frames (omega arith) p.frames-below in
      bytes_small _
      (below_one 65536 policy.pages _ (omega arith)
      (below_one 65536 policy.frames _ (omega arith)
      (below_one 65536 policy.count _ (omega arith) (below_one 65536 policy.entry_count _ (omega arith) (below-append 65536 _ _ ps fs)))))

  starts : (given : Givens) (t : Tables) → Ready policy given t
      → start_of given (record_of policy) t ≡ outcome (accepted policy.count policy.entry_count) (start_guard given policy)
  unfolding start_of start_questions record_questions policy_questions numbered both
  starts given t r =
      rw back
      (settle-accepted _ _
      (first_no-back (record_questions given (record_of policy) policy) _ refl
      (record-asked given (record_of policy) policy (write-passed numbers_fit policy (length buffer) asked-all) (written-length policy fits-pages fits-frames)
      (devices-asked r))
      ∙ (first_no-yes 7 [] (lengths-asked r) ∙ sym none_left)))

pub written-starts : WrittenStarts
unfolding WrittenStarts
written-starts numbers_fit policy buffer h bytes e =
    rw (e ∙ cut numbers_fit policy buffer h) (small numbers_fit policy buffer h, back numbers_fit policy buffer h, starts numbers_fit policy buffer h)

-- The arrays of a record that was read have n numbers each.
read-pages : (bytes : List ℕ) → length (policy_of bytes).listed_pages ≡ (policy_of bytes).count
unfolding policy_of
read-pages bytes = length-numbers_at bytes 8 (number_at bytes 4)

read-frames : (bytes : List ℕ) → length (policy_of bytes).listed_frames ≡ (policy_of bytes).count
unfolding policy_of
read-frames bytes = length-numbers_at bytes (8 + 2 * number_at bytes 4) (number_at bytes 4)

pub written-again : WrittenAgain
unfolding WrittenAgain record_questions
written-again given bytes buffer small h room =
    let long : length bytes ≡ 8 + 4 * (policy_of bytes).count = record-length given bytes (policy_of bytes) 0 (sym h) refl in
    let same : record_of (policy_of bytes) ≡ bytes = record_same bytes small long in
    written_is true (policy_of bytes) buffer
    (write-asked (policy_of bytes) (length buffer) (policy-asked _ _ _ (policy_of bytes) h) (read-pages bytes) (read-frames bytes) (omega arith))
    ∙ rw same refl
