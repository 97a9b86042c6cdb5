-- Laws of the bits of a byte and of the exclusion vector: its length, a frame's bit, and a frame excluded too.
use Prim.Native.Nat.{ℕ, zero, suc, ◌+◌, ◌*◌, ◌/◌, ◌%◌, ◌^◌, ◌≤◌, ◌<◌}
use mathlib.Core.Bool.{Bool, true, false, cond}
use mathlib.Core.List.{List}
use mathlib.Core.Path.{◌≡◌, refl, sym, ap, ◌∙◌}
use native.Mathlib.Omega.{arith}
use lib.Dec.{eqb}
use lib.ListN.{length, get_or, set, length-set}
use lib.Pow.{mod-pow-add}
use lib.Seq.{get_or-set_same, get_or-set_other, ext_get_or}
use borrow.Author.Tests.{eq-eqb, ne_eqb, eqb-true, eqb-false}
use Rattle.model.specs.Basics.{bit, flag}
use Rattle.model.specs.Guard.{vector_bytes, has_bit, byte_of, vector_of, with_bit}
use Rattle.laws.proofs.TableLaws.{length-table, get_or-table, table_same, past-no, table-read}

-- What holds of 0 to 7 holds of every number below 8.
pub below8 : (P : ℕ → Type 0) → P 0 → P 1 → P 2 → P 3 → P 4 → P 5 → P 6 → P 7 → (j : ℕ) → j < 8 → P j
below8 P a b c d e f g h zero l = a
below8 P a b c d e f g h (suc zero) l = b
below8 P a b c d e f g h (suc (suc zero)) l = c
below8 P a b c d e f g h (suc (suc (suc zero))) l = d
below8 P a b c d e f g h (suc (suc (suc (suc zero)))) l = e
below8 P a b c d e f g h (suc (suc (suc (suc (suc zero))))) l = f
below8 P a b c d e f g h (suc (suc (suc (suc (suc (suc zero)))))) l = g
below8 P a b c d e f g h (suc (suc (suc (suc (suc (suc (suc zero))))))) l = h
below8 P a b c d e f g h (suc (suc (suc (suc (suc (suc (suc (suc j)))))))) l = absurd (omega arith)

-- A bit's weight is 0 or 1 times its power of two.
pub flag-weight : (b : Bool) (k : ℕ) → flag b k ≡ flag b 0 * 2 ^ k
unfolding flag
flag-weight true k = omega arith
flag-weight false k = omega arith

pub flag_small : (b : Bool) → flag b 0 ≤ 1
unfolding flag
flag_small true = omega arith
flag_small false = omega arith

pub flag-test : (b : Bool) (x : ℕ) → x ≡ flag b 0 → eqb x 1 ≡ b
unfolding flag
flag-test true x p = eq-eqb x 1 p
flag-test false x p = ne_eqb x 1 (λ q. omega arith)

-- A number's bit as a number.
pub flag-bit : (k x : ℕ) → flag (bit k x) 0 ≡ x / 2 ^ k % 2
unfolding flag bit
flag-bit k x = by (eqb (x / 2 ^ k % 2) 1) refl
  where
    by : (t : Bool) → eqb (x / 2 ^ k % 2) 1 ≡ t → cond (eqb (x / 2 ^ k % 2) 1) 1 0 ≡ x / 2 ^ k % 2
    by true e = rw e (sym (eqb-true (x / 2 ^ k % 2) 1 e))
    by false e =
        let differs : x / 2 ^ k % 2 ≡ 1 → ⊥ = eqb-false (x / 2 ^ k % 2) 1 e in
        rw e (omega arith)

-- A number's bits up to k are bit k and those below it.
pub bits-to : (x k : ℕ) → x % 2 ^ (1 + k) ≡ flag (bit k x) k + x % 2 ^ k
bits-to x k = rw (flag-weight (bit k x) k, flag-bit) (mod-pow-add x 1 k)

-- A byte and its bits: it is their sum, each 0 or 1 times its weight, so bit j of it is the bit j that it was made of.
module _ (h : ℕ → Bool) where
  pub byte_of-sum
      : (byte_of h ≡ flag (h 0) 0 + flag (h 1) 0 * 2 + flag (h 2) 0 * 4 + flag (h 3) 0 * 8 + flag (h 4) 0 * 16 + flag (h 5) 0 * 32 + flag (h 6) 0 * 64 + flag (h 7) 0 * 128)
      × (flag (h 0) 0 ≤ 1) × (flag (h 1) 0 ≤ 1) × (flag (h 2) 0 ≤ 1) × (flag (h 3) 0 ≤ 1)
      × (flag (h 4) 0 ≤ 1) × (flag (h 5) 0 ≤ 1) × (flag (h 6) 0 ≤ 1) × (flag (h 7) 0 ≤ 1)
  unfolding byte_of
  byte_of-sum = (
    cc (flag-weight (h 1) 1, flag-weight (h 2) 2, flag-weight (h 3) 3, flag-weight (h 4) 4, flag-weight (h 5) 5, flag-weight (h 6) 6, flag-weight (h 7) 7),
    flag_small (h 0),
    flag_small (h 1),
    flag_small (h 2),
    flag_small (h 3),
    flag_small (h 4),
    flag_small (h 5),
    flag_small (h 6),
    flag_small (h 7),
  )

  pub byte_of-bit : (j : ℕ) → j < 8 → bit j (byte_of h) ≡ h j
  unfolding bit
  byte_of-bit =
      below8 (λ j. bit j (byte_of h) ≡ h j) (at 0 (omega (arith, byte_of-sum))) (at 1 (omega (arith, byte_of-sum)))
      (at 2 (omega (arith, byte_of-sum))) (at 3 (omega (arith, byte_of-sum))) (at 4 (omega (arith, byte_of-sum)))
      (at 5 (omega (arith, byte_of-sum))) (at 6 (omega (arith, byte_of-sum))) (at 7 (omega (arith, byte_of-sum)))
    where
      at : (j : ℕ) → byte_of h / 2 ^ j % 2 ≡ flag (h j) 0 → bit j (byte_of h) ≡ h j
      at j p = flag-test (h j) (byte_of h / 2 ^ j % 2) p

-- A byte is made of its own bits.
pub byte_of-bits : (b : ℕ) → b < 256 → byte_of (λ j. bit j b) ≡ b
unfolding byte_of
byte_of-bits b small =
    omega (arith, rw (bits-to b 7, bits-to b 6, bits-to b 5, bits-to b 4, bits-to b 3, bits-to b 2, bits-to b 1, bits-to b 0) at whole)
  where
    whole : b ≡ b % 2 ^ 8
    whole = omega arith

-- Two bytes are the same where their bits are.
pub byte_of-ext : (h k : ℕ → Bool) → ((j : ℕ) → j < 8 → h j ≡ k j) → byte_of h ≡ byte_of k
unfolding byte_of
byte_of-ext h k e =
    cc (e 0 (omega arith), e 1 (omega arith), e 2 (omega arith), e 3 (omega arith), e 4 (omega arith), e 5 (omega arith), e 6 (omega arith), e 7 (omega arith))

-- Two tests of equality that hold together.
eqb-together : (a b c d : ℕ) → (a ≡ b → c ≡ d) → (c ≡ d → a ≡ b) → eqb a b ≡ eqb c d
eqb-together a b c d to from = by (eqb a b) refl
  where
    by : (t : Bool) → eqb a b ≡ t → eqb a b ≡ eqb c d
    by true e = e ∙ sym (eq-eqb c d (to (eqb-true a b e)))
    by false e = e ∙ sym (ne_eqb c d (λ q. eqb-false a b e (from q)))

-- The exclusion vector of F frames: its length, and the bit of a frame.
pub vector_of-length : (frames : ℕ) (h : ℕ → Bool) → length (vector_of frames h) ≡ vector_bytes frames
unfolding vector_of
vector_of-length frames h = length-table (vector_bytes frames) (λ i. byte_of (λ j. h (i * 8 + j)))

pub byte-below : (frames f : ℕ) → f < frames → f / 8 < vector_bytes frames
unfolding vector_bytes
byte-below frames f l = omega arith

pub vector_of-byte : (frames : ℕ) (h : ℕ → Bool) (i d : ℕ) → i < vector_bytes frames → get_or (vector_of frames h) i d ≡ byte_of (λ j. h (i * 8 + j))
unfolding vector_of
vector_of-byte frames h i d l = get_or-table (vector_bytes frames) (λ i. byte_of (λ j. h (i * 8 + j))) i d l

-- A frame's bit set or cleared: the length stays, and every other bit.
pub with_bit-length : (b : Bool) (x : List ℕ) (f : ℕ) → length (with_bit b x f) ≡ length x
unfolding with_bit
with_bit-length b x f = simp length-set

-- A frame is excluded by its own bit, so that setting or clearing the bit of a frame that has one says it of that frame alone.
pub has_bit-with_bit : (b : Bool) (x : List ℕ) (f : ℕ) → f / 8 < length x → (g : ℕ) → has_bit (with_bit b x f) g ≡ cond (eqb g f) b (has_bit x g)
unfolding has_bit with_bit
has_bit-with_bit b x f here g = at (eqb (g / 8) (f / 8)) refl
  where
    new : ℕ → Bool
    new j = cond (eqb j (f % 8)) b (bit j (get_or x (f / 8) 0))

    at : (t : Bool) → eqb (g / 8) (f / 8) ≡ t → bit (g % 8) (get_or (set x (f / 8) (byte_of new)) (g / 8) 0) ≡ cond (eqb g f) b (bit (g % 8) (get_or x (g / 8) 0))
    at true e =
        let q : g / 8 ≡ f / 8 = eqb-true (g / 8) (f / 8) e in
        rw (q, get_or-set_same x (f / 8) (byte_of new) 0 here, byte_of-bit new (g % 8) (omega arith), eqb-together (g % 8) (f % 8) g f (λ p. omega arith) (λ p. omega arith)) refl
    at false e =
        let q : g / 8 ≡ f / 8 → ⊥ = eqb-false (g / 8) (f / 8) e in
        rw (get_or-set_other x (f / 8) (g / 8) (byte_of new) 0 q, ne_eqb g f (λ p. q (omega arith))) refl

pub with_bit-vector_of : (b : Bool) (frames : ℕ) (h : ℕ → Bool) (f : ℕ) → f < frames
    → with_bit b (vector_of frames h) f ≡ vector_of frames (λ g. cond (eqb g f) b (h g))
unfolding with_bit
with_bit-vector_of b frames h f l =
    ext_get_or 0 (with_bit b v f) w (long ∙ sym (vector_of-length frames both))
    (λ i c. at i (rw long at c) (eqb i (f / 8)) refl)
  where
    v : List ℕ
    v = vector_of frames h

    both : ℕ → Bool
    both g = cond (eqb g f) b (h g)

    w : List ℕ
    w = vector_of frames both

    long : length (with_bit b v f) ≡ vector_bytes frames
    long = with_bit-length b v f ∙ vector_of-length frames h

    new : ℕ → Bool
    new j = cond (eqb j (f % 8)) b (bit j (get_or v (f / 8) 0))

    here : f / 8 < vector_bytes frames
    here = byte-below frames f l

    bit-same : (i j : ℕ) → i ≡ f / 8 → j < 8 → new j ≡ both (i * 8 + j)
    bit-same i j q c =
        rw (eqb-together j (f % 8) (i * 8 + j) f (λ p. omega arith) (λ p. omega arith), vector_of-byte frames h (f / 8) 0 here, byte_of-bit (λ k. h (f / 8 * 8 + k)) j c, q)

    bit-other : (i j : ℕ) → (i ≡ f / 8 → ⊥) → j < 8 → h (i * 8 + j) ≡ both (i * 8 + j)
    bit-other i j q c = rw (ne_eqb (i * 8 + j) f (λ p. q (omega arith)))

    at : (i : ℕ) → i < vector_bytes frames → (t : Bool) → eqb i (f / 8) ≡ t → get_or (with_bit b v f) i 0 ≡ get_or w i 0
    at i c true e =
        let q : i ≡ f / 8 = eqb-true i (f / 8) e in
        rw (q, get_or-set_same v (f / 8) (byte_of new) 0 (rw vector_of-length here), vector_of-byte frames both (f / 8) 0 here)
        (byte_of-ext new (λ j. both (f / 8 * 8 + j)) (λ j. bit-same (f / 8) j refl))
    at i c false e =
        let q : i ≡ f / 8 → ⊥ = eqb-false i (f / 8) e in
        rw (get_or-set_other v (f / 8) i (byte_of new) 0 q, vector_of-byte frames h i 0 c, vector_of-byte frames both i 0 c)
        (byte_of-ext (λ j. h (i * 8 + j)) (λ j. both (i * 8 + j)) (λ j. bit-other i j q))

-- Two vectors are the same where the tests of their frames are.
pub vector_of-same : (frames : ℕ) (test test' : ℕ → Bool) → ((f : ℕ) → test f ≡ test' f) → vector_of frames test ≡ vector_of frames test'
unfolding vector_of
vector_of-same frames test test' same = table_same (vector_bytes frames) _ _ (λ i l. byte_of-ext _ _ (λ j c. same (i * 8 + j)))

-- A vector has the bits of just the frames that a test holds of, also past F, if it holds of none there.
pub vector_of-bit : (frames : ℕ) (test : ℕ → Bool) → ((f : ℕ) → test f ≡ true → f < frames) → (f : ℕ) → has_bit (vector_of frames test) f ≡ test f
unfolding has_bit vector_of vector_bytes byte_of flag
vector_of-bit frames test below f =
    ap (bit (f % 8)) (table-read (vector_bytes frames) (λ i. byte_of (λ j. test (i * 8 + j))) (f / 8) 0 past)
    ∙ byte_of-bit (λ j. test (f / 8 * 8 + j)) (f % 8) (omega arith)
    ∙ ap test (omega arith)
  where
    past : vector_bytes frames ≤ f / 8 → byte_of (λ j. test (f / 8 * 8 + j)) ≡ 0
    past over = byte_of-ext (λ j. test (f / 8 * 8 + j)) (λ j. false) (λ j l. past-no test frames below (f / 8 * 8 + j) (omega arith))
