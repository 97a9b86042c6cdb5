-- Laws of the tables after the start's loops: they are those of the policy's definition.
use Prim.Native.Nat.{ℕ, ◌+◌, ◌*◌, ◌/◌, ◌≤◌, ◌<◌}
use mathlib.Core.Bool.{Bool, true, false, cond}
use mathlib.Core.List.{List, [], ◌∷◌, map}
use mathlib.Core.Path.{◌≡◌, refl, sym, ap, fun_ext, ◌∙◌}
use lib.Dec.{ltb, eqb}
use lib.ListN.{length, get_or, take, replicate}
use native.Mathlib.Omega.{arith}
use borrow.Author.Tests.{ltb-true, lt-ltb, ne_eqb}
use Rattle.model.specs.Basics.{either, table, member, flag}
use Rattle.model.specs.Guard.{none, vector_bytes, byte_of, vector_of, with_bit}
use Rattle.model.specs.Policy.{Policy, number_at, numbers_at, policy_of, frame_for, approval_for, named, first_entry, entry_pages, start_tables}
use Rattle.model.specs.Bits.{approved}
use Rattle.model.specs.Questions.{all_below}
use Rattle.laws.proofs.TableLaws.{get_or-table, table_same, set-table, take-table, table-const}
use Rattle.laws.proofs.PolicyLaws.{get_or-numbers_at, all_below-head, all_below-tail, frame_for-map}
use Rattle.laws.proofs.VectorLaws.{with_bit-length, with_bit-vector_of}
use Rattle.start.specs.Start.{stored_each, approved_each, with_each, entry_table}

-- Places set in a table: at each place the value listed for it, or what stood there.
stored-table : (places values : List ℕ) (count : ℕ) (f : ℕ → ℕ) → stored_each places values (table count f) ≡ table count (λ q. frame_for places values q (f q))
unfolding stored_each frame_for
stored-table [] values count f = refl
stored-table (p ∷ places) [] count f = refl
stored-table (p ∷ places) (v ∷ values) count f =
    rw (set-table count f p v) (stored-table places values count (λ q. cond (eqb q p) v (f q)))

map-set : (places frames : List ℕ) (count : ℕ) → stored_each places frames (replicate count none) ≡ table count (λ p. frame_for places frames p none)
map-set places frames count = rw (table-const count none) (stored-table places frames count (λ _. none))

-- No listed frame is 65535, so the entry of each is the approved one.
first-approved : (f : ℕ) → f < none → approved false f ≡ first_entry f
unfolding first_entry
first-approved f h = rw (ne_eqb f none (λ e. omega arith)) refl

all-approved : (frames : List ℕ) → all_below 4096 frames ≡ true → approved_each frames ≡ map first_entry frames
unfolding approved_each
all-approved [] h = refl
all-approved (f ∷ frames) h =
    let below : f < 4096 = all_below-head 4096 f frames h in
    rw (all-approved frames (all_below-tail 4096 f frames h), first-approved f (omega arith))

shadow-set : (places frames : List ℕ) (count : ℕ) → all_below 4096 frames ≡ true
    → stored_each places (approved_each frames) (replicate count 0) ≡ table count (λ p. first_entry (frame_for places frames p none))
unfolding first_entry
shadow-set places frames count h =
    rw (all-approved frames h, table-const count 0)
    (stored-table places (map first_entry frames) count (λ _. 0) ∙ table_same count _ _ (λ p below. frame_for-map first_entry places frames p none))

-- Frames excluded in a vector: each of them, and those that were.
either-later : (a b c : Bool) → either b (cond a true c) ≡ either (either a b) c
unfolding either
either-later true true c = refl
either-later true false c = refl
either-later false true c = refl
either-later false false c = refl

pub each-length : (frames vector : List ℕ) → length (with_each frames vector) ≡ length vector
unfolding with_each
each-length [] vector = refl
each-length (f ∷ frames) vector = each-length frames (with_bit true vector f) ∙ with_bit-length true vector f

each-vector : (limit : ℕ) (frames : List ℕ) (h : ℕ → Bool) → all_below limit frames ≡ true
    → with_each frames (vector_of limit h) ≡ vector_of limit (λ g. either (member g frames) (h g))
unfolding with_each member either
each-vector limit [] h b = refl
each-vector limit (f ∷ frames) h b =
    rw (with_bit-vector_of true limit h f (all_below-head limit f frames b))
    (each-vector limit frames (λ g. cond (eqb g f) true (h g)) (all_below-tail limit f frames b)
    ∙ ap (vector_of limit) (fun_ext (λ g. either-later (eqb g f) (member g frames) (h g))))

vector-none : (frames : ℕ) → replicate (vector_bytes frames) 0 ≡ vector_of frames (λ _. false)
unfolding vector_of byte_of flag
vector-none frames = table-const (vector_bytes frames) 0

-- The buffer has room for 4,096 frames.
room : replicate 512 0 ≡ vector_of 4096 (λ _. false)
unfolding vector_bytes
room = vector-none 4096

vector-take : (frames limit : ℕ) (h : ℕ → Bool) → frames ≤ limit → take (vector_bytes frames) (vector_of limit h) ≡ vector_of frames h
unfolding vector_of vector_bytes
vector-take frames limit h l = take-table ((frames + 7) / 8) ((limit + 7) / 8) _ (omega arith)

either-none : (a : Bool) → either a false ≡ a
unfolding either
either-none true = refl
either-none false = refl

-- The tables of a policy, as the loops leave them.
module _ (policy : Policy) where
  pub shadow-is : (t t' : List ℕ) (n : ℕ) → n ≡ policy.pages → all_below 4096 policy.listed_frames ≡ true → t ≡ replicate n 0
      → t' ≡ stored_each policy.listed_pages (approved_each policy.listed_frames) t → t' ≡ (start_tables policy).shadow
  unfolding start_tables approval_for
  shadow-is t t' n l h e e' = e' ∙ rw (e, l) (shadow-set policy.listed_pages policy.listed_frames policy.pages h)

  pub map_is : (t t' : List ℕ) (n : ℕ) → n ≡ policy.pages → t ≡ replicate n 65535 → t' ≡ stored_each policy.listed_pages policy.listed_frames t
      → t' ≡ (start_tables policy).map
  unfolding start_tables approval_for
  map_is t t' n l e e' = e' ∙ rw (e, l) (map-set policy.listed_pages policy.listed_frames policy.pages)

  pub vector-is : (buffer t' : List ℕ) (n : ℕ) → n ≡ vector_bytes policy.frames → policy.frames ≤ 4096 → all_below 4096 policy.listed_frames ≡ true
      → buffer ≡ with_each policy.listed_frames (replicate 512 0) → t' ≡ take n buffer → t' ≡ (start_tables policy).exclusion
  unfolding start_tables named
  vector-is buffer t' n l f h e e' =
      e' ∙ (rw (e, l) (ap (λ (v : List ℕ). take (vector_bytes policy.frames) (with_each policy.listed_frames v)) room
      ∙ (ap (take (vector_bytes policy.frames)) (each-vector 4096 policy.listed_frames (λ _. false) h)
      ∙ (vector-take policy.frames 4096 _ f ∙ ap (vector_of policy.frames) (fun_ext (λ g. either-none (member g policy.listed_frames)))))))

-- Sixteen entry pages, of which as many as there are entries are listed pages.
pub entries-are : (bytes : List ℕ) (entries : ℕ) → entries ≡ number_at bytes 6 → (policy_of bytes).entry_count ≤ (policy_of bytes).count
    → entry_table bytes entries ≡ entry_pages (policy_of bytes)
unfolding policy_of entry_table entry_pages
entries-are bytes entries e h = rw e (table_same 16 _ _ (λ i below. at i (ltb i (number_at bytes 6)) refl))
  where
    at : (i : ℕ) (b : Bool) → ltb i (number_at bytes 6) ≡ b
        → cond (ltb i (number_at bytes 6)) (number_at bytes (8 + 2 * i)) 0 ≡ cond (ltb i (number_at bytes 6)) (get_or (numbers_at bytes 8 (number_at bytes 4)) i 0) 0
    at i true t =
        let inside : i < number_at bytes 6 = ltb-true i (number_at bytes 6) t in
        rw t (sym (get_or-numbers_at bytes 8 (number_at bytes 4) i (omega arith)))
    at i false t = rw t refl

-- The first of them is the first listed page.
pub first-is : (policy : Policy) → 1 ≤ policy.entry_count → get_or (entry_pages policy) 0 0 ≡ get_or policy.listed_pages 0 0
unfolding entry_pages
first-is policy some = get_or-table 16 _ 0 0 (omega arith) ∙ rw (lt-ltb 0 policy.entry_count some) refl
