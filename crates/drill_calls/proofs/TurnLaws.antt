-- Laws of the drill's definitions over plain numbers and lists: the policy's extent, the tables lent, a call's fields, an edit, a turn.
use Prim.Native.Nat.{ℕ, zero, suc, ◌+◌, ◌-◌, ◌*◌, ◌≤◌, ◌<◌}
use mathlib.Core.Bool.{Bool, true, false}
use mathlib.Core.List.{List, [], ◌∷◌}
use mathlib.Core.Path.{◌≡◌, refl, sym, ap, ◌∙◌}
use lib.Dec.{ltb}
use lib.ListN.{length, set, replicate}
use lib.Seq.{set_out}
use native.Mathlib.Omega.{arith}
use borrow.Author.Tests.{eq-eqb, ne_eqb, lt-ltb, le-ltb}
use Rattle.std.specs.declared.result.Result.TheVariants.{Ok, Err}
use Rattle.std.specs.declared.option.Option.TheVariants.{None, Some}
use Rattle.std.specs.declared.ops.ControlFlow.TheVariants.{Continue, Break}
use Rattle.model.specs.declared.State.{State}
use Rattle.model.specs.declared.Refusal.{Refusal}
use Rattle.model.specs.declared.Refusal.TheVariants.{DoesNotExist}
use Rattle.model.specs.Refusals.{number_of}
use Rattle.model.specs.declared.Device.{Device}
use Rattle.model.specs.Basics.{within}
use Rattle.model.specs.Sizes.{pages_in_range, frames_in_range}
use Rattle.model.specs.Guard.{Tables, Guard, vector_bytes}
use Rattle.model.specs.Devices.{device_of}
use Rattle.model.specs.Policy.{Givens, policy_of, number_at, start_state, start_guard, zero_state}
use Rattle.model.specs.Questions.{first_no, lengths_of, start_questions}
use Rattle.model.specs.Calls.{Answer, Outcome, refused, reply_of, outcome_by, settle, start_of}
use Rattle.drill_model.specs.Drill.{Drill, policy_extent, windows_of, kind_of, index_of, length_of, value_of, edited, performed, line}
use Rattle.drill_model.specs.Drill.{Turn, start_line, turn_of, turn}
use Rattle.laws.proofs.CallLaws.{numbered}
use Rattle.laws.proofs.QuestionLaws.{within-high}
use Rattle.laws.proofs.PolicyLaws.{start-passed}
use Rattle.lines.specs.declared.Kind.{Kind}
use Rattle.lines.specs.declared.Line.{Line}
use Rattle.lines.specs.declared.CallLine.{CallLine}
use Rattle.lines.specs.declared.Label.TheVariants.{Call}
use Rattle.lines.specs.Text.{text, kind_number, label_byte, call_text}
use Rattle.drill_calls.specs.Turns.{drill_of, performed_by, turn_by, turn_line_by, opening_of, opened_by, pages_lent, bytes_lent}
use Rattle.drill_calls.proofs.CallLaws.{kind-below}

-- The policy's extent, with n in its range and outside.
pub extent-more : {count : ℕ} {t : Bool} (input : List ℕ) → count ≡ number_at input 4 → t ≡ within 1 2048 count → t ≡ true → 8 + 4 * count ≡ policy_extent input
unfolding policy_extent
extent-more input e f p = rw (← e, ← f, p)

pub extent-bounded : {t : Bool} (count : ℕ) → t ≡ within 1 2048 count → t ≡ true → 8 + 4 * count ≤ 8200
extent-bounded count f p = let q : count ≤ 2048 = within-high 1 2048 count (sym f ∙ p) in omega arith

pub extent-eight : {count : ℕ} {t : Bool} (input : List ℕ) → count ≡ number_at input 4 → t ≡ within 1 2048 count → t ≡ false → 8 ≡ policy_extent input
unfolding policy_extent
extent-eight input e f p = rw (← e, ← f, p)

-- The tables that a start is lent: by a V or an F in its range, and outside.
pub pages-lent : {pages : ℕ} {t : Bool} (bytes : List ℕ) → pages ≡ number_at bytes 0 → t ≡ pages_in_range pages → t ≡ true → pages ≡ pages_lent bytes
unfolding pages_lent policy_of
pages-lent bytes e f p = rw (← e, ← f, p)

pub pages-bounded : {t : Bool} (pages : ℕ) → t ≡ pages_in_range pages → t ≡ true → pages ≤ 2048
unfolding pages_in_range
pages-bounded pages f p = within-high 1 2048 pages (sym f ∙ p)

pub pages-none : {pages : ℕ} {t : Bool} (bytes : List ℕ) → pages ≡ number_at bytes 0 → t ≡ pages_in_range pages → t ≡ false → 0 ≡ pages_lent bytes
unfolding pages_lent policy_of
pages-none bytes e f p = rw (← e, ← f, p)

pub bytes-lent : {frames size : ℕ} {t : Bool} (bytes : List ℕ) → frames ≡ number_at bytes 2 → t ≡ frames_in_range frames → t ≡ true
    → size ≡ vector_bytes frames → size ≡ bytes_lent bytes
unfolding bytes_lent policy_of
bytes-lent bytes e f p h = rw (h, ← e, ← f, p)

pub bytes-bounded : {t : Bool} {size : ℕ} (frames : ℕ) → t ≡ frames_in_range frames → t ≡ true → size ≡ vector_bytes frames → size ≤ 512
unfolding frames_in_range vector_bytes
bytes-bounded frames f p h = let q : frames ≤ 4096 = within-high 1 4096 frames (sym f ∙ p) in omega arith

pub bytes-none : {frames : ℕ} {t : Bool} (bytes : List ℕ) → frames ≡ number_at bytes 2 → t ≡ frames_in_range frames → t ≡ false → 0 ≡ bytes_lent bytes
unfolding bytes_lent policy_of
bytes-none bytes e f p = rw (← e, ← f, p)

-- The drill's windows end at F - 1.
pub windows-are : (frames last : ℕ) → last ≡ frames - 1 → replicate 64 (device_of 0 last) ≡ windows_of frames
unfolding windows_of
windows-are frames last e = rw e refl

-- The start, its line and whether calls follow: by an accepted start, and by a refused one.
pub opening-goes : (s : State) (l : Line) (r : Answer) (numbers : ℕ × ℕ) (o : Outcome) (t : Tables) → r ≡ Ok numbers → outcome_by r s t ≡ o
    → text l ≡ line 83 (reply_of r) s.mode → opened_by (Continue l) s t ≡ opening_of o
unfolding opened_by opening_of outcome_by reply_of start_line
opening-goes s l r (first, second) o t p e f = rw (← e, f, p) refl

pub opening-ends : (s : State) (l : Line) (r : Answer) (refusal : Refusal) (o : Outcome) (t : Tables) → r ≡ Err refusal → outcome_by r s t ≡ o
    → text l ≡ line 83 (reply_of r) s.mode → opened_by (Break l) s t ≡ opening_of o
unfolding opened_by opening_of outcome_by reply_of start_line
opening-ends s l r refusal o t p e f = rw (← e, f, p, ne_eqb (number_of refusal) 0 (numbered refusal)) refl

-- F of the state that a start leaves: in its range, or 0.
pub opened-few : (s : State) (r : Answer) (given : Givens) (bytes : List ℕ) (t t' : Tables) → outcome_by r s t' ≡ start_of given bytes t → s.frames ≤ 4096
unfolding outcome_by start_of settle start_guard start_state zero_state
opened-few s r given bytes t t' e =
    let is : s ≡ (start_of given bytes t).guard.state = ap (λ (o : Outcome). o.guard.state) e in
    rw is (by (first_no (start_questions given bytes (policy_of bytes) (lengths_of t))) refl)
  where
    by : (n : ℕ) → first_no (start_questions given bytes (policy_of bytes) (lengths_of t)) ≡ n → (start_of given bytes t).guard.state.frames ≤ 4096
    by zero p = rw p (start-passed given bytes (policy_of bytes) (lengths_of t) p).frames-high
    by (suc n) p = rw p (omega arith)

-- An edit: of a page that does not exist, of one that the kernel table has, and of one past its end.
module _ (g : Guard) (kernel : List ℕ) (devices : List Device) (page value : ℕ) where
  pub edit-refused : (ltb page g.state.pages ≡ false) → performed_by (Err DoesNotExist) (drill_of g kernel devices) ≡ edited (drill_of g kernel devices) page value
  unfolding edited performed_by reply_of first_no settle
  edit-refused e = rw e refl

  pub edit-done : (ltb page g.state.pages ≡ true)
      → performed_by (Ok (0, 0)) (drill_of g (set kernel page value) devices) ≡ edited (drill_of g kernel devices) page value
  unfolding edited performed_by reply_of first_no settle
  edit-done e = rw e refl

  pub edit-past : (ltb page g.state.pages ≡ true) → length kernel ≤ page
      → performed_by (Ok (0, 0)) (drill_of g kernel devices) ≡ edited (drill_of g kernel devices) page value
  edit-past e q = rw (set_out kernel page value q) at (edit-done e)

-- A turn: of no bytes, of too few or too many, of no kind, and of a call. Each is said of a text, and then of a line and of its value.
module _ (d : Drill) where
  left : List ℕ → Bool → Turn
  left text goes = record { drill = d; line = text; goes = goes }

  no-turn : (bytes : List ℕ) → length bytes ≡ 0 → left [] false ≡ turn d bytes
  unfolding turn left
  no-turn [] e = refl
  no-turn (kind ∷ rest) e = absurd (let q : ⊥ = omega arith in q)

  cut-turn : (bytes text : List ℕ) → (length bytes ≡ 0 → ⊥) → (length bytes ≡ 16 → ⊥) → text ≡ line 88 (refused 14) d.guard.state.mode
      → left text false ≡ turn d bytes
  unfolding turn left kind_of first_no settle
  cut-turn [] text p q f = absurd (p refl)
  cut-turn (kind ∷ rest) text p q f = rw (f, ne_eqb (length (kind ∷ rest)) 16 q) refl

  unknown-turn : (bytes text : List ℕ) → length bytes ≡ 16 → 8 ≤ kind_of bytes → text ≡ line 88 (refused 15) d.guard.state.mode
      → left text false ≡ turn d bytes
  unfolding turn left kind_of first_no settle
  unknown-turn [] text q h f = absurd (let q : ⊥ = omega arith in q)
  unknown-turn (kind ∷ rest) text q h f = rw (f, eq-eqb (length (kind ∷ rest)) 16 q, le-ltb kind 8 h) refl

  made-turn : (bytes text : List ℕ) (r : Answer) (d' : Drill) (kind : Kind) (index size value : ℕ) → length bytes ≡ 16
      → kind_number kind ≡ kind_of bytes → index ≡ index_of bytes → size ≡ length_of bytes → value ≡ value_of bytes
      → performed_by r d' ≡ performed d (kind_number kind) index size value
      → text ≡ line (label_byte (Call kind)) (reply_of r) d'.guard.state.mode → record { drill = d'; line = text; goes = true } ≡ turn d bytes
  unfolding turn kind_of turn_of performed_by first_no settle
  made-turn [] text r d' kind index size value q h a b c e f = absurd (let q : ⊥ = omega arith in q)
  made-turn (first ∷ rest) text r d' kind index size value q h a b c e f =
      let below : first < 8 = rw h at (kind-below kind) in
      rw (f, eq-eqb (length (first ∷ rest)) 16 q, lt-ltb first 8 below, ← a, ← b, ← c, h, ← (rw h at e)) refl

  pub turn_line-none : (bytes : List ℕ) → length bytes ≡ 0 → turn_line_by (Break None) d ≡ turn d bytes
  unfolding turn_line_by left
  turn_line-none bytes e = no-turn bytes e

  pub turn_line-cut : (bytes : List ℕ) (l : Line) → (length bytes ≡ 0 → ⊥) → (length bytes ≡ 16 → ⊥)
      → text l ≡ line 88 (refused 14) d.guard.state.mode → turn_line_by (Break (Some l)) d ≡ turn d bytes
  unfolding turn_line_by left
  turn_line-cut bytes l p q f = cut-turn bytes (text l) p q f

  pub turn_line-unknown : (bytes : List ℕ) (l : Line) → length bytes ≡ 16 → 8 ≤ kind_of bytes
      → text l ≡ line 88 (refused 15) d.guard.state.mode → turn_line_by (Break (Some l)) d ≡ turn d bytes
  unfolding turn_line_by left
  turn_line-unknown bytes l q h f = unknown-turn bytes (text l) q h f

  pub turn_line-made : (bytes : List ℕ) (r : Answer) (d' : Drill) (l : Line) (kind : Kind) (index size value : ℕ) → length bytes ≡ 16
      → kind_number kind ≡ kind_of bytes → index ≡ index_of bytes → size ≡ length_of bytes → value ≡ value_of bytes
      → performed_by r d' ≡ performed d (kind_number kind) index size value
      → text l ≡ line (label_byte (Call kind)) (reply_of r) d'.guard.state.mode → turn_line_by (Continue l) d' ≡ turn d bytes
  unfolding turn_line_by
  turn_line-made bytes r d' l kind index size value q h a b c e f = made-turn bytes (text l) r d' kind index size value q h a b c e f

  pub turn-none : (bytes : List ℕ) → length bytes ≡ 0 → turn_by (Break None) d ≡ turn d bytes
  unfolding turn_by left
  turn-none bytes e = no-turn bytes e

  pub turn-cut : (bytes : List ℕ) (l : CallLine) → (length bytes ≡ 0 → ⊥) → (length bytes ≡ 16 → ⊥)
      → call_text l ≡ line 88 (refused 14) d.guard.state.mode → turn_by (Break (Some l)) d ≡ turn d bytes
  unfolding turn_by left
  turn-cut bytes l p q f = cut-turn bytes (call_text l) p q f

  pub turn-unknown : (bytes : List ℕ) (l : CallLine) → length bytes ≡ 16 → 8 ≤ kind_of bytes
      → call_text l ≡ line 88 (refused 15) d.guard.state.mode → turn_by (Break (Some l)) d ≡ turn d bytes
  unfolding turn_by left
  turn-unknown bytes l q h f = unknown-turn bytes (call_text l) q h f

  pub turn-made : (bytes : List ℕ) (r : Answer) (d' : Drill) (kind : Kind) (index size value : ℕ) → length bytes ≡ 16 → kind_number kind ≡ kind_of bytes
      → index ≡ index_of bytes → size ≡ length_of bytes → value ≡ value_of bytes
      → performed_by r d' ≡ performed d (kind_number kind) index size value
      → turn_by (Continue (record { label = Call kind; answer = r; mode = d'.guard.state.mode })) d' ≡ turn d bytes
  unfolding turn_by
  turn-made bytes r d' kind index size value q h a b c e = made-turn bytes _ r d' kind index size value q h a b c e refl
