-- Laws of a write: where it lies, by what its code has asked, and what it gives.
use Prim.Native.Nat.{ℕ, ◌/◌, ◌<◌, ◌≤◌}
use mathlib.Core.Bool.{Bool, true, false, not, cond}
use mathlib.Core.List.{List, [], ◌∷◌}
use mathlib.Core.Path.{◌≡◌, refl, sym}
use lib.ListN.{get_or}
use lib.Dec.{ltb, eqb}
use borrow.Author.Tests.{ltb-true, eqb-true}
use native.Mathlib.Omega.{arith}
use Rattle.model.specs.declared.State.{State}
use Rattle.model.specs.Basics.{both, within}
use Rattle.model.specs.Sizes.{last_page}
use Rattle.model.specs.Guard.{Guard}
use Rattle.model.specs.Bits.{present, frame_of}
use Rattle.model.specs.Questions.{question, first_no, View, write_permitted, free, state_in_order, in_order, write_questions}
use Rattle.model.specs.Calls.{accepted, outcome, write, questions_of, effect_of}
use Rattle.laws.proofs.QuestionLaws.{within_low}
use Rattle.laws.proofs.StateLaws.{pages-few, in_order_lem}
use Rattle.laws.proofs.TouchLaws.{touched-both, first-up-to-last}

pub free_is : (v : View) (f : ℕ) → free v f ≡ both (ltb f v.frames) (not (v.excluded f))
unfolding free
free_is v f = refl

-- A write that passed questions 7 to 9: its bytes can be counted, and the table has its first page.
pub record Placed (long address length : ℕ) : Type 0 where
  pub first : address / 4096 < long
  pub last : (1 ≤ length) × (last_page address length < 65536)

pub placed : (s : State) (long : ℕ) (others : List Bool) (address length : ℕ) → true ≡ in_order (state_in_order s) (eqb long s.pages ∷ others)
    → true ≡ within 1 16 length → true ≡ ltb (last_page address length) s.pages → Placed long address length
placed s long others address length y7 y8 y9 =
    let fit = in_order_lem _ (eqb long s.pages ∷ others) (sym y7) in
    let full : long ≡ s.pages = eqb-true long s.pages fit.1.0 in
    let few : s.pages ≤ 2048 = pages-few s fit.0 in
    let some : 1 ≤ length = within_low 1 16 length (sym y8) in
    let below : last_page address length < s.pages = ltb-true _ _ (sym y9) in
    let rises : address / 4096 ≤ last_page address length = first-up-to-last address length some in
    record { first = omega arith; last = (some, omega arith) }

-- What a write asks, of its first and its last page, and what it gives.
pub write_asks : (v : View) (address length : ℕ) → within 1 16 length ≡ true → questions_of v (write address length)
    ≡ (question 7 (in_order v.state_fits (v.shadow_fits ∷ v.exclusion_fits ∷ []))
    ∷ question 8 (within 1 16 length)
    ∷ question 9 (ltb (last_page address length) v.pages)
    ∷ question 11 (both (present (v.shadow (address / 4096))) (present (v.shadow (last_page address length))))
    ∷ question 12 (both (write_permitted v.user (v.shadow (address / 4096))) (write_permitted v.user (v.shadow (last_page address length))))
    ∷ question 13 (both (free v (frame_of (v.shadow (address / 4096)))) (free v (frame_of (v.shadow (last_page address length)))))
    ∷ [])
unfolding questions_of write_questions
write_asks v address length w =
    rw (
      touched-both (λ p. present (v.shadow p)) address length w,
      touched-both (λ p. write_permitted v.user (v.shadow p)) address length w,
      touched-both (λ p. free v (frame_of (v.shadow p))) address length w,
    ) refl

pub write_asks_length : (v : View) (address length : ℕ) → within 1 16 length ≡ false → first_no (questions_of v (write address length))
    ≡ cond (in_order v.state_fits (v.shadow_fits ∷ v.exclusion_fits ∷ [])) 8 7
unfolding questions_of write_questions first_no
write_asks_length v address length w = rw w refl

pub write_gives : (g : Guard) (address length : ℕ) → effect_of g (write address length)
    ≡ outcome (accepted (frame_of (get_or g.tables.shadow (address / 4096) 0)) (frame_of (get_or g.tables.shadow (last_page address length) 0))) g
unfolding effect_of
write_gives g address length = refl

pub ruleset writes = (write_asks, write_asks_length, write_gives, free_is, pages-few)
