-- What a device write asks and gives, and the bounds on the way.
use Prim.Native.Nat.{ℕ, suc, ◌-◌, ◌*◌, ◌/◌, ◌<◌, ◌≤◌}
use mathlib.Core.Bool.{true, not}
use mathlib.Core.List.{List, [], ◌∷◌}
use mathlib.Core.Path.{◌≡◌, refl, sym, ◌∙◌}
use lib.ListN.{length}
use lib.Dec.{ltb, eqb}
use borrow.Author.Tests.{lt-ltb, ltb-true, eqb-true}
use native.Mathlib.Omega.{arith}
use Rattle.model.specs.declared.State.{State}
use Rattle.model.specs.declared.Device.{Device}
use Rattle.model.specs.Basics.{both, within, every_from}
use Rattle.model.specs.Sizes.{last_byte, last_page, touched}
use Rattle.model.specs.Guard.{Guard, vector_bytes}
use Rattle.model.specs.Devices.{device_at, in_window}
use Rattle.model.specs.Questions.{question, View, state_in_order, in_order, free, every_touched, device_write_questions}
use Rattle.model.specs.Calls.{accepted, outcome, device_write, questions_of, effect_of}
use Rattle.laws.proofs.QuestionLaws.{within_low}
use Rattle.laws.proofs.StateLaws.{frames-few, in_order_lem}
use Rattle.laws.proofs.TouchLaws.{last-page-below, first-up-to-last, every-same}

pub transfer_asks : (v : View) (devices : List Device) (device address size : ℕ) → questions_of v (device_write devices device address size)
    ≡ (question 7 (in_order v.state_fits (v.exclusion_fits ∷ eqb (length devices) v.devices ∷ []))
    ∷ question 8 (within 1 1048576 size)
    ∷ question 18 (ltb device (length devices))
    ∷ question 9 (ltb (last_byte address size) (v.frames * 4096))
    ∷ question 19 (both (in_window (device_at devices device) (address / 4096)) (in_window (device_at devices device) (last_page address size)))
    ∷ question 13 (every_touched (free v) address size)
    ∷ [])
unfolding questions_of device_write_questions
transfer_asks v devices device address size = refl

pub transfer_gives : (g : Guard) (devices : List Device) (device address size : ℕ)
    → effect_of g (device_write devices device address size) ≡ outcome (accepted (address / 4096) (last_page address size)) g
unfolding effect_of
transfer_gives g devices device address size = refl

-- Questions 8 and 9 let every touched frame be below F: 13 asks for exclusion alone.
pub transfer_free : (v : View) (address size : ℕ) → within 1 1048576 size ≡ true → ltb (last_byte address size) (v.frames * 4096) ≡ true
    → every_touched (free v) address size
    ≡ every_from (λ f. not (v.excluded f)) (address / 4096) (suc (last_page address size - address / 4096))
unfolding every_touched touched free both
transfer_free v address size y8 y9 =
    let rises : address / 4096 ≤ last_page address size = first-up-to-last address size (within_low 1 1048576 size y8) in
    let below : last_page address size < v.frames = ltb-true _ _ (sym (last-page-below address size v.frames) ∙ y9) in
    every-same (free v) (λ f. not (v.excluded f)) (address / 4096) (suc (last_page address size - address / 4096))
    (λ f l h. rw (lt-ltb f v.frames (omega arith)) refl)

pub ruleset transfers = (transfer_asks, transfer_gives, frames-few)

-- A transfer that passed questions 7 to 9: its bytes can be counted, and the vector has its last frame.
pub record Placed (long address length : ℕ) : Type 0 where
  pub last : (1 ≤ length) × (last_page address length < 65536)
  pub rises : address / 4096 ≤ last_page address length
  pub has : last_page address length / 8 < long

pub placed : (s : State) (long listed address length : ℕ)
    → true ≡ in_order (state_in_order s) (eqb long (vector_bytes s.frames) ∷ eqb listed s.devices ∷ [])
    → true ≡ within 1 1048576 length → true ≡ ltb (last_byte address length) (s.frames * 4096) → Placed long address length
unfolding vector_bytes
placed s long listed address length y7 y8 y9 =
    let fit = in_order_lem _ (eqb long (vector_bytes s.frames) ∷ eqb listed s.devices ∷ []) (sym y7) in
    let full : long ≡ vector_bytes s.frames = eqb-true long (vector_bytes s.frames) fit.1.0 in
    let few : s.frames ≤ 4096 = frames-few s fit.0 in
    let some : 1 ≤ length = within_low 1 1048576 length (sym y8) in
    let below : last_page address length < s.frames = ltb-true _ _ (sym (last-page-below address length s.frames) ∙ sym y9) in
    let rises : address / 4096 ≤ last_page address length = first-up-to-last address length some in
    record { last = (some, omega arith); rises = rises; has = omega arith }
