-- What a fetch asks and gives.
use Prim.Native.Nat.{ℕ}
use mathlib.Core.List.{[], ◌∷◌}
use mathlib.Core.Path.{◌≡◌, refl}
use lib.ListN.{get_or}
use lib.Dec.{ltb}
use Rattle.model.specs.declared.Mode.{Mode}
use Rattle.model.specs.declared.State.{State}
use Rattle.model.specs.Bits.{present, frame_of}
use Rattle.model.specs.Guard.{Guard, guard_of, in_user, mode_of, in_mode}
use Rattle.model.specs.Questions.{View, question, in_order, fetch_permitted, fetch_questions}
use Rattle.model.specs.Calls.{accepted, outcome, fetch, questions_of, effect_of}

pub fetch_asks : (v : View) (page : ℕ) → questions_of v (fetch page)
    ≡ (question 7 (in_order v.state_fits (v.shadow_fits ∷ [])) ∷ question 9 (ltb page v.pages) ∷ question 11 (present (v.shadow page))
    ∷ question 12 (fetch_permitted v.user (v.shadow page)) ∷ [])
unfolding questions_of fetch_questions
fetch_asks v page = refl

pub fetch_gives : (g : Guard) (page : ℕ) → effect_of g (fetch page)
    ≡ outcome (accepted (frame_of (get_or g.tables.shadow page 0)) (frame_of (get_or g.tables.shadow page 0)))
    (guard_of (in_mode g.state (mode_of (in_user g.state.mode) page)) g.tables)
unfolding effect_of
fetch_gives g page = refl

pub in_mode_is : (s : State) (m : Mode) → in_mode s m ≡ record s { mode = m }
unfolding in_mode
in_mode_is s m = refl

pub ruleset fetches = (fetch_asks, fetch_gives, in_mode_is)
