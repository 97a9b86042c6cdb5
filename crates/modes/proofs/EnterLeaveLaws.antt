-- What enter and leave ask and give.
use Prim.Native.Nat.{ℕ}
use mathlib.Core.Bool.{not}
use mathlib.Core.List.{[], ◌∷◌}
use mathlib.Core.Path.{◌≡◌, refl}
use lib.ListN.{get_or}
use lib.Dec.{ltb}
use Rattle.model.specs.declared.Mode.TheVariants.{Kernel, User}
use Rattle.model.specs.Basics.{both}
use Rattle.model.specs.Bits.{present, approved_mark}
use Rattle.model.specs.Guard.{Guard}
use Rattle.model.specs.Questions.{View, question, in_order, enter_questions, leave_permitted, leave_questions}
use Rattle.model.specs.Calls.{enter, leave, questions_of, switch_to, effect_of}

pub enter_asks : (v : View) (index : ℕ) → questions_of v (enter index)
    ≡ (question 7 (in_order v.state_fits (v.shadow_fits ∷ []))
    ∷ question 9 (both (ltb index v.entry_count) (ltb (v.entry_page index) v.pages))
    ∷ question 10 v.user
    ∷ question 11 (present (v.shadow (v.entry_page index)))
    ∷ question 12 (approved_mark (v.shadow (v.entry_page index)))
    ∷ [])
unfolding questions_of enter_questions
enter_asks v index = refl

pub enter_gives : (g : Guard) (index : ℕ) → effect_of g (enter index) ≡ switch_to g (Kernel (get_or g.state.entry_pages index 0))
unfolding effect_of
enter_gives g index = refl

pub ruleset enters = (enter_asks, enter_gives)

pub leave_asks : (v : View) (page : ℕ) → questions_of v (leave page)
    ≡ (question 7 (in_order v.state_fits (v.shadow_fits ∷ []))
    ∷ question 9 (ltb page v.pages)
    ∷ question 10 (not v.user)
    ∷ question 11 (present (v.shadow page))
    ∷ question 12 (leave_permitted (v.shadow page))
    ∷ [])
unfolding questions_of leave_questions
leave_asks v page = refl

pub leave_gives : (g : Guard) (page : ℕ) → effect_of g (leave page) ≡ switch_to g (User page)
unfolding effect_of
leave_gives g page = refl

pub ruleset leaves = (leave_asks, leave_gives)
