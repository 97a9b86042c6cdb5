-- Questions 11 to 13 of a write, of its frames and of the entries of its first and its last page.
-- The promises of the public calls do not use this: theirs are the model's.
use Rattle.std.specs.Prelude.{ℕ, Bool, not, List, [], ◌∷◌, ltb}
use Rattle.model.specs.Basics.{both}
use Rattle.model.specs.Guard.{has_bit}
use Rattle.model.specs.Bits.{present, frame_of}
use Rattle.model.specs.Questions.{Question, question, write_permitted}

-- Question 13 of one frame.
abbrev pub free_in : ℕ → List ℕ → ℕ → Bool
free_in frames exclusion f = both (ltb f frames) (not (has_bit exclusion f))

-- Questions 11 to 13 of a write, of the entries of its first and its last page.
abbrev pub entry_questions : Bool → ℕ → List ℕ → ℕ → ℕ → List Question
entry_questions user frames exclusion first last =
    question 11 (both (present first) (present last))
    ∷ question 12 (both (write_permitted user first) (write_permitted user last))
    ∷ question 13 (both (free_in frames exclusion (frame_of first)) (free_in frames exclusion (frame_of last)))
    ∷ []
