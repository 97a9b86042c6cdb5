-- A table of cases holds where the list of what its rows give is the list of what they fix, which the prover computes.
use mathlib.Core.List.{List, [], ◌∷◌}
use mathlib.Core.Path.{◌≡◌, ap}
use Rattle.model.specs.Cases.{Row, Hold}

module _ {A : Type 0} where
  abbrev pub givens : List (Row A) → List A
  givens [] = []
  givens (r ∷ rs) = r.given ∷ givens rs

  abbrev pub fixeds : List (Row A) → List A
  fixeds [] = []
  fixeds (r ∷ rs) = r.fixed ∷ fixeds rs

  abbrev head : A → List A → A
  head other [] = other
  head other (x ∷ xs) = x

  abbrev tail : List A → List A
  tail [] = []
  tail (x ∷ xs) = xs

  pub hold : (rs : List (Row A)) → givens rs ≡ fixeds rs → Hold rs
  hold [] e = tt
  hold (r ∷ rs) e = (ap (head r.given) e, hold rs (ap tail e))
