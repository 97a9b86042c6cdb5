-- The drill makes 1,024 calls and no more.
use mathlib.Core.List.{[], ◌∷◌, ◌++◌}
use mathlib.Core.Path.{◌∙◌, ap}
use Rattle.drill_model.specs.Drill.{call_limit}
use Rattle.drill_model.specs.Worked.{lines_of}
use Rattle.drill_model.specs.DrillCases.{times}
use Rattle.drill_model.proofs.LimitLaws.{edit, edit_line, closing_lines, opening, edits}
use Rattle.drill_model.proofs.limit_of_calls.Goals as goal

pub returns : goal.returns
unfolding call_limit edit edit_line closing_lines
returns c rest = opening (times call_limit edit ++ rest) ∙ ap (λ xs. lines_of ("S 0 1 1 K 1" ∷ []) ++ xs) (edits call_limit rest)
