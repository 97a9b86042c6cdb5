-- The page's entry has not the frame, or it has a number, and it stays; or it is approved.
use native.Mathlib.Omega.{arith}
use Rattle.step.proofs.StepLaws.{commit-numbered, commit-left, commit-joins}
use borrow.Author.Rules.{rules}
use Rattle.step.proofs.commit_at.Goals as goal

pub returns-then-not-maps : goal.returns-then-not-maps
returns-then-not-maps c = (search (rules, commit-left), omega arith, omega arith)

pub returns-then-map-i : goal.returns-then-map-i
returns-then-map-i c = (search (rules, commit-numbered), omega arith, omega arith)

pub returns : goal.returns
returns c = search (rules, commit-joins)
