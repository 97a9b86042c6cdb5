-- The tables and the mode, from the claim alone.
use Rattle.claim.proofs.ListLaws.{claim}
use Rattle.claim.proofs.ConsequenceLaws.{page-is-fold, mode-is-fold, exclusion-is-fold, lengths-kept}
use Rattle.claim.proofs.tables_are_folds.Goals as goal

pub returns : goal.returns
returns c = (page-is-fold claim, mode-is-fold claim, exclusion-is-fold claim, lengths-kept claim)
