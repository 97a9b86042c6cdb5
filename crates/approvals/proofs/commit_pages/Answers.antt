-- The asked page, and then the others.
use Rattle.approvals.proofs.CommitLaws.{asked-first}
use Rattle.approvals.proofs.commit_pages.Goals as goal

pub returns : goal.returns
returns c =
    asked-first _ _ c.requires.3 _ _ _ _ _ _ _ _ _ _ _ c.requires.2 c.requires.0
    (rw (c.default-none.ensures.0, c.default-none.ensures.1) at c.approve_at-asked.ensures.0)
    c.commit_others-others.ensures.0
