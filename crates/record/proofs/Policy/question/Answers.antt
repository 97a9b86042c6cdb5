-- The fields are those of the policy that clauses see.
use Rattle.std.proofs.Common.{rules}
use Rattle.std.proofs.lemmas.Iterator.{YieldsList-from_slice}
use Rattle.std.proofs.lemmas.Iterator.Consumers.{YieldsList-from_copied}
use Rattle.record.proofs.ArrayLaws.{pages-narrow, frames-narrow, policy-2, policy-3, policy-4, policy-5, policy-6, policy-yes}
use Rattle.policy.proofs.RecordLaws.{frames-some}
use Rattle.record.proofs.Policy.question.Goals as goal

pub returns-then-not-sizes_in_range : goal.returns-then-not-sizes_in_range
returns-then-not-sizes_in_range c = rw (← c.self.view_is) (search (rules, policy-2))

pub returns-then-not-counts_in_range : goal.returns-then-not-counts_in_range
returns-then-not-counts_in_range c = rw (← c.self.view_is) (search (rules, policy-3))

pub overflow_cast-self-inside : goal.overflow_cast-self-inside
overflow_cast-self-inside c = search (rules, pages-narrow)

pub overflow_cast-self-inside-2 : goal.overflow_cast-self-inside-2
overflow_cast-self-inside-2 c = search (rules, frames-narrow)

pub frames_below-requires-clause-some : goal.frames_below-requires-clause-some
frames_below-requires-clause-some c = search (rules, frames-some)

pub returns-then-not-arrays_exact : goal.returns-then-not-arrays_exact
returns-then-not-arrays_exact c =
    let exact = rw (← c.self.view_is) at c.arrays_exact.ensures in
    rw (← c.self.view_is) (search (rules, policy-4))

pub returns-then-not-pages_rising : goal.returns-then-not-pages_rising
returns-then-not-pages_rising c =
    let exact = rw (← c.self.view_is) at c.arrays_exact.ensures in
    let pages = c.pages_rising.ensures c.self.inside.listed_pages.now (YieldsList-from_copied (YieldsList-from_slice c.self.inside.listed_pages.now cc)).runs in
    rw (← c.self.view_is) (search (rules, policy-5))

pub returns-then-not-frames_below : goal.returns-then-not-frames_below
returns-then-not-frames_below c =
    let exact = rw (← c.self.view_is) at c.arrays_exact.ensures in
    let pages = c.pages_rising.ensures c.self.inside.listed_pages.now (YieldsList-from_copied (YieldsList-from_slice c.self.inside.listed_pages.now cc)).runs in
    let frames = c.frames_below.ensures c.self.inside.listed_frames.now (YieldsList-from_copied (YieldsList-from_slice c.self.inside.listed_frames.now cc)).runs in
    rw (← c.self.view_is) (search (rules, policy-6))

pub returns : goal.returns
returns c =
    let exact = rw (← c.self.view_is) at c.arrays_exact.ensures in
    let pages = c.pages_rising.ensures c.self.inside.listed_pages.now (YieldsList-from_copied (YieldsList-from_slice c.self.inside.listed_pages.now cc)).runs in
    let frames = c.frames_below.ensures c.self.inside.listed_frames.now (YieldsList-from_copied (YieldsList-from_slice c.self.inside.listed_frames.now cc)).runs in
    rw (← c.self.view_is) (search (rules, policy-yes))
