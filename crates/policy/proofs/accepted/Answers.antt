use borrow.Author.Rules.{rules}
use Rattle.std.proofs.Common.{◌≡◌, ℕ, List, refl}
use Rattle.model.specs.Policy.{given_of, policy_of}
use Rattle.model.specs.Questions.{first_no, record_questions}
use Rattle.std.specs.Iterator.{AlwaysYields, YieldsFirst}
use Rattle.std.proofs.lemmas.Iterator.Consumers.{YieldsList-from_first}
use Rattle.policy.proofs.RecordLaws.{record-1, record-2, record-3, record-4, record-5, frames-some, record-6, record-yes, record-passed}
use Rattle.policy.proofs.accepted.Goals as goal

gives : (listed : List ℕ) → AlwaysYields (YieldsFirst (λ (n : List ℕ). n)) (λ (n : ℕ). n) listed listed
gives listed = (YieldsList-from_first (λ (n : ℕ). n) (λ (n : List ℕ). n) listed refl).runs

pub returns-then-bytes-lt-SIZES-clause-question : goal.returns-then-bytes-lt-SIZES-clause-question
returns-then-bytes-lt-SIZES-clause-question c = search (rules, record-1)

pub returns-then-not-sizes_in_range-clause-question : goal.returns-then-not-sizes_in_range-clause-question
returns-then-not-sizes_in_range-clause-question c = search (rules, record-2)

pub returns-then-not-both-clause-question : goal.returns-then-not-both-clause-question
returns-then-not-both-clause-question c = search (rules, record-3)

pub returns-then-bytes-count-clause-question : goal.returns-then-bytes-count-clause-question
returns-then-bytes-count-clause-question c = search (rules, record-4)

pub returns-then-not-pages_rising-clause-question : goal.returns-then-not-pages_rising-clause-question
returns-then-not-pages_rising-clause-question c = search (rules, record-5, c.pages_rising.ensures _ (gives c.new-listed_pages.result))

pub frames_below-requires-clause-some : goal.frames_below-requires-clause-some
frames_below-requires-clause-some c = search (rules, frames-some)

pub returns-then-not-frames_below-clause-question : goal.returns-then-not-frames_below-clause-question
returns-then-not-frames_below-clause-question c = search (rules, record-6, c.pages_rising.ensures _ (gives c.new-listed_pages.result), c.frames_below.ensures _ (gives c.new-listed_frames.result))

pub invariant_of-result-clause-passed : goal.invariant_of-result-clause-passed
invariant_of-result-clause-passed c =
    let yes : 0 ≡ first_no (record_questions (given_of c.args.devices) c.args.bytes.now (policy_of c.args.bytes.now)) =
    search (rules, record-yes, c.pages_rising.ensures _ (gives c.new-listed_pages.result), c.frames_below.ensures _ (gives c.new-listed_frames.result)) in
    record-passed _ _ yes

pub returns-clause-question : goal.returns-clause-question
returns-clause-question c = search (rules, record-yes, c.pages_rising.ensures _ (gives c.new-listed_pages.result), c.frames_below.ensures _ (gives c.new-listed_frames.result))
