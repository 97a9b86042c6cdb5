use Rattle.std.proofs.Common.{◌≡◌, true, length}
use Rattle.std.specs.Iterator.Adapters.{zip_first, zip_second}
use Rattle.model.specs.Policy.{policy_of}
use Rattle.model.specs.Questions.{all_below}
use Rattle.start.specs.Start.{stored_each, approved_each, with_each}
use Rattle.start.proofs.set_listed.Given as goal

abbrev pub invariant-loop-page : goal.invariant-loop-page
invariant-loop-page l =
    let policy = policy_of l.policy.bytes.now in
    let pages = zip_first l.page-iterator in
    let frames = zip_second l.page-iterator in
    record {
      can_next : (goal.iterator-loop-page).can_next l.page-iterator;
      is_finite : (goal.iterator-loop-page).is_finite l.page-iterator;
      as_many : length pages ≡ length frames;
      pages_below : all_below policy.pages pages ≡ true;
      frames_below : all_below 4096 frames ≡ true;
      shadow : stored_each pages (approved_each frames) l.shadow ≡ stored_each policy.listed_pages (approved_each policy.listed_frames) l.initial.shadow;
      map : stored_each pages frames l.map ≡ stored_each policy.listed_pages policy.listed_frames l.initial.map;
      vector : with_each frames l.vector ≡ with_each policy.listed_frames l.initial.vector;
    }
