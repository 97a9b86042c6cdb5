-- The places that are left are set as all of them were to be, the frames that are left are excluded so too, and every one is inside its table.
use Rattle.std.proofs.Common.{◌≡◌, refl, arith, rules}
use Rattle.std.specs.Iterator.Adapters.{zip_first, zip_second}
use Rattle.model.specs.Policy.{policy_of}
use Rattle.start.proofs.LoopLaws.{head-below, tail-below, listed-map, listed-shadow, as-many, both-end, listed-end, gather-step, gather-end, listed-below, frames-small, listed-many}
use Rattle.start.proofs.set_listed.Goals as goal

pub loop-page-init : goal.loop-page-init
loop-page-init c =
    let bytes = c.args.policy.bytes.now in
    let pages : zip_first c.into_iter-page-iterator.result ≡ (policy_of bytes).listed_pages = cc in
    let frames : zip_second c.into_iter-page-iterator.result ≡ (policy_of bytes).listed_frames = cc in
    record {
      can_next = search rules;
      is_finite = search rules;
      as_many = rw (pages, frames) (listed-many bytes c.args.policy.passed);
      pages_below = rw pages (listed-below bytes c.args.policy.passed);
      frames_below = rw frames (frames-small bytes c.args.policy.passed);
      shadow = rw (pages, frames) refl;
      map = rw (pages, frames) refl;
      vector = rw frames refl;
    }

pub bounds-shadow-place : goal.bounds-shadow-place
bounds-shadow-place c = omega (arith, head-below _ _ _ _ c.in-Some.ensures.steps.0 c.loop-page.invariant.pages_below)

pub bounds-map-place : goal.bounds-map-place
bounds-map-place c = omega (arith, head-below _ _ _ _ c.in-Some.ensures.steps.0 c.loop-page.invariant.pages_below)

pub set_bit_within-requires : goal.set_bit_within-requires
set_bit_within-requires c = omega (arith, head-below _ _ _ _ c.in-Some.ensures.steps.1 c.loop-page.invariant.frames_below)

pub loop-page-preserved : goal.loop-page-preserved
loop-page-preserved c =
    let left = c.loop-page.invariant in
    let pages = c.in-Some.ensures.steps.0 in
    let frames = c.in-Some.ensures.steps.1 in
    record {
      can_next = search rules;
      is_finite = search rules;
      as_many = as-many _ _ _ _ _ _ pages frames left.as_many;
      pages_below = tail-below _ _ _ _ pages left.pages_below;
      frames_below = tail-below _ _ _ _ frames left.frames_below;
      shadow = listed-shadow _ _ _ _ _ _ pages frames _ _ _ c.approved.ensures left.shadow;
      map = listed-map _ _ _ _ _ _ pages frames _ _ left.map;
      vector = gather-step _ _ _ _ _ _ frames c.set_bit_within.ensures left.vector;
    }

pub returns : goal.returns
returns c =
    let left = c.loop-page.invariant in
    let none = both-end _ _ left.as_many c.in-None.ensures.steps in
    (listed-end _ _ _ _ none.0 left.shadow, listed-end _ _ _ _ none.0 left.map, gather-end _ _ _ none.1 left.vector)
