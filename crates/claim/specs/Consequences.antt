-- Demand 3 once more, sentence by sentence, of the guard's own tables and answers. Each statement here is derived from `Claim` alone, so that a weaker claim
-- does not carry it.
use Rattle.std.specs.Prelude.{ℕ, ◌+◌, ◌-◌, ◌*◌, ◌/◌, ◌<◌, ◌≤◌, true, false, List, [], ◌∷◌, ◌++◌, ◌⊎◌, ◌≡◌, eqb, length, get_or}
use Rattle.model.specs.declared.Device.{Device}
use Rattle.model.specs.Sizes.{page_bytes}
use Rattle.model.specs.Guard.{none, Guard, vector_bytes, vector_of, in_user}
use Rattle.model.specs.Policy.{Policy, named, entry_pages}
use Rattle.model.specs.Questions.{View, first_no}
use Rattle.model.specs.Bits.{frame_of}
use Rattle.model.specs.Devices.{device_of}
use Rattle.model.specs.Calls.{Reply, settle, Call, fetch, write, device_write, ask, commit, questions_of}
use Rattle.claim.specs.OnePage.{Page, News, first_page, told, news}
use Rattle.claim.specs.Lists.{outcome_of, Accepts, guard_after, EachAccepted, AfterEvery}
use Rattle.claim.specs.Committing.{NoDrop}

-- A list commits a frame: an ask for it is accepted, and later a commit, with no accepted drop between them.
pub record Committed (frame : ℕ) (g : Guard) (calls : List Call) : Type 0 where
  pub before : List Call
  pub page : ℕ
  pub between : List Call
  pub after : List Call
  pub split : calls ≡ before ++ (ask page frame ∷ (between ++ (commit ∷ after)))
  pub asked : Accepts (guard_after g before) (ask page frame)
  pub undropped : EachAccepted NoDrop (outcome_of (guard_after g before) (ask page frame)).guard between
  pub confirmed : Accepts (guard_after (outcome_of (guard_after g before) (ask page frame)).guard between) commit

-- An allowed fetch answers the frame of its page's shadow entry, twice. In kernel mode the policy names that frame, or the list has committed it.
abbrev pub FetchReadsCode : Type 0
FetchReadsCode = AfterEvery λ policy start calls g.
    (page : ℕ) → Accepts g (fetch page) →
    let reply : Reply = (outcome_of g (fetch page)).reply in
    (reply.first ≡ frame_of (get_or g.tables.shadow page 0))
    × (reply.second ≡ frame_of (get_or g.tables.shadow page 0))
    × (in_user g.state.mode ≡ false → (named policy reply.first ≡ true) ⊎ Committed reply.first start calls)

-- No byte of an allowed write lies in a frame that the policy names, or beyond the last one.
abbrev pub WriteMissesPolicy : Type 0
WriteMissesPolicy = AfterEvery λ policy start calls g.
    (address size : ℕ) → Accepts g (write address size) → (a : ℕ) → address ≤ a → a < address + size →
    let frame : ℕ = frame_of (get_or g.tables.shadow (a / page_bytes) 0) in
    (frame < policy.frames) × (named policy frame ≡ false)

-- An allowed write answers the frames of its first and last byte.
abbrev pub WriteAnswersFrames : Type 0
WriteAnswersFrames = AfterEvery λ policy start calls g.
    (address size : ℕ) → Accepts g (write address size) →
    let reply : Reply = (outcome_of g (write address size)).reply in
    (reply.first ≡ frame_of (get_or g.tables.shadow (address / page_bytes) 0))
    × (reply.second ≡ frame_of (get_or g.tables.shadow ((address + size - 1) / page_bytes) 0))

-- No byte of an allowed transfer lies in a frame that the policy names, or beyond the last one.
abbrev pub TransferMissesPolicy : Type 0
TransferMissesPolicy = AfterEvery λ policy start calls g.
    (devices : List Device) (device address size : ℕ) → Accepts g (device_write devices device address size) →
    (a : ℕ) → address ≤ a → a < address + size → (a < policy.frames * page_bytes) × (named policy (a / page_bytes) ≡ false)

-- Each byte of an allowed transfer lies in the window that the list has at the device's place. Past the list's end no window has a frame.
abbrev pub TransferInWindow : Type 0
TransferInWindow = AfterEvery λ policy start calls g.
    (devices : List Device) (device address size : ℕ) → Accepts g (device_write devices device address size) →
    (a : ℕ) → address ≤ a → a < address + size →
    let window : Device = get_or devices device (device_of 1 0) in
    (window.first ≤ a / page_bytes) × (a / page_bytes ≤ window.last)

-- What the one-page guard of p is told along a list: the news of each accepted call, in their order; and a one-page guard after such news.
unfoldable pub heard : Policy → ℕ → Guard → List Call → List News
heard policy p g [] = []
heard policy p g (call ∷ calls) =
    let later : List News = heard policy p (outcome_of g call).guard calls in
    settle (outcome_of g call).reply.number (news policy p call ∷ later) (λ n. later)

unfoldable pub told_all : Policy → Page → List News → Page
told_all policy page [] = page
told_all policy page (n ∷ later) = told_all policy (told policy page n) later

-- The one-page guard of p after a list.
abbrev pub page_after : Policy → Guard → List Call → ℕ → Page
page_after policy start calls p = told_all policy (first_page policy p) (heard policy p start calls)

-- The shadow entry and the approval of a page below V are those of its one-page guard, told its own news.
abbrev pub PageIsFold : Type 0
PageIsFold = AfterEvery λ policy start calls g.
    (p : ℕ) → p < policy.pages →
    (get_or g.tables.shadow p 0 ≡ (page_after policy start calls p).entry)
    × (get_or g.tables.map p none ≡ (page_after policy start calls p).approval)

-- The state's mode is that of every one-page guard.
abbrev pub ModeIsFold : Type 0
ModeIsFold = AfterEvery λ policy start calls g.
    (p : ℕ) → p < policy.pages → in_user g.state.mode ≡ (page_after policy start calls p).user

-- The tables keep their lengths.
abbrev pub LengthsKept : Type 0
LengthsKept = AfterEvery λ policy start calls g.
    (length g.tables.shadow ≡ policy.pages) × (length g.tables.map ≡ policy.pages)
    × (length g.tables.exclusion ≡ vector_bytes policy.frames)

-- The exclusion vector, spare bits included, is that of every one-page guard's excluded frames.
abbrev pub ExclusionIsFold : Type 0
ExclusionIsFold = AfterEvery λ policy start calls g.
    (p : ℕ) → p < policy.pages → g.tables.exclusion ≡ vector_of policy.frames (page_after policy start calls p).excluded

-- The answer's number is the one that the one-page guards settle, and the call is allowed where it is 0.
abbrev pub NumberIsSettled : Type 0
NumberIsSettled = AfterEvery λ policy start calls g.
    (call : Call) →
    let reply : Reply = (outcome_of g call).reply in
    let ps : ℕ → Page = page_after policy start calls in
    let view : View =
    record {
      pages = policy.pages;
      frames = policy.frames;
      entry_count = policy.entry_count;
      entry_page = λ i. get_or (entry_pages policy) i 0;
      devices = g.state.devices;
      pending = g.state.pending;
      user = (ps 0).user;
      shadow = λ p. (ps p).entry;
      approval = λ p. (ps p).approval;
      excluded = (ps 0).excluded;
      state_fits = true;
      shadow_fits = true;
      map_fits = true;
      exclusion_fits = true;
    } in
    (reply.number ≡ first_no (questions_of view call)) × (reply.allowed ≡ eqb reply.number 0)

-- A refused call leaves the three tables, and kernel or user.
abbrev pub RefusedKeepsTables : Type 0
RefusedKeepsTables = AfterEvery λ policy start calls g.
    (call : Call) → (Accepts g call → ⊥) →
    let after : Guard = (outcome_of g call).guard in
    (after.tables.shadow ≡ g.tables.shadow) × (after.tables.map ≡ g.tables.map) × (after.tables.exclusion ≡ g.tables.exclusion)
    × (in_user after.state.mode ≡ in_user g.state.mode)
