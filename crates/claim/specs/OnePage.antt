-- Document 01, "The list and the one-page guard of demand 3", second part: the one-page guard of a page, and how the one-page guards
-- settle a call. A one-page guard is a function of the policy, of what it holds and of what it is told, and of no call, table or other page.
use Rattle.std.specs.Prelude.{ℕ, suc, Bool, true, false, cond, List, [], ◌∷◌, get_or, ltb, eqb, Option}
use Rattle.model.specs.Basics.{member}
use Rattle.model.specs.declared.Pending.{Pending}
use Rattle.model.specs.Guard.{none, Guard}
use Rattle.model.specs.Policy.{Policy, named, entry_pages}
use Rattle.model.specs.Bits.{approved}
use Rattle.model.specs.Tree.{flat_at}
use Rattle.model.specs.Sync.{rules, Slot, step, entry_in}
use Rattle.model.specs.Switch.{switched}
use Rattle.model.specs.Approvals.{committed_slot}
use Rattle.model.specs.Questions.{View, first_no}
use Rattle.model.specs.Calls.{settle, Call, sync_page, sync_all, sync_page_tree, sync_all_tree, fetch, write, enter, leave, device_write, ask, commit, drop}
use Rattle.model.specs.Calls.{questions_of}

-- "The one-page guard of a page p holds a mode (kernel or user alone, with no running page), an entry and an approval." It keeps its own
-- set of excluded frames, which are the policy's at first, its own pending frame, or 65535 for none, and whether that was asked for p (K6).
pub record Page : Type 0 where
  pub user : Bool
  pub entry : ℕ
  pub approval : ℕ
  pub excluded : ℕ → Bool
  pub pending : ℕ
  pub own : Bool

-- "It is told the policy record, each accepted synchronisation of p, alone or with others, with the kernel table's entry for p at that
-- call, and each accepted enter and leave." K6: it "is told of accepted asks, commits and drops": of an ask, whether p is its page, and its frame.
pub data News : Type 0 where
  synchronised : (entry : ℕ) → News
  entered : News
  exited : News
  asked : (own : Bool) (frame : ℕ) → News
  committed : News
  dropped : News
  nothing : News

-- The index of p in the record's first array: how many numbers stand before it.
unfoldable pub index_in : ℕ → List ℕ → ℕ
index_in p [] = 0
index_in p (q ∷ qs) = cond (eqb p q) 0 (suc (index_in p qs))

-- "Start: kernel mode. If p is listed, the approval is its listed frame and the entry the approved one for it; else 65535 and 0."
unfoldable pub first_page : Policy → ℕ → Page
first_page policy p =
    let listed : Bool = member p policy.listed_pages in
    let frame : ℕ = get_or policy.listed_frames (index_in p policy.listed_pages) 0 in
    record {
      user = false;
      entry = cond listed (approved false frame) 0;
      approval = cond listed frame none;
      excluded = named policy;
      pending = none;
      own = false;
    }

-- A one-page guard with another entry and approval.
abbrev pub with_slot : Page → Slot → Page
with_slot page p =
    record { user = page.user; entry = p.entry; approval = p.approval; excluded = page.excluded; pending = page.pending; own = page.own }

-- One with other excluded frames and another pending frame, or none.
abbrev pub with_pair : Page → (ℕ → Bool) → ℕ → Bool → Page
with_pair page excluded pending own =
    record { user = page.user; entry = page.entry; approval = page.approval; excluded = excluded; pending = pending; own = own }

-- "Enter: kernel mode. Leave: user mode. After either, a present entry has bit 63 by the rules above, its other bits kept."
unfoldable pub switched_page : Bool → Page → Page
switched_page user page =
    record {
      user = user;
      entry = switched user page.entry;
      approval = page.approval;
      excluded = page.excluded;
      pending = page.pending;
      own = page.own;
    }

-- "Synchronising p: steps 1 to 5 on the entry told, with its own mode, its approval as the map's place for p, and as the excluded ones the
-- policy's frames"; since K6 its own excluded frames and its pending one.
unfoldable pub stepped : Policy → Page → ℕ → Page
stepped policy page k =
    with_slot page (step (rules page.user policy.frames page.pending page.excluded) k page.approval)

-- K6: the excluded frames with one more, or without one.
unfoldable pub excluded_with : Bool → ℕ → (ℕ → Bool) → ℕ → Bool
excluded_with b frame excluded f = cond (eqb f frame) b (excluded f)

-- An ask excludes its frame, and a drop lets it go again. A commit reaches p by its own entry and approval and by whether it was asked for p.
unfoldable pub asked_page : Page → Bool → ℕ → Page
asked_page page own frame = with_pair page (excluded_with true frame page.excluded) frame own

unfoldable pub committed_page : Page → Page
committed_page page =
    with_pair (with_slot page (committed_slot page.user page.pending page.own page.entry page.approval)) page.excluded none false

unfoldable pub dropped_page : Page → Page
dropped_page page = with_pair page (excluded_with false page.pending page.excluded) none false

unfoldable pub told : Policy → Page → News → Page
told policy page (synchronised k) = stepped policy page k
told policy page entered = switched_page false page
told policy page exited = switched_page true page
told policy page (asked own frame) = asked_page page own frame
told policy page committed = committed_page page
told policy page dropped = dropped_page page
told policy page nothing = page

-- What a synchronisation of one page and one of all tell it, of what gives each page its kernel entry. All pages are those below V.
unfoldable pub news_of_one : ℕ → (ℕ → ℕ) → ℕ → News
news_of_one p kernel page = cond (eqb p page) (synchronised (kernel p)) nothing

unfoldable pub news_of_all : Policy → ℕ → (ℕ → ℕ) → News
news_of_all policy p kernel = cond (ltb p policy.pages) (synchronised (kernel p)) nothing

-- What an accepted call tells the one-page guard of p. "Synchronising another page only, fetch, write, device write [..]: no change." K4: a tree
-- tells it the flat entry of p's walk.
unfoldable pub news : Policy → ℕ → Call → News
news policy p (sync_page kernel page) = news_of_one p (entry_in kernel) page
news policy p (sync_all kernel) = news_of_all policy p (entry_in kernel)
news policy p (sync_page_tree tree page) = news_of_one p (flat_at tree) page
news policy p (sync_all_tree tree) = news_of_all policy p (flat_at tree)
news policy p (fetch page) = nothing
news policy p (write address length) = nothing
news policy p (enter index) = entered
news policy p (leave page) = exited
news policy p (device_write devices device address size) = nothing
news policy p (ask page frame) = asked (eqb p page) frame
news policy p commit = committed
news policy p drop = dropped

-- "Only what else a later request asks about is read from the state and tables that reach the call": the number of devices (K5), and whether and
-- what is pending (K6). A question reads nothing else of the guard.
pub record Reached : Type 0 where
  pub devices : ℕ
  pub pending : Option Pending

abbrev pub reached_in : Guard → Reached
reached_in g = record { devices = g.state.devices; pending = g.state.pending }

-- What the questions look at, made of the policy, the one-page guards and what else they may read. The one-page guards were all told the same
-- switches, so that the mode, and the excluded frames, are read off page 0's. "the state and guard tables pass question 7".
abbrev pub seen_by : Policy → (ℕ → Page) → Reached → View
seen_by policy ps reached =
    record {
      pages = policy.pages;
      frames = policy.frames;
      entry_count = policy.entry_count;
      entry_page = λ i. get_or (entry_pages policy) i 0;
      devices = reached.devices;
      pending = reached.pending;
      user = (ps 0).user;
      shadow = λ p. (ps p).entry;
      approval = λ p. (ps p).approval;
      excluded = (ps 0).excluded;
      state_fits = true;
      shadow_fits = true;
      map_fits = true;
      exclusion_fits = true;
    }

-- "Whether a call is accepted, and else its number, is settled by the questions in order from its arguments and the policy, with the mode,
-- entries, approvals and excluded frames of the one-page guards".
unfoldable pub settled : Policy → (ℕ → Page) → Reached → Call → ℕ
settled policy ps reached call = first_no (questions_of (seen_by policy ps reached) call)

-- The one-page guards after a call that was settled with this number: told of it if it was accepted. "any refused call: no change"
unfoldable pub pages_after : Policy → ℕ → Call → (ℕ → Page) → ℕ → Page
pages_after policy number call ps p = settle number (told policy (ps p) (news policy p call)) (λ n. ps p)
