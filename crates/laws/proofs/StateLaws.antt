-- Laws of the mode, and of question 7 by its parts: the tables that a call is lent, and of the state V, F, the page that runs and the pending pair. Another mode on
-- a page below V keeps it, and so does another pair below V and F.
use Rattle.std.specs.Prelude.{Option}
use Prim.Native.Nat.{ℕ, ◌≤◌, ◌<◌}
use mathlib.Core.Bool.{Bool, true, false, not}
use mathlib.Core.List.{List, [], ◌∷◌}
use mathlib.Core.Path.{◌≡◌, refl, sym, ◌∙◌}
use lib.Dec.{eqb}
use borrow.Author.Tests.{lt-ltb, ltb-true, eqb-true, not-false}
use Rattle.model.specs.declared.Mode.{Mode}
use Rattle.model.specs.declared.Pending.{Pending}
use Rattle.model.specs.declared.State.{State}
use Rattle.model.specs.Basics.{within}
use Rattle.model.specs.Sizes.{pages_in_range, frames_in_range, devices_in_range}
use Rattle.model.specs.Guard.{in_user, running, mode_of, in_mode, with_pending}
use Rattle.model.specs.Questions.{pending_in_range, state_in_order, in_order}
use Rattle.laws.proofs.QuestionLaws.{both_yes, both-no-after, both_first, both-second, within-high}

-- Kernel or user, and the page that runs, of a mode made of both.
pub in_user-mode_of : (user : Bool) (page : ℕ) → in_user (mode_of user page) ≡ user
unfolding in_user mode_of
in_user-mode_of true page = refl
in_user-mode_of false page = refl

pub running-mode_of : (user : Bool) (page : ℕ) → running (mode_of user page) ≡ page
unfolding running mode_of
running-mode_of true page = refl
running-mode_of false page = refl

-- The parts of the state's question, each by its name. The two laws after it alone know their order.
pub record Fits (s : State) : Type 0 where
  pub pages : pages_in_range s.pages ≡ true
  pub frames : frames_in_range s.frames ≡ true
  pub entry_count : within 1 16 s.entry_count ≡ true
  pub running-below : running s.mode < s.pages
  pub devices : devices_in_range s.devices ≡ true
  pub pending : pending_in_range s.pages s.frames s.pending ≡ true

pub state-parts : (s : State) → state_in_order s ≡ true → Fits s
unfolding state_in_order
state-parts s p =
    let rest = both-second _ _ p in
    let more = both-second _ _ rest in
    let last = both-second _ _ more in
    let end = both-second _ _ last in
    record {
      pages = both_first _ _ p;
      frames = both_first _ _ rest;
      entry_count = both_first _ _ more;
      running-below = ltb-true (running s.mode) s.pages (both_first _ _ last);
      devices = both_first _ _ end;
      pending = both-second _ _ end;
    }

pub state-whole : (s : State) → Fits s → state_in_order s ≡ true
unfolding state_in_order
state-whole s f =
    both_yes f.pages (both_yes f.frames (both_yes f.entry_count (both_yes (lt-ltb (running s.mode) s.pages f.running-below) (both_yes f.devices f.pending))))

pub pages-few : (s : State) → state_in_order s ≡ true → s.pages ≤ 2048
unfolding pages_in_range
pages-few s p = within-high 1 2048 s.pages (state-parts s p).pages

pub frames-few : (s : State) → state_in_order s ≡ true → s.frames ≤ 4096
unfolding frames_in_range
frames-few s p = within-high 1 4096 s.frames (state-parts s p).frames

pub mode-fits : (s : State) (m : Mode) → state_in_order s ≡ true → running m < s.pages → state_in_order (in_mode s m) ≡ true
unfolding in_mode
mode-fits s m p r =
    let f : Fits s = state-parts s p in
    state-whole (in_mode s m)
    (record { pages = f.pages; frames = f.frames; entry_count = f.entry_count; running-below = r; devices = f.devices; pending = f.pending })

pub pending-fits : (s : State) (pending : Option Pending) → state_in_order s ≡ true → pending_in_range s.pages s.frames pending ≡ true
    → state_in_order (with_pending s pending) ≡ true
unfolding with_pending
pending-fits s pending p r =
    let f : Fits s = state-parts s p in
    state-whole (with_pending s pending)
    (record { pages = f.pages; frames = f.frames; entry_count = f.entry_count; running-below = f.running-below; devices = f.devices; pending = r })

-- Question 7 was answered yes: so was each part of it.
abbrev pub Fit : List Bool → Type 0
Fit [] = Unit {0}
Fit (fits ∷ others) = (fits ≡ true) × Fit others

pub in_order_lem : (state_fits : Bool) (others : List Bool) → in_order state_fits others ≡ true → (state_fits ≡ true) × Fit others
unfolding in_order
in_order_lem state_fits [] p = (p, tt)
in_order_lem state_fits (fits ∷ others) p =
    let rest = in_order_lem state_fits others (both-second fits (in_order state_fits others) p) in
    (rest.0, (both_first fits (in_order state_fits others) p, rest.1))

-- A shadow table that is lent alone has V entries.
pub shadow-long : (s : State) (long : ℕ) (r7 : Bool) → r7 ≡ in_order (state_in_order s) (eqb long s.pages ∷ []) → not r7 ≡ false
    → long ≡ s.pages
shadow-long s long r7 p q = eqb-true long s.pages (in_order_lem _ (eqb long s.pages ∷ []) (sym p ∙ not-false r7 q)).1.0

-- A state that is not in order: every call refuses it with 7, whatever else it asks.
pub state-no : (state_fits : Bool) (others : List Bool) → state_fits ≡ false → in_order state_fits others ≡ false
unfolding in_order
state-no state_fits [] p = p
state-no state_fits (fits ∷ others) p = both-no-after fits (state-no state_fits others p)
