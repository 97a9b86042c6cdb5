-- What the questions of an accepted call, each looked up by its number, say of what the call names. They hold of any view: of the guard's, of
-- the one-page guards', and of what the functions below a call are lent.
use Prim.Native.Nat.{ℕ, ◌+◌, ◌*◌, ◌/◌, ◌≤◌, ◌<◌}
use mathlib.Core.Bool.{Bool, true, false, not}
use mathlib.Core.Path.{◌≡◌, refl}
use lib.Dec.{ltb, eqb}
use native.Mathlib.Omega.{arith}
use borrow.Author.Tests.{ltb-true, not-true}
use Rattle.model.specs.Basics.{both, either, every_from}
use Rattle.model.specs.Guard.{none, is_pending}
use Rattle.model.specs.Sizes.{page_bytes, last_byte, last_page}
use Rattle.model.specs.Bits.{present, no_execute, frame_of}
use Rattle.model.specs.declared.Device.{Device}
use Rattle.model.specs.Tree.{Tree}
use Rattle.model.specs.Devices.{in_window}
use Rattle.model.specs.Approvals.{maps_writable}
use Rattle.model.specs.Questions.{View, first_no, sync_page_questions, sync_page_tree_questions, fetch_permitted, fetch_questions, free, every_touched, write_questions}
use Rattle.model.specs.Questions.{enter_questions, leave_questions, device_write_questions, ask_questions, commit_questions, drop_questions}
use Rattle.laws.proofs.QuestionLaws.{asked, numbered, all_yes, both_first, both-second, within_low, within-high, within-yes}
use Rattle.laws.proofs.TouchLaws.{every-at, touched-at}

-- A test of every page (or frame) that an access touches holds of that of each of its bytes.
every_byte : (test : ℕ → Bool) (address length a : ℕ) → every_touched test address length ≡ true → address ≤ a → a < address + length
    → test (a / page_bytes) ≡ true
unfolding last_page last_byte
every_byte test address length a h l m = touched-at test address length (a / page_bytes) h (omega arith) (omega arith)

module _ (v : View) where
  -- The page, and the entry page.
  pub sync_page-page : (n page : ℕ) → first_no (sync_page_questions v n page) ≡ 0 → page < v.pages
  unfolding sync_page_questions asked numbered both either
  sync_page-page n page h = ltb-true page v.pages (both_first _ _ (all_yes 9 (sync_page_questions v n page) refl h))

  pub sync_page_tree-page : (tree : Tree) (page : ℕ) → first_no (sync_page_tree_questions v tree page) ≡ 0 → page < v.pages
  unfolding sync_page_tree_questions asked numbered both either
  sync_page_tree-page tree page h = ltb-true page v.pages (both_first _ _ (all_yes 9 (sync_page_tree_questions v tree page) refl h))

  pub fetch-page : (page : ℕ) → first_no (fetch_questions v page) ≡ 0 → page < v.pages
  unfolding fetch_questions asked numbered both either
  fetch-page page h = ltb-true page v.pages (both_first _ _ (all_yes 9 (fetch_questions v page) refl h))

  pub enter-page : (index : ℕ) → first_no (enter_questions v index) ≡ 0 → v.entry_page index < v.pages
  unfolding enter_questions asked numbered both either
  enter-page index h =
      ltb-true (v.entry_page index) v.pages
      (both-second (ltb index v.entry_count) (ltb (v.entry_page index) v.pages) (both_first _ _ (all_yes 9 (enter_questions v index) refl h)))

  pub leave-page : (page : ℕ) → first_no (leave_questions v page) ≡ 0 → page < v.pages
  unfolding leave_questions asked numbered both either
  leave-page page h = ltb-true page v.pages (both_first _ _ (all_yes 9 (leave_questions v page) refl h))

  -- The length of a write, and where its last byte lies.
  pub write-some : (address length : ℕ) → first_no (write_questions v address length) ≡ 0 → 1 ≤ length
  unfolding write_questions asked numbered both either
  write-some address length h = within_low 1 16 length (both_first _ _ (all_yes 8 (write_questions v address length) refl h))

  pub write-page : (address length : ℕ) → first_no (write_questions v address length) ≡ 0 → last_page address length < v.pages
  unfolding write_questions asked numbered both either
  write-page address length h = ltb-true (last_page address length) v.pages (both_first _ _ (all_yes 9 (write_questions v address length) refl h))

  -- What a fetch finds there, and what a write may cover.
  pub fetch-there : (page : ℕ) → first_no (fetch_questions v page) ≡ 0 → present (v.shadow page) ≡ true
  unfolding fetch_questions asked numbered both either
  fetch-there page h = both_first _ _ (all_yes 11 (fetch_questions v page) refl h)

  pub fetch-executable : (page : ℕ) → first_no (fetch_questions v page) ≡ 0 → no_execute (v.shadow page) ≡ false
  unfolding fetch_questions fetch_permitted asked numbered both either
  fetch-executable page h = not-true _ (both_first _ _ (both_first _ _ (all_yes 12 (fetch_questions v page) refl h)))

  pub write-free : (address length a : ℕ) → first_no (write_questions v address length) ≡ 0 → address ≤ a → a < address + length
      → free v (frame_of (v.shadow (a / page_bytes))) ≡ true
  unfolding write_questions asked numbered both either
  write-free address length a h l m =
      every_byte (λ p. free v (frame_of (v.shadow p))) address length a (both_first _ _ (all_yes 13 (write_questions v address length) refl h)) l m

  -- Of a device write: its length, where its last byte lies, and what it may cover.
  module _ (listed : ℕ) (d : Device) (device address size : ℕ) (h : first_no (device_write_questions v listed d device address size) ≡ 0) where
    pub device_write-some : 1 ≤ size
    unfolding device_write_questions asked numbered both either
    device_write-some = within_low 1 1048576 size (both_first _ _ (all_yes 8 (device_write_questions v listed d device address size) refl h))

    pub device_write-byte : last_byte address size < v.frames * page_bytes
    unfolding device_write_questions asked numbered both either
    device_write-byte =
        ltb-true (last_byte address size) (v.frames * page_bytes) (both_first _ _ (all_yes 9 (device_write_questions v listed d device address size) refl h))

    pub device_write-free : (a : ℕ) → address ≤ a → a < address + size → free v (a / page_bytes) ≡ true
    unfolding device_write_questions asked numbered both either
    device_write-free a l m =
        every_byte (free v) address size a (both_first _ _ (all_yes 13 (device_write_questions v listed d device address size) refl h)) l m

    -- The frame of each of its bytes is between those of its first and its last.
    window-ends : both (in_window d (address / page_bytes)) (in_window d (last_page address size)) ≡ true
    unfolding device_write_questions asked numbered both either
    window-ends = both_first _ _ (all_yes 19 (device_write_questions v listed d device address size) refl h)

    pub device_write-windowed : (a : ℕ) → address ≤ a → a < address + size → in_window d (a / page_bytes) ≡ true
    unfolding in_window last_page last_byte
    device_write-windowed a l m =
        let low : d.first ≤ address / page_bytes =
        within_low d.first d.last (address / page_bytes)
        (both_first (in_window d (address / page_bytes)) (in_window d (last_page address size)) window-ends) in
        let high : last_page address size ≤ d.last =
        within-high d.first d.last (last_page address size)
        (both-second (in_window d (address / page_bytes)) (in_window d (last_page address size)) window-ends) in
        within-yes d.first d.last (a / page_bytes) (omega arith) (omega arith)

  -- Of an ask (K6): page and frame are in range, nothing is pending, and its frame is not excluded.
  module _ (page frame : ℕ) (h : first_no (ask_questions v page frame) ≡ 0) where
    ask-9 : both (ltb page v.pages) (ltb frame v.frames) ≡ true
    unfolding ask_questions asked numbered both either
    ask-9 = both_first _ _ (all_yes 9 (ask_questions v page frame) refl h)

    ask-20 : both (not (is_pending v.pending)) (both (eqb (v.approval page) none) (not (v.excluded frame))) ≡ true
    unfolding ask_questions asked numbered both either
    ask-20 = both_first _ _ (all_yes 20 (ask_questions v page frame) refl h)

    pub ask-page : page < v.pages
    ask-page = ltb-true page v.pages (both_first _ _ ask-9)

    pub ask-frame : frame < v.frames
    ask-frame = ltb-true frame v.frames (both-second (ltb page v.pages) (ltb frame v.frames) ask-9)

    pub ask-first : is_pending v.pending ≡ false
    ask-first = not-true _ (both_first _ _ ask-20)

    pub ask-free : v.excluded frame ≡ false
    ask-free = not-true _ (both-second (eqb (v.approval page) none) _ (both-second (not (is_pending v.pending)) _ ask-20))

    -- 21: no present shadow entry maps its frame writable.
    ask-21 : every_from (λ p. not (maps_writable frame (v.shadow p))) 0 v.pages ≡ true
    unfolding ask_questions asked numbered both either
    ask-21 = both_first _ _ (all_yes 21 (ask_questions v page frame) refl h)

    pub ask-unmapped : (p : ℕ) → p < v.pages → maps_writable frame (v.shadow p) ≡ false
    ask-unmapped p below = not-true _ (every-at (λ p. not (maps_writable frame (v.shadow p))) 0 v.pages p ask-21 (omega arith) (omega arith))

  -- Of a commit and a drop: something is pending.
  pub commit-pending : first_no (commit_questions v) ≡ 0 → is_pending v.pending ≡ true
  unfolding commit_questions asked numbered both either
  commit-pending h = both_first _ _ (all_yes 22 (commit_questions v) refl h)

  pub drop-pending : first_no (drop_questions v) ≡ 0 → is_pending v.pending ≡ true
  unfolding drop_questions asked numbered both either
  drop-pending h = both_first _ _ (all_yes 22 (drop_questions v) refl h)
