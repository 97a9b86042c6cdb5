-- Demand 3: what an accepted fetch reads is code in kernel mode, and what an accepted write or device write covers is clear.
use Prim.Native.Nat.{ℕ, ◌+◌, ◌*◌, ◌/◌, ◌%◌, ◌<◌}
use mathlib.Core.Bool.{Bool, true, not}
use mathlib.Core.List.{List}
use mathlib.Core.Path.{◌≡◌, refl, sym, ◌∙◌}
use lib.Dec.{ltb}
use lib.ListN.{length, get_or}
use native.Mathlib.Omega.{arith}
use borrow.Author.Tests.{ltb-true, not-true}
use Rattle.model.specs.declared.Device.{Device}
use Rattle.model.specs.Sizes.{page_bytes, last_byte, last_page}
use Rattle.model.specs.Guard.{Guard, has_bit}
use Rattle.model.specs.Policy.{Policy}
use Rattle.model.specs.Bits.{frame_of}
use Rattle.model.specs.Devices.{device_of, device_at, in_window}
use Rattle.model.specs.Questions.{free}
use Rattle.model.specs.Calls.{Call, fetch, write, device_write, questions_of, effect_of}
use Rattle.claim.specs.CallKinds.{touch_of}
use Rattle.claim.specs.OnePage.{reached_in, seen_by, settled}
use Rattle.claim.specs.Claim.{Clear, covered_by, FetchSafe, WriteSafe, DeviceWriteSafe, Safe}
use Rattle.claim.specs.Terms.{Terms, code}
use Rattle.laws.proofs.QuestionLaws.{both_first, both-second, within_low, within-high}
use Rattle.claim.proofs.PageLaws.{good-code}
use Rattle.laws.proofs.AcceptedLaws.{fetch-there, fetch-executable, write-free, device_write-free, device_write-windowed}
use Rattle.claim.proofs.KindLaws.{Touching, touchless, fetches, writes, transfers, kinds}
use Rattle.claim.proofs.Invariant.{Invariant, page_of, excluded-is}

module _ (policy : Policy) (terms : Terms) (g : Guard) (h : Invariant policy terms g) where
  -- Any byte of a frame that question 13 lets pass is clear.
  free-clear : (f x : ℕ) → free (seen_by policy (page_of g) (reached_in g)) f ≡ true → x / page_bytes ≡ f → Clear policy terms x
  unfolding free
  free-clear f x passed e =
      let below : f < policy.frames = ltb-true f policy.frames (both_first _ _ passed) in
      record {
        below = omega arith;
        unprotected =
            let bit : Bool = has_bit g.tables.exclusion f in
            rw e (sym (excluded-is policy terms g h f) ∙ not-true bit (both-second (ltb f policy.frames) (not bit) passed));
      }

  -- Every accepted call is safe: by what it touches.
  fetch-safe : (page : ℕ) → settled policy (page_of g) (reached_in g) (fetch page) ≡ 0
      → FetchSafe policy terms (page_of g) page (effect_of g (fetch page)).reply
  unfolding settled questions_of effect_of
  fetch-safe page passed =
      let v = seen_by policy (page_of g) (reached_in g) in
      record {
        first = refl;
        second = refl;
        approved = λ kernel.
            good-code (code policy terms) (page_of g page) (h.good page) kernel (fetch-there v page passed) (fetch-executable v page passed);
      }

  write-safe : (address size : ℕ) → settled policy (page_of g) (reached_in g) (write address size) ≡ 0
      → WriteSafe policy terms (page_of g) address size (effect_of g (write address size)).reply
  unfolding settled questions_of effect_of covered_by last_page last_byte
  write-safe address size passed =
      record {
        first = refl;
        second = refl;
        bytes = λ a l m.
            let frame : ℕ = frame_of (get_or g.tables.shadow (a / page_bytes) 0) in
            free-clear frame (frame * page_bytes + a % page_bytes)
            (write-free (seen_by policy (page_of g) (reached_in g)) address size a passed l m) (omega arith);
      }

  transfer-safe : (devices : List Device) (device address size : ℕ)
      → settled policy (page_of g) (reached_in g) (device_write devices device address size) ≡ 0
      → DeviceWriteSafe policy terms (get_or devices device (device_of 1 0)) address size
  unfolding settled questions_of device_at in_window
  transfer-safe devices device address size passed =
      let v = seen_by policy (page_of g) (reached_in g) in
      let window : Device = get_or devices device (device_of 1 0) in
      record {
        bytes = λ a l m. free-clear (a / page_bytes) a (device_write-free v (length devices) window device address size passed a l m) refl;
        windowed = λ a l m.
            let inside = device_write-windowed v (length devices) window device address size passed a l m in (
              within_low window.first window.last (a / page_bytes) inside,
              within-high window.first window.last (a / page_bytes) inside,
            );
      }

  pub safe : (call : Call) → settled policy (page_of g) (reached_in g) call ≡ 0
      → Safe policy terms (page_of g) (touch_of call) (effect_of g call).reply
  unfolding touch_of
  safe call passed = by (kinds call).0
    where
      by : Touching call → Safe policy terms (page_of g) (touch_of call) (effect_of g call).reply
      by (touchless e) = rw e tt
      by (fetches page e) = rw e (fetch-safe page (rw e at passed))
      by (writes address size e) = rw e (write-safe address size (rw e at passed))
      by (transfers devices device address size e) = rw e (transfer-safe devices device address size (rw e at passed))
