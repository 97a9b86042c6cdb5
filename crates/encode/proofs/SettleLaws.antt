-- Laws of what an answer settles.
use Prim.Native.Nat.{ℕ}
use mathlib.Core.Bool.{true, false}
use mathlib.Core.Path.{◌≡◌, refl, sym}
use Rattle.std.specs.Prelude.{Ok, Err, is_ok}
use Rattle.model.specs.Refusals.{number_of}
use Rattle.model.specs.Calls.{Answer, reply_of, settle}
use Rattle.laws.proofs.CallLaws.{numbered, settle-refused-by}

-- What an answer settles: an accepted call's part, or a refused one's run as it was.
pub settled_accepted : {A : Type 0} (answer : Answer) (after done : A) (refusal : ℕ → A) → is_ok answer ≡ true → after ≡ done
    → after ≡ settle (reply_of answer).number done refusal
unfolding reply_of settle
settled_accepted (Ok (first, second)) after done refusal p e = e
settled_accepted (Err r) after done refusal p e = cc

pub settled_refused : {A : Type 0} (answer : Answer) (run done : A) → is_ok answer ≡ false → run ≡ settle (reply_of answer).number done (λ _. run)
unfolding reply_of
settled_refused (Ok (first, second)) run done p = cc
settled_refused (Err r) run done p = sym (settle-refused-by (number_of r) done (λ _. run) (numbered r) refl)
