-- Laws of the runs that are written: a run written word by word from its front, and a call's numbers.
use Prim.Native.Nat.{ℕ, suc, ◌<◌}
use mathlib.Core.List.{List, [], ◌∷◌, ◌++◌, append-nil}
use mathlib.Core.Path.{◌≡◌, refl, sym, ap, ◌∙◌}
use lib.ListN.{length, set, take, length-set}
use lib.Seq.{append_snoc, take_all, take-suc-set}
use borrow.Author.Tests.{eq-eqb, ne_eqb}
use native.Mathlib.Omega.{arith}
use Rattle.boundary_model.specs.Words.{answer_numbers}
use Rattle.boundary_model.specs.Words.{overwritten}

-- A run written front to back: `words rest` is what stands before a place, and then the rest. A word written there comes behind it, and so does a
-- copied table; a run that is written to its end is all of it.
unfoldable pub Front : ℕ → ℕ → (List ℕ → List ℕ) → List ℕ → Type 0
Front size at words run = (length run ≡ size) × ((rest : List ℕ) → take at run ++ rest ≡ words rest)

pub front-none : (size : ℕ) (run : List ℕ) → length run ≡ size → Front size 0 (λ rest. rest) run
unfolding Front
front-none size run e = (e, λ rest. refl)

pub front-word : (size at v : ℕ) (words : List ℕ → List ℕ) (run : List ℕ) → at < size → Front size at words run
    → Front size (suc at) (λ rest. words (v ∷ rest)) (set run at v)
unfolding Front
front-word size at v words run h (e, f) =
    (length-set run at v ∙ e, λ rest. rw (take-suc-set run at v (rw e h)) (append_snoc (take at run) v rest ∙ f (v ∷ rest)))

-- The words before a place, where nothing is behind them yet, and a run whose words before a place are known.
pub front-so-far : (size at : ℕ) (words : List ℕ → List ℕ) (run : List ℕ) → Front size at words run → take at run ≡ words []
unfolding Front
front-so-far size at words run (e, f) = sym (append-nil (take at run)) ∙ f []

pub front-known : (size at : ℕ) (front run : List ℕ) → length run ≡ size → take at run ≡ front → Front size at (λ rest. front ++ rest) run
unfolding Front
front-known size at front run e p = (e, λ rest. ap (λ (l : List ℕ). l ++ rest) p)

pub front-full : (size : ℕ) (words : List ℕ → List ℕ) (run : List ℕ) → Front size size words run → run ≡ words []
unfolding Front
front-full size words run (e, f) = sym (take_all size run (omega arith)) ∙ front-so-far size size words run (e, f)

-- A numbers run of its length is written, and one of another is not.
pub numbers-written : (numbers : List ℕ) (a b : ℕ) → length numbers ≡ answer_numbers → a ∷ b ∷ [] ≡ overwritten numbers (a ∷ b ∷ [])
unfolding overwritten
numbers-written numbers a b p = rw (eq-eqb (length numbers) answer_numbers p) refl

pub numbers-left : (numbers : List ℕ) (a b : ℕ) → (length numbers ≡ answer_numbers → ⊥) → numbers ≡ overwritten numbers (a ∷ b ∷ [])
unfolding overwritten
numbers-left numbers a b p = rw (ne_eqb (length numbers) answer_numbers p) refl
