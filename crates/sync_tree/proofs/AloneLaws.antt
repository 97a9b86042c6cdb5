-- The flat entry below no rights is taken apart as the entry is.
use Rattle.std.specs.Prelude.{None, Some, Option}
use Prim.Native.Nat.{ℕ, ◌+◌, ◌*◌, ◌/◌, ◌%◌, ◌^◌, ◌≤◌, ◌<◌}
use mathlib.Core.Path.{◌≡◌, refl, sym, ap, ◌∙◌}
use mathlib.Core.Logic.{◌⊎◌, inl, inr}
use native.Mathlib.Omega.{arith}
use Rattle.model.specs.declared.Fields.{Fields}
use Rattle.model.specs.Basics.{both, either, bit, flag}
use Rattle.model.specs.Bits.{present, valid, taken_apart, fields_of, writable, user_bit, write_through, cache_disable, no_execute, frame_of}
use Rattle.model.specs.Tree.{all_rights, gathered, flat_entry}
use Rattle.laws.proofs.BitLaws.{bit_is, taken-apart, present-valid, valid-parts, lowest, lowest-lt, lowest-of}
use Rattle.laws.proofs.VectorLaws.{flag-weight, flag_small}
use Rattle.tree.specs.Parts.{last_flat}
use Rattle.tree.proofs.BitLaws.{apart-by-bits}

-- The digits of a flat entry.
flat-digits : (r f t : ℕ) → r < 2 ^ 5 → f < 2 ^ 40 → t ≤ 1
    → let flat : ℕ = r + f * 2 ^ 12 + t * 2 ^ 63 in
    (flat % 2 ^ 5 ≡ r) × (flat / 2 ^ 12 % 2 ^ 40 ≡ f) × (flat / 2 ^ 52 % 2 ^ 11 ≡ 0) × (flat / 2 ^ 63 % 2 ≡ t)
flat-digits r f t a b c = (omega arith, omega arith, omega arith, omega arith)

-- The flat entry below no rights is taken apart as the entry is.
unfoldable pub flat-alone : Option Fields → ℕ
flat-alone None = 0
flat-alone (Some x) = flat_entry (gathered 1 all_rights x) x x.frame

alone-present : (entry : ℕ) → taken_apart entry ≡ Some (fields_of entry)
    → taken_apart (flat_entry (gathered 1 all_rights (fields_of entry)) (fields_of entry) (fields_of entry).frame) ≡ taken_apart entry
unfolding flat_entry gathered both either fields_of writable user_bit write_through cache_disable no_execute frame_of
alone-present entry there =
    let parts : (entry % 2 ≡ 1) × (entry / 2 ^ 52 % 2 ^ 11 ≡ 0) = valid-parts entry (present-valid entry (fields_of entry) there) in
    let low : entry % 2 ^ 5 ≡ lowest (fields_of entry) = lowest-of entry parts.0 in
    let t : ℕ = flag (bit 63 entry) 0 in
    let flat : ℕ = lowest (fields_of entry) + frame_of entry * 2 ^ 12 + flag (bit 63 entry) 63 in
    let same : flat ≡ lowest (fields_of entry) + frame_of entry * 2 ^ 12 + t * 2 ^ 63 = rw (flag-weight (bit 63 entry) 63) in
    let d = flat-digits (lowest (fields_of entry)) (frame_of entry) t (lowest-lt (fields_of entry)) (omega arith) (flag_small (bit 63 entry)) in
    apart-by-bits flat entry (rw (← same) at d.0 ∙ sym low) (rw (← same) at d.1) (rw (← same) at d.2 ∙ sym parts.1)
    (bit_is 63 flat (bit 63 entry) (rw (← same) at d.3))

pub alone-apart : (entry : ℕ) → taken_apart (flat-alone (taken_apart entry)) ≡ taken_apart entry
unfolding flat-alone taken_apart valid present bit both
alone-apart entry = by (taken-apart entry)
  where
    by : (taken_apart entry ≡ None) ⊎ (taken_apart entry ≡ Some (fields_of entry)) → taken_apart (flat-alone (taken_apart entry)) ≡ taken_apart entry
    by (inl absent) = ap (λ (e : Option Fields). taken_apart (flat-alone e)) absent ∙ sym absent
    by (inr there) = ap (λ (e : Option Fields). taken_apart (flat-alone e)) there ∙ alone-present entry there

last-alone : (e : Option Fields) → last_flat all_rights e ≡ flat-alone e
unfolding last_flat flat-alone
last-alone None = refl
last-alone (Some x) = refl

pub alone-last : (entry : ℕ) → taken_apart entry ≡ taken_apart (last_flat all_rights (taken_apart entry))
alone-last entry = sym (ap taken_apart (last-alone (taken_apart entry)) ∙ alone-apart entry)
