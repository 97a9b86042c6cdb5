-- The fold joins the bytes by `|`.
use Rattle.std.proofs.Common.{rules, ◌≡◌, ◌-◌, ap, ◌∙◌, take, drop, bit_or, eqb, arith}
use Rattle.std.specs.List.{fold}
use Rattle.bitmap.proofs.RangeLaws.{joined_clear}
use Rattle.bitmap.proofs.clear_bytes.Goals as goal

pub returns : goal.returns
returns c =
    let e : c.fold.result ≡ fold bit_or 0 (take (c.args.to - c.args.from) (drop c.args.from c.args.exclusion.now)) = search rules in
    ap (λ v. eqb v 0) e ∙ joined_clear _ _ _ (λ k. omega (arith, c.type_inv.exclusion k)) (omega arith) (omega arith)
