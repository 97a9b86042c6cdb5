-- The listed places and bits, and then the copy of the buffer.
use Rattle.std.proofs.Common.{◌≡◌, refl, ◌∙◌, length, replicate, rules}
use Rattle.model.specs.Policy.{policy_of}
use Rattle.start.proofs.LoopLaws.{frames-small}
use Rattle.start.proofs.StartLaws.{buffer-room, buffer-front, exclusion-set}
use Rattle.start.proofs.TablesSet.{shadow-is, map_is}
use Rattle.start.proofs.set_tables.Goals as goal

pub set_listed-requires : goal.set_listed-requires
set_listed-requires c = (c.fill.ensures.len ∙ c.requires.0, c.fill-2.ensures.len ∙ c.requires.1, refl)

pub slice_bounds-buffer-end : goal.slice_bounds-buffer-end
slice_bounds-buffer-end c = buffer-room c.args.policy.bytes.now c.args.policy.passed _ c.requires.2 _ c.set_listed.ensures.2

pub slice_bounds-copy_from_slice-end : goal.slice_bounds-copy_from_slice-end
slice_bounds-copy_from_slice-end c = buffer-front c.args.policy.bytes.now c.args.policy.passed _ c.requires.2 _ c.set_listed.ensures.2

pub copy_from_slice-requires : goal.copy_from_slice-requires
copy_from_slice-requires c = buffer-front c.args.policy.bytes.now c.args.policy.passed _ c.requires.2 _ c.set_listed.ensures.2

pub returns : goal.returns
returns c =
    let policy = policy_of c.args.policy.bytes.now in
    let cleared : c.fill.new.self ≡ replicate (length c.args.shadow.now) 0 = c.fill.ensures.after (λ y h. search rules) in
    let unmapped : c.fill-2.new.self ≡ replicate (length c.args.map.now) 65535 = c.fill-2.ensures.after (λ y h. search rules) in (
      shadow-is policy _ _ _ c.requires.0 (frames-small _ c.args.policy.passed) cleared c.set_listed.ensures.0,
      map_is policy _ _ _ c.requires.1 unmapped c.set_listed.ensures.1,
      exclusion-set c.args.policy.bytes.now c.args.policy.passed _ c.requires.2 _ c.set_listed.ensures.2 _ c.copy_from_slice.ensures.after,
    )
