use Rattle.std.proofs.Common.{◌≡◌, ◌+◌, ◌-◌, ◌*◌, ◌≤◌}
use Rattle.std.specs.Iterator.Adapters.{enumerate_source, enumerate_count}
use Rattle.model.specs.Policy.{numbers_at}
use Rattle.start.specs.Start.{entry_table}
use Rattle.start.proofs.entry_pages.Given as goal

abbrev pub invariant-loop-i : goal.invariant-loop-i
invariant-loop-i l =
    let bytes = l.policy.bytes.now in
    let entries = l.policy.sizes.entry_count in
    let i = enumerate_count l.i-iterator in
    record {
      can_next : (goal.iterator-loop-i).can_next l.i-iterator;
      is_finite : (goal.iterator-loop-i).is_finite l.i-iterator;
      some : i ≤ entries;
      left : enumerate_source l.i-iterator ≡ numbers_at bytes (8 + 2 * i) (entries - i);
      read : l.pages ≡ entry_table bytes i;
    }
