-- `drill_calls::Machine::turn` meets its contract.
use Rattle.std.proofs.Common.{rules}
use Rattle.drill_calls.specs.Turns.{drill_by}
use Rattle.drill_calls.proofs.TurnLaws.{turn-none, turn-cut, turn-unknown, turn-made}
use Rattle.drill_calls.proofs.Machine.turn.Goals as goal

pub returns-then-is_empty-clause-turned : goal.returns-then-is_empty-clause-turned
returns-then-is_empty-clause-turned c = search (rules, turn-none)

pub returns-else-is_empty-clause-turned : goal.returns-else-is_empty-clause-turned
returns-else-is_empty-clause-turned c = search (rules, turn-cut)

pub returns-in-Err : goal.returns-in-Err
returns-in-Err c = search (rules, turn-unknown)

pub returns-clause-turned : goal.returns-clause-turned
returns-clause-turned c =
    turn-made (drill_by c.args.self.now) c.args.bytes.now c.perform-done.result (drill_by c.perform-done.new.self) c.in-Ok.call.kind
    c.in-Ok.call.index c.in-Ok.call.length c.in-Ok.call.value (search rules) (search rules) (search rules) (search rules) (search rules) (search rules)
