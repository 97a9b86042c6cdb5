-- `drill_calls::Machine::turn_line` meets its contract.
use Rattle.std.proofs.Common.{rules}
use Rattle.drill_calls.specs.Turns.{drill_by}
use Rattle.drill_calls.proofs.TurnLaws.{turn_line-none, turn_line-cut, turn_line-unknown, turn_line-made}
use Rattle.drill_calls.proofs.Machine.turn_line.Goals as goal

pub returns-then-is_empty : goal.returns-then-is_empty
returns-then-is_empty c = search (rules, turn_line-none)

pub returns-in_default : goal.returns-in_default
returns-in_default c = search (rules, turn_line-cut)

pub returns-in-Err : goal.returns-in-Err
returns-in-Err c = search (rules, turn_line-unknown)

pub returns-clause-turned : goal.returns-clause-turned
returns-clause-turned c =
    turn_line-made (drill_by c.args.self.now) c.args.bytes.now c.perform-answer.result (drill_by c.perform-answer.new.self) c.call_line.result c.in-Ok.call.kind
    c.in-Ok.call.index c.in-Ok.call.length c.in-Ok.call.value (search rules) (search rules) (search rules) (search rules) (search rules) (search rules)
    (search rules)
