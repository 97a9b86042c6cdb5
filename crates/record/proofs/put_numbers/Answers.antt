-- The buffer with the numbers that are left is the buffer with all of them.
use Rattle.std.proofs.Common.{◌≡◌, ◌+◌, ◌*◌, arith}
use Rattle.record.proofs.WriteLaws.{numbers-end, numbers_more}
use Rattle.record.proofs.put_numbers.Goals as goal

pub loop-i-preserved : goal.loop-i-preserved
loop-i-preserved c =
    let next : c.args.at + 2 * c.loop-i.i + 2 ≡ c.args.at + 2 * (c.loop-i.i + 1) = omega arith in
    rw (← next) (numbers_more c.args.numbers.now c.loop-i.buffer _ c.loop-i.i _ c.loop-i.invariant _ c.loop-i-test.true c.put_number.ensures)

pub returns : goal.returns
returns c = numbers-end c.args.numbers.now c.loop-i.buffer _ c.loop-i.i _ c.loop-i.invariant c.loop-i-test.false
