-- Questions 2 to 6 have shown that every number has 16 bits.
use Rattle.std.proofs.Common.{arith}
use Rattle.record.proofs.WriteLaws.{pages-cast, frames-cast, count-cast, entries-cast, record-room, sizes-put, record-put}
use Rattle.record.proofs.Policy.put.Goals as goal

pub overflow_cast-self-inside : goal.overflow_cast-self-inside
overflow_cast-self-inside c = pages-cast _ _ c.self.view_is c.requires.accepted

pub overflow_cast-self-inside-2 : goal.overflow_cast-self-inside-2
overflow_cast-self-inside-2 c = frames-cast _ _ c.self.view_is c.requires.accepted

pub overflow_cast-self-inside-3 : goal.overflow_cast-self-inside-3
overflow_cast-self-inside-3 c = count-cast _ _ c.self.view_is c.requires.accepted

pub overflow_cast-self-inside-4 : goal.overflow_cast-self-inside-4
overflow_cast-self-inside-4 c = entries-cast _ _ c.self.view_is c.requires.accepted

pub put_numbers-requires : goal.put_numbers-requires
put_numbers-requires c = omega (arith, record-room _ _ c.self.view_is c.requires.accepted _ c.requires.room)

pub put_numbers-requires-2 : goal.put_numbers-requires-2
put_numbers-requires-2 c = omega (arith, record-room _ _ c.self.view_is c.requires.accepted _ c.requires.room)

pub returns : goal.returns
returns c =
    rw (← c.self.view_is)
    (record-put _ _ _ _ _ _ _ _ _ _
    (sizes-put _ _ _ _ _ _ _ _ _ c.put_number.ensures c.put_number-2.ensures c.put_number-3.ensures c.put_number-4.ensures)
    c.put_numbers.ensures c.put_numbers-2.ensures)
