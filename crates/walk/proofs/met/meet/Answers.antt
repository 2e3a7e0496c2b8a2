-- A try that meets a reading, by its cases: passed over, the last row, or one more. Where it is not passed over its row lies within the buffer.
use native.Mathlib.Omega.{arith}
use Rattle.walk.proofs.Meeting.{met-passed, met-full, met-going, row-place}
use Rattle.walk.proofs.met.meet.Goals as goal

pub returns-then-t-wanted : goal.returns-then-t-wanted
returns-then-t-wanted c = met-passed _ _ _ _ c.if-t-wanted.true c.tried.ensures

pub overflow_mul-row : goal.overflow_mul-row
overflow_mul-row c =
    omega (arith, row-place _ _ c.args.book.now.read_as _ _ _ c.requires.2 c.requires.1 c.if-t-wanted.false)

pub write_row-requires : goal.write_row-requires
write_row-requires c = row-place _ _ c.args.book.now.read_as _ _ _ c.requires.2 c.requires.1 c.if-t-wanted.false

pub returns-then-row-wanted : goal.returns-then-row-wanted
returns-then-row-wanted c =
    met-full _ _ c.args.book.now.read_as c.args.book.now.small.0 _ c.heads_of.ensures _ _
    c.if-t-wanted.false c.write_row.ensures c.if-row-wanted.true c.tried-then-row-wanted.ensures

pub returns : goal.returns
returns c =
    met-going _ _ c.args.book.now.read_as c.args.book.now.small.0 _ c.heads_of.ensures _ _
    c.if-t-wanted.false c.write_row.ensures c.if-row-wanted.false c.tried-2.ensures
