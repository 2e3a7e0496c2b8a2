-- The tests in their order: the first that fails decides.
use native.Mathlib.Omega.{arith}
use Rattle.book.proofs.Made.{full-rules, full-length, full-head, full-pos, room-left}
use Rattle.book.proofs.making.has_room.Goals as goal

pub returns-then-m-ge255 : goal.returns-then-m-ge255
returns-then-m-ge255 c = full-rules _ _ _ _ (omega arith)

pub returns-then-m-ge8891 : goal.returns-then-m-ge8891
returns-then-m-ge8891 c = full-length _ _ _ _ (omega arith)

pub returns-then-head-ge255 : goal.returns-then-head-ge255
returns-then-head-ge255 c = full-head _ _ _ _ (omega arith)

pub returns-then-p-gt16 : goal.returns-then-p-gt16
returns-then-p-gt16 c = full-pos _ _ _ _ (omega arith)

pub returns : goal.returns
returns c = room-left _ _ _ _ (omega arith) (omega arith) (omega arith) (omega arith)
