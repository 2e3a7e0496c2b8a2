-- One rule more: nothing is done past the limits, and else its record is written behind the others.
use mathlib.Core.Path.{◌≡◌, sym, ◌∙◌}
use mathlib.Core.Bool.{true}
use native.Mathlib.Omega.{arith}
use borrow.Author.Rules.{rules}
use borrow.Author.Tests.{not-true, not-false}
use Rattle.book.specs.Making.{listed, takes}
use lib.ListN.{length}
use Rattle.book.proofs.Made.{listed_small, adds-over, adds-refused, adds-made, room-rules, room-length, room-pos, room-neg}
use Rattle.book.proofs.making.add_rule.Goals as goal
use Rattle.book.proofs.making.add_rule.Lts as lts
use Rattle.book.proofs.making.add_rule.Tie as tie

abbrev After-has_room : Type 0
After-has_room = lts.After-has_room tie.the-claims tie.handed_pre tie.handed_post

abbrev Else-not-has_room : Type 0
Else-not-has_room = lts.Else2 tie.the-claims tie.handed_pre tie.handed_post

pub returns-then-not-m : goal.returns-then-not-m
returns-then-not-m c = adds-over _ _ _ (not-true _ c.if-not-m.true)

-- the room is asked for: the start, and what the answer says of the rule
module _ (c : After-has_room) where
  asked : let a = c.args in
      c.has_room.result ≡ takes a.m a.head.0 (length (listed a.pos.now)) (length (listed a.neg.now))
  asked = rw (← c.count_atoms.ensures, ← c.count_atoms-2.ensures) c.has_room.ensures

pub returns-then-not-has_room : goal.returns-then-not-has_room
returns-then-not-has_room c =
    let a = c.args in
    rw c.passed.ensures (adds-refused _ _ (listed a.pos.now) (listed a.neg.now) (sym (asked c.before.before) ∙ c.if-not-has_room.true) _)

-- there is room
module _ (c : Else-not-has_room) where
  room : let a = c.args in
      takes a.m a.head.0 (length (listed a.pos.now)) (length (listed a.neg.now)) ≡ true
  room = sym (asked c.before) ∙ c.if-not-has_room.false

pub write_record-requires : goal.write_record-requires
write_record-requires c =
    let r = room c.before in
    let n = room-length _ _ _ _ r in
    (omega arith, room-pos _ _ _ _ r, room-neg _ _ _ _ r)

pub overflow_add-result : goal.overflow_add-result
overflow_add-result c =
    let n = room-rules _ _ _ _ (room c.before.before.before) in search rules

pub returns : goal.returns
returns c =
    let r = room c.before.before.before in
    let a = c.args in
    adds-made _ _ (listed a.pos.now) (listed a.neg.now) (not-false _ c.if-not-m.false) r (listed_small a.pos.now (room-pos _ _ _ _ r))
    (listed_small a.neg.now (room-neg _ _ _ _ r)) c.write_record.ensures
