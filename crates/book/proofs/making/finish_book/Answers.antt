-- Index and trailer, one behind the other. The caller's own rules say that there is room.
use Prim.Native.Nat.{◌≤◌}
use native.Mathlib.Omega.{arith}
use borrow.Author.Rules.{rules}
use Rattle.book.specs.Writing.{trailer_bytes}
use Rattle.book.proofs.Puts.{puts_then}
use Rattle.book.proofs.Made.{made-whole, whole-size}
use Rattle.book.proofs.MadeIndex.{index-ends, finished}
use Rattle.book.proofs.making.finish_book.Goals as goal
use Rattle.book.proofs.making.finish_book.Lts as lts
use Rattle.book.proofs.making.finish_book.Tie as tie

abbrev After-write_index-indexed : Type 0
After-write_index-indexed = lts.After-write_index tie.the-claims tie.handed_pre tie.handed_post

abbrev After-write_byte-first : Type 0
After-write_byte-first = lts.After-write_byte tie.the-claims tie.handed_pre tie.handed_post

abbrev After-write_byte-second : Type 0
After-write_byte-second = lts.After-write_byte2 tie.the-claims tie.handed_pre tie.handed_post

abbrev After-write_number-third : Type 0
After-write_number-third = lts.After-write_number tie.the-claims tie.handed_pre tie.handed_post

-- behind the index: how many rules and bytes there are, and where the index ends
module _ (c : After-write_index-indexed) where
  few : c.args.m.rules ≤ 255
  few = let (l, g) = c.requires.1 in let w = made-whole g c.requires.0 in omega (arith, w.rules, w.small.rules)

  small : c.args.m.length ≤ 8925
  small = let (l, g) = c.requires.1 in omega (arith, few, whole-size (made-whole g c.requires.0))

  room : c.write_index-indexed.result ≤ 9435
  room = let (l, g) = c.requires.1 in
      omega (arith, few, small, index-ends (made-whole g c.requires.0) (c.write_index-indexed.ensures l g))

pub write_byte-first-requires : goal.write_byte-first-requires
write_byte-first-requires c = omega (arith, room c.before)

-- behind the first byte of the trailer, the second and the start of the index
module _ (c : After-write_byte-first) where
  abbrev indexed : After-write_index-indexed
  indexed = c.before.before

  first : c.write_byte-first.result ≤ 9436
  first = omega (arith, room c.before.before, c.write_byte-first.ensures.ends)

pub overflow_cast-m : goal.overflow_cast-m
overflow_cast-m c = let h = few c.before.before.before.before in search rules

pub write_byte-second-requires : goal.write_byte-second-requires
write_byte-second-requires c = omega (arith, first c.before.before)

module _ (c : After-write_byte-second) where
  second : c.write_byte-second.result ≤ 9437
  second = omega (arith, first c.before.before.before, c.write_byte-second.ensures.ends)

pub write_number-third-requires : goal.write_number-third-requires
write_number-third-requires c = (omega (arith, second c.before), omega (arith, small (indexed c.before.before.before.before)))

module _ (c : After-write_number-third) where
  third : c.write_number-third.result ≤ 9439
  third = omega (arith, second c.before.before, c.write_number-third.ensures.ends)

pub write_byte-low-requires : goal.write_byte-low-requires
write_byte-low-requires c = omega (arith, third c.before.before.before)

pub write_byte-requires : goal.write_byte-requires
write_byte-requires c =
    omega (arith, third c.before.before.before.before.before.before.before, c.write_byte-low.ensures.ends)

pub returns : goal.returns
unfolding trailer_bytes
returns c = λ l g.
    finished (made-whole g c.requires.0) _ (c.write_index-indexed.ensures l g)
    (puts_then c.write_byte-first.ensures (puts_then c.write_byte-second.ensures (puts_then c.write_number-third.ensures
    (puts_then c.write_byte-low.ensures c.write_byte.ensures))))
