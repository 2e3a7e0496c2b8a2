-- A book's rules moved up, one behind the other.
use native.Mathlib.Omega.{arith}
use Rattle.book.specs.ReadBook.{the_book}
use Rattle.book.proofs.Places.{shape-count}
use Rattle.crews.proofs.Moving.{rules-none, rules-more, rules-all}
use Rattle.crews.proofs.lay.add_book.Goals as goal

pub loop-r-init : goal.loop-r-init
loop-r-init c = rules-none c.args.up (the_book c.args.book.now) _ _

pub loop-r-preserved : goal.loop-r-preserved
loop-r-preserved c =
    let book = c.args.book.now in
    rules-more c.args.up (the_book book) c.loop-r.r (omega (arith, shape-count _ book.shape book.read_as)) c.loop-r.invariant
    c.add_moved-n.ensures

pub returns : goal.returns
returns c =
    let book = c.args.book.now in
    rules-all c.args.up (the_book book) c.loop-r.r (omega (arith, shape-count _ book.shape book.read_as)) c.loop-r.invariant
