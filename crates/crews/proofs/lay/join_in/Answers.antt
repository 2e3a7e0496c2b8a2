-- Both books, one behind the other, in a draft that they fit in.
use native.Mathlib.Omega.{arith}
use Rattle.book.specs.ReadBook.{the_book}
use Rattle.book.proofs.Places.{shape-atoms}
use Rattle.book.proofs.Made.{made-fits}
use Rattle.crews.proofs.Moving.{both-made, both_small, both-finished}
use Rattle.crews.proofs.lay.join_in.Goals as goal

-- behind both books the draft holds the joined book's rules
pub finish_book-requires : goal.finish_book-requires
finish_book-requires c =
    let a = c.args in
    let made = both-made (the_book a.first.now) (the_book a.second.now) (shape-atoms _ a.first.now.shape a.first.now.read_as)
    (c.nothing.ensures _ c.requires.2) c.add_book-day.ensures c.add_book-night.ensures in
    (made-fits made (both_small _ _ _ _ a.first.now.read_as a.second.now.read_as c.requires.0 c.requires.1), (_, made))

pub returns : goal.returns
returns c =
    let a = c.args in
    let made = both-made (the_book a.first.now) (the_book a.second.now) (shape-atoms _ a.first.now.shape a.first.now.read_as)
    (c.nothing.ensures _ c.requires.2) c.add_book-day.ensures c.add_book-night.ensures in
    both-finished _ _ (omega (arith, shape-atoms _ a.first.now.shape a.first.now.read_as, shape-atoms _ a.second.now.shape a.second.now.read_as))
    (c.finish_book.ensures _ made)
