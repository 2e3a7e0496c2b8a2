use mathlib.Core.Path.{◌≡◌}
use mathlib.Core.Bool.{true, false}
use mathlib.Core.List.{map}
use lib.ListN.{get_or, drop}
use Rattle.meaning.specs.Books.{atom_no}
use Rattle.meaning.specs.Colours.{all_in}
use Rattle.meaning.specs.Sets.{some}
use Rattle.meaning.specs.Bits.{listed}
use Rattle.meaning.specs.Written.{of}
use Rattle.book.specs.Format.{book_in}
use Rattle.book.proofs.AtomSets.{all_to}
use Rattle.book.proofs.read.ReadBook.is_starved.Given as goal

abbrev pub invariant-loop-q : goal.invariant-loop-q
invariant-loop-q l = all_to (book_in l.self.bytes.now) (of (listed l.off.w)) l.q (atom_no (get_or l.body l.a-index 0)) ≡ true

abbrev pub invariant-atoms : goal.invariant-atoms
invariant-atoms l =
    (some (all_in (book_in l.self.bytes.now) (of (listed l.off.w))) (map atom_no l.body) ≡ some (all_in (book_in l.self.bytes.now) (of (listed l.off.w)))
    (map atom_no (drop l.a-index l.body)))
    × (l.starved ≡ false)
