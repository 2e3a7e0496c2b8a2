use mathlib.Core.Path.{◌≡◌}
use mathlib.Core.Bool.{false}
use lib.ListN.{replicate}
use Rattle.meaning.specs.Colours.{heads}
use Rattle.meaning.specs.Bits.{listed}
use Rattle.meaning.specs.Written.{of}
use Rattle.book.specs.Tables.{atom_table}
use Rattle.book.specs.Format.{book_in}
use Rattle.closing.specs.Growing.{Grown}
use Rattle.closing.specs.Conditions.{marking}
use Rattle.closing.proofs.Growing.{room}
use Rattle.closing.proofs.marking.support.Given as goal

abbrev pub invariant-loop-supported : goal.invariant-loop-supported
invariant-loop-supported l =
    Grown (book_in l.book.bytes.now) (marking (book_in l.book.bytes.now) (of (listed l.off.w))) (replicate 256 false) (listed l.marks.w)
    × (l.supported ≡ atom_table (heads (book_in l.book.bytes.now) (of (listed l.marks.w))))

abbrev pub decreases-loop-supported : goal.decreases-loop-supported
decreases-loop-supported l = room (book_in l.book.bytes.now) (listed l.marks.w)
