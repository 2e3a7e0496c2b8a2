use mathlib.Core.Path.{◌≡◌}
use Rattle.meaning.specs.Colours.{heads}
use Rattle.meaning.specs.Bits.{listed}
use Rattle.meaning.specs.Written.{of}
use Rattle.book.specs.Tables.{atom_table}
use Rattle.book.specs.Format.{book_in}
use Rattle.closing.specs.Growing.{Pass}
use Rattle.closing.specs.Conditions.{marking}
use Rattle.closing.proofs.marking.sweep.Given as goal

abbrev pub invariant-loop-r : goal.invariant-loop-r
invariant-loop-r l =
    Pass (book_in l.book.bytes.now) (marking (book_in l.book.bytes.now) (of (listed l.off.w))) l.r (listed l.initial.marks.w) (listed l.marks.w) l.more
    × (l.supported ≡ atom_table (heads (book_in l.book.bytes.now) (of (listed l.marks.w))))
