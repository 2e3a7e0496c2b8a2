use mathlib.Core.Path.{◌≡◌}
use Rattle.meaning.specs.Bits.{listed}
use Rattle.meaning.specs.Written.{of}
use Rattle.book.specs.Format.{book_in}
use Rattle.book.specs.Tables.{atom_table}
use Rattle.book.proofs.AtomSets.{said_to}
use Rattle.book.proofs.read.ReadBook.fill.Given as goal

abbrev pub invariant-loop-r : goal.invariant-loop-r
invariant-loop-r l = l.out ≡ atom_table (said_to l.said (book_in l.self.bytes.now) (of (listed l.set.w)) l.r)
