-- What is said of a book that was opened.
--
--   FitsIn book names o   its bytes are no more than the buffer lent for the book has, and those of its names no more than the one lent for them
use Rattle.std.specs.Prelude.{ℕ, List, ◌≤◌, length}
use Rattle.calling.specs.declared.opened.Opened.{Opened}

abbrev pub FitsIn : List ℕ → List ℕ → Opened → Type 0
FitsIn book names o = (length o.book.now ≤ length book) × (length o.names.now ≤ length names)
