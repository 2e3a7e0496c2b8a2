-- A book that was read as good, as a value: its meaning, and what reading tells with it.
use Rattle.std.specs.Prelude.{Result, Ok, Err}
use Rattle.meaning.specs.Books.{Book}
use Rattle.book.specs.Format.{book_in}
use Rattle.book.specs.declared.reader.Shape.{Shape}
use Rattle.book.specs.declared.refusal.Refusal.{Refusal}
use Rattle.book.specs.declared.read.ReadBook.{ReadBook}

-- the book that the bytes are
abbrev pub the_book : ReadBook → Book
the_book b = book_in b.bytes.now

-- what reading its bytes tells
abbrev pub shape_in : Result ReadBook Refusal → Result Shape Refusal
shape_in (Ok b) = Ok b.shape
shape_in (Err f) = Err f
