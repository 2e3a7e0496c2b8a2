-- `list_book` lists a book that was read as good.
use Rattle.book.proofs.Verdict.{read_as}
use Rattle.listing.proofs.whole.list_book.Goals as goal

pub list_pages-requires : goal.list_pages-requires
list_pages-requires g c = read_as _ c.read_book.ensures c.in_ok-shape.was
