-- A good book is exactly the bytes of a book that fits: the rows of the table, as the demands speak of them (specs/Damaged), say of bytes
-- what writing a book makes of it (book/specs/Writing), so that they do not rest on the reader's own function. From book's laws that reading
-- and writing are each other's way back.
use mathlib.Core.Path.{◌≡◌, sym, ◌∙◌, ap, subst}
use mathlib.Core.Logic.{◌↔◌}
use mathlib.Core.List.{List}
use Prim.Native.Nat.{ℕ}
use Rattle.meaning.specs.Books.{Book}
use Rattle.book.specs.Rows.{Bytes}
use Rattle.book.specs.Writing.{Fits, bytes_of_book}
use Rattle.book.proofs.Refusals.{accepted}
use Rattle.book.proofs.Writing.{write_read}
use Rattle.book.proofs.ReadBack.{read-write}
use Rattle.book.proofs.Written.{written-bytes}
use Rattle.demands.specs.Damaged.{GoodBook}
use Rattle.demands.proofs.Damaged.{good-read, good-is}
use Rattle.demands.proofs.Calls.{book-fits}

module _ (b : Book) where
  written-good : Fits b → GoodBook (bytes_of_book b) b
  written-good fits = record { rule-count = _; index = _; bytes = (accepted (bytes_of_book b) _ _ _ _).0 (read-write b fits) }

  good-written : {s : List ℕ} → Bytes s → GoodBook s b → s ≡ bytes_of_book b
  good-written {s} bytes g = sym (ap bytes_of_book (sym (good-is s g)) ∙ write_read s _ _ _ _ bytes (good-read s g))

  -- both ways, of every list of numbers: what is no byte is no book
  pub good-exactly : (s : List ℕ) → (Bytes s × GoodBook s b) ↔ (Fits b × (s ≡ bytes_of_book b))
  good-exactly s = (
    λ (bytes, g). (book-fits g bytes, good-written bytes g),
    λ (fits, e). (subst Bytes (sym e) (written-bytes b fits), subst (λ (l : List ℕ). GoodBook l b) (sym e) (written-good fits)),
  )
