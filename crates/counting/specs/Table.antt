-- The table: a line for each book, the books without answer sets, and the totals. Document 02, request 13: "A book without answer sets
-- counts no atoms and is listed by itself", "a book whose whole walk passes 1,000,000 tries, or that is refused, gets a line with the
-- refusal's number and counts in no total".
--
--   Opened           what stands behind a name: the bytes of a book, or nothing that can be read
--   Row              the values of a book's line: "sets S atoms c0 c1 ..", "sets 0", or "refused NO" by the first thing that is wrong: 37,
--                    1 to 7, 9
--   row_in line counts         the values that an answer gives, with the array that was lent for the counts
--   turn_of o limit counts t   a book's line, the array and the totals after it, from the totals t before
--   table_of os limit counts   all lines, the numbers of the books without answer sets, and the totals
--   counted_in os limit        the books that count in the totals
use Rattle.std.specs.Prelude.{ℕ, zero, suc, ◌+◌, Bool, true, false, List, [], ◌∷◌, ◌++◌, length, take}
use Rattle.meaning.specs.Books.{Book}
use Rattle.meaning.specs.Written.{nothing}
use Rattle.meaning.specs.Choice.{if_lt}
use Rattle.meaning.specs.Told.{Told, success, refused_with, refused_at, refused}
use Rattle.book.specs.Format.{BookRead, good, bad, read_of, book_in}
use Rattle.walk.specs.Events.{events}
use Rattle.walk.specs.Readings.{readings}
use Rattle.counting.specs.Count.{count_of}
use Rattle.counting.specs.Totals.{no_totals, totals_with}
use Rattle.counting.specs.declared.sum.Totals.{Totals}
use Rattle.counting.specs.declared.turn.Line.{Line}
use Rattle.counting.specs.declared.turn.Line.TheVariants.{Sets, Without, Refused}

pub data Opened : Type 0 where
  unread : Opened
  bytes : List ℕ → Opened

-- whether a name could be opened and read, and the bytes that were read
abbrev pub opened_as : Bool → List ℕ → Opened
opened_as true s = bytes s
opened_as false s = unread

pub data Row : Type 0 where
  row : ℕ → List ℕ → Row
  no-sets : Row
  refuse : ℕ → Row

abbrev pub row_in : Line → List ℕ → Row
row_in (Sets n atoms) counts = row n (take atoms counts)
row_in Without counts = no-sets
row_in (Refused i) counts = refuse i

pub record Turn : Type 0 where
  pub line : Row
  pub counts : List ℕ
  pub totals : Totals

-- ---- one book

-- what was told of a book of so many atoms, and its counts
unfoldable pub turn_by : Told ℕ → ℕ → List ℕ → Totals → Turn
turn_by (success zero) n counts t = record { line = no-sets; counts = counts; totals = t }
turn_by (success (suc k)) n counts t = record { line = row (suc k) (take n counts); counts = counts; totals = totals_with t n (suc k) counts }
turn_by (refused_with i values) n counts t = record { line = refuse i; counts = counts; totals = t }
turn_by (refused_at i at) n counts t = record { line = refuse i; counts = counts; totals = t }
turn_by (refused i) n counts t = record { line = refuse i; counts = counts; totals = t }

unfoldable pub turn_of : Opened → ℕ → List ℕ → Totals → Turn
turn_of unread limit counts t = record { line = refuse 37; counts = counts; totals = t }
turn_of (bytes s) limit counts t = turn_by (count_of s limit counts).told (book_in s).atoms (count_of s limit counts).buffer t

-- ---- all books

pub record Turns : Type 0 where
  pub lines : List Row
  pub totals : Totals

-- the array that one turn leaves is lent to the next
unfoldable pub turns_of : List Opened → ℕ → List ℕ → Totals → Turns
turns_of [] limit counts t = record { lines = []; totals = t }
turns_of (o ∷ os) limit counts t =
    let u = turn_of o limit counts t in
    let us = turns_of os limit u.counts u.totals in
    record { lines = u.line ∷ us.lines; totals = us.totals }

-- the numbers of the lines "sets 0", of which the first line is number i
unfoldable pub without_from : ℕ → List Row → List ℕ
without_from i [] = []
without_from i (no-sets ∷ ls) = i ∷ without_from (i + 1) ls
without_from i (row n cs ∷ ls) = without_from (i + 1) ls
without_from i (refuse n ∷ ls) = without_from (i + 1) ls

-- "36 more than 64 names, first of all"
pub data Table : Type 0 where
  too_many : Table
  table : List Row → List ℕ → Totals → Table

abbrev pub table_by : Turns → Table
table_by u = table u.lines (without_from 1 u.lines) u.totals

unfoldable pub table_of : List Opened → ℕ → List ℕ → Table
table_of os limit counts = if_lt 64 (length os) too_many (table_by (turns_of os limit counts no_totals))

-- ---- the books that count

-- its whole walk needs no more tries than the limit, and it has an answer set
unfoldable pub counted_book : Book → ℕ → List Book
counted_book b limit = if_lt limit (length (events b nothing)) [] (if_lt 0 (length (readings b)) (b ∷ []) [])

unfoldable pub counted_read : BookRead → ℕ → List Book
counted_read (good n k index l) limit = counted_book (record { atoms = n; rules = l }) limit
counted_read (bad i at) limit = []

unfoldable pub counted_of : Opened → ℕ → List Book
counted_of unread limit = []
counted_of (bytes s) limit = counted_read (read_of s) limit

unfoldable pub counted_in : List Opened → ℕ → List Book
counted_in [] limit = []
counted_in (o ∷ os) limit = counted_of o limit ++ counted_in os limit
