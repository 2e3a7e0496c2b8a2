-- A listing of all readings, page by page, by any caller. The caller lends a buffer for each page, as large as it likes, and hands back the
-- tries that were told and the last row of the page before. Document 01, "Worked books": "The program `readings` reads a book on standard
-- input and prints all answer sets with L = 1,000,000."
--
--   rows_in n m bytes      the first m rows of n bytes each
--   last_row b m bytes     the last of the first m rows
--   SameRow row before    the row handed back is the one that was shown: byte by byte, with nothing but zeros behind either
--   Ending                how a listing stands: it may go on, with the tries so far; it has ended, with all tries; the limit has cut it
--   Listing page b tries before shown ending     the calls from where `tries` were made and `before` was shown last, the rows that they
--                         show and how they end; page is any function that answers, of the tries, the row handed back and the buffer lent
--   rows_up_to b n          the rows of the readings that the first n tries of the fixed walk meet, in their order
--   Shows b limit shown ending     what a listing from the start has to show
use Rattle.std.specs.Prelude.{◌≡◌, List, [], ◌∷◌, ◌++◌, map, ℕ, zero, suc, ◌*◌, ◌-◌, ◌≤◌, ◌<◌, length, get_or, take, drop}
use Rattle.meaning.specs.Books.{Book}
use Rattle.meaning.specs.Written.{nothing}
use Rattle.meaning.specs.Told.{success, Answered}
use Rattle.walk.specs.Events.{events}
use Rattle.walk.specs.Readings.{readings_in, readings}
use Rattle.walk.specs.Run.{row_of}
use Rattle.walk.specs.Page.{PageEnd, whole, last, cut, room_in}

unfoldable pub rows_in : ℕ → ℕ → List ℕ → List (List ℕ)
rows_in n zero bytes = []
rows_in n (suc m) bytes = take n bytes ∷ rows_in n m (drop n bytes)

abbrev pub last_row : Book → ℕ → List ℕ → List ℕ
last_row b m bytes = take b.atoms (drop ((m - 1) * b.atoms) bytes)

abbrev pub SameRow : List ℕ → List ℕ → Type 0
SameRow row before = (i : ℕ) → get_or row i 0 ≡ get_or before i 0

pub data Ending : Type 0 where
  so_far : ℕ → Ending
  at-end : ℕ → Ending
  at-limit : Ending

module _ (page : ℕ → List ℕ → List ℕ → Answered PageEnd) (b : Book) where
  pub data Listing : ℕ → List ℕ → List (List ℕ) → Ending → Type 0 where
    no_call : {tries : ℕ} {before : List ℕ} → Listing tries before [] (so_far tries)
    last-page : {tries : ℕ} {before : List ℕ} (row out : List ℕ) (all rows : ℕ)
        → SameRow row before → (page tries row out).told ≡ success (last all rows)
        → Listing tries before (rows_in b.atoms rows (page tries row out).buffer) (at-end all)
    cut-page : {tries : ℕ} {before : List ℕ} (row out : List ℕ) (rows : ℕ)
        → SameRow row before → (page tries row out).told ≡ success (cut rows)
        → Listing tries before (rows_in b.atoms rows (page tries row out).buffer) at-limit
    -- a full page shows as many rows as its buffer has room for, and the listing goes on behind the last of them
    full-page : {tries : ℕ} {before : List ℕ} (row out : List ℕ) (more : ℕ) {shown : List (List ℕ)} {ending : Ending}
        → SameRow row before → (page tries row out).told ≡ success (whole more)
        → Listing more (last_row b (room_in b (length out)) (page tries row out).buffer) shown ending
        → Listing tries before (rows_in b.atoms (room_in b (length out)) (page tries row out).buffer ++ shown) ending

unfoldable pub rows_up_to : Book → ℕ → List (List ℕ)
rows_up_to b n = map (row_of b) (readings_in b (take n (events b nothing)))

-- the readings of the tries so far; all of them, with the tries of the one walk; those of the tries up to the limit, where the walk has more
unfoldable pub Shows : Book → ℕ → List (List ℕ) → Ending → Type 0
Shows b limit shown (so_far tries) = (shown ≡ rows_up_to b tries) × (tries ≤ length (events b nothing)) × (tries ≤ limit)
Shows b limit shown (at-end all) = (shown ≡ map (row_of b) (readings b)) × (all ≡ length (events b nothing)) × (all ≤ limit)
Shows b limit shown at-limit = (shown ≡ rows_up_to b limit) × (limit < length (events b nothing))
