-- What a call of find_shown answers, and what its buffer holds afterwards. Document 02, request 3: "A call may lend a strictly ascending list
-- of shown atoms"; "Refusals: 16, no place, list out of range or out of order, after 15 and before 8."
--
--   good_list n l     the bytes of the list ascend strictly, and each is below n
--   find_shown_of book k limit shown answer   the answer and the buffer, of the bytes of the book, of the list and of the buffer before
use Rattle.std.specs.Prelude.{Bool, ◌&&◌, List, map, ℕ, ltb}
use Rattle.meaning.specs.Sets.{every, ascending}
use Rattle.meaning.specs.Books.{Book, atom_no}
use Rattle.meaning.specs.Choice.{ifb, if_eq}
use Rattle.meaning.specs.Told.{refused_at, refused, Answered}
use Rattle.book.specs.Format.{BookRead, good, bad, read_of}
use Rattle.walk.specs.Find.{find_along}
use Rattle.walk.specs.Shown.{shown_events}

unfoldable pub good_list : ℕ → List ℕ → Bool
good_list n l = ascending l && every (λ a. ltb a n) l

unfoldable pub find_shown_in : Book → ℕ → ℕ → List ℕ → List ℕ → Answered ℕ
find_shown_in b k limit shown answer =
    if_eq k 0 (record { told = refused 15; buffer = answer })
    (ifb (good_list b.atoms shown) (find_along b (shown_events b (map atom_no shown)) k limit answer)
    (record { told = refused 16; buffer = answer }))

unfoldable pub find_shown_read : BookRead → ℕ → ℕ → List ℕ → List ℕ → Answered ℕ
find_shown_read (good n r index l) k limit shown answer = find_shown_in (record { atoms = n; rules = l }) k limit shown answer
find_shown_read (bad i at) k limit shown answer = record { told = refused_at i at; buffer = answer }

unfoldable pub find_shown_of : List ℕ → ℕ → ℕ → List ℕ → List ℕ → Answered ℕ
find_shown_of book k limit shown answer = find_shown_read (read_of book) k limit shown answer
