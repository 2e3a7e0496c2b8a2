-- What 17, 19 and 9 are given for, and what each entry of the log says, of the two books alone. Joining and the log do not go by these; the
-- laws of proofs/Answers and proofs/Rows say that each is told exactly where its row holds. Document 02, request 9.
--
--   OfGood first second P  the bytes of both are good books, and P holds of the two
--   Together b c           at most 255 atoms and rules together
--   TooMany b c           the opposite, which is 17
--   TooShort b c room     19;  Fitting b c room: neither 17 nor 19
--   Within b limit        the search for an answer set of b needs no more tries than its limit;  Passes b limit: it needs more
--   Says b c n e          the entry e is right: which of the two have an answer set, and n, the joined book's length
--   Logs b c limit other n t   what the log tells of two books that fit together and in the room
use Rattle.std.specs.Prelude.{◌⊎◌, List, ℕ, ◌+◌, ◌≤◌, ◌<◌, length}
use Rattle.meaning.specs.Books.{Book, count}
use Rattle.meaning.specs.Joined.{SomeAnswer}
use Rattle.meaning.specs.Told.{Told, success, stopped}
use Rattle.book.specs.Rows.{GoodBook}
use Rattle.meaning.specs.Written.{nothing}
use Rattle.walk.specs.Events.{events}
use Rattle.walk.specs.Tries.{Needs}
use Rattle.crews.specs.Join.{joined_bytes}
use Rattle.crews.specs.Log.{Entry, both, none_in_first, none_in_second, none_in_either}

abbrev pub OfGood : List ℕ → List ℕ → (Book → Book → Type 0) → Type 0
OfGood first second P = (b : Book) × (c : Book) × GoodBook first b × GoodBook second c × P b c

pub record Together (b c : Book) : Type 0 where
  pub atoms : b.atoms + c.atoms ≤ 255
  pub rules : count b + count c ≤ 255

-- 17: "more than 255 atoms or rules"
abbrev pub TooMany : Book → Book → Type 0
TooMany b c = (255 < b.atoms + c.atoms) ⊎ (255 < count b + count c)

-- 19: "buffer too short for the joined book"
abbrev pub TooShort : Book → Book → ℕ → Type 0
TooShort b c room = Together b c × (room < length (joined_bytes b c))

abbrev pub Fitting : Book → Book → ℕ → Type 0
Fitting b c room = Together b c × (length (joined_bytes b c) ≤ room)

-- 9: "when either search passes its own L"
abbrev pub Within : Book → ℕ → Type 0
Within b limit = (n : ℕ) × Needs b (events b nothing) 1 n × (n ≤ limit)

abbrev pub Passes : Book → ℕ → Type 0
Passes b limit = (n : ℕ) × Needs b (events b nothing) 1 n × (limit < n)

-- "the log must say which book has none, or that neither has any"
pub data Says (b c : Book) (n : ℕ) : Entry → Type 0 where
  both-have : SomeAnswer b → SomeAnswer c → Says b c n (both n)
  first-has-none : (SomeAnswer b → ⊥) → SomeAnswer c → Says b c n (none_in_first n)
  second-has-none : SomeAnswer b → (SomeAnswer c → ⊥) → Says b c n (none_in_second n)
  neither-has : (SomeAnswer b → ⊥) → (SomeAnswer c → ⊥) → Says b c n (none_in_either n)

-- "or 9 ..., even if the other book has none": 9 tells the limit that was passed, the first book's if both were
pub data Logs (b c : Book) (limit other n : ℕ) : Told Entry → Type 0 where
  within_both : {e : Entry} → Within b limit → Within c other → Says b c n e → Logs b c limit other n (success e)
  first_passes : Passes b limit → Logs b c limit other n (stopped limit)
  second-passes : Within b limit → Passes c other → Logs b c limit other n (stopped other)
