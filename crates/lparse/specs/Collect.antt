-- The text's different atoms, as they first appear. Document 02, request 1: "All atoms standing anywhere in the text are numbered in
-- ascending order".
--
--   text_in s             what the bytes say
--   text_of p             what a text says without the names
--   numbers_of l          the atoms' numbers, as an array holds them
--   told                 an answer's number and values, case by case
--   unimported u          the answer where a word is not read
--   collect_of s seen     the answer, and the array lent afterwards
--   Stands l n found     the atoms l are the first n of the array's 255; or there are more of them, and n says so
--   Notes k n d m e      whatever atoms stood in the array, those of k that are new stand behind them
use Rattle.std.specs.Prelude.{◌≡◌, List, [], ◌∷◌, ◌++◌, map, ℕ, ◌≤◌, ◌<◌, length, take, drop, Result, Ok, Err}
use Rattle.meaning.specs.Choice.{if_lt}
use Rattle.meaning.specs.Told.{Told, success, refused_at, refused, Answered}
use Rattle.imported.specs.declared.TextAtom.{TextAtom}
use Rattle.imported.specs.Text.{Text}
use Rattle.imported.specs.Making.{mentioned, distinct_from, distinct}
use Rattle.lparse.specs.declared.due.Role.TheVariants.{Kind}
use Rattle.lparse.specs.declared.due.Due.TheVariants.{Number}
use Rattle.lparse.specs.declared.due.Said.{Said}
use Rattle.lparse.specs.declared.due.Said.TheVariants.{Nothing as Silent, Choice as Chooses, Atom}
use Rattle.lparse.specs.declared.answer.Unimported.{Unimported}
use Rattle.lparse.specs.declared.answer.Unimported.TheVariants.{Format, Kind as OtherKind, NoFit}
use Rattle.lparse.specs.declared.step.Unread.{Unread}
use Rattle.lparse.specs.declared.step.Unread.TheVariants.{Format as WrongFormat, Kind as WrongKind}
use Rattle.lparse.specs.Reading.{Part, Heard, says, wrong, heard_at}

abbrev pub text_in : List ℕ → Heard
text_in s = heard_at s 0 (Number Kind)

abbrev pub text_of : Part → Text
text_of p = record { rules = p.rules; table = map (λ e. e.atom) p.table; plus = p.plus; minus = p.minus }

unfoldable pub numbers_of : List TextAtom → List ℕ
numbers_of [] = []
numbers_of (a ∷ l) = a.0 ∷ numbers_of l

abbrev pub told : Result ℕ Unimported → Told ℕ
told (Ok n) = success n
told (Err NoFit) = refused 32
told (Err (Format place)) = refused_at 30 place
told (Err (OtherKind place)) = refused_at 31 place

-- why a text is not imported of which a word is not read
abbrev pub unimported : Unread → Unimported
unimported (WrongFormat place) = Format place
unimported (WrongKind place) = OtherKind place

-- no book has over 255 atoms
unfoldable pub collected : List TextAtom → List ℕ → Answered ℕ
collected l seen =
    if_lt 255 (length l) (record { told = refused 32; buffer = seen })
    (record { told = success (length l); buffer = numbers_of l ++ drop (length l) seen })

unfoldable pub collect_heard : Heard → List ℕ → Answered ℕ
collect_heard (says p) seen = collected (distinct (mentioned (text_of p))) seen
collect_heard (wrong i at) seen = record { told = refused_at i at; buffer = seen }

unfoldable pub collect_of : List ℕ → List ℕ → Answered ℕ
collect_of s seen = collect_heard (text_in s) seen

-- ---- what the functions of src/ hand each other

pub data Stands (l : List TextAtom) (n : ℕ) (found : List ℕ) : Type 0 where
  whole : length found ≡ 255 → n ≡ length l → n ≤ 255 → take n found ≡ numbers_of l → Stands l n found
  passed : length found ≡ 255 → n ≡ 256 → 255 < length l → Stands l n found

pub record Notes (k : List TextAtom) (n : ℕ) (before : List ℕ) (m : ℕ) (after : List ℕ) : Type 0 where
  pub behind : (l : List TextAtom) → Stands l n before → Stands (distinct_from l k) m after

-- the atom that a word says, if it says one
unfoldable pub atoms_said : Said → List TextAtom
atoms_said Silent = []
atoms_said Chooses = []
atoms_said (Atom a standing) = a ∷ []
