-- Useless versions of a paper that a book has no reading, which the demands must refuse.
--
--   contradicts_uncertain   tells a paper wherever naming atom 0 tells 12
--   ends_anywhere           checks such a paper by the 45 of naming atom 0, and asks for no witness
--   NeverContradicts f     f never tells a paper
use Rattle.std.specs.Prelude.{◌≡◌, List, [], ◌∷◌, ℕ, suc, ◌-◌, length, get_or}
use Rattle.meaning.specs.declared.kind.Claim.{Claim}
use Rattle.meaning.specs.Books.{atom_no}
use Rattle.meaning.specs.Colours.{start}
use Rattle.meaning.specs.Claim.{named}
use Rattle.meaning.specs.Choice.{if_eq}
use Rattle.meaning.specs.Told.{Told, refused_at}
use Rattle.book.specs.Format.{book_in}
use Rattle.writer.specs.Write.{paper, name_of, contradict_of}
use Rattle.checker.specs.Numbers.{no_reading}
use Rattle.checker.specs.Branches.{Walked, done, wrong_at, branch_of}
use Rattle.checker.specs.Check.{check_of}
use Rattle.checker.specs.Rows.{start_of}
use Rattle.demands.specs.DemandNone.{Contradictor, Checker}
use Rattle.demands.specs.Useless.{or_cleared}

abbrev pub contradicts_uncertain : Contradictor
contradicts_uncertain book limit buffer = or_cleared (name_of book (atom_no 0) limit buffer).told buffer (contradict_of book limit buffer)

unfoldable pub told_anyway : Walked → Told Claim
told_anyway (done at) = no_reading
told_anyway (wrong_at i at) = refused_at i at

abbrev pub ends_anywhere : Checker
ends_anywhere book s = if_eq (get_or s (length s - 1) 0) 0x4e
    (told_anyway (branch_of (suc (start_of s)) (book_in book) (named (atom_no 0)) s (start_of s) 0 start)) (check_of book s)

abbrev pub NeverContradicts : Contradictor → Type 0
NeverContradicts f = (book : List ℕ) (limit : ℕ) (buffer : List ℕ) (t n : ℕ) → (f book limit buffer).told ≡ paper t n → ⊥

-- "Fact 0", and a paper that it has no reading: 41 00 45 | | 00 00 03 00 50 4e
abbrev pub hasty_none : List ℕ
hasty_none = 0x41 ∷ 0 ∷ 0x45 ∷ 0 ∷ 0 ∷ 3 ∷ 0 ∷ 0x50 ∷ 0x4e ∷ []
