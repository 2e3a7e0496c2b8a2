-- Free choices, of every text and the book made of it. Document 02, request 10: "After dropping the helpers, answer sets of the book are shown to
-- be, one for one, the answer sets that the choice rule's own definition gives"; "a paper for a helper speaks only of the book made". What demands
-- 2 and 3 say of the books that an importer made stands in Imports.
--
--   OneForOne t          dropping the helpers (back) leads from the book's answer sets to those of the text that obey its lists (Obeying), forth leads
--                        from these to the book's, and each of the two undoes the other
--   HelpersOpposite t    in an answer set of the book the helper of a free head is in exactly if the head is out
--   HelpersApart t       no atom of the text has a helper's number, so a paper for a helper is one for no atom of the text
use Rattle.std.specs.Prelude.{◌≡◌, not, ℕ, ◌<◌}
use mathlib.Core.List.{Memᴰ}
use Rattle.meaning.specs.declared.AtomNo.{AtomNo}
use Rattle.meaning.specs.Books.{Atoms}
use Rattle.meaning.specs.AnswerSet.{AnswerSet}
use Rattle.imported.specs.declared.TextAtom.{TextAtom}
use Rattle.imported.specs.Text.{TextAtoms, Text}
use Rattle.imported.specs.Answers.{Obeying}
use Rattle.imported.specs.Making.{mentioned, image, free_count, free_head, opposite, made_book, back, forth}

pub record OneForOne (t : Text) : Type 0 where
  pub dropped : (x : Atoms) → AnswerSet (made_book t) x → Obeying t (back t x)
  pub taken-up : (y : TextAtoms) → Obeying t y → AnswerSet (made_book t) (forth t y)
  pub same-in-the-text : (y : TextAtoms) → Obeying t y → (a : TextAtom) → back t (forth t y) a ≡ y a
  pub same-in-the-book : (x : Atoms) → AnswerSet (made_book t) x → (n : AtomNo) → forth t (back t x) n ≡ x n

abbrev pub HelpersOpposite : Text → Type 0
HelpersOpposite t =
    (x : Atoms) → AnswerSet (made_book t) x → (j : ℕ) → j < free_count t → x (opposite t j) ≡ not (x (image t (free_head t j)))

-- j is any number: the helper of the lists is told apart so too
abbrev pub HelpersApart : Text → Type 0
HelpersApart t = (a : TextAtom) → Memᴰ a (mentioned t) → (j : ℕ) → image t a ≡ opposite t j → ⊥
