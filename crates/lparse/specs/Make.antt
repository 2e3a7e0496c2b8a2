-- What making a book's rules of a text is asked and promises (src/importer.rt).
--
--   counted e k l        the atoms of the book where e says that a list had an entry, and l are the entries still to come
--   Readable s atoms     the bytes are a text, and these are its different atoms, at most 255
--   Complete t f d       all rules of the book are made, and f says how many atoms it has but for h, and whether it has h
use Rattle.std.specs.Prelude.{◌≡◌, Bool, true, false, List, [], ℕ, suc, ◌+◌, ◌≤◌, length}
use Rattle.book.specs.Making.{Made}
use Rattle.imported.specs.declared.TextAtom.{TextAtom}
use Rattle.imported.specs.Text.{Text}
use Rattle.imported.specs.Making.{mentioned, distinct, atom_count, free_count, made_atoms, made_rules, made_book}
use Rattle.lparse.specs.declared.form.Forming.{Forming}
use Rattle.lparse.specs.Reading.{Part, says}
use Rattle.lparse.specs.Collect.{text_in, text_of, numbers_of}
use Rattle.lparse.specs.Opened.{capped}

unfoldable pub counted : Bool → ℕ → List TextAtom → ℕ
counted true k l = suc k
counted false k l = made_atoms k l

pub record Readable (s atoms : List ℕ) : Type 0 where
  pub part : Part
  pub heard : text_in s ≡ says part
  pub same : atoms ≡ numbers_of (distinct (mentioned (text_of part)))
  pub few : length atoms ≤ 255

pub record Complete (t : Text) (f : Forming) (draft : List ℕ) : Type 0 where
  pub made : Made (made_rules t) f.making draft
  pub helper : f.helper ≡ capped (atom_count t + free_count t)
  pub atoms : (made_book t).atoms ≡ counted f.entry (atom_count t + free_count t) []
