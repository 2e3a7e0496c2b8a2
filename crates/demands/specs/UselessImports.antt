-- Importers that are of no use: what the promises over imported books rule out. They refuse as ours does, but for the first.
--
--   always_large          tells 32 whatever the text
--   makes f              makes the book f t of a text that says t
--   empty_book            always the empty book
--   without_minus         B- is left out
--   as_they_appear         atoms are numbered in the order in which they first appear
--   every_head_in          a choice is taken for a rule for each of its heads, so that all of them are in
use Rattle.std.specs.Prelude.{List, [], ◌∷◌, ◌++◌, map, ℕ, suc}
use Rattle.meaning.specs.Choice.{ifb}
use Rattle.meaning.specs.Books.{Book}
use Rattle.meaning.specs.Told.{refused_at, refused, Answered}
use Rattle.imported.specs.declared.TextAtom.{TextAtom}
use Rattle.imported.specs.Text.{same_text, TextRule, basic, choice, Text}
use Rattle.imported.specs.Making.{mentioned, distinct, made_book}
use Rattle.lparse.specs.Reading.{Heard, says, wrong}
use Rattle.lparse.specs.Collect.{text_in, text_of}
use Rattle.lparse.specs.Import.{hand_over}
use Rattle.demands.specs.Imports.{Importer}

abbrev pub always_large : Importer
always_large s out = record { told = refused 32; buffer = out }

unfoldable pub made_by : (Text → Book) → Heard → List ℕ → Answered ℕ
made_by f (says p) out = hand_over (f (text_of p)) out
made_by f (wrong i at) out = record { told = refused_at i at; buffer = out }

abbrev pub makes : (Text → Book) → Importer
makes f s out = made_by f (text_in s) out

abbrev pub empty_book : Text → Book
empty_book t = record { atoms = 0; rules = [] }

abbrev pub without_minus : Text → Book
without_minus t = made_book (record { rules = t.rules; table = t.table; plus = t.plus; minus = [] })

-- where an atom stands among the different ones
unfoldable pub standing : List TextAtom → TextAtom → ℕ
standing [] a = 0
standing (c ∷ l) a = ifb (same_text a c) 0 (suc (standing l a))

abbrev pub moved : List TextAtom → TextAtom → TextAtom
moved l a = record { 0 = standing l a }

unfoldable pub moved_rule : List TextAtom → TextRule → TextRule
moved_rule l (basic h pos neg) = basic (moved l h) (map (moved l) pos) (map (moved l) neg)
moved_rule l (choice hs pos neg) = choice (map (moved l) hs) (map (moved l) pos) (map (moved l) neg)

unfoldable pub as_they_appear : Text → Book
as_they_appear t =
    let l = distinct (mentioned t) in
    made_book (record {
      rules = map (moved_rule l) t.rules;
      table = map (moved l) t.table;
      plus = map (moved l) t.plus;
      minus = map (moved l) t.minus;
    })

unfoldable pub rule_for_each : TextRule → List TextRule
rule_for_each (basic h pos neg) = basic h pos neg ∷ []
rule_for_each (choice hs pos neg) = map (λ h. basic h pos neg) hs

unfoldable pub rules_for_each : List TextRule → List TextRule
rules_for_each [] = []
rules_for_each (r ∷ l) = rule_for_each r ++ rules_for_each l

abbrev pub every_head_in : Text → Book
every_head_in t = made_book (record { rules = rules_for_each t.rules; table = t.table; plus = t.plus; minus = t.minus })
