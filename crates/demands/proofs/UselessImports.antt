-- The useless importers (specs/UselessImports) do not meet demand 1 over imported books: each makes another book of a short text than the one
-- that document 02 describes. The texts are read, and the books made, by computation.
use mathlib.Core.Path.{◌≡◌, refl, sym, ◌∙◌, ap}
use mathlib.Core.Bool.{true}
use mathlib.Core.List.{List, [], ◌∷◌, ◌++◌, map}
use Prim.Native.Nat.{ℕ, ◌≤◌}
use native.Mathlib.Omega.{arith}
use lib.ListN.{length, get_or, drop, replicate}
use Rattle.meaning.specs.Sets.{every, some}
use Rattle.meaning.specs.Choice.{ifb, if_lt, if_eq}
use Rattle.meaning.specs.Books.{count}
use Rattle.meaning.specs.Told.{success, Answered}
use Rattle.meaning.proofs.Tests.{apart}
use Rattle.book.specs.Writing.{record_bytes, records_bytes, index_bytes, trailer_bytes, bytes_of_book}
use Rattle.book.specs.Making.{atom_if, atoms_from}
use Rattle.decimal.specs.Digits.{value_from}
use Rattle.imported.specs.declared.TextAtom.{TextAtom}
use Rattle.imported.specs.Text.{same_text, basic, choice}
use Rattle.imported.specs.Making.{rule_atoms, rules_atoms, mentioned, add_new, distinct_from, count_in, atom_count, number, part}
use Rattle.imported.specs.Making.{free_heads, free_count, made, free_rule, opposite_rule, choice_rules, made_from, plus_rule, minus_rule, made_rules, made_atoms, made_book, fits_rule, fits_in}
use Rattle.lparse.specs.Words.{parting, outside, ends, turned, blanks, span, start_of, end_of, word_at, words_from, words_at}
use Rattle.lparse.specs.Reading.{body_of, heads_of, on_kind, on_atom, on_listed, on_head_count, on_negatives, on_number, on_value, signed, on_sign, move_of, whole, Part, with_atom, with_choice, with, says, adding, on_move, heard, heard_at}
use Rattle.lparse.specs.Collect.{text_in, text_of}
use Rattle.lparse.specs.Import.{laid_of, hand_laid}
use Rattle.lparse.proofs.SaidText.{written, read-says}
use Rattle.demands.specs.Imports.{Importer, ImportDemand1}
use Rattle.demands.specs.UselessImports.{always_large, made_by, makes, empty_book, without_minus, standing, moved_rule, as_they_appear, rule_for_each, rules_for_each, every_head_in}

abbrev atoms : List ℕ → List TextAtom
atoms l = map (λ n. record { 0 = n }) l

-- a text with one entry of B-: `0 0 B+ 0 B- 5 0 1`
abbrev barred : List ℕ
barred = 48 ∷ 32 ∷ 48 ∷ 32 ∷ 66 ∷ 43 ∷ 32 ∷ 48 ∷ 32 ∷ 66 ∷ 45 ∷ 32 ∷ 53 ∷ 32 ∷ 48 ∷ 32 ∷ 49 ∷ []

abbrev barred_says : Part
barred_says = record { heads = []; pos = []; neg = []; rules = []; table = []; plus = []; minus = atoms (5 ∷ []) }

-- a rule whose head has the larger number: `1 9 1 0 7 0 0 B+ 0 B- 0 1`
abbrev turned_text : List ℕ
turned_text =
    49 ∷ 32 ∷ 57 ∷ 32 ∷ 49 ∷ 32 ∷ 48 ∷ 32 ∷ 55 ∷ 32 ∷ 48 ∷ 32 ∷ 48 ∷ 32 ∷ 66 ∷ 43 ∷ 32 ∷ 48 ∷ 32 ∷ 66 ∷ 45 ∷ 32 ∷ 48 ∷ 32 ∷ 49 ∷ []

abbrev turned_says : Part
turned_says = record {
  heads = [];
  pos = [];
  neg = [];
  rules = basic (record { 0 = 9 }) (atoms (7 ∷ [])) [] ∷ [];
  table = [];
  plus = [];
  minus = [];
}

-- a free choice: `3 1 2 0 0 0 0 B+ 0 B- 0 1`
abbrev free_text : List ℕ
free_text =
    51 ∷ 32 ∷ 49 ∷ 32 ∷ 50 ∷ 32 ∷ 48 ∷ 32 ∷ 48 ∷ 32 ∷ 48 ∷ 32 ∷ 48 ∷ 32 ∷ 66 ∷ 43 ∷ 32 ∷ 48 ∷ 32 ∷ 66 ∷ 45 ∷ 32 ∷ 48 ∷ 32 ∷ 49 ∷ []

abbrev free_says : Part
free_says = record {
  heads = [];
  pos = [];
  neg = [];
  rules = choice (atoms (2 ∷ [])) [] [] ∷ [];
  table = [];
  plus = [];
  minus = [];
}

read-barred : text_in barred ≡ says barred_says
unfolding ifb if_lt if_eq value_from parting outside ends turned blanks span start_of end_of word_at words_from words_at body_of heads_of on_kind on_atom
    on_listed on_head_count on_negatives on_number on_value signed on_sign move_of whole with_atom with_choice with adding on_move heard heard_at
read-barred = refl

read-turned : text_in turned_text ≡ says turned_says
unfolding ifb if_lt if_eq value_from parting outside ends turned blanks span start_of end_of word_at words_from words_at body_of heads_of on_kind on_atom
    on_listed on_head_count on_negatives on_number on_value signed on_sign move_of whole with_atom with_choice with adding on_move heard heard_at
read-turned = refl

read-free : text_in free_text ≡ says free_says
unfolding ifb if_lt if_eq value_from parting outside ends turned blanks span start_of end_of word_at words_from words_at body_of heads_of on_kind on_atom
    on_listed on_head_count on_negatives on_number on_value signed on_sign move_of whole with_atom with_choice with adding on_move heard heard_at
read-free = refl

abbrev room : List ℕ
room = replicate 18 7

abbrev barred_bytes : List ℕ
barred_bytes = 1 ∷ 1 ∷ 1 ∷ 0 ∷ 1 ∷ 0 ∷ 0 ∷ 2 ∷ 1 ∷ 5 ∷ 0 ∷ 82 ∷ 66 ∷ []

abbrev turned_bytes : List ℕ
turned_bytes = 1 ∷ 1 ∷ 0 ∷ 0 ∷ 0 ∷ 0 ∷ 2 ∷ 1 ∷ 4 ∷ 0 ∷ 82 ∷ 66 ∷ []

abbrev free_bytes : List ℕ
free_bytes = 0 ∷ 0 ∷ 1 ∷ 1 ∷ 1 ∷ 0 ∷ 1 ∷ 0 ∷ 0 ∷ 0 ∷ 4 ∷ 0 ∷ 2 ∷ 2 ∷ 8 ∷ 0 ∷ 82 ∷ 66 ∷ []

barred-bytes : bytes_of_book (made_book (text_of barred_says)) ≡ barred_bytes
unfolding some ifb same_text atom_if atoms_from rule_atoms rules_atoms mentioned add_new distinct_from count_in atom_count number part
    free_heads free_count made made_from plus_rule minus_rule made_rules made_atoms made_book count record_bytes records_bytes index_bytes trailer_bytes bytes_of_book
barred-bytes = refl

turned-bytes : bytes_of_book (made_book (text_of turned_says)) ≡ turned_bytes
unfolding some ifb same_text atom_if atoms_from rule_atoms rules_atoms mentioned add_new distinct_from count_in atom_count number part
    free_heads free_count made made_from plus_rule minus_rule made_rules made_atoms made_book count record_bytes records_bytes index_bytes trailer_bytes bytes_of_book
turned-bytes = refl

free_bytes-made : bytes_of_book (made_book (text_of free_says)) ≡ free_bytes
unfolding some ifb same_text atom_if atoms_from rule_atoms rules_atoms mentioned add_new distinct_from count_in atom_count number part free_heads free_count
    free_rule opposite_rule choice_rules made_from made_rules made_atoms made_book count record_bytes records_bytes index_bytes trailer_bytes bytes_of_book
free_bytes-made = refl

-- a book with these bytes is told of the text by whoever meets demand 1
module _ (s : List ℕ) (p : Part) (read : text_in s ≡ says p) (bytes : List ℕ) (same : bytes_of_book (made_book (text_of p)) ≡ bytes)
    (fit : fits_in (made_book (text_of p)) ≡ true) (short : length bytes ≤ length room) (i : Importer) (d : ImportDemand1 i) where
  told-so : i s room ≡ record { told = success (length bytes); buffer = bytes ++ drop (length bytes) room }
  told-so = rw same at (d.gives s room (written p) (read-says s p read) fit (rw same short))

barred-fits : fits_in (made_book (text_of barred_says)) ≡ true
unfolding every some ifb same_text atom_if atoms_from rule_atoms rules_atoms mentioned add_new distinct_from count_in atom_count number part
    free_heads free_count made made_from plus_rule minus_rule made_rules made_atoms made_book count fits_rule fits_in
barred-fits = refl

turned-fits : fits_in (made_book (text_of turned_says)) ≡ true
unfolding every some ifb same_text atom_if atoms_from rule_atoms rules_atoms mentioned add_new distinct_from count_in atom_count number part
    free_heads free_count made made_from plus_rule minus_rule made_rules made_atoms made_book count fits_rule fits_in
turned-fits = refl

free-fits : fits_in (made_book (text_of free_says)) ≡ true
unfolding every some ifb same_text atom_if atoms_from rule_atoms rules_atoms mentioned add_new distinct_from count_in atom_count number part
    free_heads free_count free_rule opposite_rule choice_rules made_from made_rules made_atoms made_book count fits_rule fits_in
free-fits = refl

module _ (i : Importer) (d : ImportDemand1 i) where
  barred-told : (i barred room).told ≡ success 13
  barred-told = ap (λ (a : Answered ℕ). a.told) (told-so barred barred_says read-barred barred_bytes barred-bytes barred-fits (omega arith) i d)

  turned-first : get_or (i turned_text room).buffer 0 0 ≡ 1
  turned-first =
      ap (λ (a : Answered ℕ). get_or a.buffer 0 0) (told-so turned_text turned_says read-turned turned_bytes turned-bytes turned-fits (omega arith) i d)

  free-told : (i free_text room).told ≡ success 18
  free-told = ap (λ (a : Answered ℕ). a.told) (told-so free_text free_says read-free free_bytes free_bytes-made free-fits (omega arith) i d)

-- ---- "always 32", "the empty book", "B- left out", "numbered as they appear", "every head of a choice is in"

pub always-large-fails : ImportDemand1 always_large → ⊥
always-large-fails d = let e = barred-told always_large d in apart (cc)

pub empty-book-fails : ImportDemand1 (makes empty_book) → ⊥
unfolding made_by laid_of hand_laid every ifb if_lt count fits_rule fits_in record_bytes records_bytes index_bytes trailer_bytes bytes_of_book
empty-book-fails d =
    let e = sym (ap (λ h. (made_by empty_book h room).told) read-barred) ∙ barred-told (makes empty_book) d in apart (cc)

pub without-minus-fails : ImportDemand1 (makes without_minus) → ⊥
unfolding made_by laid_of hand_laid every some ifb if_lt same_text atom_if atoms_from rule_atoms rules_atoms mentioned add_new distinct_from count_in atom_count
    number part free_heads free_count made made_from plus_rule minus_rule made_rules made_atoms made_book count fits_rule fits_in record_bytes
    records_bytes index_bytes trailer_bytes bytes_of_book
without-minus-fails d =
    let e = sym (ap (λ h. (made_by without_minus h room).told) read-barred) ∙ barred-told (makes without_minus) d in apart (cc)

pub as-they-appear-fails : ImportDemand1 (makes as_they_appear) → ⊥
unfolding made_by laid_of hand_laid every some ifb if_lt same_text atom_if atoms_from rule_atoms rules_atoms mentioned add_new distinct_from count_in atom_count
    number part free_heads free_count made made_from plus_rule minus_rule made_rules made_atoms made_book count fits_rule fits_in record_bytes
    records_bytes index_bytes trailer_bytes bytes_of_book standing moved_rule as_they_appear
as-they-appear-fails d =
    let e : ◌≡◌ {A = ℕ} 0 1 =
    sym (ap (λ h. get_or (made_by as_they_appear h room).buffer 0 0) read-turned) ∙ turned-first (makes as_they_appear) d in absurd (omega arith)

pub every-head-in-fails : ImportDemand1 (makes every_head_in) → ⊥
unfolding made_by laid_of hand_laid every some ifb if_lt same_text atom_if atoms_from rule_atoms rules_atoms mentioned add_new distinct_from count_in atom_count
    number part free_heads free_count made made_from made_rules made_atoms made_book count fits_rule fits_in record_bytes records_bytes index_bytes
    trailer_bytes bytes_of_book rule_for_each rules_for_each
every-head-in-fails d =
    let e = sym (ap (λ h. (made_by every_head_in h room).told) read-free) ∙ free-told (makes every_head_in) d in apart (cc)
