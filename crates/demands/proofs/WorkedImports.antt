-- Worked texts of requests 1 and 10, from the bytes to what is told and what the lent buffer, of sevens, holds afterwards, by computation.
use mathlib.Core.Path.{◌≡◌, refl}
use mathlib.Core.List.{List, [], ◌∷◌, map}
use Prim.Native.Nat.{ℕ}
use lib.ListN.{replicate}
use Rattle.meaning.specs.Sets.{every, some}
use Rattle.meaning.specs.Choice.{ifb, if_lt, if_eq}
use Rattle.meaning.specs.Books.{count}
use Rattle.meaning.specs.Told.{success, refused_at, refused, Answered}
use Rattle.book.specs.Writing.{record_bytes, records_bytes, index_bytes, trailer_bytes, bytes_of_book}
use Rattle.book.specs.Making.{atom_if, atoms_from}
use Rattle.decimal.specs.Digits.{value_from}
use Rattle.imported.specs.Text.{same_text}
use Rattle.imported.specs.Making.{rule_atoms, rules_atoms, mentioned, add_new, distinct_from, count_in, atom_count, number, part}
use Rattle.imported.specs.Making.{free_heads, free_count, made, free_rule, opposite_rule, choice_rules, made_from, plus_rule, minus_rule, made_rules, made_atoms, made_book, fits_rule, fits_in}
use Rattle.lparse.specs.Words.{parting, outside, ends, turned, blanks, span, start_of, end_of, word_at, words_from, words_at}
use Rattle.lparse.specs.Reading.{body_of, heads_of, on_kind, on_atom, on_listed, on_head_count, on_negatives, on_number, on_value, signed, on_sign, move_of, whole, with_atom, with_choice, with, adding, on_move, heard, heard_at}
use Rattle.lparse.specs.Import.{laid_of, hand_laid, import_heard, import_of}

-- the text, the room, and the answer
abbrev pub worked : List (List ℕ × ℕ × Answered ℕ)
worked =
    -- two rules that bar each other, and gringo's atom 1 in B-
    (49 ∷ 32 ∷ 50 ∷ 32 ∷ 49 ∷ 32 ∷ 49 ∷ 32 ∷ 51 ∷ 10 ∷ 49 ∷ 32 ∷ 51 ∷ 32 ∷ 49 ∷ 32 ∷ 49 ∷ 32 ∷ 50 ∷ 10 ∷ 48 ∷ 10 ∷ 50 ∷ 32 ∷ 97 ∷ 10 ∷ 51 ∷ 32 ∷ 98 ∷ 10 ∷ 48 ∷ 10 ∷ 66 ∷ 43 ∷ 10 ∷ 48 ∷ 10 ∷ 66 ∷ 45 ∷ 10 ∷ 49 ∷ 10 ∷ 48 ∷ 10 ∷ 49 ∷ 10 ∷ [], 28, record { told = success 25; buffer = 1 ∷ 0 ∷ 1 ∷ 2 ∷ 2 ∷ 0 ∷ 1 ∷ 1 ∷ 3 ∷ 1 ∷ 1 ∷ 0 ∷ 3 ∷ 0 ∷ 0 ∷ 4 ∷ 0 ∷ 8 ∷ 0 ∷ 4 ∷ 3 ∷ 13 ∷ 0 ∷ 82 ∷ 66 ∷ 7 ∷ 7 ∷ 7 ∷ [] })
    -- the same with an entry of B+
    ∷ (49 ∷ 32 ∷ 50 ∷ 32 ∷ 49 ∷ 32 ∷ 49 ∷ 32 ∷ 51 ∷ 10 ∷ 49 ∷ 32 ∷ 51 ∷ 32 ∷ 49 ∷ 32 ∷ 49 ∷ 32 ∷ 50 ∷ 10 ∷ 48 ∷ 10 ∷ 50 ∷ 32 ∷ 97 ∷ 10 ∷ 51 ∷ 32 ∷ 98 ∷ 10 ∷ 48 ∷ 10 ∷ 66 ∷ 43 ∷ 10 ∷ 50 ∷ 10 ∷ 48 ∷ 10 ∷ 66 ∷ 45 ∷ 10 ∷ 48 ∷ 10 ∷ 49 ∷ 10 ∷ [], 28, record { told = success 25; buffer = 0 ∷ 0 ∷ 1 ∷ 1 ∷ 1 ∷ 0 ∷ 1 ∷ 0 ∷ 2 ∷ 0 ∷ 2 ∷ 0 ∷ 2 ∷ 0 ∷ 0 ∷ 4 ∷ 0 ∷ 8 ∷ 0 ∷ 3 ∷ 3 ∷ 13 ∷ 0 ∷ 82 ∷ 66 ∷ 7 ∷ 7 ∷ 7 ∷ [] })
    -- nothing at all, with just the room for it, and one byte short
    ∷ (48 ∷ 32 ∷ 48 ∷ 32 ∷ 66 ∷ 43 ∷ 32 ∷ 48 ∷ 32 ∷ 66 ∷ 45 ∷ 32 ∷ 48 ∷ 32 ∷ 49 ∷ [], 6, record { told = success 6; buffer = 0 ∷ 0 ∷ 0 ∷ 0 ∷ 82 ∷ 66 ∷ [] })
    ∷ (48 ∷ 32 ∷ 48 ∷ 32 ∷ 66 ∷ 43 ∷ 32 ∷ 48 ∷ 32 ∷ 66 ∷ 45 ∷ 32 ∷ 48 ∷ 32 ∷ 49 ∷ [], 5, record { told = refused 32; buffer = 7 ∷ 7 ∷ 7 ∷ 7 ∷ 7 ∷ [] })
    -- 9 is atom 1 and 7 is atom 0; repeats are merged
    ∷ (49 ∷ 32 ∷ 55 ∷ 32 ∷ 52 ∷ 32 ∷ 50 ∷ 32 ∷ 57 ∷ 32 ∷ 57 ∷ 32 ∷ 55 ∷ 32 ∷ 55 ∷ 32 ∷ 48 ∷ 32 ∷ 48 ∷ 32 ∷ 66 ∷ 43 ∷ 32 ∷ 48 ∷ 32 ∷ 66 ∷ 45 ∷ 32 ∷ 48 ∷ 32 ∷ 49 ∷ [], 14, record { told = success 13; buffer = 0 ∷ 1 ∷ 1 ∷ 0 ∷ 1 ∷ 0 ∷ 0 ∷ 2 ∷ 1 ∷ 5 ∷ 0 ∷ 82 ∷ 66 ∷ 7 ∷ [] })
    -- a name with a blank between quotes
    ∷ (48 ∷ 32 ∷ 52 ∷ 32 ∷ 112 ∷ 40 ∷ 34 ∷ 97 ∷ 32 ∷ 98 ∷ 34 ∷ 41 ∷ 32 ∷ 48 ∷ 32 ∷ 66 ∷ 43 ∷ 32 ∷ 48 ∷ 32 ∷ 66 ∷ 45 ∷ 32 ∷ 48 ∷ 32 ∷ 49 ∷ [], 8, record { told = success 6; buffer = 1 ∷ 0 ∷ 0 ∷ 0 ∷ 82 ∷ 66 ∷ 7 ∷ 7 ∷ [] })
    -- other rule types
    ∷ (50 ∷ 32 ∷ 51 ∷ 32 ∷ 48 ∷ 32 ∷ 48 ∷ [], 3, record { told = refused_at 31 0; buffer = 7 ∷ 7 ∷ 7 ∷ [] })
    ∷ (57 ∷ 49 ∷ 32 ∷ 50 ∷ 32 ∷ 48 ∷ 10 ∷ 49 ∷ 32 ∷ 120 ∷ [], 3, record { told = refused_at 31 0; buffer = 7 ∷ 7 ∷ 7 ∷ [] })
    -- cut off; an atom 0; B- for B+; a number that is too large; no bytes; a word too many
    ∷ (49 ∷ 32 ∷ 50 ∷ 32 ∷ 48 ∷ [], 3, record { told = refused_at 30 5; buffer = 7 ∷ 7 ∷ 7 ∷ [] })
    ∷ (49 ∷ 32 ∷ 50 ∷ 32 ∷ 49 ∷ 32 ∷ 50 ∷ [], 3, record { told = refused_at 30 6; buffer = 7 ∷ 7 ∷ 7 ∷ [] })
    ∷ (49 ∷ 32 ∷ 48 ∷ 32 ∷ 48 ∷ 32 ∷ 48 ∷ [], 3, record { told = refused_at 30 2; buffer = 7 ∷ 7 ∷ 7 ∷ [] })
    ∷ (48 ∷ 32 ∷ 48 ∷ 32 ∷ 66 ∷ 45 ∷ 32 ∷ 48 ∷ [], 3, record { told = refused_at 30 4; buffer = 7 ∷ 7 ∷ 7 ∷ [] })
    ∷ (49 ∷ 32 ∷ 52 ∷ 50 ∷ 57 ∷ 52 ∷ 57 ∷ 54 ∷ 55 ∷ 50 ∷ 57 ∷ 54 ∷ 32 ∷ 48 ∷ 32 ∷ 48 ∷ [], 3, record { told = refused_at 30 2; buffer = 7 ∷ 7 ∷ 7 ∷ [] })
    ∷ ([], 3, record { told = refused_at 30 0; buffer = 7 ∷ 7 ∷ 7 ∷ [] })
    ∷ (48 ∷ 32 ∷ 48 ∷ 32 ∷ 66 ∷ 43 ∷ 32 ∷ 48 ∷ 32 ∷ 66 ∷ 45 ∷ 32 ∷ 48 ∷ 32 ∷ 49 ∷ 32 ∷ 49 ∷ [], 7, record { told = refused_at 30 16; buffer = 7 ∷ 7 ∷ 7 ∷ 7 ∷ 7 ∷ 7 ∷ 7 ∷ [] })
    -- a choice of two, and atom 1 in B-
    ∷ (51 ∷ 32 ∷ 50 ∷ 32 ∷ 50 ∷ 32 ∷ 51 ∷ 32 ∷ 48 ∷ 32 ∷ 48 ∷ 10 ∷ 48 ∷ 10 ∷ 50 ∷ 32 ∷ 97 ∷ 10 ∷ 51 ∷ 32 ∷ 98 ∷ 10 ∷ 48 ∷ 10 ∷ 66 ∷ 43 ∷ 10 ∷ 48 ∷ 10 ∷ 66 ∷ 45 ∷ 10 ∷ 49 ∷ 10 ∷ 48 ∷ 10 ∷ 49 ∷ 10 ∷ [], 40, record { told = success 37; buffer = 1 ∷ 0 ∷ 1 ∷ 3 ∷ 3 ∷ 0 ∷ 1 ∷ 1 ∷ 2 ∷ 0 ∷ 1 ∷ 4 ∷ 4 ∷ 0 ∷ 1 ∷ 2 ∷ 5 ∷ 1 ∷ 1 ∷ 0 ∷ 5 ∷ 0 ∷ 0 ∷ 4 ∷ 0 ∷ 8 ∷ 0 ∷ 12 ∷ 0 ∷ 16 ∷ 0 ∷ 6 ∷ 5 ∷ 21 ∷ 0 ∷ 82 ∷ 66 ∷ 7 ∷ 7 ∷ 7 ∷ [] })
    -- a choice that leans on itself; one without a body, with just the room for it, and one byte short; a head twice
    ∷ (51 ∷ 32 ∷ 49 ∷ 32 ∷ 50 ∷ 32 ∷ 49 ∷ 32 ∷ 48 ∷ 32 ∷ 50 ∷ 10 ∷ 48 ∷ 10 ∷ 50 ∷ 32 ∷ 97 ∷ 10 ∷ 48 ∷ 10 ∷ 66 ∷ 43 ∷ 10 ∷ 48 ∷ 10 ∷ 66 ∷ 45 ∷ 10 ∷ 48 ∷ 10 ∷ 49 ∷ 10 ∷ [], 20, record { told = success 19; buffer = 0 ∷ 1 ∷ 1 ∷ 0 ∷ 1 ∷ 1 ∷ 0 ∷ 1 ∷ 0 ∷ 0 ∷ 0 ∷ 5 ∷ 0 ∷ 2 ∷ 2 ∷ 9 ∷ 0 ∷ 82 ∷ 66 ∷ 7 ∷ [] })
    ∷ (51 ∷ 32 ∷ 49 ∷ 32 ∷ 50 ∷ 32 ∷ 48 ∷ 32 ∷ 48 ∷ 32 ∷ 48 ∷ 32 ∷ 48 ∷ 32 ∷ 66 ∷ 43 ∷ 32 ∷ 48 ∷ 32 ∷ 66 ∷ 45 ∷ 32 ∷ 48 ∷ 32 ∷ 49 ∷ [], 18, record { told = success 18; buffer = 0 ∷ 0 ∷ 1 ∷ 1 ∷ 1 ∷ 0 ∷ 1 ∷ 0 ∷ 0 ∷ 0 ∷ 4 ∷ 0 ∷ 2 ∷ 2 ∷ 8 ∷ 0 ∷ 82 ∷ 66 ∷ [] })
    ∷ (51 ∷ 32 ∷ 49 ∷ 32 ∷ 50 ∷ 32 ∷ 48 ∷ 32 ∷ 48 ∷ 32 ∷ 48 ∷ 32 ∷ 48 ∷ 32 ∷ 66 ∷ 43 ∷ 32 ∷ 48 ∷ 32 ∷ 66 ∷ 45 ∷ 32 ∷ 48 ∷ 32 ∷ 49 ∷ [], 17, record { told = refused 32; buffer = 7 ∷ 7 ∷ 7 ∷ 7 ∷ 7 ∷ 7 ∷ 7 ∷ 7 ∷ 7 ∷ 7 ∷ 7 ∷ 7 ∷ 7 ∷ 7 ∷ 7 ∷ 7 ∷ 7 ∷ [] })
    ∷ (51 ∷ 32 ∷ 50 ∷ 32 ∷ 53 ∷ 32 ∷ 53 ∷ 32 ∷ 48 ∷ 32 ∷ 48 ∷ 32 ∷ 48 ∷ 32 ∷ 48 ∷ 32 ∷ 66 ∷ 43 ∷ 32 ∷ 48 ∷ 32 ∷ 66 ∷ 45 ∷ 32 ∷ 48 ∷ 32 ∷ 49 ∷ [], 30, record { told = success 30; buffer = 0 ∷ 0 ∷ 1 ∷ 1 ∷ 1 ∷ 0 ∷ 1 ∷ 0 ∷ 0 ∷ 0 ∷ 1 ∷ 2 ∷ 2 ∷ 0 ∷ 1 ∷ 0 ∷ 0 ∷ 0 ∷ 4 ∷ 0 ∷ 8 ∷ 0 ∷ 12 ∷ 0 ∷ 3 ∷ 4 ∷ 16 ∷ 0 ∷ 82 ∷ 66 ∷ [] })
    -- a choice without heads; a head 0; more heads than the text has
    ∷ (51 ∷ 32 ∷ 48 ∷ 32 ∷ 48 ∷ 32 ∷ 48 ∷ [], 3, record { told = refused_at 30 2; buffer = 7 ∷ 7 ∷ 7 ∷ [] })
    ∷ (51 ∷ 32 ∷ 49 ∷ 32 ∷ 48 ∷ 32 ∷ 48 ∷ 32 ∷ 48 ∷ [], 3, record { told = refused_at 30 4; buffer = 7 ∷ 7 ∷ 7 ∷ [] })
    ∷ (51 ∷ 32 ∷ 52 ∷ 50 ∷ 57 ∷ 52 ∷ 57 ∷ 54 ∷ 55 ∷ 50 ∷ 57 ∷ 53 ∷ 32 ∷ 50 ∷ 32 ∷ 50 ∷ [], 3, record { told = refused_at 30 16; buffer = 7 ∷ 7 ∷ 7 ∷ [] })
    ∷ []

pub worked-imports : map (λ c. import_of c.0 (replicate c.1 7)) worked ≡ map (λ c. c.2) worked
unfolding ifb if_lt if_eq value_from parting outside ends turned blanks span start_of end_of word_at words_from words_at body_of heads_of on_kind on_atom
    on_listed on_head_count on_negatives on_number on_value signed on_sign move_of whole with_atom with_choice with adding on_move heard heard_at
    every some same_text atom_if atoms_from rule_atoms rules_atoms mentioned add_new distinct_from count_in atom_count number part
    free_heads free_count made free_rule opposite_rule choice_rules made_from plus_rule minus_rule made_rules made_atoms made_book count fits_rule fits_in
    record_bytes records_bytes index_bytes trailer_bytes bytes_of_book laid_of hand_laid import_heard
worked-imports = refl
