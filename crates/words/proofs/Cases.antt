-- Worked texts, by computation: `unless` says what `not` says, and two refusals stand at their places.
use mathlib.Core.Path.{◌≡◌, refl}
use mathlib.Core.List.{List, [], ◌∷◌}
use Prim.Native.Nat.{ℕ}
use Rattle.meaning.specs.Choice.{ifb, if_lt, if_eq}
use Rattle.meaning.specs.Sets.{every}
use Rattle.meaning.specs.Books.{atom_no, Rule}
use Rattle.book.specs.Making.{atom_if, atoms_from}
use Rattle.words.specs.Words.{blank, parting, blanks, span, start_of, end_of, word_at, pieces_from, pieces_at}
use Rattle.words.specs.Names.{same_bytes, first_from, number_in}
use Rattle.words.specs.Terms.{in_range, name_byte, spelled, plain_term, term_of}
use Rattle.words.specs.Moves.{rank, is_due, remarked, only_at, on_unless, on_name, move_of, ended_of}
use Rattle.words.specs.Reading.{placed, crowded, full, stands, named, noted, begun, on_said, decided, known, done, on_decision, decision_of, on_ended, on_piece, and_then, follow, follow_at, says, refused, said, words_in}

abbrev pub rule : Rule
rule = record { head = atom_no 0; pos = atom_no 1 ∷ []; neg = atom_no 2 ∷ [] }

abbrev pub names : List (List ℕ)
names = (98 ∷ []) ∷ ((97 ∷ []) ∷ ((99 ∷ []) ∷ []))

-- `b if a and not c` and a line's end
abbrev pub with_not : List ℕ
with_not = 98 ∷ (32 ∷ (105 ∷ (102 ∷ (32 ∷ (97 ∷ (32 ∷ (97 ∷ (110 ∷ (100 ∷ (32 ∷ (110 ∷ (111 ∷ (116 ∷ (32 ∷ (99 ∷ (10 ∷ []))))))))))))))))

-- `b if a unless c`
abbrev pub with_unless : List ℕ
with_unless = 98 ∷ (32 ∷ (105 ∷ (102 ∷ (32 ∷ (97 ∷ (32 ∷ (117 ∷ (110 ∷ (108 ∷ (101 ∷ (115 ∷ (115 ∷ (32 ∷ (99 ∷ []))))))))))))))

-- `a if`
abbrev pub cut : List ℕ
cut = 97 ∷ (32 ∷ (105 ∷ (102 ∷ [])))

-- `atoms: a`, a line's end, `b`
abbrev pub unlisted : List ℕ
unlisted = 97 ∷ (116 ∷ (111 ∷ (109 ∷ (115 ∷ (58 ∷ (32 ∷ (97 ∷ (10 ∷ (98 ∷ [])))))))))

pub record Cases : Type 0 where
  pub with-not : words_in with_not ≡ says names (rule ∷ [])
  pub with-unless : words_in with_unless ≡ says names (rule ∷ [])
  pub word-missing : words_in cut ≡ refused 40 4
  pub name-unlisted : words_in unlisted ≡ refused 41 9

pub worked-words : Cases
unfolding ifb if_lt if_eq every atom_if atoms_from blank parting blanks span start_of end_of word_at pieces_from pieces_at same_bytes first_from number_in in_range name_byte spelled plain_term term_of rank is_due remarked only_at on_unless on_name move_of ended_of placed crowded full stands named noted begun on_said decided known done on_decision decision_of on_ended on_piece and_then follow follow_at said
worked-words = record { with-not = refl; with-unless = refl; word-missing = refl; name-unlisted = refl }
