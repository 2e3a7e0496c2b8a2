-- What the first closing settles, as bytes. Document 02, request 8: "Shift leads want to see which rules are settled before any choice", and
-- "its on heads, with the atoms whose rules are all off, are the true and false atoms of the well-founded model". Settled is not certain:
-- a book without a reading has settled rules too.
--
--   settled_rows b        a byte for each rule: 1 on, 0 off, 2 neither; then a byte for each atom: 1 true, 0 false, 2 neither
--   told                 an answer's number and values, case by case
--   settle_of book out    the answer and the buffer, of the bytes of the book and of the buffer before
use Rattle.std.specs.Prelude.{Bool, false, List, [], ◌∷◌, ◌++◌, ℕ, zero, suc, ◌+◌, length, get_or, drop, Result, Ok, Err}
use Rattle.meaning.specs.Written.{Tables}
use Rattle.meaning.specs.Sets.{Set}
use Rattle.meaning.specs.Books.{rule_no, atom_no, Book, count}
use Rattle.meaning.specs.Colours.{heads, all_in}
use Rattle.meaning.specs.Choice.{ifb, if_lt}
use Rattle.meaning.specs.Told.{Told, success, refused_at, refused, Answered}
use Rattle.meaning.specs.Written.{of, nothing}
use Rattle.meaning.specs.Computed.{close}
use Rattle.book.specs.Numbers.{number_of, place_of}
use Rattle.book.specs.Format.{BookRead, good, bad, read_of}
use Rattle.closing.specs.declared.first.Unsettled.{Unsettled}
use Rattle.closing.specs.declared.first.Unsettled.TheVariants.{Book as BadBook, NoRoom}

-- the byte of a thing that is in the one set or in the other
unfoldable pub settled_byte : Bool → Bool → ℕ
settled_byte holds fails = ifb holds 1 (ifb fails 0 2)

-- n bytes, of which the first is that of place i
unfoldable pub settled_from : ℕ → ℕ → Set ℕ → Set ℕ → List ℕ
settled_from i zero holds fails = []
settled_from i (suc n) holds fails = settled_byte (holds i) (fails i) ∷ settled_from (suc i) n holds fails

-- two tables of places, as code has them
abbrev pub settled_row : ℕ → List Bool → List Bool → List ℕ
settled_row n holds fails = settled_from 0 n (λ i. get_or holds i false) (λ i. get_or fails i false)

abbrev pub rule_row : Book → Tables → List ℕ
rule_row b d = settled_from 0 (count b) (λ i. of d.on (rule_no i)) (λ i. of d.off (rule_no i))

abbrev pub atom_row : Book → Tables → List ℕ
atom_row b d = settled_from 0 b.atoms (λ i. heads b (of d.on) (atom_no i)) (λ i. all_in b (of d.off) (atom_no i))

unfoldable pub settled_rows : Book → List ℕ
settled_rows b = rule_row b (close b nothing) ++ atom_row b (close b nothing)

-- success tells nothing but itself: all is in the buffer
abbrev pub told : Result (Unit {0}) Unsettled → Told (Unit {0})
told (Ok u) = success tt
told (Err (BadBook f)) = refused_at (number_of f) (place_of f)
told (Err NoRoom) = refused 8

unfoldable pub settle_in : Book → List ℕ → Answered (Unit {0})
settle_in b out =
    if_lt (length out) (count b + b.atoms) (record { told = refused 8; buffer = out })
    (record { told = success tt; buffer = settled_rows b ++ drop (count b + b.atoms) out })

unfoldable pub settle_read : BookRead → List ℕ → Answered (Unit {0})
settle_read (good n r index l) out = settle_in (record { atoms = n; rules = l }) out
settle_read (bad i at) out = record { told = refused_at i at; buffer = out }

unfoldable pub settle_of : List ℕ → List ℕ → Answered (Unit {0})
settle_of book out = settle_read (read_of book) out
