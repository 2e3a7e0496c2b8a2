-- Names and numbers. "Bytes decide: `Anna` and `anna` are two"; names are numbered from 0 on, as they are listed or first met.
--
--   same_bytes k l            the same bytes
--   first_from i n s          the first of i, i + 1, .. , n of them, that is in s; i + n where none is
--   number_in names l         the number of the name with these bytes, or how many names there are
--   is_between s from to l    these bytes stand in the text from one place to another
--   whose_of ..               the first of the first `atoms` places whose name the word is
use Rattle.std.specs.Prelude.{Bool, true, false, ◌&&◌, List, [], ◌∷◌, ℕ, zero, suc, eqb, length, get_or, Option, Some, None}
use Rattle.meaning.specs.Choice.{ifb, if_lt}
use Rattle.meaning.specs.Sets.{Set}
use Rattle.meaning.specs.Books.{atom_no}
use Rattle.meaning.specs.declared.AtomNo.{AtomNo}
use Rattle.words.specs.Words.{Word, between}

unfoldable pub same_bytes : List ℕ → List ℕ → Bool
same_bytes [] [] = true
same_bytes [] (y ∷ l) = false
same_bytes (x ∷ k) [] = false
same_bytes (x ∷ k) (y ∷ l) = eqb x y && same_bytes k l

unfoldable pub first_from : ℕ → ℕ → Set ℕ → ℕ
first_from i zero s = i
first_from i (suc n) s = ifb (s i) i (first_from (suc i) n s)

abbrev pub no_word : Word
no_word = record { place = 0; bytes = [] }

-- the i-th name has these bytes
abbrev pub is_named : List Word → List ℕ → Set ℕ
is_named names l i = same_bytes (get_or names i no_word).bytes l

unfoldable pub number_in : List Word → List ℕ → ℕ
number_in names l = first_from 0 (length names) (is_named names l)

-- ---- the same of places in a text

unfoldable pub is_between : List ℕ → ℕ → ℕ → List ℕ → Bool
is_between s from to l = if_lt (length s) to false (if_lt to from false (same_bytes (between s from to) l))

abbrev pub is_spelled : List ℕ → List ℕ → List ℕ → List ℕ → Set ℕ
is_spelled s from to l i = is_between s (get_or from i 0) (get_or to i 0) l

unfoldable pub place_of : List ℕ → ℕ → List ℕ → List ℕ → List ℕ → ℕ
place_of s n from to l = first_from 0 n (is_spelled s from to l)

unfoldable pub whose_of : List ℕ → ℕ → List ℕ → List ℕ → List ℕ → Option AtomNo
whose_of s atoms from to l = if_lt (place_of s atoms from to l) atoms (Some (atom_no (place_of s atoms from to l))) None
