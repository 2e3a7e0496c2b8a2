-- Names enough: for every number of atoms that a book may have there are good names, so every book has a text. The i-th of them is an x and two
-- letters, i in sixteens.
use mathlib.Core.Path.{◌≡◌, refl, ap, sym, ◌∙◌}
use mathlib.Core.Bool.{true}
use mathlib.Core.List.{List, [], ◌∷◌}
use Prim.Native.Nat.{ℕ, zero, suc, ◌+◌, ◌/◌, ◌%◌, ◌<◌, ◌≤◌}
use native.Mathlib.Nat.{add-zero, add-suc, suc-add, mod-lt, div-add-mod}
use native.Mathlib.Omega.{arith}
use lib.ListN.{length, get_or}
use borrow.Author.Tests.{le-leb}
use Rattle.meaning.specs.Choice.{ifb, if_lt, if_eq}
use Rattle.meaning.specs.Sets.{every}
use Rattle.meaning.proofs.Choice.{b-yes, lt_no}
use Rattle.meaning.proofs.Tests.{both}
use Rattle.words.specs.declared.term.Term.TheVariants.{Name}
use Rattle.words.specs.Names.{same_bytes}
use Rattle.words.specs.Terms.{in_range, name_byte, spelled, plain_term, term_of}
use Rattle.words.specs.Text.{GoodNames}

unfoldable letters : ℕ → List ℕ
letters i = 120 ∷ ((97 + i / 16) ∷ ((97 + i % 16) ∷ []))

unfoldable letters_from : ℕ → ℕ → List (List ℕ)
letters_from i zero = []
letters_from i (suc n) = letters i ∷ letters_from (suc i) n

letters-long : (i n : ℕ) → length (letters_from i n) ≡ n
unfolding letters_from
letters-long i zero = refl
letters-long i (suc n) = ap suc (letters-long (suc i) n)

letters-at : (i n j : ℕ) → j < n → get_or (letters_from i n) j [] ≡ letters (i + j)
unfolding letters_from
letters-at i zero j h = absurd (omega arith)
letters-at i (suc n) zero h = rw add-zero refl
letters-at i (suc n) (suc j) h = rw (add-suc, ← suc-add i j) (letters-at (suc i) n j (omega arith))

-- ---- each is a name

x-byte : name_byte 120 ≡ true
unfolding name_byte in_range ifb if_lt
x-byte = refl

letter-byte : (k : ℕ) → k < 16 → name_byte (97 + k) ≡ true
unfolding name_byte in_range
letter-byte k h = b-yes _ _ _ (lt_no _ _ _ _ (omega arith) ∙ le-leb (97 + k) 122 (omega arith))

letters-spelled : (i : ℕ) → i < 256 → spelled (letters i) ≡ true
unfolding letters spelled every in_range ifb if_lt if_eq
letters-spelled i h =
    both x-byte (both (letter-byte (i / 16) (omega (arith, div-add-mod i 16))) (both (letter-byte (i % 16) (mod-lt i (omega arith))) refl))

letters-name : (i : ℕ) → i < 256 → term_of (letters i) ≡ Name
unfolding letters term_of same_bytes plain_term ifb if_eq
letters-name i h = rw (letters-spelled i h) refl

-- ---- no two are the same

letters-apart : (i j : ℕ) → letters i ≡ letters j → i ≡ j
unfolding letters
letters-apart i j e =
    let high : 97 + i / 16 ≡ 97 + j / 16 = ap (λ l. get_or l 1 0) e in
    let low : 97 + i % 16 ≡ 97 + j % 16 = ap (λ l. get_or l 2 0) e in
    omega (arith, div-add-mod i 16, div-add-mod j 16)

pub names-enough : (n : ℕ) → n ≤ 255 → (l : List (List ℕ)) × GoodNames l × (length l ≡ n)
names-enough n h = (letters_from 0 n, record { each = each; apart = apart }, long)
  where
    long : length (letters_from 0 n) ≡ n
    long = letters-long 0 n

    each : (i : ℕ) → i < length (letters_from 0 n) → term_of (get_or (letters_from 0 n) i []) ≡ Name
    each i k = rw (letters-at 0 n i (omega (arith, long))) (letters-name (0 + i) (omega (arith, long)))

    apart : (i j : ℕ) → i < length (letters_from 0 n) → j < length (letters_from 0 n)
        → get_or (letters_from 0 n) i [] ≡ get_or (letters_from 0 n) j [] → i ≡ j
    apart i j k m e =
        let same = letters-apart (0 + i) (0 + j)
        (sym (letters-at 0 n i (omega (arith, long))) ∙ e ∙ letters-at 0 n j (omega (arith, long))) in
        omega arith
