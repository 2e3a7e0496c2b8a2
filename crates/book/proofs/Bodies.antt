-- A rule's body, asked byte by byte: one turn of the searches over a part of the book, what a table or the rules answer at one byte, and
-- that the bytes and the atoms of a body say the same. Each search's law is its definition unfolded once. Document 01, "Colours and
-- closing".
use mathlib.Core.Path.{◌≡◌, refl, sym, ◌∙◌, ap}
use mathlib.Core.Bool.{Bool, true, false, ◌&&◌, ◌||◌}
use mathlib.Core.List.{List, [], ◌∷◌, map, Memᴰ}
use Prim.Native.Nat.{ℕ, zero, suc, ◌+◌, ◌≤◌, ◌<◌}
use native.Mathlib.Nat.{not-suc-le-zero, le_of_suc-le-suc}
use native.Mathlib.Numerals.{add-one}
use lib.ListN.{length, get_or, drop, drop_of_length-le}
use lib.Seq.{drop-cons}
use Rattle.std.specs.List.{list_all}
use Rattle.meaning.specs.declared.AtomNo.{AtomNo}
use Rattle.meaning.specs.Sets.{every, some}
use Rattle.meaning.specs.Books.{Atoms, Rules, atom_no, rule_no, Book, count, rule}
use Rattle.meaning.specs.Colours.{all_in}
use Rattle.meaning.proofs.Tests.{true-and-false, refuted}
use Rattle.meaning.proofs.Rules.{all_in-at}
use Rattle.book.specs.Tables.{atoms_in, Below}
use Rattle.book.specs.Writing.{atom_bytes}

-- ---- a whole part

pub all-every : (x : Atoms) (l : List ℕ) → list_all (λ n. x (atom_no n)) l ≡ every x (map atom_no l)
unfolding every
all-every x [] = refl
all-every x (n ∷ l) = ap (λ (t : Bool). x (atom_no n) && t) (all-every x l)

-- ---- one turn of a search

module _ (x : Atoms) (s : List ℕ) (i : ℕ) where
  pub every-end : length s ≤ i → every x (map atom_no (drop i s)) ≡ true
  unfolding every
  every-end h = rw (drop_of_length-le s h)

  pub every-turn : i < length s → every x (map atom_no (drop i s)) ≡ (x (atom_no (get_or s i 0)) && every x (map atom_no (drop (i + 1) s)))
  unfolding every
  every-turn h = rw (add-one i, drop-cons s i 0 h)

  pub some_end : length s ≤ i → some x (map atom_no (drop i s)) ≡ false
  unfolding some
  some_end h = rw (drop_of_length-le s h)

  pub some_turn : i < length s → some x (map atom_no (drop i s)) ≡ (x (atom_no (get_or s i 0)) || some x (map atom_no (drop (i + 1) s)))
  unfolding some
  some_turn h = rw (add-one i, drop-cons s i 0 h)

-- ---- one byte, and one part after another

-- the first part holds, so the second decides
pub then-decides : {a b r : Bool} → a ≡ true → r ≡ b → r ≡ (a && b)
then-decides p q = rw p q

pub table-says : (t : List Bool) (n m : ℕ) (v : Bool) → n ≡ m → get_or t n false ≡ v → atoms_in t (atom_no m) ≡ v
unfolding atoms_in
table-says t n m v e h = rw (← e) h

-- a rule of the atom that is not in the set
pub not-all-in : (b : Book) (s : Rules) (q n : ℕ) (a : AtomNo) → q < count b → a ≡ (rule b (rule_no q)).head → a.0 ≡ n
    → s (rule_no q) ≡ false → all_in b s (atom_no n) ≡ false
not-all-in b s q n a h e f g =
    let p : a ≡ atom_no n = λ i. record { 0 = f i } in
    refuted (λ m. true-and-false (all_in-at b s (atom_no n) m (rule_no q) h (sym e ∙ p)) g)

-- ---- bytes and atoms

pub atoms-bytes : (l : List AtomNo) → map atom_no (atom_bytes l) ≡ l
atoms-bytes [] = refl
atoms-bytes (a ∷ l) = ap (λ m. a ∷ m) (atoms-bytes l)

-- a part of the book that holds the atoms of a list
module _ (x : Atoms) (s : List ℕ) (l : List AtomNo) (e : s ≡ atom_bytes l) where
  pub every-part : every x (map atom_no s) ≡ every x l
  every-part = rw (e, atoms-bytes)

  pub some-part : some x (map atom_no s) ≡ some x l
  some-part = rw (e, atoms-bytes)

pub bytes_below : (n : ℕ) (l : List AtomNo) → ((a : AtomNo) → Memᴰ a l → a.0 < n) → Below n (atom_bytes l)
bytes_below n l f = record { at = go l f }
  where
    go : (l : List AtomNo) → ((a : AtomNo) → Memᴰ a l → a.0 < n) → (i : ℕ) → i < length (atom_bytes l) → get_or (atom_bytes l) i 0 < n
    go [] f i h = absurd (not-suc-le-zero h)
    go (a ∷ l) f zero h = f a (Memᴰ.head refl)
    go (a ∷ l) f (suc i) h = go l (λ c m. f c (Memᴰ.tail m)) i (le_of_suc-le-suc h)
