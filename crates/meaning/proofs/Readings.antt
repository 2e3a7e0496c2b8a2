-- All readings of a small book, computed: the sets of atoms below A are written out, and the test of LeastModel is tried on each. An
-- answer set of a book whose heads are below A agrees with a written one that passes, and what passes is an answer set.
use mathlib.Core.Path.{◌≡◌, refl, sym, ◌∙◌, ap, subst, fun_ext}
use mathlib.Core.Logic.{⊎_elim}
use mathlib.Core.Bool.{Bool, true, false}
use mathlib.Core.List.{List, [], ◌∷◌, ◌++◌, map, Memᴰ}
use Prim.Native.Nat.{ℕ, zero, suc, ◌≤◌, ◌<◌}
use native.Mathlib.Nat.{le_of_suc-le-suc}
use native.Mathlib.Omega.{arith}
use lib.ListN.{length, get_or}
use lib.Dec.{ltb}
use borrow.Author.Tests.{ltb-true}
use Rattle.meaning.specs.declared.AtomNo.{AtomNo}
use Rattle.meaning.specs.Books.{Atoms, Rules, atom_no, Book, count, rule, every_rule}
use Rattle.meaning.specs.AnswerSet.{AnswerSet}
use Rattle.meaning.specs.Choice.{ifb}
use Rattle.meaning.proofs.Choice.{b-yes, b-either}
use Rattle.meaning.proofs.Tests.{refuted, lt-or-le}
use Rattle.meaning.proofs.Rules.{every-rule-at}
use Rattle.meaning.proofs.Written.{place-below}
use Rattle.meaning.proofs.LeastModel.{is_answer_set, Proper, Inside, answer→test, answer-inside, test→answer}

-- the set that a list of tests stands for: place a says whether atom a is in it
unfoldable pub atoms_of : List Bool → Atoms
atoms_of l a = get_or l a.0 false

-- the answer sets of the book are those of the lists, and no others
pub record Exactly (b : Book) (sets : List (List Bool)) : Type 0 where
  pub each : (l : List Bool) → Memᴰ l sets → AnswerSet b (atoms_of l)
  pub only : (x : Atoms) → AnswerSet b x → (l : List Bool) × Memᴰ l sets × ((a : AtomNo) → x a ≡ atoms_of l a)

-- ---- all lists of n tests

unfoldable pub tables : ℕ → List (List Bool)
tables zero = [] ∷ []
tables (suc n) = map (λ l. true ∷ l) (tables n) ++ map (λ l. false ∷ l) (tables n)

tables-length : (n : ℕ) (l : List Bool) → Memᴰ l (tables n) → length l ≡ n
unfolding tables
tables-length zero l m = ap length (mathlib.Core.List.Memᴰ.eq_of_singleton m)
tables-length (suc n) l m =
    ⊎_elim (longer true (tables-length n)) (longer false (tables-length n)) (mathlib.Core.List.Memᴰ.append_cases (map (λ l. true ∷ l) (tables n)) m)
  where
    longer : (t : Bool) → ((k : List Bool) → Memᴰ k (tables n) → length k ≡ n)
        → Memᴰ l (map (λ k. t ∷ k) (tables n)) → length l ≡ suc n
    longer t f m = let (k, j, e) = mathlib.Core.List.Memᴰ.of_map (λ k. t ∷ k) (tables n) m in sym (ap length e) ∙ ap suc (f k j)

-- the first n tests of a set
table : ℕ → (ℕ → Bool) → List Bool
table zero f = []
table (suc n) f = f 0 ∷ table n (λ i. f (suc i))

table-member : (n : ℕ) (f : ℕ → Bool) → Memᴰ (table n f) (tables n)
unfolding tables table
table-member zero f = mathlib.Core.List.Memᴰ.head refl
table-member (suc n) f = front (f 0) (table-member n (λ i. f (suc i)))
  where
    front : (t : Bool) {l : List Bool} → Memᴰ l (tables n) → Memᴰ (t ∷ l) (tables (suc n))
    front true m = mathlib.Core.List.Memᴰ.append_left (map (λ l. false ∷ l) (tables n)) (mathlib.Core.List.Memᴰ.map (λ l. true ∷ l) m)
    front false m = mathlib.Core.List.Memᴰ.append_right (map (λ l. true ∷ l) (tables n)) (mathlib.Core.List.Memᴰ.map (λ l. false ∷ l) m)

table-in : (n : ℕ) (f : ℕ → Bool) (i : ℕ) → i < n → get_or (table n f) i false ≡ f i
unfolding table
table-in zero f i h = absurd (omega arith)
table-in (suc n) f zero h = refl
table-in (suc n) f (suc i) h = table-in n (λ j. f (suc j)) i (le_of_suc-le-suc h)

table-out : (n : ℕ) (f : ℕ → Bool) (i : ℕ) → n ≤ i → get_or (table n f) i false ≡ false
unfolding table
table-out zero f i h = refl
table-out (suc n) f zero h = absurd (omega arith)
table-out (suc n) f (suc i) h = table-out n (λ j. f (suc j)) i (le_of_suc-le-suc h)

-- ---- those that pass the test

unfoldable pub passing : Book → List (List Bool) → List (List Bool)
passing b [] = []
passing b (l ∷ m) = ifb (is_answer_set b (atoms_of l)) (l ∷ passing b m) (passing b m)

unfoldable pub readings : Book → List (List Bool)
readings b = passing b (tables b.atoms)

passing-of : (b : Book) (m : List (List Bool)) (l : List Bool) → Memᴰ l m → is_answer_set b (atoms_of l) ≡ true
    → Memᴰ l (passing b m)
unfolding passing
passing-of b [] l h e = elim h [ ]
passing-of b (k ∷ m) l (mathlib.Core.List.Memᴰ.head p) e = rw (b-yes _ (k ∷ passing b m) (passing b m) (rw p at e)) (mathlib.Core.List.Memᴰ.head p)
passing-of b (k ∷ m) l (mathlib.Core.List.Memᴰ.tail j) e =
    let i = passing-of b m l j e in b-either (Memᴰ l) _ _ _ (λ t. mathlib.Core.List.Memᴰ.tail i) (λ t. i)

-- the list stands among those of m and passes
abbrev Passes : Book → List Bool → List (List Bool) → Type 0
Passes b l m = Memᴰ l m × (is_answer_set b (atoms_of l) ≡ true)

passing-by : (b : Book) (m : List (List Bool)) (l : List Bool) → Memᴰ l (passing b m) → Passes b l m
unfolding passing
passing-by b [] l j = absurd (mathlib.Core.List.Memᴰ.not-nil j)
passing-by b (k ∷ m) l j =
    let later : Memᴰ l (passing b m) → Passes b l (k ∷ m) = λ i. let (q, e) = passing-by b m l i in (mathlib.Core.List.Memᴰ.tail q, e) in
    b-either (λ z. Memᴰ l z → Passes b l (k ∷ m)) _ _ _
    (λ t i. ⊎_elim (λ p. (mathlib.Core.List.Memᴰ.head p, rw p t)) later (mathlib.Core.List.Memᴰ.cases_cons i)) (λ t i. later i) j

-- ---- they are the readings

-- the rules whose head is an atom of the book
unfoldable pub properly : Book → Rules
properly b r = ltb (rule b r).head.0 b.atoms

module _ (b : Book) (fits : count b ≤ 255) (tested : every_rule b (properly b) ≡ true) where
  proper : Proper b
  unfolding properly
  proper r h = ltb-true _ _ (every-rule-at b _ tested r h)

  listed-inside : (l : List Bool) → Memᴰ l (tables b.atoms) → Inside b (atoms_of l)
  unfolding atoms_of
  listed-inside l m a e = rw (tables-length b.atoms l m) at (place-below l a.0 e)

  module _ (x : Atoms) (answer : AnswerSet b x) where
    abbrev written : List Bool
    written = table b.atoms (λ n. x (atom_no n))

    agrees : (a : AtomNo) → x a ≡ atoms_of written a
    unfolding atoms_of
    agrees a = sym (⊎_elim
        (λ h. table-in b.atoms _ a.0 h)
        (λ h. table-out b.atoms _ a.0 h ∙ sym (refuted (λ m. let g = answer-inside b fits x proper answer a m in omega arith)))
        (lt-or-le a.0 b.atoms))

    passes : is_answer_set b (atoms_of written) ≡ true
    passes = subst (λ (y : Atoms). is_answer_set b y ≡ true) (fun_ext agrees) (answer→test b fits x answer)

  pub readings-exact : Exactly b (readings b)
  unfolding readings
  readings-exact = record {
    each = λ l m. let (j, e) = passing-by b _ l m in test→answer b fits (atoms_of l) proper (listed-inside l j) e;
    only = λ x answer. (written x answer, passing-of b _ _ (table-member b.atoms _) (passes x answer), agrees x answer);
  }
