-- The totals are right (request 13, Q3 and Q4): folded over the counted books, each of the three is the sum of its own kind, told by its own
-- test of the counts; and the three together are the sum of the atoms, since of each atom exactly one of the three holds.
use Rattle.std.proofs.Common.{◌≡◌, ℕ, ◌+◌, ◌^◌, ◌<◌, true, eqb, ltb, ◌↔◌, List, [], ◌∷◌, ◌++◌, map, get_or, sym, refl, ap, ◌∙◌, ⊎_elim, append_assoc, append-nil, mod-eq_of_lt, arith, ltb-true, lt-ltb, eq-eqb, eqb-true}
use mathlib.Core.List.{Memᴰ}
use borrow.Author.Tests.{not-true}
use Rattle.meaning.specs.declared.AtomNo.{AtomNo}
use Rattle.meaning.specs.Books.{Atoms, atom_no, Book}
use Rattle.meaning.specs.AnswerSet.{AnswerSet, Certain, Clear}
use Rattle.meaning.proofs.Tests.{both, and_left, and_right, decided, true-and-false, refuted, proved}
use Rattle.counting.specs.Counts.{Counts, HasOne, InSome, HowMany, none, yes, no, Total, no-books, and-book}
use Rattle.counting.specs.Totals.{at_each, at_some, at_none, no_totals, totals_from, totals_with, CountedBook, totals_over}
use Rattle.counting.specs.Totals.{plus, atoms_of, TotalsOf}
use Rattle.counting.specs.declared.sum.Totals.{Totals}
use Rattle.counting.proofs.Counts.{counts-certain, counts_some, counts-none}
use Rattle.counting.proofs.HowMany.{how_many-told, how_many-none, how_many-at-most, total_at_most, total-with}

-- ---- the sum of the atoms

pub atoms-append : (bs cs : List Book) → atoms_of (bs ++ cs) ≡ atoms_of bs + atoms_of cs
unfolding atoms_of
atoms-append [] cs = omega arith
atoms-append (b ∷ bs) cs = let e = atoms-append bs cs in omega arith

pub atoms-with : (b : Book) (bs : List Book) → atoms_of (bs ++ (b ∷ [])) ≡ atoms_of bs + b.atoms
unfolding atoms_of
atoms-with b bs = let e = atoms-append bs (b ∷ []) in omega arith

-- ---- Q3: one book by its three tests

-- a sum that fits is the sum
plus-fits : (m n : ℕ) → m + n < 2 ^ 32 → plus m n ≡ m + n
plus-fits m n h = mod-eq_of_lt h

through : {A B C : Type 0} → A ↔ B → B ↔ C → A ↔ C
through (f, g) (h, k) = (λ a. h (f a), λ c. g (k c))

equal-tested : (m n : ℕ) → (m ≡ n) ↔ (eqb m n ≡ true)
equal-tested m n = (eq-eqb m n, eqb-true m n)

between-tested : (m n : ℕ) → ((0 < m) × (m < n)) ↔ (at_some n m ≡ true)
between-tested m n = (
  λ (h, k). both (lt-ltb 0 m h) (lt-ltb m n k),
  λ e. (ltb-true 0 m (and_left (ltb 0 m) _ e), ltb-true m n (and_right (ltb 0 m) _ e)),
)

module _ {b : Book} {n : ℕ} {counts : List ℕ} (c : Counts b n counts) (h : 0 < n) where
  pub certain-told : (i : ℕ) → i < b.atoms → Certain b (atom_no i) ↔ (at_each n (get_or counts i 0) ≡ true)
  certain-told i k = through (counts-certain c (atom_no i) k h) (equal-tested _ n)

  pub some-told : (i : ℕ) → i < b.atoms → InSome b (atom_no i) ↔ (at_some n (get_or counts i 0) ≡ true)
  some-told i k = through (counts_some c (atom_no i) k) (between-tested _ n)

  pub none_told : (i : ℕ) → i < b.atoms → Clear b (atom_no i) ↔ (at_none n (get_or counts i 0) ≡ true)
  none_told i k = through (counts-none c (atom_no i) k h) (equal-tested _ 0)

  -- one more book, as long as all atoms together have 32 bits
  pub totals-with : {bs : List Book} {t : Totals} → TotalsOf bs t → atoms_of bs + b.atoms < 2 ^ 32
      → TotalsOf (bs ++ (b ∷ [])) (totals_with t b.atoms n counts)
  unfolding totals_with totals_from
  totals-with {bs} {t} g k = record {
    certain = kept g.certain (how_many-told b.atoms _ certain-told);
    some = kept g.some (how_many-told b.atoms _ some-told);
    none = kept g.none (how_many-told b.atoms _ none_told);
    atoms = plus-fits t.atoms b.atoms (omega (arith, g.atoms)) ∙ ap (λ i. i + b.atoms) g.atoms ∙ sym (atoms-with b bs);
  }
    where
      kept : {P : Book → AtomNo → Type 0} {m c : ℕ} → Total P bs m → HowMany (P b) b.atoms c → Total P (bs ++ (b ∷ [])) (plus m c)
      kept {P} {m} {c} p h = rw (plus-fits m c (omega (arith, k, total_at_most p, how_many-at-most h))) (total-with p h)

-- ---- Q3: several books

abbrev pub books_of : List CountedBook → List Book
books_of cs = map (λ c. c.book) cs

pub totals-over : (cs : List CountedBook) {bs : List Book} {t : Totals} → TotalsOf bs t → atoms_of (bs ++ books_of cs) < 2 ^ 32
    → TotalsOf (bs ++ books_of cs) (totals_over cs t)
unfolding totals_over
totals-over [] g k = rw append-nil g
totals-over (c ∷ cs) {bs} g k =
    let e = append_assoc bs (c.book ∷ []) (books_of cs) in
    let front = atoms-append (bs ++ (c.book ∷ [])) (books_of cs) in
    let h : atoms_of bs + c.book.atoms < 2 ^ 32 = omega (arith, k, front, ap atoms_of e, atoms-with c.book bs) in
    rw e at (totals-over cs (totals-with c.right c.has-sets g h) (rw e k))

pub no-totals : TotalsOf [] no_totals
unfolding atoms_of
no-totals = record { certain = no-books; some = no-books; none = no-books; atoms = refl }

pub totals-right : (cs : List CountedBook) → atoms_of (books_of cs) < 2 ^ 32 → TotalsOf (books_of cs) (totals_over cs no_totals)
totals-right cs = totals-over cs no-totals

-- ---- Q4: exactly one of the three

module _ (b : Book) (a : AtomNo) where
  pub certain-not-some : Certain b a → InSome b a → ⊥
  certain-not-some c s = let (x, p, e) = s.lacks in true-and-false (c.each x p) e

  pub some-not-none : InSome b a → Clear b a → ⊥
  some-not-none s z = let (x, p, e) = s.holds in true-and-false e (not-true _ (z.each x p))

  pub certain-not-none : Certain b a → Clear b a → ⊥
  certain-not-none c z = let (x, p) = c.one in true-and-false (c.each x p) (not-true _ (z.each x p))

  -- an answer set holds the atom or lacks it; where it is not in some only, so do the others
  pub one_of_three : (x : Atoms) → AnswerSet b x → ¬ Certain b a → ¬ InSome b a → ¬ Clear b a → ⊥
  one_of_three x p c s z = ⊎_elim
      (λ e. c (record { one = (x, p); each = λ y q. proved (λ n. s (record { holds = (x, p, e); lacks = (y, q, n) })) }))
      (λ e. z (record { one = (x, p); each = λ y q. rw (refuted (λ m. s (record { holds = (y, q, m); lacks = (x, p, e) }))) }))
      (decided (x a))

pub three-sum : (b : Book) (x : Atoms) → AnswerSet b x → {n c s z : ℕ} → HowMany (Certain b) n c → HowMany (InSome b) n s
    → HowMany (Clear b) n z → c + s + z ≡ n
three-sum b x p none none none = refl
three-sum b x p (yes c h) (no s i) (no z j) = let e = three-sum b x p h i j in omega arith
three-sum b x p (no c h) (yes s i) (no z j) = let e = three-sum b x p h i j in omega arith
three-sum b x p (no c h) (no s i) (yes z j) = let e = three-sum b x p h i j in omega arith
three-sum b x p (no c h) (no s i) (no z j) = absurd (one_of_three b _ x p c s z)
three-sum b x p (yes c h) (yes s i) j = absurd (certain-not-some b _ c s)
three-sum b x p (yes c h) (no s i) (yes z j) = absurd (certain-not-none b _ c z)
three-sum b x p (no c h) (yes s i) (yes z j) = absurd (some-not-none b _ s z)

-- a book without answer sets adds nothing to any of the three
pub without-adds-nothing : (b : Book) (n : ℕ) → ¬ HasOne b
    → HowMany (Certain b) n 0 × HowMany (InSome b) n 0 × HowMany (Clear b) n 0
without-adds-nothing b n f = (
  how_many-none n (λ a c. f c.one),
  how_many-none n (λ a s. let (x, p, e) = s.holds in f (x, p)),
  how_many-none n (λ a z. f z.one),
)

pub totals-sum : (bs : List Book) → ((b : Book) → Memᴰ b bs → HasOne b) → {c s z : ℕ} → Total Certain bs c → Total InSome bs s
    → Total Clear bs z → c + s + z ≡ atoms_of bs
unfolding atoms_of
totals-sum [] f no-books no-books no-books = refl
totals-sum (b ∷ bs) f (and-book h t) (and-book i u) (and-book j v) =
    let (x, p) = f b (Memᴰ.head refl) in
    let e = three-sum b x p h i j in
    let g = totals-sum bs (λ d m. f d (Memᴰ.tail m)) t u v in
    omega arith
