-- Rows of a set of atoms, joined turn by turn (src/propagation.rt), and what they come to in a book: the rules that have an atom of the set
-- in that part of their body.
use mathlib.Core.Path.{◌≡◌, refl, sym, ap, ◌∙◌, fun_ext}
use mathlib.Core.Logic.{⊎_elim}
use mathlib.Core.Bool.{Bool, true, ◌&&◌, ◌||◌, or-false, true≢false}
use mathlib.Core.List.{List, [], ◌∷◌, Memᴰ}
use Prim.Native.Nat.{ℕ, zero, suc, ◌+◌, ◌≤◌, ◌<◌}
use native.Mathlib.Nat.{le_of_suc-le-suc}
use native.Mathlib.Decide.{ℕ_discrete, dec_lt}
use native.Mathlib.Omega.{arith}
use lib.Dec.{ltb}
use lib.ListN.{length, get_or}
use borrow.Author.Tests.{lt-ltb}
use Rattle.meaning.specs.declared.AtomNo.{AtomNo}
use Rattle.meaning.specs.declared.RuleNo.{RuleNo}
use Rattle.meaning.specs.Sets.{Set, some}
use Rattle.meaning.specs.Books.{Rule, Book, atom_no, same_atom, rule, count, InBook}
use Rattle.meaning.specs.Bits.{plus, members, NextIn}
use Rattle.meaning.proofs.Tests.{both, and_left, and_right, either, or_left, or_right, same, true-and-false, refuted}
use Rattle.meaning.proofs.Sets.{some_one, some-by, below-some, below_one}
use Rattle.meaning.proofs.Rules.{same-atom, atom-same, in-book-or-not}
use Rattle.meaning.proofs.Four.{members-small}
use Rattle.meaning.proofs.Next.{next-further}
use Rattle.book.specs.RuleRows.{row, sets, RuleRows}
use Rattle.closing.specs.News.{atom_set, rows_below}

-- ---- turn by turn

-- a row by value, joined
pub row-joined : (t v w : List ℕ) (k : ℕ) {x : Set ℕ} → w ≡ row t k → x ≡ plus (members v) (members w) → x ≡ plus (members v) (sets t k)
unfolding sets
row-joined t v w k e f = f ∙ ap (λ (u : List ℕ). plus (members v) (members u)) e

module _ (t : List ℕ) (first : ℕ) (s v : Set ℕ) where
  pub rows_start : (a : ℕ) → NextIn s 0 a → v ≡ plus v (rows_below t first s a)
  unfolding rows_below
  rows_start a p = fun_ext (λ r.
      let z = refuted (λ e. let (i, l, m) = below-some a (λ i. s i && sets t (first + i) r) e in
      true-and-false (and_left (s i) _ m) (p.passed i (omega arith) l)) in
      sym (ap (λ (x : Bool). v r || x) z ∙ or-false (v r)))

  pub rows-turn : (from a m : ℕ) {w w' : Set ℕ} → NextIn s from a → a < 256 → NextIn s (a + 1) m
      → w ≡ plus v (rows_below t first s a) → w' ≡ plus w (sets t (first + a)) → w' ≡ plus v (rows_below t first s m)
  unfolding rows_below
  rows-turn from a m p low q e f = f ∙ ap (λ (w : Set ℕ). plus w (sets t (first + a))) e ∙ fun_ext (λ r. same _ _
      (λ g. ⊎_elim
      (λ g. ⊎_elim (λ g. or_left _ g)
      (λ g. let (i, l, n) = below-some a (λ i. s i && sets t (first + i) r) g in
      or_right (v r) (below_one m (λ i. s i && sets t (first + i) r) i (omega (arith, further)) n)) (either (v r) _ g))
      (λ g. or_right (v r) (below_one m (λ i. s i && sets t (first + i) r) a further (both (p.within low).1 g)))
      (either (v r || below a r) _ g))
      (λ g. ⊎_elim (λ g. or_left _ (or_left _ g))
      (λ g. let (i, l, n) = below-some m (λ i. s i && sets t (first + i) r) g in here r i l n) (either (v r) _ g)))
    where
      further : a < m
      further = next-further s a m q low

      below : ℕ → Set ℕ
      below n r = rows_below t first s n r

      here : (r i : ℕ) → i < m → (s i && sets t (first + i) r) ≡ true → ((v r || below a r) || sets t (first + a) r) ≡ true
      here r i l n = elim (dec_lt i a) [
        | yes k ↦ or_left _ (or_right (v r) (below_one a (λ i. s i && sets t (first + i) r) i k n))
        | no k ↦ elim (ℕ_discrete i a) [
          | yes e ↦ or_right (v r || below a r) (ap (λ (j : ℕ). sets t (first + j) r) (sym e) ∙ and_right (s i) _ n)
          | no d ↦ true-and-false (and_left (s i) _ n) (q.passed i (omega arith) l)
        ]
      ]

-- ---- in a book

-- what is in a body is in the body of a rule of the book
get_d-far : (l : List Rule) (n : ℕ) (d : Rule) → length l ≤ n → get_or l n d ≡ d
get_d-far [] n d h = refl
get_d-far (x ∷ l) zero d h = absurd (omega arith)
get_d-far (x ∷ l) (suc n) d h = get_d-far l n d (le_of_suc-le-suc h)

module _ (b : Book) (r : RuleNo) where
  pub outside : count b ≤ r.0 → rule b r ≡ record { head = atom_no 0; pos = []; neg = [] }
  unfolding rule count
  outside h = get_d-far b.rules r.0 _ h

  in-book : (part : Rule → List AtomNo) → part (record { head = atom_no 0; pos = []; neg = [] }) ≡ [] → (a : AtomNo) → Memᴰ a (part (rule b r))
      → InBook b r
  unfolding some
  in-book part e a m = ⊎_elim (λ h. h) (λ h. let z = some_one (λ x. true) (part (rule b r)) a m refl in absurd (true≢false (sym z ∙ ap (λ (p : Rule). some (λ x. true) (part p)) (outside h) ∙ ap (some (λ x. true)) e))) (in-book-or-not b r)

module _ (b : Book) (t : List ℕ) (k : RuleRows b t) (w : List ℕ) (r : RuleNo) where
  -- rows of one kind
  rows-some : (first : ℕ) (part : Rule → List AtomNo) → part (record { head = atom_no 0; pos = []; neg = [] }) ≡ []
      → ((a : ℕ) → a < 256 → sets t (first + a) r.0 ≡ (ltb r.0 (count b) && some (same_atom (atom_no a)) (part (rule b r))))
      → rows_below t first (members w) 256 r.0 ≡ some (atom_set w) (part (rule b r))
  unfolding rows_below
  rows-some first part e f = same _ _
      (λ g. let (a, l, m) = below-some 256 (λ a. members w a && sets t (first + a) r.0) g in
      let (x, i, q) = some-by _ _ (and_right (ltb r.0 (count b)) _ (sym (f a l) ∙ and_right (members w a) _ m)) in
      some_one (atom_set w) _ x i (ap (λ (y : AtomNo). members w y.0) (sym (same-atom q)) ∙ and_left (members w a) _ m))
      (λ g. let (x, i, m) = some-by (atom_set w) _ g in
      let l = members-small w x.0 m in
      below_one 256 (λ a. members w a && sets t (first + a) r.0) x.0 l
      (both m (f x.0 l ∙ both (lt-ltb r.0 (count b) (in-book b r part e x i)) (some_one (same_atom (atom_no x.0)) _ x i (atom-same refl)))))

  pub rows-neg : rows_below t 512 (members w) 256 r.0 ≡ some (atom_set w) (rule b r).neg
  rows-neg = rows-some 512 (λ p. p.neg) refl (λ a l. ap (λ (u : Set ℕ). u r.0) (k.neg a l))

  pub rows-pos : rows_below t 256 (members w) 256 r.0 ≡ some (atom_set w) (rule b r).pos
  rows-pos = rows-some 256 (λ p. p.pos) refl (λ a l. ap (λ (u : Set ℕ). u r.0) (k.pos a l))
