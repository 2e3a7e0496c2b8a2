-- How many atoms have a property (request 13, Q3): the number is determined, and a test that agrees with the property tells it; and the same
-- of the sum over several books.
use Rattle.std.proofs.Common.{◌≡◌, ℕ, zero, suc, ◌+◌, ◌<◌, ◌≤◌, ◌↔◌, List, [], ◌∷◌, ◌++◌, refl, ap, add-zero, add_assoc, lt-suc_self, zero-add, arith}
use Rattle.meaning.specs.declared.AtomNo.{AtomNo}
use Rattle.meaning.specs.Sets.{Set, ◌∈◌}
use Rattle.meaning.specs.Books.{atom_no, Book}
use Rattle.meaning.proofs.Tests.{true-and-false}
use Rattle.meaning.proofs.Choice.{b-either}
use Rattle.counting.specs.Counts.{HowMany, none, yes, no, Total, no-books, and-book}
use Rattle.counting.specs.Totals.{number_below, atoms_of}

module _ {P : AtomNo → Type 0} where
  pub how_many-one : {n m k : ℕ} → HowMany P n m → HowMany P n k → m ≡ k
  how_many-one none none = refl
  how_many-one (yes p h) (yes q i) = ap suc (how_many-one h i)
  how_many-one (yes p h) (no q i) = absurd (q p)
  how_many-one (no p h) (yes q i) = absurd (p q)
  how_many-one (no p h) (no q i) = how_many-one h i

  pub how_many-told : (n : ℕ) (s : Set ℕ) → ((i : ℕ) → i < n → P (atom_no i) ↔ (i ∈ s)) → HowMany P n (number_below n s)
  unfolding number_below
  how_many-told zero s f = none
  how_many-told (suc n) s f =
      let (there, back) = f n (lt-suc_self n) in
      let h = how_many-told n s (λ i k. f i (omega arith)) in
      b-either (HowMany P (suc n)) (s n) _ _ (λ e. yes (back e) h) (λ e. no (λ p. true-and-false (there p) e) h)

  pub how_many-at-most : {n m : ℕ} → HowMany P n m → m ≤ n
  how_many-at-most none = omega arith
  how_many-at-most (yes p h) = omega (arith, how_many-at-most h)
  how_many-at-most (no p h) = omega (arith, how_many-at-most h)

  pub how_many-none : (n : ℕ) → ((a : AtomNo) → ¬ P a) → HowMany P n 0
  how_many-none zero f = none
  how_many-none (suc n) f = no (f (atom_no n)) (how_many-none n f)

module _ {P : Book → AtomNo → Type 0} where
  pub total-one : {bs : List Book} {m n : ℕ} → Total P bs m → Total P bs n → m ≡ n
  total-one no-books no-books = refl
  total-one (and-book h t) (and-book i u) = let e = how_many-one h i in let f = total-one t u in omega arith

  pub total-append : {bs cs : List Book} {m n : ℕ} → Total P bs m → Total P cs n → Total P (bs ++ cs) (m + n)
  total-append no-books u = rw zero-add u
  total-append (and-book h t) u = rw add_assoc (and-book h (total-append t u))

  pub total_at_most : {bs : List Book} {m : ℕ} → Total P bs m → m ≤ atoms_of bs
  unfolding atoms_of
  total_at_most no-books = omega arith
  total_at_most (and-book h t) = omega (arith, how_many-at-most h, total_at_most t)

  -- one more book
  pub total-with : {bs : List Book} {b : Book} {m n : ℕ} → Total P bs m → HowMany (P b) b.atoms n → Total P (bs ++ (b ∷ [])) (m + n)
  total-with {b = b} {n = n} t h = total-append t (let u : Total P (b ∷ []) (n + 0) = and-book h no-books in rw (add-zero n) at u)
