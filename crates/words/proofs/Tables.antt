-- The table of a part as its atoms are read, in order: it lists the atoms so far, and there is room for the next one.
use mathlib.Core.Path.{◌≡◌, refl, ap, ◌∙◌}
use mathlib.Core.Logic.{⊎_elim}
use mathlib.Core.Bool.{Bool, true, false}
use mathlib.Core.List.Memᴰ
use mathlib.Core.List.{List, [], ◌∷◌, ◌++◌, Memᴰ}
use Prim.Native.Nat.{ℕ, ◌≤◌, ◌<◌}
use native.Mathlib.Omega.{arith}
use lib.ListN.{length, set, length-append, length-set, get_or-eq_default}
use borrow.Author.Tests.{lt-leb}
use Rattle.meaning.specs.declared.AtomNo.{AtomNo}
use Rattle.meaning.specs.Sets.{ascending}
use Rattle.meaning.specs.Books.{atom_no}
use Rattle.meaning.proofs.Choice.{b-no}
use Rattle.meaning.proofs.Tests.{lt-or-le, refuted, true-and-false}
use Rattle.book.specs.Making.{said_of, listed}
use Rattle.book.specs.Writing.{atom_bytes, BodyFits}
use Rattle.book.proofs.Parts.{ascends-first, ascends-after}
use Rattle.book.proofs.AtomsFrom.{atoms-to, atoms-last}
use Rattle.words.specs.Reading.{no_atoms, crowded}
use Rattle.words.proofs.Parts.{none-listed, listed-with}

pub record Table (t : List Bool) (l : List AtomNo) : Type 0 where
  pub long : length t ≡ 255
  pub lists : listed t ≡ l

pub table_none : Table no_atoms []
table_none = record { long = refl; lists = none-listed }

-- in a list that ascends the earlier atoms are below the later ones
earlier-below : (k : List AtomNo) (a : AtomNo) (more : List AtomNo) → ascending (atom_bytes (k ++ (a ∷ more))) ≡ true → (c : AtomNo)
    → Memᴰ c k → c.0 < a.0
earlier-below [] a more e c m = absurd (Memᴰ.not-nil m)
earlier-below (x ∷ k) a more e c m = ⊎_elim
    (λ (p : c ≡ x). rw p (ascends-first x.0 (atom_bytes (k ++ (a ∷ more))) e a.0
    (Memᴰ.map (λ (z : AtomNo). z.0) (Memᴰ.append_right k (Memᴰ.head refl)))))
    (λ j. earlier-below k a more (ascends-after x.0 (atom_bytes (k ++ (a ∷ more))) e) c j)
    (Memᴰ.cases_cons m)

module _ (n : ℕ) (small : n ≤ 255) (k : List AtomNo) (a : AtomNo) (more : List AtomNo) (f : BodyFits n (k ++ (a ∷ more))) where
  pub next-below : a.0 < n
  next-below = f.below a (Memᴰ.append_right k (Memᴰ.head refl))

  module _ (t : List Bool) (w : Table t k) where
    above : (m : ℕ) → a.0 ≤ m → said_of t m ≡ false
    above m h = refuted (λ (e : said_of t m ≡ true). ⊎_elim
        (λ p. let c = rw w.lists at (atoms-to 0 255 (said_of t) (atom_no m) (omega arith) (omega arith) e) in
        absurd (omega (arith, earlier-below k a more f.ascends (atom_no m) c)))
        (λ p. true-and-false e (get_or-eq_default t false (rw w.long p)))
        (lt-or-le m 255))

    pub table_more : Table (set t a.0 true) (k ++ (a ∷ []))
    table_more =
        let b = next-below in
        record {
          long = simp length-set w.long;
          lists = listed-with t a.0 w.long (omega arith)
              ∙ atoms-last 0 255 a.0 (said_of t) above (omega arith) (omega arith) ∙ ap (λ l. l ++ (a ∷ [])) w.lists;
        }

    pub table-room : crowded t a.0 ≡ false
    unfolding crowded
    table-room =
        b-no _ _ _ (above a.0 (omega arith))
        ∙ lt-leb 16 (length (listed t)) (omega (arith, ap length w.lists, f.short, length-append k (a ∷ more)))
