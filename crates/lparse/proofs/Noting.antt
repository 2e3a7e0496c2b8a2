-- One atom more in the array of a text's different atoms, if it is not there yet, and the copy to the array lent (specs/Collect).
use mathlib.Core.Path.{◌≡◌, refl, ap, sym, ◌∙◌}
use mathlib.Core.Bool.{Bool, true, false}
use mathlib.Core.List.{List, [], ◌∷◌, ◌++◌, map}
use Prim.Native.Nat.{ℕ, suc, ◌+◌, ◌≤◌, ◌<◌}
use native.Mathlib.Numerals.{add-one}
use native.Mathlib.Omega.{arith}
use lib.ListN.{length, take, drop, set, length-append, length-set}
use lib.Seq.{take-suc-set}
use lib.Dec.{eqb}
use borrow.Author.Tests.{eq-eqb, eqb-true}
use Rattle.std.specs.List.{list_any}
use Rattle.meaning.specs.Sets.{some}
use Rattle.meaning.proofs.Tests.{same}
use Rattle.meaning.specs.Told.{refused, success, Answered}
use Rattle.meaning.proofs.Choice.{b-yes, b-no, b-either, lt_yes, lt_no}
use Rattle.imported.specs.Text.{same_text}
use Rattle.imported.specs.Making.{add_new, distinct_from}
use Rattle.imported.specs.declared.TextAtom.{TextAtom}
use Rattle.lparse.specs.Reading.{text_atom}
use Rattle.lparse.specs.Collect.{numbers_of, collected, Stands, whole, passed, Notes}

-- ---- one atom in the array

pub numbers-atoms : (l : List TextAtom) → map text_atom (numbers_of l) ≡ l
unfolding numbers_of
numbers-atoms [] = refl
numbers-atoms (a ∷ l) = ap (λ m. a ∷ m) (numbers-atoms l)

pub numbers-length : (l : List TextAtom) → length (numbers_of l) ≡ length l
unfolding numbers_of
numbers-length [] = refl
numbers-length (a ∷ l) = ap suc (numbers-length l)

numbers-append : (l m : List TextAtom) → numbers_of (l ++ m) ≡ numbers_of l ++ numbers_of m
unfolding numbers_of
numbers-append [] m = refl
numbers-append (a ∷ l) m = ap (λ k. a.0 ∷ k) (numbers-append l m)

module _ (l : List TextAtom) (a : TextAtom) where
  add-old : some (same_text a) l ≡ true → add_new l a ≡ l
  unfolding add_new
  add-old e = b-yes _ _ _ e

  add-new : some (same_text a) l ≡ false → add_new l a ≡ l ++ (a ∷ [])
  unfolding add_new
  add-new e = b-no _ _ _ e

  add-longer : length l ≤ length (add_new l a)
  unfolding add_new
  add-longer =
      b-either (λ m. length l ≤ length m) (some (same_text a) l) l (l ++ (a ∷ [])) (λ e. omega arith)
      (λ e. omega (arith, length-append l (a ∷ [])))

-- the first n of the array are l, if n says so
pub stands-long : {l : List TextAtom} {n : ℕ} {found : List ℕ} → Stands l n found → length found ≡ 255
stands-long (whole g e h f) = g
stands-long (passed g e h) = g

-- the search for an atom among the first
eqb-turned : (m n : ℕ) → eqb m n ≡ eqb n m
eqb-turned m n = same _ _ (λ e. eq-eqb n m (sym (eqb-true m n e))) (λ e. eq-eqb m n (sym (eqb-true n m e)))

any-some : (a : TextAtom) (l : List ℕ) → list_any (λ y. eqb y a.0) l ≡ some (same_text a) (map text_atom l)
unfolding same_text some
any-some a [] = refl
any-some a (x ∷ l) = rw (eqb-turned x a.0, any-some a l) refl

module _ (a : TextAtom) (l : List ℕ) {r : Bool} (e : r ≡ list_any (λ y. eqb y a.0) l) where
  pub stands-there : r ≡ true → some (same_text a) (map text_atom l) ≡ true
  stands-there h = sym (any-some a l) ∙ sym e ∙ h

  pub stands-not : r ≡ false → some (same_text a) (map text_atom l) ≡ false
  stands-not h = sym (any-some a l) ∙ sym e ∙ h

module _ (a : TextAtom) (n : ℕ) (found : List ℕ) where
  pub note-passed : 255 < n → Notes (a ∷ []) n found n found
  unfolding distinct_from
  note-passed h = record { behind = still }
    where
      still : (l : List TextAtom) → Stands l n found → Stands (distinct_from l (a ∷ [])) n found
      still l (whole g e k f) = absurd (omega arith)
      still l (passed g e k) = passed g e (omega (arith, add-longer l a))

  pub note-old : n ≤ 255 → some (same_text a) (map text_atom (take n found)) ≡ true → Notes (a ∷ []) n found n found
  unfolding distinct_from
  note-old h o = record { behind = still }
    where
      still : (l : List TextAtom) → Stands l n found → Stands (distinct_from l (a ∷ [])) n found
      still l (whole g e k f) = rw (add-old l a (rw (f, numbers-atoms l) at o)) (whole g e k f)
      still l (passed g e k) = absurd (omega arith)

  pub note-full : n ≡ 255 → some (same_text a) (map text_atom (take n found)) ≡ false → Notes (a ∷ []) n found 256 found
  unfolding distinct_from
  note-full h o = record { behind = over }
    where
      over : (l : List TextAtom) → Stands l n found → Stands (distinct_from l (a ∷ [])) 256 found
      over l (whole g e k f) =
          rw (add-new l a (rw (f, numbers-atoms l) at o)) (passed g refl (omega (arith, length-append l (a ∷ []))))
      over l (passed g e k) = absurd (omega arith)

  pub note-new : n < 255 → some (same_text a) (map text_atom (take n found)) ≡ false
      → Notes (a ∷ []) n found (n + 1) (set found n a.0)
  unfolding distinct_from numbers_of
  note-new h o = record { behind = more }
    where
      more : (l : List TextAtom) → Stands l n found → Stands (distinct_from l (a ∷ [])) (n + 1) (set found n a.0)
      more l (whole g e k f) =
          rw (add-new l a (rw (f, numbers-atoms l) at o))
          (whole (length-set found n a.0 ∙ g) (omega (arith, length-append l (a ∷ []))) (omega arith)
          (rw (add-one n, take-suc-set found n a.0 (omega arith), f) (sym (numbers-append l (a ∷ [])))))
      more l (passed g e k) = absurd (omega arith)

pub note-silent : (n : ℕ) (found : List ℕ) → Notes [] n found n found
unfolding distinct_from
note-silent n found = record { behind = λ l s. s }

-- ---- the copy

module _ (seen : List ℕ) {l : List TextAtom} {n : ℕ} {found : List ℕ} where
  pub handed-many : Stands l n found → 255 < n → ◌≡◌ {A = Answered ℕ} (record { told = refused 32; buffer = seen }) (collected l seen)
  unfolding collected
  handed-many (whole g e h f) k = absurd (omega arith)
  handed-many (passed g e h) k = sym (lt_yes _ _ _ _ h)

  pub handed : Stands l n found → n ≤ 255 → {b : List ℕ} → b ≡ take n found ++ drop n seen
      → ◌≡◌ {A = Answered ℕ} (record { told = success n; buffer = b }) (collected l seen)
  unfolding collected
  handed (whole g e h f) k c = rw (c, f, e) (sym (lt_no _ _ _ _ (omega arith)))
  handed (passed g e h) k c = absurd (omega arith)
