-- A part of the open rule: none of its atoms at first, then one more and one more, at most 16, all of them below the number of names.
use mathlib.Core.Path.{◌≡◌, refl, sym, ◌∙◌}
use mathlib.Core.Logic.{⊎_elim}
use mathlib.Core.Bool.{Bool, true, false}
use mathlib.Core.List.Memᴰ
use mathlib.Core.List.{List, []}
use Prim.Native.Nat.{ℕ, zero, suc, ◌≤◌, ◌<◌}
use native.Mathlib.Decide.{ℕ_discrete}
use native.Mathlib.Omega.{arith}
use lib.ListN.{length, get_or, set, replicate}
use lib.Seq.{get_or-set_same, get_or-set_other}
use borrow.Author.Tests.{le-leb, eq-eqb, ne_eqb}
use Rattle.meaning.specs.declared.AtomNo.{AtomNo}
use Rattle.meaning.specs.Sets.{◌∈◌, ascending}
use Rattle.meaning.specs.Choice.{ifb}
use Rattle.meaning.proofs.Tests.{decided, true-and-false, lt-or-le}
use Rattle.book.specs.Making.{atoms_from, said_of, listed}
use Rattle.book.specs.Writing.{BodyFits, RuleFits, Fits}
use Rattle.book.proofs.AtomsFrom.{atoms-from, atoms-to, atoms-ascending, atoms-same, atoms-none, with, atoms-more}
use Rattle.meaning.specs.Books.{Rule, count}
use Rattle.words.specs.Reading.{no_atoms, crowded}

-- ---- more names

pub body_more : (n m : ℕ) (l : List AtomNo) → n ≤ m → BodyFits n l → BodyFits m l
body_more n m l h f = record { short = f.short; ascends = f.ascends; below = λ a k. omega (arith, f.below a k) }

rule-more : (n m : ℕ) (r : Rule) → n ≤ m → RuleFits n r → RuleFits m r
rule-more n m r h f = record { head = omega (arith, f.head); pos = body_more n m _ h f.pos; neg = body_more n m _ h f.neg }

pub fits_more : (n m : ℕ) (l : List Rule) → n ≤ m → m ≤ 255 → Fits (record { atoms = n; rules = l }) → Fits (record { atoms = m; rules = l })
unfolding count
fits_more n m l h k f = record { atoms = k; rules = f.rules; each = λ r q. rule-more n m r h (f.each r q) }

-- ---- no atom

never : (n i : ℕ) → get_or (replicate n false) i false ≡ false
never zero i = refl
never (suc n) zero = refl
never (suc n) (suc i) = never n i

pub none-listed : listed no_atoms ≡ []
none-listed = atoms-none 0 255 (said_of no_atoms) (λ m h. never 255 m)

pub body-none : (n : ℕ) → BodyFits n (listed no_atoms)
unfolding ascending
body-none n = rw none-listed (record { short = omega arith; ascends = refl; below = λ a k. absurd (Memᴰ.not-nil k) })

-- ---- one atom more

module _ (t : List Bool) (a : ℕ) (h : length t ≡ 255) (l : a < 255) where
  stored-with : (m : ℕ) → said_of (set t a true) m ≡ with a (said_of t) m
  stored-with m = stored (ℕ_discrete m a)
    where
      stored : Dec (m ≡ a) → said_of (set t a true) m ≡ with a (said_of t) m
      stored (yes p) = rw (p, eq-eqb a a refl) (get_or-set_same t a true false (rw h l))
      stored (no q) = rw (ne_eqb a m (λ e. q (sym e))) (get_or-set_other t a m true false q)

  pub listed-with : listed (set t a true) ≡ atoms_from 0 255 (with a (said_of t))
  listed-with = atoms-same 0 255 _ _ (λ m p q. stored-with m)

  -- an atom that is there already adds nothing
  listed-old : a ∈ said_of t → listed (set t a true) ≡ listed t
  listed-old e = atoms-same 0 255 _ _ (λ m p q. stored-with m ∙ old m (ℕ_discrete m a))
    where
      old : (m : ℕ) → Dec (m ≡ a) → with a (said_of t) m ≡ said_of t m
      old m (yes p) = rw (p, eq-eqb a a refl) (sym e)
      old m (no q) = rw (ne_eqb a m (λ f. q (sym f)))

  short-more : crowded t a ≡ false → length (listed t) ≤ 16 → length (listed (set t a true)) ≤ 16
  unfolding crowded ifb
  short-more c s = ⊎_elim
      (λ (e : get_or t a false ≡ true). rw (listed-old e) s)
      (λ (e : get_or t a false ≡ false). let f = rw e at c in rw (listed-with, atoms-more 0 255 a (said_of t) (omega arith) (omega arith) e)
      (⊎_elim (λ k. omega arith) (λ k. true-and-false (le-leb 16 (length (listed t)) k) f) (lt-or-le (length (listed t)) 16)))
      (decided (get_or t a false))

  pub body-set : (n m : ℕ) → n ≤ m → a < m → crowded t a ≡ false → BodyFits n (listed t) → BodyFits m (listed (set t a true))
  body-set n m k g c f = record {
    short = short-more c f.short;
    ascends = atoms-ascending 0 255 (said_of (set t a true));
    below = λ b q. let (_, p, e) = atoms-from 0 255 _ b q in below b p e (ℕ_discrete b.0 a);
  }
    where
      below : (b : AtomNo) → b.0 < 255 → said_of (set t a true) b.0 ≡ true → Dec (b.0 ≡ a) → b.0 < m
      below b p e (yes q) = omega arith
      below b p e (no q) =
          let e' : said_of t b.0 ≡ true = sym (get_or-set_other t a b.0 true false q) ∙ e in
          omega (arith, f.below b (atoms-to 0 255 (said_of t) b (omega arith) p e'))
