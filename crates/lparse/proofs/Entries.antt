-- The rules for entries of the lists, as tables: a table in which one or two atoms were placed lists these.
use mathlib.Core.Path.{◌≡◌, refl, ap, sym, ◌∙◌}
use mathlib.Core.Bool.{Bool, true, false}
use mathlib.Core.List.Memᴰ
use mathlib.Core.List.{List, [], ◌∷◌}
use mathlib.Core.Logic.{◌⊎◌, ⊎_elim, inl, inr}
use Prim.Native.Nat.{ℕ, zero, suc, ◌<◌, ◌≤◌}
use native.Mathlib.Omega.{arith}
use lib.Dec.{eqb}
use lib.ListN.{get_or, set, replicate, length-set, length-replicate}
use lib.Seq.{get_or-set_same, get_or-set_other}
use borrow.Author.Tests.{lt-ltb, eqb-true, eqb-false}
use Rattle.meaning.specs.declared.AtomNo.{AtomNo}
use Rattle.meaning.specs.Sets.{ascending}
use Rattle.meaning.specs.Books.{atom_no}
use Rattle.book.specs.declared.making.Making.{Making}
use Rattle.book.specs.Making.{listed, rule_by, Adds}
use Rattle.book.proofs.AtomsFrom.{atoms-of, atoms-none}
use Rattle.book.proofs.Made.{over, adds-passed}
use Rattle.lparse.specs.declared.due.Standing.{Standing}
use Rattle.lparse.specs.declared.due.Standing.TheVariants.{Head, Free, Negative, Positive, Table, Plus, Minus}
use Rattle.lparse.specs.Opened.{capped, no_atoms}
use Rattle.lparse.specs.Forming.{entry_rules}
use Rattle.lparse.proofs.Capped.{capped-real, capped-least}

-- ---- what is in a table

pub none_in : (n i : ℕ) → get_or (replicate n false) i false ≡ false
none_in zero i = refl
none_in (suc n) zero = refl
none_in (suc n) (suc i) = none_in n i

in-placed : (t : List Bool) (k i : ℕ) → get_or (set t k true) i false ≡ true → (i ≡ k) ⊎ (get_or t i false ≡ true)
in-placed t k i e = go (eqb i k) refl
  where
    go : (b : Bool) → eqb i k ≡ b → (i ≡ k) ⊎ (get_or t i false ≡ true)
    go true f = inl (eqb-true i k f)
    go false f = inr (sym (get_or-set_other t k i true false (eqb-false i k f)) ∙ e)

same-atom : (a : AtomNo) (n : ℕ) → a.0 ≡ n → a ≡ atom_no n
same-atom a n e = ap atom_no e

nowhere : (i : ℕ) → get_or no_atoms i false ≡ true → ⊥
nowhere i e = let f = none_in 255 i in let z : ◌≡◌ {A = ℕ} 0 1 = cc in omega arith

pub none-listed : listed no_atoms ≡ []
none-listed = atoms-none 0 255 _ (λ m h. none_in 255 m)

pub one-listed : (n : ℕ) → n < 255 → listed (set no_atoms n true) ≡ atom_no n ∷ []
unfolding ascending
one-listed n h =
    atoms-of 0 255 _ (atom_no n ∷ []) refl
    (λ a m. ⊎_elim
    (λ e. rw e (omega arith, omega arith, get_or-set_same no_atoms n true false (omega (arith, length-replicate 255 false))))
    (λ g. absurd (Memᴰ.not-nil g)) (Memᴰ.cases_cons m))
    (λ a e. ⊎_elim (λ g. Memᴰ.head (same-atom a n g)) (λ g. absurd (nowhere a.0 g)) (in-placed no_atoms n a.0 e))

two-listed : (n h : ℕ) → n < h → h < 255 → listed (set (set no_atoms n true) h true) ≡ atom_no n ∷ (atom_no h ∷ [])
unfolding ascending
two-listed n h f k =
    let t = set no_atoms n true in
    let long = length-set no_atoms n true ∙ length-replicate 255 false in
    atoms-of 0 255 _ (atom_no n ∷ (atom_no h ∷ [])) (rw (lt-ltb n h f))
    (λ a m. ⊎_elim
    (λ e. rw e (
      omega arith,
      omega arith,
      get_or-set_other t h n true false (λ g. omega arith) ∙ get_or-set_same no_atoms n true false (omega (arith, length-replicate 255 false)),
    ))
    (λ g. ⊎_elim (λ e. rw e (omega arith, omega arith, get_or-set_same t h true false (omega (arith, long))))
    (λ z. absurd (Memᴰ.not-nil z)) (Memᴰ.cases_cons g)) (Memᴰ.cases_cons m))
    (λ a e. ⊎_elim (λ g. Memᴰ.tail (Memᴰ.head (same-atom a h g)))
    (λ g. ⊎_elim (λ i. Memᴰ.head (same-atom a n i)) (λ i. absurd (nowhere a.0 i)) (in-placed no_atoms n a.0 g))
    (in-placed t h a.0 e))

-- ---- the rules

-- the helper is k, told as h
module _ (m : Making) (d : List ℕ) (n k : ℕ) {h : ℕ} (e : h ≡ capped k) (full : 255 ≤ h) where
  beyond : 255 ≤ k
  beyond = capped-least k (rw e at full)

  pub plus-passed : Adds (entry_rules Plus k n) m d (over m) d
  unfolding entry_rules
  plus-passed = adds-passed _ m d (λ s. omega (arith, s.head, beyond))

  pub minus-passed : Adds (entry_rules Minus k n) m d (over m) d
  unfolding entry_rules
  minus-passed = adds-passed _ m d (λ s. omega (arith, s.head, beyond))

module _ (n k : ℕ) {h : ℕ} (e : h ≡ capped k) (l : h < 255) (f : n < k) {m r : Making} {a b : List ℕ} where
  pub plus-added : {one both : List Bool} → one ≡ set no_atoms n true → both ≡ set one h true
      → Adds (rule_by (atom_no h) no_atoms both ∷ []) m a r b → Adds (entry_rules Plus k n) m a r b
  unfolding entry_rules
  plus-added i j adds = let z : h ≡ k = capped-real k e (omega arith) in
      rw (← z) (rw (j, i, none-listed, two-listed n h (omega arith) l) at adds)

  pub minus-added : {one helper : List Bool} → one ≡ set no_atoms n true → helper ≡ set no_atoms h true
      → Adds (rule_by (atom_no h) one helper ∷ []) m a r b → Adds (entry_rules Minus k n) m a r b
  unfolding entry_rules
  minus-added i j adds = let z : h ≡ k = capped-real k e (omega arith) in
      rw (← z) (rw (j, i, one-listed n (omega arith), one-listed h l) at adds)

-- an atom that stands elsewhere adds no rule
pub no-entry : (s : Standing) (k n : ℕ) → (s ≡ Plus → ⊥) → (s ≡ Minus → ⊥) → entry_rules s k n ≡ []
unfolding entry_rules
no-entry Head k n p q = refl
no-entry Free k n p q = refl
no-entry Negative k n p q = refl
no-entry Positive k n p q = refl
no-entry Table k n p q = refl
no-entry Plus k n p q = absurd (p refl)
no-entry Minus k n p q = absurd (q refl)
