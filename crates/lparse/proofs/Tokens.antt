-- Words and the tokens that they spell: tokens told apart, atoms that are not 0, and what a word that spells a token does where it is due.
use mathlib.Core.Path.{◌≡◌, refl, ap, ◌∙◌}
use mathlib.Core.Bool.{true}
use mathlib.Core.List.{List, [], ◌∷◌, ◌++◌}
use Prim.Native.Nat.{ℕ}
use native.Mathlib.Omega.{arith}
use lib.Dec.{ltb}
use borrow.Author.Tests.{ltb-true, eq-eqb}
use Rattle.std.specs.Prelude.{Some, Ok}
use Rattle.meaning.specs.Sets.{every}
use Rattle.meaning.proofs.Choice.{eq_yes, eq_no}
use Rattle.imported.specs.declared.TextAtom.{TextAtom}
use Rattle.lparse.specs.declared.due.Role.{Role}
use Rattle.lparse.specs.declared.due.Due.{Due}
use Rattle.lparse.specs.declared.due.Due.TheVariants.{Number}
use Rattle.lparse.specs.declared.due.Standing.{Standing}
use Rattle.lparse.specs.declared.due.Said.{Said}
use Rattle.lparse.specs.declared.due.Said.TheVariants.{Atom}
use Rattle.lparse.specs.Words.{Word}
use Rattle.lparse.specs.Reading.{text_atom, on_atom, on_listed, on_number, number_in, on_value, signed, move_of}
use Rattle.lparse.specs.Says.{Token, number, name, exactly, Spelled, as_number, as-name, as_bytes, from_one}
use Rattle.meaning.proofs.Tests.{and_left, and_right}

-- ---- no atom is 0

module _ (a : TextAtom) (l : List TextAtom) where
  pub first_one : every from_one (a ∷ l) ≡ true → (a.0 ≡ 0 → ⊥)
  unfolding every from_one
  first_one e = λ z. omega (arith, ltb-true 0 a.0 (and_left (ltb 0 a.0) (every from_one l) e))

  pub others-one : every from_one (a ∷ l) ≡ true → every from_one l ≡ true
  unfolding every
  others-one e = and_right (from_one a) (every from_one l) e

pub every-left : (l m : List TextAtom) → every from_one (l ++ m) ≡ true → every from_one l ≡ true
unfolding every
every-left [] m e = refl
every-left (a ∷ l) m e = rw (and_left (from_one a) (every from_one (l ++ m)) e) (every-left l m (and_right (from_one a) (every from_one (l ++ m)) e))

pub every-right : (l m : List TextAtom) → every from_one (l ++ m) ≡ true → every from_one m ≡ true
unfolding every
every-right [] m e = e
every-right (a ∷ l) m e = every-right l m (and_right (from_one a) (every from_one (l ++ m)) e)

-- ---- tokens told apart

pub token-one : {x y : Token} {s t : List Token} → x ∷ s ≡ y ∷ t → x ≡ y
token-one e = cc

pub tokens-one : {x y : Token} {s t : List Token} → x ∷ s ≡ y ∷ t → s ≡ t
tokens-one e = cc

-- a word that spells a number has it as value, one that spells a name is it, one that spells bytes has them
pub spelled-value : {w : Word} {n : ℕ} {t : Token} → Spelled w t → t ≡ number n → number_in w.bytes ≡ Some n
spelled-value {n = n} (as_number {n = k} v) e = let g : k ≡ n = cc in v ∙ ap Some g
spelled-value as-name e = let z : ◌≡◌ {A = ℕ} 0 1 = cc in absurd (omega arith)
spelled-value (as_bytes v) e = let z : ◌≡◌ {A = ℕ} 0 1 = cc in absurd (omega arith)

pub spelled-name : {w v : Word} {t : Token} → Spelled w t → t ≡ name v → w ≡ v
spelled-name (as_number v) e = let z : ◌≡◌ {A = ℕ} 0 1 = cc in absurd (omega arith)
spelled-name as-name e = cc
spelled-name (as_bytes v) e = let z : ◌≡◌ {A = ℕ} 0 1 = cc in absurd (omega arith)

pub spelled-bytes : {w : Word} {l : List ℕ} {t : Token} → Spelled w t → t ≡ exactly l → w.bytes ≡ l
spelled-bytes (as_number v) e = let z : ◌≡◌ {A = ℕ} 0 1 = cc in absurd (omega arith)
spelled-bytes as-name e = let z : ◌≡◌ {A = ℕ} 0 1 = cc in absurd (omega arith)
spelled-bytes {l = l} (as_bytes {l = k} v) e = let g : k ≡ l = cc in v ∙ g

-- ---- what a word does that spells a token

module _ (w : Word) where
  pub number-move : (role : Role) (n : ℕ) → number_in w.bytes ≡ Some n → move_of (Number role) w.bytes ≡ on_number role n
  unfolding move_of on_value
  number-move role n v = rw v

  pub atom-move : (role next : Role) (standing : Standing) (n : ℕ) → on_number role n ≡ on_atom n next standing → (n ≡ 0 → ⊥)
      → number_in w.bytes ≡ Some n → move_of (Number role) w.bytes ≡ Ok ((Number next), (Atom (text_atom n) standing))
  unfolding on_atom
  atom-move role next standing n e h v = number-move role n v ∙ e ∙ eq_no _ _ _ _ h

  pub listed-move : (role : Role) (end next : Due) (said : Said) (n : ℕ) → on_number role n ≡ on_listed n end next said → (n ≡ 0 → ⊥)
      → number_in w.bytes ≡ Some n → move_of (Number role) w.bytes ≡ Ok (next, said)
  unfolding on_listed
  listed-move role end next said n e h v = number-move role n v ∙ e ∙ eq_no _ _ _ _ h

pub sign-move : (l : List ℕ) (sign : ℕ) → l ≡ 66 ∷ (sign ∷ []) → signed l sign ≡ true
unfolding signed
sign-move l sign e = rw e (eq_yes _ _ _ _ refl ∙ eq_yes _ _ _ _ refl ∙ eq-eqb sign sign refl)
