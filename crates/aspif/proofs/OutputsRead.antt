-- The output lines of a text, written and then read, and read and then written. Reading takes as many lines as there are: what follows them is
-- none.
use mathlib.Core.Path.{◌≡◌, refl, ◌∙◌, ap}
use mathlib.Core.List.{List, ◌++◌, append_assoc}
use Prim.Native.Nat.{ℕ, zero, suc, ◌+◌, ◌-◌, ◌<◌, ◌≤◌}
use Prim.{Unit}
use native.Mathlib.Nat.{add-zero, zero-add, add-suc, suc-add}
use native.Mathlib.Omega.{arith}
use lib.ListN.{length, length-append}
use Rattle.aspif.specs.Text.{output_line, output_lines}
use Rattle.aspif.specs.Reading.{Got, got, outside, on_got, skip, outputs_in}
use Rattle.aspif.proofs.Pieces.{on-got, on-outside, skip-there, skip-back}

pub outputs-long : (k n : ℕ) → n ≤ length (output_lines k n)
unfolding output_lines output_line
outputs-long k zero = omega arith
outputs-long k (suc n) = simp length-append (omega (arith, outputs-long (suc k) n))

module _ (rest : List ℕ) (stops : (k : ℕ) → skip (output_line k) rest ≡ outside) where
  outputs-on : (f k n : ℕ) → n < f → outputs_in f k (output_lines k n ++ rest) ≡ got (k + n) rest
  unfolding outputs_in output_lines
  outputs-on zero k n h = absurd (omega arith)
  outputs-on (suc f) k zero h = on-outside _ _ (stops k) ∙ rw add-zero
  outputs-on (suc f) k (suc n) h =
      rw append_assoc (on-got _ _ (skip-there (output_line k) (output_lines (suc k) n ++ rest)) ∙ outputs-on f (suc k) n (omega arith)
      ∙ rw (add-suc, suc-add))

  pub outputs-there : (n : ℕ) → outputs_in (suc (length (output_lines 0 n ++ rest))) 0 (output_lines 0 n ++ rest) ≡ got n rest
  outputs-there n = outputs-on _ 0 n (simp length-append (omega (arith, outputs-long 0 n))) ∙ rw zero-add

pub outputs-back : (f k : ℕ) (l : List ℕ) (x : ℕ) (rest : List ℕ) → outputs_in f k l ≡ got x rest
    → (k ≤ x) × (l ≡ output_lines k (x - k) ++ rest)
unfolding on_got outputs_in output_lines
outputs-back zero k l x rest e =
    let h : k ≡ x = cc in let g : x - k ≡ 0 = omega arith in (omega arith, rw g cc)
outputs-back (suc f) k l x rest e = by-line (outputs-back f (suc k)) (skip (output_line k) l) refl e
  where
    by-line : ((j : List ℕ) (y : ℕ) (r : List ℕ) → outputs_in f (suc k) j ≡ got y r → (suc k ≤ y) × (j ≡ output_lines (suc k) (y - suc k) ++ r))
        → (z : Got (Unit {0})) → skip (output_line k) l ≡ z → on_got z (got k l) (λ u j. outputs_in f (suc k) j) ≡ got x rest
        → (k ≤ x) × (l ≡ output_lines k (x - k) ++ rest)
    by-line below outside i e = let h : k ≡ x = cc in let g : x - k ≡ 0 = omega arith in (omega arith, rw g cc)
    by-line below (got u j) i e =
        let (h, b) = below j x rest e in
        let g : x - k ≡ suc (x - suc k) = omega arith in
        (omega arith, skip-back (output_line k) l j u i ∙ rw (g, append_assoc) (ap (λ m. output_line k ++ m) b))
