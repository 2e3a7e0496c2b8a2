-- What the code counts: the numbers of the rules that pass a test, and the pairs of bytes that are alike up to the first that differs.
use mathlib.Core.Bool.{Bool, cond}
use mathlib.Core.List.{List, [], ◌∷◌}
use mathlib.Core.Path.{◌≡◌, refl, ap, sym, ◌∙◌}
use Prim.Native.Nat.{ℕ, zero, suc, ◌+◌}
use native.Mathlib.Omega.{arith}
use lib.ListN.{length, get_or, drop, drop_of_length-le}
use Rattle.std.specs.List.{filter, count_by, range_with_len, zip, prefix_len, common_prefix_len}
use Rattle.std.proofs.lemmas.List.Sums.{length-filter, sum_by-cons, sum_by-drop_more}

-- ---- the elements that pass, counted by their numbers

module _ {X : Type 0} (p : X → Bool) (d : X) (all : List X) where
  counted-from : (n k : ℕ) → k + n ≡ length all → count_by (λ i. p (get_or all i d)) (range_with_len k n) ≡ count_by p (drop k all)
  counted-from zero k e = ap (count_by p) (sym (drop_of_length-le all {i = k} (omega arith)))
  counted-from (suc n) k e =
      sum_by-cons (λ i. cond (p (get_or all i d)) 1 0) k (range_with_len (k + 1) n)
      ∙ ap (λ (m : ℕ). cond (p (get_or all k d)) 1 0 + m) (counted-from n (k + 1) (omega arith))
      ∙ sym (sum_by-drop_more (λ x. cond (p x) 1 0) all k d (omega arith))

  pub counted : (n : ℕ) → n ≡ length all → length (filter (λ i. p (get_or all i d)) (range_with_len 0 n)) ≡ length (filter p all)
  counted n e = length-filter _ (range_with_len 0 n) ∙ counted-from n 0 (omega (arith, e)) ∙ sym (length-filter p all)

-- ---- the pairs that pass, up to the first that doesn't

pub paired : {X Y : Type 0} (e : X → Y → Bool) (xs : List X) (ys : List Y) → prefix_len (λ p. e p.0 p.1) (zip xs ys) ≡ common_prefix_len e xs ys
paired e [] ys = refl
paired e (x ∷ xs) [] = refl
paired e (x ∷ xs) (y ∷ ys) = ap (λ (n : ℕ). cond (e x y) (1 + n) 0) (paired e xs ys)
