-- The place of a byte as the code's search gives it is the definition's.
use Rattle.std.proofs.Common.{◌≡◌, refl, ap, sym, ◌∙◌, List, ℕ, suc, ◌+◌, ◌-◌, ◌≤◌, arith, cond, not, length, take, drop, length-take}
use Rattle.std.specs.Prelude.{Some, None, ◌==◌}
use Rattle.std.specs.List.{position, position_or_len}
use Rattle.std.proofs.lemmas.List.{drop-take}
use Rattle.std.proofs.lemmas.List.Folds.{length-prefix_len}
use Rattle.std.proofs.lemmas.List.Recursion.{is_position_or_len}
use Rattle.std.proofs.lemmas.Grind.{common_steps}
use Rattle.std.proofs.lemmas.Bool.Decides.{nat_tests}
use Rattle.system.specs.Places.{index_of, slice}

-- the bytes from one place up to another, as the code takes them
pub part : (from to : ℕ) (l : List ℕ) → from ≤ to → take (to - from) (drop from l) ≡ slice from to l
unfolding slice
part from to l h =
    let e : from + (to - from) ≡ to = omega arith in
    sym (drop-take from (to - from) l) ∙ ap (λ (n : ℕ). drop from (take n l)) e

module _ (x : ℕ) (l : List ℕ) where
  index-place : index_of x l ≡ position_or_len (λ y. y == x) l
  unfolding index_of
  index-place =
      is_position_or_len (index_of x) (λ y. y == x) refl
      (λ y ys. let e : suc (index_of x ys) ≡ 1 + index_of x ys = omega arith in ap (cond (y == x) 0) e) l

  pub found : (i : ℕ) → position (λ y. y == x) l ≡ Some i → index_of x l ≡ i
  found i e = let p = index-place in grind (arith, common_steps, nat_tests)

  pub nowhere : position (λ y. y == x) l ≡ None → index_of x l ≡ length l
  nowhere e =
      let p = index-place in
      let n = position_or_len (λ y. y == x) l in
      let q : n ≤ length l = omega (arith, length-prefix_len (λ y. not (y == x)) l, length-take n l) in
      grind (arith, common_steps, nat_tests)
