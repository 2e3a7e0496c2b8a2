-- How many of an array's atoms are smaller than one: those that pass the test, counted.
use mathlib.Core.Bool.{Bool, true, false}
use mathlib.Core.List.{List}
use mathlib.Core.Path.{◌≡◌, refl, sym, ◌∙◌}
use Prim.Native.Nat.{ℕ, suc, ◌+◌}
use native.Mathlib.Omega.{arith}
use lib.ListN.{length}
use Rattle.std.proofs.Common.{ltb, cond}
use Rattle.std.specs.List.{filter}
use Rattle.std.proofs.lemmas.List.Sums.{length-filter}
use Rattle.std.proofs.lemmas.List.Recursion.{is_count_by}
use Rattle.meaning.specs.Choice.{ifb}
use Rattle.imported.specs.declared.TextAtom.{TextAtom}
use Rattle.imported.specs.Making.{count_in}
use Rattle.lparse.specs.Forming.{place_of}

one_more : (b : Bool) (n : ℕ) → ifb b (suc n) n ≡ cond b (1 + n) n
unfolding ifb
one_more true n = omega arith
one_more false n = refl

pub counted : (a : TextAtom) (l : List ℕ) → length (filter (λ x. ltb x a.0) l) ≡ place_of l a
unfolding place_of count_in
counted a l =
    length-filter _ l ∙ sym (is_count_by (λ xs. place_of xs a) (λ x. ltb x a.0) refl (λ x xs. one_more (ltb x a.0) (place_of xs a)) l)
