-- The value of digits as the code goes through them: one digit more, a byte that ends it, and the end of the word.
use mathlib.Core.Path.{◌≡◌, refl, ◌∙◌}
use mathlib.Core.List.{List}
use Prim.Native.Nat.{ℕ, ◌+◌, ◌*◌, ◌-◌, ◌<◌, ◌≤◌}
use native.Mathlib.Numerals.{add-one}
use lib.ListN.{length, get_or, drop, drop_of_length-le}
use lib.Seq.{drop-cons}
use Rattle.std.specs.Prelude.{Option, Some, None}
use Rattle.meaning.proofs.Choice.{lt_no, lt-either}
use Rattle.decimal.specs.Digits.{value_from}

module _ (most : ℕ) (w : List ℕ) (i v : ℕ) where
  pub value-end : length w ≤ i → value_from most v (drop i w) ≡ Some v
  unfolding value_from
  value-end h = rw (drop_of_length-le w h)

  pub value-next : i < length w → 48 ≤ get_or w i 0 → get_or w i 0 ≤ 57 → 10 * v + (get_or w i 0 - 48) ≤ most
      → value_from most v (drop i w) ≡ value_from most (10 * v + (get_or w i 0 - 48)) (drop (i + 1) w)
  unfolding value_from
  value-next h low high few = rw (add-one i, drop-cons w i 0 h) (lt_no _ _ _ _ low ∙ lt_no _ _ _ _ high ∙ lt_no _ _ _ _ few)

  -- a byte that is no digit, or one that makes the number too large
  pub value-none : i < length w → (48 ≤ get_or w i 0 → get_or w i 0 ≤ 57 → 10 * v + (get_or w i 0 - 48) ≤ most → ⊥)
      → value_from most v (drop i w) ≡ None
  unfolding value_from
  value-none h none = rw (drop-cons w i 0 h)
      (lt-either (λ (r : Option ℕ). r ≡ None) _ 48 _ _ (λ _. refl) (λ low.
      lt-either (λ (r : Option ℕ). r ≡ None) 57 _ _ _ (λ _. refl) (λ high.
      lt-either (λ (r : Option ℕ). r ≡ None) most _ _ _ (λ _. refl) (λ few. absurd (none low high few)))))
