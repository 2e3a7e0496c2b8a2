-- The definitions as the code goes through them: one turn of each loop, which is its definition unfolded once, and each byte of a word.
use Rattle.std.proofs.Common.{◌≡◌, refl, ap, ◌∙◌, Bool, true, false, List, [], ◌∷◌, ℕ, ◌+◌, ◌*◌, ◌/◌, ◌%◌, nat_lt, get_or, set, add-one}
use Rattle.std.specs.Prelude.{◌&&◌}
use Rattle.std.specs.List.{list_all}
use Rattle.meaning.specs.Choice.{ifb, if_lt}
use Rattle.talk.specs.Hexadecimal.{digit_of, all_digits, byte_at, filled, digit_for, spelled}

and-choice : (b c : Bool) → (b && c) ≡ ifb b c false
unfolding ifb
and-choice true c = refl
and-choice false c = refl

pub digits-all : (w : List ℕ) → list_all (λ x. nat_lt (digit_of x) 16) w ≡ all_digits w
unfolding all_digits if_lt
digits-all [] = refl
digits-all (x ∷ w) = ap (λ (c : Bool). nat_lt (digit_of x) 16 && c) (digits-all w) ∙ and-choice _ _

-- x and y are the values of the next two digits
module _ (w out : List ℕ) (i x y : ℕ) (ex : x ≡ digit_of (get_or w (2 * i) 0)) (ey : y ≡ digit_of (get_or w (2 * i + 1) 0)) where
  pub filled-turn : (now : List ℕ) → now ≡ filled i w out → set now i (16 * (x % 16) + y % 16) ≡ filled (i + 1) w out
  unfolding filled byte_at
  filled-turn now e = rw (add-one i, e, ex, ey)

-- x and y are the digits of the next byte
module _ (l out : List ℕ) (i x y : ℕ) (ex : x ≡ digit_for (get_or l i 0 / 16)) (ey : y ≡ digit_for (get_or l i 0 % 16)) where
  pub spelled-turn : (now : List ℕ) → now ≡ spelled i l out → set (set now (2 * i) x) (2 * i + 1) y ≡ spelled (i + 1) l out
  unfolding spelled
  spelled-turn now e = rw (add-one i, e, ex, ey)
