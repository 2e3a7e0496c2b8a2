-- Numbers written in decimal digits, up to a bound.
--
--   value_from most v l   the number whose first digits say v and whose other digits are l, if it is at most `most`
--   plain_of most l       the number that a word says in the fewest digits, if it is at most `most`
use Rattle.std.specs.Prelude.{List, [], ◌∷◌, ℕ, ◌+◌, ◌*◌, ◌-◌, length, get_or, Option, Some, None}
use Rattle.meaning.specs.Choice.{if_lt, if_eq}

-- the digits are 48 to 57
unfoldable pub value_from : ℕ → ℕ → List ℕ → Option ℕ
value_from most v [] = Some v
value_from most v (x ∷ l) =
    if_lt x 48 None
    (if_lt 57 x None
    (if_lt most (10 * v + (x - 48)) None (value_from most (10 * v + (x - 48)) l)))

-- at least one digit, and no zero in front of another one
unfoldable pub plain_of : ℕ → List ℕ → Option ℕ
plain_of most l =
    if_eq (length l) 0 None
    (if_eq (length l) 1 (value_from most 0 l)
    (if_eq (get_or l 0 0) 48 None (value_from most 0 l)))
