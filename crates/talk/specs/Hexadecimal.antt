-- Bytes in hexadecimal. "Bytes are hexadecimal, in either case, `-` for none."
--
--   digit_of x          the value of a digit, 16 for a byte that is none
--   all_digits l        every byte is a digit
--   filled n w out     the buffer, its first n bytes overwritten by those that the digits of w say
--   decoded_of w room   whether the word says bytes that there is room for, and how many
--   digit_for v         the digit of a value below 16, in lower case
--   spelled n l out    the buffer, its first 2n bytes overwritten by the digits of the first n bytes of l
use Rattle.std.specs.Prelude.{Bool, true, false, List, [], ◌∷◌, ℕ, zero, suc, ◌+◌, ◌*◌, ◌-◌, ◌/◌, ◌%◌, length, get_or, set, Option, Some, None}
use Rattle.meaning.specs.Choice.{ifb, if_lt, if_eq}

-- 0 to 9 are 48 to 57, A to F are 65 to 70, a to f are 97 to 102
unfoldable pub digit_of : ℕ → ℕ
digit_of x =
    if_lt x 48 16
    (if_lt x 58 (x - 48)
    (if_lt x 65 16
    (if_lt x 71 (x - 65 + 10)
    (if_lt x 97 16
    (if_lt x 103 (x - 97 + 10) 16)))))

unfoldable pub all_digits : List ℕ → Bool
all_digits [] = true
all_digits (x ∷ l) = if_lt (digit_of x) 16 (all_digits l) false

-- the byte that digits 2i and 2i + 1 say; both are below 16 in a word of digits
unfoldable pub byte_at : List ℕ → ℕ → ℕ
byte_at w i = 16 * (digit_of (get_or w (2 * i) 0) % 16) + digit_of (get_or w (2 * i + 1) 0) % 16

unfoldable pub filled : ℕ → List ℕ → List ℕ → List ℕ
filled zero w out = out
filled (suc n) w out = set (filled n w out) n (byte_at w n)

unfoldable pub decoded_of : List ℕ → ℕ → Option ℕ
decoded_of w room =
    if_eq (length w) 1 (if_eq (get_or w 0 0) 45 (Some 0) None)
    (if_eq (length w) 0 None
    (if_eq (length w % 2) 1 None
    (if_lt room (length w / 2) None
    (ifb (all_digits w) (Some (length w / 2)) None))))

unfoldable pub digit_for : ℕ → ℕ
digit_for v = if_lt v 10 (48 + v) (97 + (v - 10) % 6)

unfoldable pub spelled : ℕ → List ℕ → List ℕ → List ℕ
spelled zero l out = out
spelled (suc n) l out = set (set (spelled n l out) (2 * n) (digit_for (get_or l n 0 / 16))) (2 * n + 1) (digit_for (get_or l n 0 % 16))
