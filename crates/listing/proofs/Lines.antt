-- The lines of a listing (specs/Text): the digits that `io` promises are the number's text; a line is gathered part by part; the longest
-- one takes no more bytes than a piece keeps free.
use Rattle.std.proofs.Common.{◌≡◌, ℕ, zero, suc, ◌+◌, ◌-◌, ◌*◌, ◌/◌, ◌^◌, ◌<◌, ◌≤◌, List, [], ◌∷◌, ◌++◌, length, get_or, drop, sym, refl, ap, ◌∙◌, ⊎_elim, arith, length-append, drop_of_length-le, drop-cons}
use native.Mathlib.Nat.{pow-le-pow_right}
use Rattle.system.specs.Digits.{last_digits, IsDigitCount}
use Rattle.meaning.proofs.Tests.{lt-or-le}
use Rattle.meaning.specs.Choice.{if_lt}
use Rattle.meaning.proofs.Choice.{lt_yes, lt_no, lt-either, eq_yes, eq_no, eq-either}
use Rattle.talk.specs.Gathered.{Piece, with_byte, gather}
use Rattle.listing.specs.Text.{places, number_text, place_text, places_text, line_text, longest_line, HasRoom}
use Rattle.listing.proofs.Gathering.{gather_append, gather-within}

-- ---- the digits of a number

-- k digits, the fewest, are found from any number of digits that is not more
places-fewest : (more k n r : ℕ) → k ≤ r → r ≤ k + more → n < 10 ^ r → (k < r → 10 ^ (r - 1) ≤ n) → places more k n ≡ r
unfolding places
places-fewest zero k n r h g m f = omega arith
places-fewest (suc more) k n r h g m f = ⊎_elim
    (λ l. lt_yes _ _ _ _ l ∙ ⊎_elim
    (λ u. let e : k ≤ r - 1 = omega arith in let t : 10 ^ k ≤ 10 ^ (r - 1) = pow-le-pow_right (omega arith) e in
    absurd (omega (arith, f u, t)))
    (λ u. omega arith) (lt-or-le k r))
    (λ l. lt_no _ _ _ _ l ∙ ⊎_elim
    (λ u. places-fewest more (suc k) n r u (omega arith) m (λ v. f (omega arith)))
    (λ u. let e : k ≡ r = omega arith in absurd (omega (arith, rw (← e) at m))) (lt-or-le k r))
    (lt-or-le n (10 ^ k))

-- a u64 has at most twenty
fewest-twenty : (n k : ℕ) → n < 18446744073709551616 → IsDigitCount 10 1 n k → k ≤ 20
fewest-twenty n k h (least, fits, fewest) = ⊎_elim (λ l. omega arith)
    (λ l. let e : 20 ≤ k - 1 = omega arith in let t : 10 ^ 20 ≤ 10 ^ (k - 1) = pow-le-pow_right (omega arith) e in
    absurd (omega (arith, fewest (omega arith), t)))
    (lt-or-le k 21)

pub digits_number : (n k : ℕ) → n < 18446744073709551616 → IsDigitCount 10 1 n k → last_digits 10 k n ≡ number_text n
unfolding number_text
digits_number n k small f =
    let h = fewest-twenty n k small f in
    ap (λ (m : ℕ). last_digits 10 m n) (sym (places-fewest 19 1 n k f.0 (omega arith) f.1 f.2))

pub number-gathered : (n k : ℕ) (text : List ℕ) (p q : Piece) → n < 18446744073709551616 → IsDigitCount 10 1 n k → text ≡ last_digits 10 k n
    → q ≡ gather text p → q ≡ gather (number_text n) p
number-gathered n k text p q small f e g = g ∙ ap (λ (l : List ℕ). gather l p) (e ∙ digits_number n k small f)

-- ---- a line, part by part

pub no_place : (asked a byte : ℕ) (p : Piece) → (byte ≡ asked → ⊥) → p ≡ gather (place_text asked a byte) p
unfolding gather place_text
no_place asked a byte p h = sym (ap (λ (l : List ℕ). gather l p) (eq_no _ _ _ _ h))

pub one_place : (asked a byte : ℕ) (p q r : Piece) → byte ≡ asked → q ≡ with_byte 32 p → r ≡ gather (number_text a) q
    → r ≡ gather (place_text asked a byte) p
unfolding gather place_text
one_place asked a byte p q r h e f = f ∙ ap (gather (number_text a)) e ∙ sym (ap (λ (l : List ℕ). gather l p) (eq_yes _ _ _ _ h))

-- one place of a row, and what is left of it
pub places-turn : (asked : ℕ) (row : List ℕ) (a : ℕ) (p q : Piece) → a < length row → q ≡ gather (place_text asked a (get_or row a 0)) p
    → gather (places_text asked a (drop a row)) p ≡ gather (places_text asked (a + 1) (drop (a + 1) row)) q
unfolding places_text
places-turn asked row a p q h e =
    let next : a + 1 ≡ suc a = omega arith in
    rw next
    (ap (λ (l : List ℕ). gather (places_text asked a l) p) (drop-cons row a 0 h) ∙ gather_append (place_text asked a (get_or row a 0)) _ p
    ∙ ap (gather (places_text asked (suc a) (drop (suc a) row))) (sym e))

pub places-end : (asked : ℕ) (row : List ℕ) (a : ℕ) (p : Piece) → length row ≤ a → gather (places_text asked a (drop a row)) p ≡ p
unfolding places_text gather
places-end asked row a p h = ap (λ (l : List ℕ). gather (places_text asked a l) p) (drop_of_length-le row {i = a} h)

pub line-gathered : (n : ℕ) (row : List ℕ) (end : ℕ) (p q r s t : Piece) → q ≡ gather (number_text n) p → r ≡ with_byte 58 q
    → s ≡ gather (places_text 1 0 row) r → t ≡ with_byte end s → t ≡ gather (line_text n row end) p
unfolding line_text gather
line-gathered n row end p q r s t e f g h =
    h ∙ ap (gather (end ∷ [])) (g ∙ ap (gather (places_text 1 0 row)) (f ∙ ap (gather (58 ∷ [])) e))
    ∙ sym (gather_append (number_text n) (58 ∷ (places_text 1 0 row ++ (end ∷ []))) p
    ∙ gather_append (places_text 1 0 row) (end ∷ []) (gather (58 ∷ []) (gather (number_text n) p)))

-- ---- the longest line

digits-length : (k n : ℕ) → length (last_digits 10 k n) ≡ k
digits-length zero n = refl
digits-length (suc k) n = length-append (last_digits 10 k (n / 10)) _ ∙ ap (λ (m : ℕ). m + 1) (digits-length k (n / 10)) ∙ omega arith

places-most : (more k n : ℕ) → places more k n ≤ k + more
unfolding places
places-most zero k n = omega arith
places-most (suc more) k n = lt-either (λ (m : ℕ). m ≤ k + suc more) _ _ _ _ (λ l. omega arith)
    (λ l. omega (arith, places-most more (suc k) n))

-- a number below 1,000 has at most three digits
places-few : (more n : ℕ) → n < 1000 → places more 1 n ≤ 3
unfolding places
places-few zero n h = omega arith
places-few (suc zero) n h = lt-either (λ (m : ℕ). m ≤ 3) _ _ _ _ (λ l. omega arith) (λ l. omega arith)
places-few (suc (suc zero)) n h = lt-either (λ (m : ℕ). m ≤ 3) _ _ _ _ (λ l. omega arith)
    (λ l. lt-either (λ (m : ℕ). m ≤ 3) _ _ _ _ (λ k. omega arith) (λ k. omega arith))
places-few (suc (suc (suc more))) n h = lt-either (λ (m : ℕ). m ≤ 3) _ _ _ _ (λ l. omega arith)
    (λ l. lt-either (λ (m : ℕ). m ≤ 3) _ _ _ _ (λ k. omega arith)
    (λ k. lt-either (λ (m : ℕ). m ≤ 3) _ _ _ _ (λ j. omega arith) (λ j. absurd (omega arith))))

place-length : (asked a byte : ℕ) → a < 1000 → length (place_text asked a byte) ≤ 4
unfolding place_text number_text
place-length asked a byte h = eq-either (λ (l : List ℕ). length l ≤ 4) _ _ _ _
    (λ e. omega (arith, digits-length (places 19 1 a) a, places-few 19 a h)) (λ e. omega arith)

places-length : (asked a : ℕ) (row : List ℕ) → a + length row ≤ 1000 → length (places_text asked a row) ≤ 4 * length row
unfolding places_text
places-length asked a [] h = omega arith
places-length asked a (x ∷ row) h =
    omega (
      arith,
      length-append (place_text asked a x) (places_text asked (suc a) row),
      place-length asked a x (omega arith),
      places-length asked (suc a) row (omega arith),
    )

pub line-length : (n : ℕ) (row : List ℕ) (end : ℕ) → length row ≤ 255 → length (line_text n row end) ≤ longest_line
unfolding line_text number_text
line-length n row end h =
    omega (
      arith,
      length-append (last_digits 10 (places 19 1 n) n) (58 ∷ (places_text 1 0 row ++ (end ∷ []))),
      length-append (places_text 1 0 row) (end ∷ []),
      digits-length (places 19 1 n) n,
      places-most 19 1 n,
      places-length 1 0 row (omega arith),
    )

-- so that a line has room where that many bytes are free
pub line-room : (n : ℕ) (row : List ℕ) (end held size : ℕ) → length row ≤ 255 → held + longest_line ≤ size
    → held + length (line_text n row end) ≤ size
line-room n row end held size h room = omega (arith, line-length n row end h)

-- which is what is left behind each line
room-left : (size held r : ℕ) → r ≡ if_lt (size - held) longest_line 0 held → longest_line ≤ size → held ≤ size
    → r + longest_line ≤ size
room-left size held r e h k = rw e (lt-either (λ (m : ℕ). m + longest_line ≤ size) _ _ _ _ (λ l. omega arith) (λ l. omega arith))

pub room-stays : (text : List ℕ) (p q r : Piece) → HasRoom p → p.held + length text ≤ length p.bytes → q ≡ gather text p → r.bytes ≡ q.bytes
    → r.held ≡ if_lt (length q.bytes - q.held) longest_line 0 q.held → HasRoom r
room-stays text p q r (size, room) fits e same h =
    let inside : (q.held ≤ length q.bytes) × (length q.bytes ≡ length p.bytes) = rw e (gather-within text p (omega arith)) in
    let long : length r.bytes ≡ length q.bytes = ap length same in
    let left : r.held + longest_line ≤ length q.bytes = room-left _ _ _ h (omega arith) (omega arith) in
    (omega arith, omega arith)
