-- A text, a number's digits and the digits of bytes, gathered at once (specs/Gathered), as the code writes them.
use mathlib.Core.Path.{◌≡◌, ap, sym, ◌∙◌}
use mathlib.Core.Logic.{⊎_elim}
use mathlib.Core.List.{List, [], ◌++◌, append-nil}
use Prim.Native.Nat.{ℕ, ◌+◌, ◌*◌, ◌-◌, ◌/◌, ◌^◌, ◌<◌, ◌≤◌}
use native.Mathlib.Nat.{pow-le-pow_right}
use native.Mathlib.Omega.{arith}
use lib.ListN.{length, take, drop, length-drop, drop_of_length-le}
use lib.Seq.{take_all, drop-drop}
use Rattle.system.specs.Digits.{last_digits, IsDigitCount}
use Rattle.meaning.specs.Buffers.{write_at}
use Rattle.meaning.proofs.Choice.{lt_yes, lt_no}
use Rattle.meaning.proofs.Tests.{lt-or-le}
use Rattle.talk.specs.Hexadecimal.{spelled}
use Rattle.talk.specs.Gathered.{Piece, with_text, with_digits}

-- ---- a text

module _ (text : List ℕ) (p : Piece) where
  pub text-over : length p.bytes - p.held < length text → with_text text p ≡ p
  unfolding with_text
  text-over h = lt_yes _ _ _ _ h

  -- copied in the place of the k bytes behind those held
  pub text-fits : (k : ℕ) {copied : List ℕ} → copied ≡ text → k ≡ length text → length text ≤ length p.bytes - p.held
      → with_text text p ≡ record {
        bytes = take p.held p.bytes ++ (copied ++ drop k (drop p.held p.bytes));
        held = p.held + length text;
      }
  unfolding with_text write_at
  text-fits k e f h =
      let front = take p.held p.bytes in
      let w : write_at p.held text p.bytes ≡ front ++ (text ++ drop (length text) (drop p.held p.bytes))
      = ap (λ (x : List ℕ). front ++ (text ++ x)) (sym (drop-drop (length text) p.held p.bytes)) in
      let v = w ∙ ap (λ (n : ℕ). front ++ (text ++ drop n (drop p.held p.bytes))) (sym f)
      ∙ ap (λ (x : List ℕ). front ++ (x ++ drop k (drop p.held p.bytes))) (sym e) in
      lt_no _ _ _ _ h ∙ (λ i. record { bytes = v i; held = p.held + length text })

-- ---- a number

-- no number has two counts of digits
shorter : (n k l : ℕ) → IsDigitCount 10 1 n k → IsDigitCount 10 1 n l → k < l → ⊥
shorter n k l (least, fits, _) (_, _, fewest) h =
    let e : k ≤ l - 1 = omega arith in let t : 10 ^ k ≤ 10 ^ (l - 1) = pow-le-pow_right (omega arith) e in
    omega (arith, fewest (omega arith), t)

one-count : (n k l : ℕ) → IsDigitCount 10 1 n k → IsDigitCount 10 1 n l → k ≡ l
one-count n k l a b = ⊎_elim (λ h. absurd (shorter n k l a b h))
    (λ h. ⊎_elim (λ g. absurd (shorter n l k b a g)) (λ g. omega arith) (lt-or-le l k)) (lt-or-le k l)

pub number-gathered : (n count k : ℕ) (text : List ℕ) (p q : Piece) → IsDigitCount 10 1 n count → IsDigitCount 10 1 n k
    → text ≡ last_digits 10 count n → q ≡ with_text text p → q ≡ with_text (last_digits 10 k n) p
number-gathered n count k text p q a b e g =
    g ∙ ap (λ (x : List ℕ). with_text x p) (e ∙ ap (λ (m : ℕ). last_digits 10 m n) (one-count n count k a b))

-- ---- bytes in hexadecimal

module _ (l : List ℕ) (p : Piece) where
  pub digits-over : (length p.bytes - p.held) / 2 < length l → with_digits l p ≡ p
  unfolding with_digits
  digits-over h = lt_yes _ _ _ _ h

  -- put into all of the room behind those held
  pub digits-fit : (m : ℕ) {k : ℕ} {out : List ℕ} → m ≡ length p.bytes - p.held → k ≡ 2 * length l
      → out ≡ spelled (length l) l (take m (drop p.held p.bytes)) → length l ≤ (length p.bytes - p.held) / 2
      → with_digits l p ≡ record {
        bytes = take p.held p.bytes ++ (out ++ drop m (drop p.held p.bytes));
        held = p.held + k;
      }
  unfolding with_digits
  digits-fit m {k} {out} g e f h =
      let front = take p.held p.bytes in
      let none : drop m (drop p.held p.bytes) ≡ []
      = drop-drop m p.held p.bytes ∙ drop_of_length-le p.bytes {i = p.held + m} (omega (arith, g)) in
      let all : take m (drop p.held p.bytes) ≡ drop p.held p.bytes
      = take_all m (drop p.held p.bytes) (omega (arith, g, length-drop p.held p.bytes)) in
      let v = ap (λ (x : List ℕ). front ++ x) (ap (spelled (length l) l) (sym all) ∙ sym f ∙ sym (append-nil out) ∙ ap (λ (x : List ℕ). out ++ x) (sym none)) in
      lt_no _ _ _ _ h ∙ (λ i. record { bytes = v i; held = p.held + sym e i })
