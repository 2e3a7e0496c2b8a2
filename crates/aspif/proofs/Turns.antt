-- The definitions of specs/Reading as the code finds them: whether a word stands at a place, and how many digits do.
use mathlib.Core.Path.{◌≡◌, refl, sym, ◌∙◌, ap}
use mathlib.Core.Bool.{true, false}
use mathlib.Core.List.{List, [], ◌∷◌}
use Prim.Native.Nat.{ℕ, ◌+◌, ◌-◌, ◌<◌}
use Prim.{Unit, tt}
use native.Mathlib.Numerals.{add-one}
use native.Mathlib.Omega.{arith}
use lib.Dec.{eqb}
use lib.ListN.{length, take, drop, length-drop}
use lib.Seq.{take_all, drop-drop}
use Rattle.std.specs.Char.{IsAsciiDigit, IsNotAsciiDigit}
use Rattle.std.specs.List.{starts_with, AllWithin, HoldsAt}
use Rattle.std.specs.Option.{MatchOption, unwrap_or}
use Rattle.std.specs.Prelude.{Option}
use Rattle.std.proofs.lemmas.Iterator.{index_from_first}
use Rattle.std.proofs.lemmas.Bool.Decides.{Decides-eqb}
use Rattle.std.proofs.lemmas.Slice.Eq.{starts_is}
use Rattle.meaning.proofs.Choice.{lt_yes, lt_no, lt-either}
use Rattle.aspif.specs.Reading.{Got, got, outside, skip, digit_count}
use Rattle.aspif.proofs.Pieces.{skip-there, skip-back}

-- all bytes from a place on
pub rest_of : (s : List ℕ) (at : ℕ) → take (length s - at) (drop at s) ≡ drop at s
rest_of s at = take_all (length s - at) (drop at s) (omega (arith, length-drop at s))

module _ (w s : List ℕ) (at : ℕ) where
  pub skip-found : true ≡ starts_with eqb (take (length s - at) (drop at s)) w → skip w (drop at s) ≡ got tt (drop (at + length w) s)
  skip-found e =
      let f = (starts_is Decides-eqb (drop at s) w true (rw (rest_of s at) at e)).0 refl in
      ap (skip w) f ∙ skip-there w (drop (length w) (drop at s)) ∙ ap (λ l. got tt l) (drop-drop (length w) at s)

  pub skip-missing : false ≡ starts_with eqb (take (length s - at) (drop at s)) w → skip w (drop at s) ≡ outside
  skip-missing e = none (skip w (drop at s)) refl
    where
      none : (g : Got (Unit {0})) → skip w (drop at s) ≡ g → g ≡ outside
      none (got u r) h =
          let f = (starts_is Decides-eqb (drop at s) w false (rw (rest_of s at) at e)).1 r (skip-back w (drop at s) r u h) in cc
      none outside h = refl

-- ---- digits

digits-none : digit_count [] ≡ 0
unfolding digit_count
digits-none = refl

digits-over : (x : ℕ) (l : List ℕ) → IsNotAsciiDigit x → digit_count (x ∷ l) ≡ 0
unfolding digit_count
digits-over x l h =
    lt-either (λ (n : ℕ). n ≡ 0) x 48 _ _ (λ _. refl) (λ low. lt_yes 57 x _ _ (omega (arith, h)))

digits-more : (x : ℕ) (l : List ℕ) → IsAsciiDigit x → digit_count (x ∷ l) ≡ digit_count l + 1
unfolding digit_count
digits-more x l h = lt_no _ _ _ _ h.0 ∙ lt_no _ _ _ _ h.1 ∙ sym (add-one _)

-- the first byte that is none
pub digits-found : (s : List ℕ) (at : ℕ) (found : Option ℕ) → MatchOption found
    (AllWithin IsAsciiDigit (take (length s - at) (drop at s)) 0 (length (take (length s - at) (drop at s))))
    (λ i. (i < length (take (length s - at) (drop at s))) × HoldsAt IsNotAsciiDigit (take (length s - at) (drop at s)) i
    × AllWithin IsAsciiDigit (take (length s - at) (drop at s)) 0 i)
    → digit_count (drop at s) ≡ unwrap_or found (length s - at)
digits-found s at found h =
    let e = index_from_first digit_count IsNotAsciiDigit IsAsciiDigit digits-none digits-over digits-more _ found h in
    rw (rest_of s at, length-drop) at e
