-- The output lines read one after another: n were read, and what is left is to be read behind them.
use mathlib.Core.Path.{◌≡◌, sym, ◌∙◌, ap}
use mathlib.Core.List.{List}
use Prim.Native.Nat.{ℕ, suc, ◌+◌, ◌-◌, ◌*◌, ◌<◌, ◌≤◌}
use native.Mathlib.Nat.{sub-zero}
use native.Mathlib.Numerals.{add-one}
use native.Mathlib.Omega.{arith}
use lib.ListN.{length, drop, length-append}
use Rattle.decimal.specs.Fewest.{decimal}
use Rattle.decimal.proofs.Fewest.{decimal-short}
use Rattle.std.specs.Prelude.{Option, Some, None}
use Rattle.aspif.specs.Text.{output_line}
use Rattle.aspif.specs.Reading.{skip, outputs_in}
use Rattle.aspif.specs.Scanning.{went, Reaches}
use Rattle.aspif.specs.Lining.{OutputsSeen}
use Rattle.aspif.proofs.Pieces.{on-got, on-outside}
use Rattle.aspif.proofs.Scanned.{reaches}

-- a line is longer than two bytes, and never longer than 64
pub line-bounds : (n : ℕ) → n < 18446744073709551615 → (2 ≤ length (output_line n)) × (length (output_line n) ≤ 64)
unfolding output_line
line-bounds n h = (
  simp length-append (omega arith),
  simp length-append (omega (
    arith,
    decimal-short 19 n (omega arith),
    decimal-short 19 (n + 1) (omega arith),
    decimal-short 1 (1 + length (decimal n)) (omega (arith, decimal-short 19 n (omega arith))),
  )),
)

pub record Counted (s : List ℕ) (at count next : ℕ) : Type 0 where
  pub rest : outputs_in (suc (length s - at)) 0 (drop at s) ≡ outputs_in (suc (length s - at) - count) count (drop next s)
  pub ahead : at + 2 * count ≤ next
  pub inside : next ≤ length s

module _ (s : List ℕ) (at : ℕ) where
  pub counted_start : at ≤ length s → Counted s at 0 at
  counted_start h = record { rest = rw sub-zero; ahead = omega arith; inside = h }

  module _ {count next : ℕ} (g : Counted s at count next) (w : List ℕ) (l : w ≡ output_line count) (x : Option ℕ)
      (e : went s x ≡ skip w (drop next s)) where
    fuel-left : suc (length s - at) - count ≡ suc (length s - at - count)
    fuel-left = omega (arith, g.ahead, g.inside)

    pub counted-end : x ≡ None → OutputsSeen s at (record { count = count; next = next })
    unfolding outputs_in went
    counted-end f = record {
      read = g.rest ∙ rw fuel-left (on-outside _ _ (rw (← l) (sym e ∙ ap (went s) f)));
      inside = g.inside;
    }

    pub counted-less : {n : ℕ} → x ≡ Some n → Reaches (next + length w) (length s) x → count < 18446744073709551615
        → length s - n < length s - next
    counted-less f r h =
        let (p, q) = reaches r f in
        let (i, j) = line-bounds count h in
        let k : length w ≡ length (output_line count) = ap length l in omega arith

    pub counted-more : {n : ℕ} → x ≡ Some n → Reaches (next + length w) (length s) x → count < 18446744073709551615 → Counted s at (count + 1) n
    unfolding outputs_in went
    counted-more f r h =
        let (p, q) = reaches r f in
        let (i, j) = line-bounds count h in
        let k : length w ≡ length (output_line count) = ap length l in
        let z : suc (length s - at) - (count + 1) ≡ length s - at - count = omega (arith, g.ahead, g.inside) in
        record {
          rest = g.rest ∙ rw (fuel-left, z, add-one count) (on-got _ _ (rw (← l) (sym e ∙ ap (went s) f)));
          ahead = omega (arith, g.ahead);
          inside = q;
        }
