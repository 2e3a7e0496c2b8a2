-- Counting along a text byte by byte is std's `fold`.
use mathlib.Core.Path.{◌≡◌, refl}
use mathlib.Core.List.{List, [], ◌∷◌}
use Prim.Native.Nat.{ℕ}
use Rattle.std.specs.List.{fold}
use Rattle.words.specs.Lines.{over}

pub fold-over : (f : ℕ → ℕ → ℕ) (n : ℕ) (l : List ℕ) → fold f n l ≡ over f n l
unfolding over
fold-over f n [] = refl
fold-over f n (x ∷ l) = fold-over f (f n x) l
