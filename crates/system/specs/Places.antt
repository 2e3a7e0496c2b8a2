-- Parts of bytes, and the place of a byte.
--
--   slice from to l    the bytes from one place up to another
--   index_of x l       the first place of the byte; the length where it is nowhere
use Rattle.std.specs.Prelude.{ℕ, suc, List, [], ◌∷◌, take, drop, if◌then◌else◌, ◌==◌}

unfoldable pub slice : ℕ → ℕ → List ℕ → List ℕ
slice from to l = drop from (take to l)

unfoldable pub index_of : ℕ → List ℕ → ℕ
index_of x [] = 0
index_of x (y ∷ l) = if y == x then 0 else suc (index_of x l)
