-- The name of the file that a paper is written to before it takes the paper's name: the path with `.new` behind it.
use Rattle.std.specs.Prelude.{List, [], ◌∷◌, ◌++◌, ℕ}

unfoldable pub dot_new : List ℕ
dot_new = 46 ∷ (110 ∷ (101 ∷ (119 ∷ [])))

unfoldable pub new_name : List ℕ → List ℕ
new_name path = path ++ dot_new
