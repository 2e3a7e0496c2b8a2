-- The k-th of what the words of a text say, counted from 0 and found one by one (src/nth.rt).
--
--   kth_found found here left     what is found behind a word that says `here`, where `left` are passed over yet
--   kth_left left here            how many are passed over yet behind it
use Rattle.std.specs.Prelude.{ℕ, ◌-◌, Option, Some, None}
use Rattle.meaning.specs.Choice.{if_eq}

-- what was found stays
unfoldable pub kth_found : {A : Type 0} → Option A → Option A → ℕ → Option A
kth_found (Some x) here left = Some x
kth_found None here left = if_eq left 0 here None

unfoldable pub kth_left : {A : Type 0} → ℕ → Option A → ℕ
kth_left left (Some x) = left - 1
kth_left left None = left
