-- The memory of readings, word by word: rows of eight words, the shown part of a reading and its generating rules.
--
--   stored k w seen      the memory with the four words w written as half row k
--   kept_at k part on seen   the memory with row k written, if there is room for it
use Rattle.std.specs.Prelude.{List, ℕ, ◌+◌, ◌*◌, ◌/◌, length, get_or, set}
use Rattle.meaning.specs.Choice.{if_lt}

unfoldable pub stored : ℕ → List ℕ → List ℕ → List ℕ
stored k w seen =
    set (set (set (set seen (k * 4) (get_or w 0 0)) (k * 4 + 1) (get_or w 1 0)) (k * 4 + 2) (get_or w 2 0)) (k * 4 + 3) (get_or w 3 0)

unfoldable pub kept_at : ℕ → List ℕ → List ℕ → List ℕ → List ℕ
kept_at k part on seen = if_lt k (length seen / 8) (stored (k * 2 + 1) on (stored (k * 2) part seen)) seen
