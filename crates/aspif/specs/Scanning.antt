-- What the functions that read a text hand one another, in the terms of specs/Reading: the place where the text goes on stands for the bytes
-- from there.
--
--   went s r, seen s r   what was skipped; the number that was read
--   Reaches least most r the place is between the two
--   Behind at most r     the place is behind `at`, and neither it nor the number is above `most`
use Rattle.std.specs.Prelude.{List, ℕ, ◌<◌, ◌≤◌, drop}
use Prim.{Unit, tt}
use Rattle.std.specs.Prelude.{Option, Some, None}
use Rattle.aspif.specs.Reading.{Got, got, outside}

unfoldable pub went : List ℕ → Option ℕ → Got (Unit {0})
went s (Some n) = got tt (drop n s)
went s None = outside

unfoldable pub seen : List ℕ → Option (ℕ × ℕ) → Got ℕ
seen s (Some (v, n)) = got v (drop n s)
seen s None = outside

pub data Reaches (least most : ℕ) : Option ℕ → Type 0 where
  reached : {n : ℕ} → least ≤ n → n ≤ most → Reaches least most (Some n)
  nowhere : Reaches least most None

pub data Behind (at most : ℕ) : Option (ℕ × ℕ) → Type 0 where
  value : {v n : ℕ} → v ≤ most → at < n → n ≤ most → Behind at most (Some (v, n))
  nothing : Behind at most None
