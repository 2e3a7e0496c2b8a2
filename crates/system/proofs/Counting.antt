-- From a bound on a count to what the contracts and `&buf[..n]` ask.
use Prim.Native.Nat.{ℕ, ◌≤◌}
use mathlib.Core.Path.{◌≡◌, sym}
use mathlib.Core.List.{List}
use lib.ListN.{length, take}
use lib.Seq.{length-take-le}
use Rattle.system.specs.Counts.{IsPrefixLen}

pub length-take_of_le : (n : ℕ) (xs : List ℕ) → n ≤ length xs → n ≡ length (take n xs)
length-take_of_le n xs h = sym (length-take-le n xs h)

pub prefix_len_of_le : (n : ℕ) (xs : List ℕ) → n ≤ length xs → IsPrefixLen n xs
prefix_len_of_le n xs h = (h, length-take_of_le n xs h)
