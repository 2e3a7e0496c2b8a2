-- The two parts of a line by the place of its first space, as a search over the whole line finds it.
use mathlib.Core.Path.{◌≡◌}
use mathlib.Core.List.{List, []}
use Prim.Native.Nat.{ℕ, ◌+◌, ◌-◌, ◌≤◌}
use native.Mathlib.Omega.{arith}
use native.Mathlib.Nat.{zero-add}
use lib.ListN.{length, take, drop, drop_of_length-le, length-drop}
use lib.Seq.{take_all, take-length}
use Rattle.system.specs.Places.{index_of, slice}
use Rattle.talk.specs.Words.{first_word, other_words}

module _ (l : List ℕ) (e : ℕ) (h : e ≡ 0 + index_of 32 (slice 0 (length l) l)) where
  place : e ≡ index_of 32 l
  unfolding slice
  place = rw (take-length l, zero-add) at h

  pub first_part : take e l ≡ first_word l
  unfolding first_word
  first_part = rw (← place)

  pub other-part : (k : ℕ) → k ≡ e + 1 → take (length l - k) (drop k l) ≡ other_words l
  unfolding other_words
  other-part k g = rw (← place, ← g) (take_all (length l - k) (drop k l) (rw (length-drop k l) (omega arith)))

  pub no-other-part : length l ≤ e → take (length l - e) (drop e l) ≡ other_words l
  unfolding other_words
  no-other-part m =
      rw (← place, drop_of_length-le l {i = e + 1} (omega arith)) (take-of-nothing (length l - e) (drop_of_length-le l {i = e} m))
    where
      take-of-nothing : {k : List ℕ} (n : ℕ) → k ≡ [] → take n k ≡ []
      take-of-nothing n g = rw g (take_all n [] (omega arith))
