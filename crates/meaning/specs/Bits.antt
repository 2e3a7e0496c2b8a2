-- Sets of numbers below 256, and four words of 64 bits that stand for one. Document 02, request 11: "two sets of 256 bits in four wide
-- words each".
--
--   none, one i, below n   the empty set; the set with one member; the numbers below n
--   plus s t, less s t, both s t   what is in either; what is in s and not in t; what is in both
--   implied s t      the test that a number is in t if it is in s
--   bit x            the set that one word stands for: bit k is the number's binary digit of weight 2 ^ k
--   members w        the set that a list of words stands for: below 256, bit i % 64 of word i / 64
--   table_from i n s  the tests of i, i + 1, .. , n of them, written out
--   listed w         the 256 tests of members w, written out
--   Lowers s i       i is the lowest member of s
--   NextIn s from n  n is the lowest member of s that is at least from; or it is 256, and there is none below 256
--   OnesBelow n from x   the word x has the bits, of the 64 numbers from `from` on, of those below n
use Rattle.std.specs.Prelude.{◌≡◌, Bool, false, not, ◌&&◌, ◌||◌, List, [], ◌∷◌, ℕ, zero, suc, ◌+◌, ◌/◌, ◌%◌, ◌^◌, ◌<◌, ◌≤◌, eqb, ltb, get_or}
use Rattle.meaning.specs.Sets.{Set, ◌∈◌, ◌∉◌}

abbrev pub none : Set ℕ
none i = false

abbrev pub one : ℕ → Set ℕ
one i j = eqb j i

abbrev pub below : ℕ → Set ℕ
below n i = ltb i n

abbrev pub plus : Set ℕ → Set ℕ → Set ℕ
plus s t i = s i || t i

abbrev pub less : Set ℕ → Set ℕ → Set ℕ
less s t i = s i && not (t i)

abbrev pub both : Set ℕ → Set ℕ → Set ℕ
both s t i = s i && t i

abbrev pub implied : Set ℕ → Set ℕ → Set ℕ
implied s t i = not (s i) || t i

unfoldable pub bit : ℕ → Set ℕ
bit x k = eqb (x / 2 ^ k % 2) 1

unfoldable pub members : List ℕ → Set ℕ
members w i = ltb i 256 && bit (get_or w (i / 64) 0) (i % 64)

unfoldable pub table_from : ℕ → ℕ → Set ℕ → List Bool
table_from i zero s = []
table_from i (suc n) s = s i ∷ table_from (suc i) n s

unfoldable pub listed : List ℕ → List Bool
listed w = table_from 0 256 (members w)

pub record Lowers (s : Set ℕ) (i : ℕ) : Type 0 where
  pub within : i ∈ s
  pub least : (j : ℕ) → j < i → j ∉ s

pub record NextIn (s : Set ℕ) (from n : ℕ) : Type 0 where
  pub passed : (i : ℕ) → from ≤ i → i < n → i ∉ s
  pub within : n < 256 → (from ≤ n) × (n ∈ s)
  pub bound : n ≤ 256

pub record OnesBelow (n from x : ℕ) : Type 0 where
  pub each : (k : ℕ) → k < 64 → bit x k ≡ ltb (from + k) n
