-- The totals of the table, told by the counts, each by a test of its own. Document 02, request 13: "The three totals together equal the
-- atoms of the counted books, each total defined from answer sets and not as the rest."
--
--   number_below n s      how many numbers below n are in s
--   at_each, at_some, at_none   the three tests of a count, each by itself
--   totals_from n sets counts     the totals of one book of n atoms, with its number of answer sets and its counts
--   totals_with t n sets counts   the totals after one more book of n atoms, with its number of answer sets and its counts
--   totals_over cs t      the totals after a list of counted books, from the totals t
--   TotalsOf bs t        t holds the totals of the books bs, as Counts says them
use Rattle.std.specs.Prelude.{◌≡◌, ℕ, zero, suc, ◌+◌, ◌%◌, ◌^◌, ◌<◌, Bool, ◌&&◌, List, [], ◌∷◌, ◌==◌, nat_lt, slice_index}
use Rattle.meaning.specs.Sets.{Set}
use Rattle.meaning.specs.Books.{Book}
use Rattle.meaning.specs.AnswerSet.{Certain, Clear}
use Rattle.meaning.specs.Choice.{ifb}
use Rattle.counting.specs.Counts.{Counts, InSome, Total}
use Rattle.counting.specs.declared.sum.Totals.{Totals}

unfoldable pub number_below : ℕ → Set ℕ → ℕ
number_below zero s = 0
number_below (suc n) s = ifb (s n) (suc (number_below n s)) (number_below n s)

-- a count c of so many sets: the atom stands in each, in some but not all, in none
abbrev pub at_each : ℕ → ℕ → Bool
at_each sets c = c == sets

abbrev pub at_some : ℕ → ℕ → Bool
at_some sets c = nat_lt 0 c && nat_lt c sets

abbrev pub at_none : ℕ → ℕ → Bool
at_none sets c = c == 0

abbrev pub no_totals : Totals
no_totals = record { certain = 0; some = 0; none = 0; atoms = 0 }

-- a total has 32 bits; 16,843,009 books of 255 atoms fit
abbrev pub plus : ℕ → ℕ → ℕ
plus m n = (m + n) % 2 ^ 32

unfoldable pub totals_from : ℕ → ℕ → List ℕ → Totals
totals_from n sets counts = record {
  certain = number_below n (λ i. at_each sets (slice_index counts i));
  some = number_below n (λ i. at_some sets (slice_index counts i));
  none = number_below n (λ i. at_none sets (slice_index counts i));
  atoms = n;
}

unfoldable pub totals_with : Totals → ℕ → ℕ → List ℕ → Totals
totals_with t n sets counts = let m = totals_from n sets counts in record {
  certain = plus t.certain m.certain;
  some = plus t.some m.some;
  none = plus t.none m.none;
  atoms = plus t.atoms m.atoms;
}

-- a book that is counted: it has answer sets, and these counts
pub record CountedBook : Type 0 where
  pub book : Book
  pub sets : ℕ
  pub counts : List ℕ
  pub has-sets : 0 < sets
  pub right : Counts book sets counts

unfoldable pub totals_over : List CountedBook → Totals → Totals
totals_over [] t = t
totals_over (c ∷ cs) t = totals_over cs (totals_with t c.book.atoms c.sets c.counts)

unfoldable pub atoms_of : List Book → ℕ
atoms_of [] = 0
atoms_of (b ∷ bs) = b.atoms + atoms_of bs

pub record TotalsOf (bs : List Book) (t : Totals) : Type 0 where
  pub certain : Total Certain bs t.certain
  pub some : Total InSome bs t.some
  pub none : Total Clear bs t.none
  pub atoms : t.atoms ≡ atoms_of bs
