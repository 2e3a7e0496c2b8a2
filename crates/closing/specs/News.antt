-- The steps of propagation by what is new (meaning's specs/Pending), as the functions of this crate take them. Document 02, request 11.
--
--   atom_set w        the set of atoms that four words stand for
--   rows_below t first s n   the rules in a row `first` + a of a member a of s below n
--   Fallen b off nt nl cand off' nt' nl' cand'   the new atoms have put off the rules that they block or starve, and have called the
--                    rules that may go on because of them; new are the atoms that were lost by it
--   Looked b off r on nt on' nt'   the rule has been looked at: it may not go on, or it has gone on
--   Raised b off cand on nt rest on' nt'   candidates have been looked at, so that only `rest` is left of them
use Rattle.std.specs.Prelude.{◌≡◌, ◌&&◌, List, [], ◌∷◌, ◌⊎◌, ℕ, ◌+◌, ◌≤◌}
use Rattle.meaning.specs.declared.AtomNo.{AtomNo}
use Rattle.meaning.specs.declared.RuleNo.{RuleNo}
use Rattle.meaning.specs.Sets.{Set, ◌∈◌, ◌∉◌, some_below}
use Rattle.meaning.specs.Books.{Atoms, Rules, Book, count}
use Rattle.meaning.specs.Colours.{Pair, heads, may_on, plus, Under}
use Rattle.meaning.specs.Bits.{members}
use Rattle.meaning.specs.Pending.{Forced, Pending, no_atoms, hit, called, joined, newly_lost, newly_true}
use Rattle.book.specs.RuleRows.{sets}

abbrev pub atom_set : List ℕ → Atoms
atom_set w a = members w a.0

unfoldable pub rows_below : List ℕ → ℕ → Set ℕ → ℕ → Set ℕ
rows_below t first s n r = some_below n (λ a. s a && sets t (first + a) r)

pub record Fallen (b : Book) (off : Rules) (nt nl : Atoms) (cand off' : Rules) (nt' nl' : Atoms) (cand' : Rules) : Type 0 where
  pub off-now : off' ≡ joined off (hit b nt nl)
  pub nt-now : nt' ≡ no_atoms
  pub nl-now : nl' ≡ newly_lost b (hit b nt nl) off
  pub cand-now : cand' ≡ joined cand (called b nt nl)

abbrev colours : Rules → Rules → Pair
colours on off = record { on = on; off = off }

pub data Looked (b : Book) (off : Rules) (r : RuleNo) (on : Rules) (nt : Atoms) : Rules → Atoms → Type 0 where
  passed : r ∉ may_on b (colours on off) → Looked b off r on nt on nt
  risen : r ∈ may_on b (colours on off) → Looked b off r on nt (plus on (r ∷ [])) (newly_true b r on nt)

pub record Raised (b : Book) (off cand on : Rules) (nt : Atoms) (rest on' : Rules) (nt' : Atoms) : Type 0 where
  pub pending : (nl : Atoms) → Pending b (colours on off) nt nl cand → Pending b (colours on' off) nt' nl rest
  pub forced : (start : Pair) → Forced b start (colours on off) → Forced b start (colours on' off)
  pub above : Under b on on'
  pub outside : (r : RuleNo) → count b ≤ r.0 → on' r ≡ on r
  -- an atom that is new by it was not true before
  pub new : (a : AtomNo) → a ∈ nt' → (a ∈ nt) ⊎ (a ∉ heads b on)
