-- Laws of marking (specs/Conditions): each way through a turn leaves what the condition says, and the condition only grows with the set
-- (blueprint C1). The facts are those that the code has at its returns.
use mathlib.Core.Path.{◌≡◌, ◌∙◌, ap}
use mathlib.Core.Bool.{Bool, true, false, not}
use mathlib.Core.List.{List, map}
use Prim.Native.Nat.{ℕ}
use lib.ListN.{set}
use Rattle.meaning.specs.declared.RuleNo.{RuleNo}
use Rattle.meaning.specs.Sets.{◌∈◌, ◌∉◌, every}
use Rattle.meaning.specs.Books.{Rules, atom_no, Book, rule, InBook}
use Rattle.meaning.specs.Colours.{heads}
use Rattle.meaning.specs.Written.{of}
use Rattle.meaning.specs.Computed.{upheld}
use Rattle.meaning.proofs.Tests.{both, and_left, and_right, not_first, not-second, true-and-false}
use Rattle.meaning.proofs.Sets.{every-mono}
use Rattle.meaning.proofs.Rules.{heads-mono}
use Rattle.book.specs.Tables.{atom_table, atoms_in}
use Rattle.book.specs.Writing.{atom_bytes}
use Rattle.book.proofs.Bodies.{every-part}
use Rattle.closing.specs.Growing.{Condition, Turn, stays, added}
use Rattle.closing.specs.Conditions.{marking}
use Rattle.closing.proofs.Good.{Asks}
use Rattle.closing.proofs.Growing.{Monotone}

module _ (r : RuleNo) (l : List Bool) (more : Bool) where
  -- the rule is in the set already
  pub turn_in : (k : Condition) → r ∈ of l → Turn k r l more l more
  turn_in k e = stays (λ n. true-and-false e n)

  -- the rule is put in, as the code stores it
  turn-added : (k : Condition) (m : List Bool) → m ≡ set l r.0 true → r ∉ of l → r ∈ k (of l) → Turn k r l more m true
  turn-added k m p n e = rw p (added n e)

  module _ (b : Book) where
    module _ (off : List Bool) where
      pub mark-off : r ∈ of off → Turn (marking b (of off)) r l more l more
      unfolding marking upheld
      mark-off e = stays (λ n. not_first _ (ap not e))

      pub mark-waits : every (heads b (of l)) (rule b r).pos ≡ false → Turn (marking b (of off)) r l more l more
      unfolding marking upheld
      mark-waits e = stays (λ n. not-second (not (of off r)) e)

      pub mark-added : (m : List Bool) → m ≡ set l r.0 true → r ∉ of l → r ∉ of off → every (heads b (of l)) (rule b r).pos ≡ true
          → Turn (marking b (of off)) r l more m true
      unfolding marking upheld
      mark-added m p n o e = turn-added _ m p n (both (ap not o) e)

-- what the table of the heads of the set answers to every_in, asked of the rule's positive atoms as the book's bytes
module _ (b : Book) (asks : Asks b) (l headed : List Bool) (e : headed ≡ atom_table (heads b (of l))) (r : RuleNo) (h : InBook b r) where
  by_heads : every (atoms_in headed) (rule b r).pos ≡ every (heads b (of l)) (rule b r).pos
  by_heads = rw (e, asks.pos r h (heads b (of l)))

  pub mark-asked : (part : List ℕ) → part ≡ atom_bytes (rule b r).pos → {t : Bool} → t ≡ every (atoms_in headed) (map atom_no part)
      → t ≡ every (heads b (of l)) (rule b r).pos
  mark-asked part z f = f ∙ every-part (atoms_in headed) part _ z ∙ by_heads

-- ---- the condition only grows

module _ (b : Book) where
  pub marking-mono : (off : Rules) → Monotone b (marking b off)
  unfolding marking upheld
  marking-mono off s t f r h m = both (and_left (not (off r)) _ m) (every-mono (heads-mono b f) _ (and_right (not (off r)) _ m))
