-- Document 01's cases marked *, and those of request 2 in document 02 after them, in a single table. L is 1,000 where it isn't said. Each buffer is lent with every byte 7, so that a byte
-- that is written, and one that is kept, can be seen.
--
--   Case             a call with what it is to tell, and with the buffer afterwards
--   Holds e c        the engine e answers so
--   Each P l         P holds of every member of the list
use Rattle.std.specs.Prelude.{◌≡◌, List, [], ◌∷◌, ◌++◌, ℕ, replicate}
use Rattle.meaning.specs.declared.kind.Kind.TheVariants.{Naming, Clearing}
use Rattle.meaning.specs.declared.kind.Claim.{Claim}
use Rattle.meaning.specs.Books.{atom_no}
use Rattle.meaning.specs.Told.{Told, refused_at, refused, fewer, stopped}
use Rattle.walk.specs.Find.{set}
use Rattle.writer.specs.Write.{Handed, paper}
use Rattle.checker.specs.Numbers.{certain, clear}
use Rattle.demands.specs.Engine.{Engine}
use Rattle.demands.specs.Printed.{empty, fact, fact_paper, hasty_paper, choice, contrary, circular, circular_paper, undone}
use Rattle.demands.specs.Printed.{either_way, either_way_paper, six, fact_as_clearing, fact_unmarked, circular_cleared, circular_as_naming}
use Rattle.demands.specs.Printed.{hasty_cleared, six_cleared4, six_cleared5, late_clash}
use Rattle.demands.specs.Forged.{carried_paper, barred_book, barred_paper, blocked_paper}

pub data Case : Type 0 where
  -- book, k, L, the buffer before; what is told, the buffer afterwards
  finding : List ℕ → ℕ → ℕ → List ℕ → Told ℕ → List ℕ → Case
  -- book, atom, L, the buffer before; what is told, the buffer afterwards
  naming : List ℕ → ℕ → ℕ → List ℕ → Told Handed → List ℕ → Case
  -- the same, of a call that clears
  clearing : List ℕ → ℕ → ℕ → List ℕ → Told Handed → List ℕ → Case
  -- book, paper; what is told
  checking : List ℕ → List ℕ → Told Claim → Case

unfoldable pub Holds : Engine → Case → Type 0
Holds e (finding book k limit before t after) = e.find book k limit before ≡ record { told = t; buffer = after }
Holds e (naming book a limit before t after) = e.write Naming book (atom_no a) limit before ≡ record { told = t; buffer = after }
Holds e (clearing book a limit before t after) = e.write Clearing book (atom_no a) limit before ≡ record { told = t; buffer = after }
Holds e (checking book s t) = e.check book s ≡ t

infixr 5 ◌and◌
pub data Each {A : Type 0} (P : A → Type 0) : List A → Type 0 where
  no_more : Each P []
  ◌and◌ : {x : A} {l : List A} → P x → Each P l → Each P (x ∷ l)

-- a buffer of n bytes, each 7
abbrev pub sevens : ℕ → List ℕ
sevens n = replicate n 7

abbrev pub cases : List Case
cases =
    -- "k = 1 gives the empty set, 1 try; k = 2 gives 11 (1 try, 1 set)"
    finding empty 1 1000 (sevens 2) (set 1) (sevens 2)
    ∷ finding empty 2 1000 (sevens 2) (fewer 1 1 255) (sevens 2)
    -- "Fact 0 ... Paper for 0 ... L = 0 gives 9"
    ∷ finding fact 1 1000 (sevens 2) (set 1) (1 ∷ sevens 1)
    ∷ naming fact 0 1000 (sevens 12) (paper 1 10) (fact_paper ++ sevens 2)
    ∷ checking fact fact_paper (certain (atom_no 0))
    ∷ finding fact 1 0 (sevens 2) (stopped 0) (sevens 2)
    ∷ naming fact 0 0 (sevens 12) (stopped 0) (sevens 12)
    -- "Same book, paper 45 | 00 | 00 01 01 00 50 46: 25 at 0"
    ∷ checking fact hasty_paper (refused_at 25 0)
    -- "sets {0}, {1}; naming 0 gives 12"
    ∷ finding choice 1 1000 (sevens 3) (set 2) (1 ∷ 0 ∷ sevens 1)
    ∷ finding choice 2 1000 (sevens 3) (set 3) (0 ∷ 1 ∷ sevens 1)
    ∷ finding choice 3 1000 (sevens 3) (fewer 3 2 255) (sevens 3)
    ∷ naming choice 0 1000 (sevens 12) (refused 12) (sevens 12)
    -- "0 if not 0: 11 after 3 tries"
    ∷ finding contrary 1 1000 (sevens 2) (fewer 3 0 0) (sevens 2)
    ∷ naming contrary 0 1000 (sevens 12) (fewer 3 0 0) (sevens 12)
    -- "the empty set, 1 try. The paper 41 00 45 ...: 25 at 0"
    ∷ finding circular 1 1000 (sevens 3) (set 1) (0 ∷ 0 ∷ sevens 1)
    ∷ finding circular 2 1000 (sevens 3) (fewer 1 1 255) (sevens 3)
    ∷ checking circular circular_paper (refused_at 25 0)
    -- "0; 1 if 0 and not 1: 11 after 3 tries"
    ∷ finding undone 1 1000 (sevens 3) (fewer 3 0 1) (sevens 3)
    ∷ naming undone 0 1000 (sevens 12) (fewer 3 0 1) (sevens 12)
    -- "{0,2} at try 7, {1,2}, 15 tries in all. Paper for 2"
    ∷ finding either_way 1 1000 (sevens 4) (set 7) (1 ∷ 0 ∷ 1 ∷ sevens 1)
    ∷ finding either_way 2 1000 (sevens 4) (set 12) (0 ∷ 1 ∷ 1 ∷ sevens 1)
    ∷ finding either_way 3 1000 (sevens 4) (fewer 15 2 1) (sevens 4)
    ∷ naming either_way 2 1000 (sevens 25) (paper 7 24) (either_way_paper ++ sevens 1)
    ∷ checking either_way either_way_paper (certain (atom_no 2))
    -- "{0,1,2}, {0,1,3}, 3 tries"
    ∷ finding six 1 1000 (sevens 7) (set 2) (1 ∷ 1 ∷ 1 ∷ 0 ∷ 0 ∷ 0 ∷ sevens 1)
    ∷ finding six 2 1000 (sevens 7) (set 3) (1 ∷ 1 ∷ 0 ∷ 1 ∷ 0 ∷ 0 ∷ sevens 1)
    ∷ finding six 3 1000 (sevens 7) (fewer 3 2 255) (sevens 7)
    -- papers that clear: two rules that hold each other up; the same steps do not name; an atom that has a rule needs a step
    ∷ clearing circular 0 1000 (sevens 12) (paper 1 11) (circular_cleared ++ sevens 1)
    ∷ checking circular circular_cleared (clear (atom_no 0))
    ∷ checking circular circular_as_naming (refused_at 25 4)
    ∷ checking circular hasty_cleared (refused_at 25 0)
    -- 18: a reading holds the atom; 11: there is no reading
    ∷ clearing fact 0 1000 (sevens 12) (refused 18) (sevens 12)
    ∷ clearing choice 0 1000 (sevens 12) (refused 18) (sevens 12)
    ∷ clearing contrary 0 1000 (sevens 12) (fewer 3 0 0) (sevens 12)
    -- an atom without a rule; an atom whose rules are off in both readings; 9, 14 and 13
    ∷ clearing six 4 1000 (sevens 11) (paper 1 10) (six_cleared4 ++ sevens 1)
    ∷ checking six six_cleared4 (clear (atom_no 4))
    ∷ clearing six 5 1000 (sevens 30) (paper 3 30) six_cleared5
    ∷ checking six six_cleared5 (clear (atom_no 5))
    ∷ clearing six 5 2 (sevens 30) (stopped 2) (sevens 30)
    ∷ clearing six 5 1000 (sevens 29) (refused 14) (sevens 29)
    ∷ clearing six 6 1000 (sevens 30) (refused 13) (sevens 30)
    -- the paper that names 0, under the other mark and under neither
    ∷ checking fact fact_as_clearing (refused_at 25 2)
    ∷ checking fact fact_unmarked (refused_at 21 8)
    -- document 02: "the lowest rule that is in both sets of the fully closed pair"
    ∷ finding late_clash 1 1000 (sevens 2) (fewer 5 0 0) (sevens 2)
    -- "Slips to rule out": the second branch of a split starting from what the first had added; a rule under 55 that its negative atoms block
    ∷ checking choice carried_paper (refused_at 25 3)
    ∷ checking barred_book barred_paper (refused_at 25 2)
    ∷ checking barred_book blocked_paper (certain (atom_no 0))
    ∷ []
