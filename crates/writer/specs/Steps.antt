-- What the functions of src/ hand each other, in the words of the meaning: the code's steps and the tests of its searches. Document 01,
-- "The paper": "in each branch write 45 as soon as allowed. Else write the first of: 41 ...; 42 ...; 55 with all rules outside V that
-- aren't off."
--
--   new_on, new_off        the rules that 41 and 42 are for, asked by tables of atoms: "may go on and isn't on", "may go off so and isn't
--                        off"
--   may_by x, new_by x     whether a rule may go to the side x; the rules that the step for it is for
--   tabled k headed lost  what tables of the heads of on rules, and of the atoms all of whose rules are off, say of the claim
--   outside marks off    the rules that are neither marked nor off
--   may_list b s l        the rules of s that may be listed next, where those of l are listed
--   Listed b m l w       the array l holds the m rules of the list w
--   Does b l x n         the code's step x, with the array l beside it, is the step n
use Rattle.std.specs.Prelude.{◌≡◌, Bool, false, not, ◌&&◌, List, ℕ, length}
use Rattle.meaning.specs.declared.RuleNo.{RuleNo}
use Rattle.meaning.specs.declared.kind.Kind.{Kind}
use Rattle.meaning.specs.declared.kind.Kind.TheVariants.{Naming, Clearing}
use Rattle.meaning.specs.declared.kind.Claim.{Claim}
use Rattle.meaning.specs.declared.kind.Claim.TheVariants.{About, NoReading}
use Rattle.meaning.specs.Sets.{every, some}
use Rattle.meaning.specs.Books.{Atoms, Rules, Book, rule}
use Rattle.meaning.specs.Colours.{Side, on_side, off_side, heads}
use Rattle.meaning.specs.Written.{of}
use Rattle.meaning.specs.Lowest.{rules_in}
use Rattle.meaning.specs.Engine.{Next, ends, puts-on, puts-off, drops, splits, stuck, less}
use Rattle.book.specs.Tables.{atoms_in}
use Rattle.writer.specs.declared.step.Step.{Step}
use Rattle.writer.specs.declared.step.Step.TheVariants.{On, Off, Unfounded, Stops}
use Rattle.writer.specs.declared.step.Tip.TheVariants.{Ended, Parted, Unsettled}

unfoldable pub tabled_by : Kind → List Bool → List Bool → Atoms
tabled_by Naming headed lost = atoms_in headed
tabled_by Clearing headed lost = atoms_in lost

unfoldable pub tabled : Claim → List Bool → List Bool → Bool
tabled (About q a) headed lost = tabled_by q headed lost a
tabled NoReading headed lost = false

unfoldable pub new_on : Book → List Bool → List Bool → List Bool → Rules
new_on b headed lost on =
    less (λ r. every (atoms_in headed) (rule b r).pos && every (atoms_in lost) (rule b r).neg) (of on)

unfoldable pub new_off : Book → List Bool → List Bool → Rules
new_off b headed off = less (λ r. some (atoms_in headed) (rule b r).neg) (of off)

-- the same for a side: 41 puts on, 42 puts off
unfoldable pub may_by : Side → Book → List Bool → List Bool → Rules
may_by on_side b headed lost r = every (atoms_in headed) (rule b r).pos && every (atoms_in lost) (rule b r).neg
may_by off_side b headed lost r = some (atoms_in headed) (rule b r).neg

unfoldable pub new_by : Side → Book → List Bool → List Bool → List Bool → Rules
new_by on_side b headed lost on = new_on b headed lost on
new_by off_side b headed lost off = new_off b headed off

unfoldable pub outside : List Bool → List Bool → Rules
outside marks off = less (λ r. not (of marks r)) (of off)

unfoldable pub may_list : Book → Rules → List Bool → Rules
may_list b s l r = less s (of l) r && every (heads b (of l)) (rule b r).pos

pub record Listed (b : Book) (m : ℕ) (l : List Bool) (w : List RuleNo) : Type 0 where
  pub counted : m ≡ length w
  pub listed : rules_in b (of l) ≡ w

pub data Does (b : Book) (l : List Bool) : Step → Next → Type 0 where
  does-on : {r : RuleNo} → Does b l (On r) (puts-on r)
  does-off : {r : RuleNo} → Does b l (Off r) (puts-off r)
  does-drop : {m : ℕ} {w : List RuleNo} → Listed b m l w → Does b l (Unfounded m) (drops w)
  does-end : Does b l (Stops Ended) ends
  does-split : {r : RuleNo} → Does b l (Stops (Parted r)) (splits r)
  does-nothing : Does b l (Stops Unsettled) stuck
