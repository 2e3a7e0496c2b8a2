-- Suspects that are looked at one after the other, as the functions of this crate take them (meaning's specs/Suspects). Document 02,
-- request 14.
--
--   no_rules          the empty set
--   Inside b s       s has rules of the book only
--   Suspected b off s todo s' todo'   the rules that stand on the atoms of todo are suspects now; next are their heads that are doubted
--   woke b r v woken   the rules of `woken`, and those that stand on the head of r unless it was the head of a rule of v before
--   Tried b r v woken v' woken'   the rule has been looked at: it does not stand on v, or it is held now and has woken others
--   Swept b s v cand v' rest woken   candidates among s have been looked at, so that `rest` is left of them, and `woken` are to be looked at
--                    again
use Rattle.std.specs.Prelude.{◌≡◌, true, false, not, ◌&&◌, ◌||◌, [], ◌∷◌, ◌≤◌}
use Rattle.meaning.specs.declared.RuleNo.{RuleNo}
use Rattle.meaning.specs.Sets.{◌∈◌, ◌∉◌, every, some}
use Rattle.meaning.specs.Books.{Atoms, Rules, Book, same_atom, rule, count, InBook}
use Rattle.meaning.specs.Colours.{heads, plus, Under}
use Rattle.meaning.specs.Engine.{less}
use Rattle.meaning.specs.Pending.{joined}
use Rattle.meaning.specs.Suspects.{doubted, standing, AtRest, stands}

abbrev pub no_rules : Rules
no_rules r = false

abbrev pub Inside : Book → Rules → Type 0
Inside b s = (r : RuleNo) → count b ≤ r.0 → r ∉ s

pub record Suspected (b : Book) (off s : Rules) (todo : Atoms) (s' : Rules) (todo' : Atoms) : Type 0 where
  pub suspects-now : s' ≡ joined s (less (standing b off todo) s)
  pub todo-now : todo' ≡ doubted b off (less (standing b off todo) s)

unfoldable pub woke : Book → RuleNo → Rules → Rules → Rules
woke b r v woken q = woken q || (not (heads b v (rule b r).head) && some (same_atom (rule b r).head) (rule b q).pos)

pub data Tried (b : Book) (r : RuleNo) (v woken : Rules) : Rules → Rules → Type 0 where
  waits : every (heads b v) (rule b r).pos ≡ false → Tried b r v woken v woken
  holds : every (heads b v) (rule b r).pos ≡ true → Tried b r v woken (plus v (r ∷ [])) (woke b r v woken)

pub record Swept (b : Book) (s v cand v' rest woken : Rules) : Type 0 where
  pub above : Under b v v'
  pub forced : Under b cand s → (t : Rules) → AtRest b (stands b s) t → Under b v t → Under b v' t
  pub covered : Under b (stands b s v) (joined v cand) → Under b (stands b s v') (joined v' (joined rest woken))
  -- where a rule was woken one has been added
  pub new : (r : RuleNo) → r ∈ woken → (q : RuleNo) × InBook b q × (q ∈ v') × (q ∉ v)
