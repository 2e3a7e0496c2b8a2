-- A choice of a walk, taken. Document 02, request 14: after a choice a closing looks only at what the choice brings.
--
--   taken k d        the colouring d with the choice k taken, one level deeper; d itself where no rule is chosen
--   Ready b d r      the rule may be chosen at d, and all that is new then comes from the rule: d is closed
--   Takes b d k      the choice may be taken at d
--   puts k c         the rule put on its side alone, for closing without support
--   Puts b c k       it may be put there: nothing follows from the pair but by support
use Rattle.std.specs.Prelude.{◌<◌}
use Rattle.meaning.specs.declared.RuleNo.{RuleNo}
use Rattle.meaning.specs.Books.{Book, InBook}
use Rattle.meaning.specs.Colours.{Pair, on_side, off_side, Closed}
use Rattle.meaning.specs.Written.{Tables, colour_on, colour_off, chosen, pair}
use Rattle.meaning.specs.Propagation.{Propagated}
use Rattle.closing.specs.declared.choice.Choice.{Choice}
use Rattle.closing.specs.declared.choice.Choice.TheVariants.{Nothing, On, Off}

abbrev pub taken : Choice → Tables → Tables
taken Nothing d = d
taken (On r) d = chosen on_side r d
taken (Off r) d = chosen off_side r d

pub record Ready (b : Book) (d : Tables) (r : RuleNo) : Type 0 where
  pub closed : Closed b (pair d)
  pub in-book : InBook b r
  pub low : d.level < 255

abbrev pub Takes : Book → Tables → Choice → Type 0
Takes b d Nothing = Unit {0}
Takes b d (On r) = Ready b d r
Takes b d (Off r) = Ready b d r

abbrev pub puts : Choice → Tables → Tables
puts Nothing c = c
puts (On r) c = colour_on r c
puts (Off r) c = colour_off r c

abbrev pub Puts : Book → Pair → Choice → Type 0
Puts b c Nothing = Unit {0}
Puts b c (On r) = InBook b r × Propagated b c
Puts b c (Off r) = InBook b r × Propagated b c
