-- The claim that a book has no answer set is shown by no pair: its branches end at contradictions only.
use mathlib.Core.Path.{◌≡◌, refl}
use mathlib.Core.Bool.{or-false}
use Rattle.meaning.specs.Books.{Book}
use Rattle.meaning.specs.Colours.{Pair, clashing}
use Rattle.meaning.specs.declared.kind.Claim.TheVariants.{NoReading}
use Rattle.meaning.specs.Claim.{shown, ended}
use Rattle.meaning.proofs.OnWay.{Silent}

module _ (b : Book) where
  pub no-reading-silent : Silent b NoReading
  unfolding shown
  no-reading-silent c = refl

  -- 45 is allowed only when some rule is in both sets
  pub no-reading-ended : (c : Pair) → ended b NoReading c ≡ clashing b c
  unfolding ended shown
  no-reading-ended c = or-false (clashing b c)
