-- The search is the walk to the first reading, and how it ends tells whether there is one.
use mathlib.Core.Path.{◌≡◌, sym, ◌∙◌, ap}
use Rattle.book.specs.ReadBook.{the_book}
use Rattle.walk.specs.Run.{State}
use Rattle.walk.specs.Find.{first_walk}
use Rattle.walk.specs.declared.tally.Halt.TheVariants.{Going, Full, Limit}
use Rattle.crews.specs.Log.{searched, passed, found}
use Rattle.crews.proofs.one_log.search.Goals as goal

pub returns-in-Full : goal.returns-in-Full
unfolding first_walk passed found
returns-in-Full c =
    let e : searched (the_book c.args.book.now) c.args.limit ≡ Full = sym (ap (λ (s : State). s.tally.halt) c.first.ensures) ∙ c.in-Full.is in (ap passed e, sym (ap found e))

pub returns-in-Going : goal.returns-in-Going
unfolding first_walk passed found
returns-in-Going c =
    let e : searched (the_book c.args.book.now) c.args.limit ≡ Going = sym (ap (λ (s : State). s.tally.halt) c.first.ensures) ∙ c.in-Going.is in (ap passed e, sym (ap found e))

pub returns-in-Limit : goal.returns-in-Limit
unfolding first_walk passed
returns-in-Limit c =
    let e : searched (the_book c.args.book.now) c.args.limit ≡ Limit = sym (ap (λ (s : State). s.tally.halt) c.first.ensures) ∙ c.in-Limit.is in ap passed e
