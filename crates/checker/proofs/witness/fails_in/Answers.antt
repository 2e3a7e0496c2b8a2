-- A positive atom outside the table decides; without one the negative atoms do.
use native.Mathlib.Omega.{arith}
use mathlib.Core.Path.{sym, ap, ◌∙◌}
use mathlib.Core.Bool.{not}
use Rattle.book.proofs.Bodies.{every-part, some-part}
use Rattle.book.proofs.Places.{pos-below, neg-below}
use Rattle.checker.proofs.WitnessChecked.{fails-positive, fails-negative}
use Rattle.checker.proofs.witness.fails_in.Goals as goal

pub every_in-requires : goal.every_in-requires
every_in-requires c =
    pos-below _ _ c.args.book.now.read_as _ c.requires (omega arith) _ c.positives.ensures

pub some_in-requires : goal.some_in-requires
some_in-requires c =
    neg-below _ _ c.args.book.now.read_as _ c.requires (omega arith) _ c.negatives.ensures

pub returns-then-not-every_in : goal.returns-then-not-every_in
returns-then-not-every_in c =
    ap not c.if-not-every_in.true
    ∙ sym (fails-positive _ _ (sym (every-part _ _ _ c.positives.ensures) ∙ sym c.every_in.ensures ∙ c.if-not-every_in.true))

pub returns-else-not-every_in : goal.returns-else-not-every_in
returns-else-not-every_in c =
    c.some_in.ensures
    ∙ some-part _ _ _ c.negatives.ensures
    ∙ sym (fails-negative _ _ (sym (every-part _ _ _ c.positives.ensures) ∙ sym c.every_in.ensures ∙ c.if-not-every_in.false))
