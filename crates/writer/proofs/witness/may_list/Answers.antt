-- Whether one rule may be listed next: each return is a law of the test.
use native.Mathlib.Omega.{arith}
use mathlib.Core.Path.{sym, ap, ◌∙◌}
use mathlib.Core.Bool.{not}
use Rattle.meaning.proofs.Tests.{true-and-false}
use Rattle.book.proofs.Places.{pos-below}
use Rattle.writer.proofs.Witnessing.{list-listed, list-other, list-may}
use Rattle.writer.proofs.witness.may_list.Goals as goal
use Rattle.writer.proofs.witness.may_list.Goals.{then-not-has, else-not-has}

pub every_in-requires : goal.every_in-requires
every_in-requires c = pos-below _ _ c.args.book.now.read_as _ c.requires.0 (omega arith) _ c.positives.ensures

pub returns-then-generates : goal.returns-then-generates
returns-then-generates c = elim c.if-not-has.branch [
  | then-not-has w ↦
      list-may _ c.args.book.now.shape c.args.book.now.read_as (omega arith) c.args.r c.requires.0 _ _ c.requires.1 _ c.positives.ensures
      (sym c.has.ensures ∙ w.if-not-has.true) _ w.generates.ensures (sym w.value-is ∙ c.if-generates.true) c.every_in.ensures
  | else-not-has w ↦ true-and-false c.if-generates.true (w.value-is ∙ ap not w.if-not-has.false)
]

pub returns-else-generates : goal.returns-else-generates
returns-else-generates c = elim c.if-not-has.branch [
  | then-not-has w ↦ c.if-generates.false ∙ list-other _ _ _ _ w.generates.ensures (sym w.value-is ∙ c.if-generates.false)
  | else-not-has w ↦ c.if-generates.false ∙ list-listed _ _ _ _ (sym c.has.ensures ∙ w.if-not-has.false)
]
