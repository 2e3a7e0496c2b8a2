-- The fold goes over the bytes in front of the place.
use Rattle.std.proofs.Common.{◌∙◌, rules}
use Rattle.std.proofs.lemmas.Iterator.{YieldsList-from_slice, YieldsList-from_take}
use Rattle.std.proofs.lemmas.Iterator.Consumers.{fold_from_yields_List}
use Rattle.words.specs.Lines.{column_behind}
use Rattle.words.proofs.Counts.{fold-over}
use Rattle.words.proofs.place.column_of.Goals as goal

pub returns : goal.returns
returns c =
    fold_from_yields_List _ column_behind _ _ c.fold.ensures.ran (YieldsList-from_take c.args.place (YieldsList-from_slice c.args.text.now cc) cc) (λ a x b q k. search rules) ∙ fold-over _ _ _
