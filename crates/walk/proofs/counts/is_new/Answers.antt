-- A reading that counts is kept as one row more.
use mathlib.Core.Path.{sym, ◌∙◌}
use borrow.Author.Rules.{rules}
use Rattle.meaning.specs.Choice.{ifb}
use Rattle.walk.proofs.ShownSets.{part-kept}
use Rattle.walk.proofs.Remembering.{kept_more}
use Rattle.walk.proofs.counts.is_new.Goals as goal

pub returns-then-not-is_first_known : goal.returns-then-not-is_first_known
unfolding ifb
returns-then-not-is_first_known c =
    (sym c.if-not-is_first_known.true ∙ c.is_first_known.ensures, c.requires.1)

pub returns : goal.returns
unfolding ifb
returns c =
    let t = sym c.if-not-is_first_known.false ∙ c.is_first_known.ensures in (
      t,
      kept_more _ _ _ _ c.requires.1 _ _ (search rules) (search rules)
          (part-kept c.args.rowed.now.rowed _ _ _ c.shown_part-part.ensures c.requires.0 (sym t)) c.keep.ensures,
    )
