-- The rules stamped are those with a colour now that had none, and the marks are the rules that are not off.
use mathlib.Core.Path.{ap, ◌∙◌}
use Rattle.meaning.specs.Books.{Rules}
use Rattle.meaning.specs.Bits.{listed}
use Rattle.meaning.specs.Written.{stamp_from}
use Rattle.closing.proofs.Searches.{newly-listed, marks-listed}
use Rattle.closing.proofs.ended.Goals as goal

pub returns : goal.returns
returns c =
    let a = c.args in
    let new = newly-listed _ _ _ a.on.w a.off.w a.c.on.w a.c.off.w c.union.ensures c.union-2.ensures c.difference-new.ensures in
    let l = c.stamp.ensures ∙ ap (λ (s : Rules). stamp_from 0 a.rules s a.c.level a.c.levels) new in
    let marks = marks-listed c.difference.result.w c.below.result.w a.off.w a.rules c.difference.ensures c.below.ensures in (
      λ i. record { on = listed a.on.w; off = listed a.off.w; marks = marks i; level = a.c.level; levels = l i },
      c.lowest_clash.ensures,
    )
