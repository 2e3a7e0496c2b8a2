-- Where there is room, both half rows are written; else nothing is.
use mathlib.Core.Path.{sym, ◌∙◌, ap}
use Prim.Native.Nat.{◌+◌, ◌*◌}
use Rattle.meaning.proofs.Choice.{lt_yes, lt_no}
use Rattle.walk.specs.Memory.{stored, kept_at}
use Rattle.walk.proofs.memory.keep.Goals as goal

pub returns-then-seen-k : goal.returns-then-seen-k
unfolding kept_at
returns-then-seen-k c = sym (lt_no _ _ _ _ c.if-seen-k.true)

pub returns : goal.returns
unfolding kept_at
returns c =
    c.store_words-2.ensures
    ∙ ap (stored (c.args.k * 2 + 1) c.args.on.w) c.store_words.ensures
    ∙ sym (lt_yes _ _ _ _ c.if-seen-k.false)
