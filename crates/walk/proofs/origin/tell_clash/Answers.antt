-- Where there was a contradictory try its origin is closed, and the rule is that of the closing.
use mathlib.Core.Path.{refl}
use Rattle.walk.proofs.ToldClash.{told_none, told-still, told-rule, origin-read}
use Rattle.walk.proofs.origin.tell_clash.Goals as goal

pub returns-then-t-eq255 : goal.returns-then-t-eq255
returns-then-t-eq255 c = told_none _ _ _ c.if-t-eq255.true

pub returns-in_default : goal.returns-in_default
returns-in_default c =
    told-still _ _ _ c.if-t-eq255.false (origin-read _ _ _ c.empty.ensures c.words_at.ensures c.words_at-2.ensures refl) _
    c.close-closed.ensures.1 c.in_default.is

pub returns : goal.returns
returns c =
    told-rule _ _ _ c.if-t-eq255.false (origin-read _ _ _ c.empty.ensures c.words_at.ensures c.words_at-2.ensures refl) _
    c.close-closed.ensures.1 c.in-Some.is
