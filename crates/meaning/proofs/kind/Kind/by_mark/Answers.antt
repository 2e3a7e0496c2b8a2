-- One law of marks for each way through.
use mathlib.Core.Path.{sym}
use Rattle.meaning.proofs.Marks.{mark-first, mark-naming, mark-clearing, mark-no-reading, mark-second}
use Rattle.meaning.proofs.kind.Kind.by_mark.Goals as goal

pub returns-then-first : goal.returns-then-first
returns-then-first c = sym (mark-first _ _ c.if-first.true)

pub returns-then-second : goal.returns-then-second
returns-then-second c = sym (mark-naming _ _ c.if-first.false c.if-second.true)

pub returns-then-second-2 : goal.returns-then-second-2
returns-then-second-2 c = sym (mark-clearing _ _ c.if-first.false c.if-second-2.true)

pub returns-then-second-3 : goal.returns-then-second-3
returns-then-second-3 c = sym (mark-no-reading _ _ c.if-first.false c.if-second-3.true)

pub returns : goal.returns
returns c =
    sym (mark-second _ _ c.if-first.false c.if-second.false c.if-second-2.false c.if-second-3.false)
