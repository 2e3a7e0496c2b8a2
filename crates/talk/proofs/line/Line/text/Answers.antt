-- `text` copies the text behind what is held, where there is room for it.
use mathlib.Core.Path.{sym}
use native.Mathlib.Omega.{arith}
use Rattle.talk.proofs.Gathered.{text-over, text-fits}
use Rattle.talk.proofs.line.Line.text.Goals as goal

pub returns-then-room_left-text : goal.returns-then-room_left-text
returns-then-room_left-text c = sym (text-over _ _ (omega arith))

pub returns : goal.returns
returns c = sym (text-fits _ _ _ c.copy_from_slice.ensures.after (omega arith) (omega arith))
