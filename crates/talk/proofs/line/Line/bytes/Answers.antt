-- `bytes` has the digits put behind what is held, where there is room for them.
use mathlib.Core.Path.{refl, sym}
use native.Mathlib.Omega.{arith}
use Rattle.talk.specs.Gathered.{gathered}
use Rattle.talk.proofs.Gathered.{digits-over, digits-fit}
use Rattle.talk.proofs.line.Line.bytes.Goals as goal

pub returns-then-room_left-bytes : goal.returns-then-room_left-bytes
returns-then-room_left-bytes c = sym (digits-over _ _ (omega arith))

pub returns : goal.returns
returns c = sym (digits-fit c.args.bytes.now (gathered c.args.self.now) _ refl c.put_digits.ensures.count c.put_digits.ensures.digits (omega arith))
