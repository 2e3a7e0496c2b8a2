-- The atoms handed over: the first n are the ones found, the others stay.
use mathlib.Core.Path.{refl}
use native.Mathlib.Omega.{arith}
use Rattle.lparse.proofs.Noting.{handed-many, handed}
use Rattle.lparse.proofs.gather.hand_over.Goals as goal

pub returns-then-n-gt255 : goal.returns-then-n-gt255
returns-then-n-gt255 c = λ l s. handed-many _ s (omega arith)

pub returns : goal.returns
returns c = λ l s. handed c.args.seen.now s (omega arith) (rw c.copy_from_slice.ensures.after refl)
