-- The next member from 0 on, if it is one of the rules.
use native.Mathlib.Omega.{arith}
use Rattle.closing.proofs.Searches.{next-found, next-nothing}
use Rattle.closing.proofs.clash.lowest_in.Goals as goal

pub returns-then-r-rules : goal.returns-then-r-rules
returns-then-r-rules c = next-found _ _ _ c.next_in-r.ensures (omega arith) (omega arith)

pub returns : goal.returns
returns c = next-nothing _ _ _ c.next_in-r.ensures (omega arith) (omega arith)
