-- `put_number` writes the digits in front, which are those of a tenth, and then the last one. The measure is the number.
use native.Mathlib.Omega.{arith}
use borrow.Author.Rules.{rules}
use Rattle.decimal.proofs.Fewest.{decimal-small, decimal-large, decimal-longer, decimal-some, stored-then, stored_one}
use Rattle.decimal.proofs.writing.+put_number.Goals as goal

pub bounds-out-at : goal.bounds-out-at
bounds-out-at t c = omega (arith, decimal-some c.args.n)

pub returns-then-n-lt10 : goal.returns-then-n-lt10
returns-then-n-lt10 t c = rw (decimal-small c.args.n (omega arith)) (stored_one _ _ _)

pub put_number-end-requires : goal.put_number-end-requires
put_number-end-requires t c = (search rules, omega (arith, decimal-longer c.args.n (omega arith)))

pub bounds-out-end : goal.bounds-out-end
bounds-out-end t c = let w = c.put_number-end.ensures in omega (arith, decimal-longer c.args.n (omega arith), w.long, w.ends)

pub overflow_add-result-2 : goal.overflow_add-result-2
overflow_add-result-2 t c = let w = c.put_number-end.ensures in omega (arith, decimal-longer c.args.n (omega arith), w.long, w.ends)

pub returns : goal.returns
returns t c = rw (decimal-large c.args.n (omega arith)) (stored-then c.put_number-end.ensures (stored_one _ _ _))
