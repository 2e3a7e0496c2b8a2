-- `put_output` stores the pieces of an atom's line behind one another.
use mathlib.Core.Path.{◌≡◌}
use native.Mathlib.Omega.{arith}
use lib.ListN.{length}
use Rattle.decimal.specs.Fewest.{decimal}
use Rattle.decimal.proofs.Fewest.{decimal-short}
use Rattle.aspif.proofs.LinesStored.{output-long, output-stored}
use Rattle.aspif.proofs.lines.put_output.Goals as goal

pub put_number-width-requires : goal.put_number-width-requires
put_number-width-requires c = omega (arith, decimal-short 19 c.args.n (omega arith))

pub overflow_add-width : goal.overflow_add-width
overflow_add-width c =
    omega (arith, c.put_number-width.ensures.ends, decimal-short 19 c.args.n (omega arith))

pub put_item-sized-requires : goal.put_item-sized-requires
put_item-sized-requires c =
    let e : c.put_number-width.result ≡ length (decimal c.args.n) = omega (arith, c.put_number-width.ensures.ends) in
    omega (arith, output-long c.args.n _ e)

pub put_item-named-requires : goal.put_item-named-requires
put_item-named-requires c =
    let e : c.put_number-width.result ≡ length (decimal c.args.n) = omega (arith, c.put_number-width.ensures.ends) in
    omega (arith, output-long c.args.n _ e)

pub put_item-numbered-requires : goal.put_item-numbered-requires
put_item-numbered-requires c =
    let e : c.put_number-width.result ≡ length (decimal c.args.n) = omega (arith, c.put_number-width.ensures.ends) in
    omega (arith, output-long c.args.n _ e)

pub put_text-requires : goal.put_text-requires
put_text-requires c =
    let e : c.put_number-width.result ≡ length (decimal c.args.n) = omega (arith, c.put_number-width.ensures.ends) in
    omega (arith, output-long c.args.n _ e)

pub returns : goal.returns
returns c =
    let e : c.put_number-width.result ≡ length (decimal c.args.n) = omega (arith, c.put_number-width.ensures.ends) in
    output-stored c.args.n _ e c.put_item-sized.ensures c.put_item-named.ensures c.put_item-numbered.ensures c.put_text.ensures
