-- `read_outputs` reads line by line.
use mathlib.Core.Path.{refl, sym}
use Prim.Native.Nat.{◌<◌}
use native.Mathlib.Omega.{arith}
use lib.Seq.{length-take-le}
use borrow.Author.Rules.{rules}
use Rattle.aspif.proofs.Answering.{stored-front}
use Rattle.aspif.proofs.OutputsCounted.{line-bounds, counted_start, counted-end, counted-less, counted-more}
use Rattle.aspif.proofs.outputs.read_outputs.Goals as goal

pub loop-end-init : goal.loop-end-init
loop-end-init c = (refl, counted_start _ _ c.requires)

pub slice_bounds-put_output-end : goal.slice_bounds-put_output-end
slice_bounds-put_output-end c = sym c.loop-end.invariant.0

pub put_output-size-requires : goal.put_output-size-requires
put_output-size-requires c =
    let g = c.loop-end.invariant in
    let h : c.loop-end.count < 18446744073709551615 = omega (arith, g.1.ahead, g.1.inside) in
    (omega (arith, g.0, (line-bounds _ h).1), h)

pub slice_bounds-line-end : goal.slice_bounds-line-end
slice_bounds-line-end c =
    let g = c.loop-end.invariant in
    let h : c.loop-end.count < 18446744073709551615 = omega (arith, g.1.ahead, g.1.inside) in
    omega (arith, g.0, (line-bounds _ h).1, c.put_output-size.ensures.ends, c.put_output-size.ensures.long)

pub slice_bounds-skip_text-end : goal.slice_bounds-skip_text-end
slice_bounds-skip_text-end c =
    let g = c.loop-end.invariant in
    let h : c.loop-end.count < 18446744073709551615 = omega (arith, g.1.ahead, g.1.inside) in
    sym (length-take-le _ _ (omega (arith, g.0, (line-bounds _ h).1, c.put_output-size.ensures.ends, c.put_output-size.ensures.long)))

pub skip_text-requires : goal.skip_text-requires
skip_text-requires c =
    c.loop-end.invariant.1.inside

pub returns-in_default : goal.returns-in_default
returns-in_default c =
    let g = c.loop-end.invariant in
    let h : c.loop-end.count < 18446744073709551615 = omega (arith, g.1.ahead, g.1.inside) in
    counted-end _ _ g.1 _ (stored-front _ _ c.put_output-size.ensures (omega (arith, g.0, (line-bounds _ h).1))) _ c.skip_text.ensures.result_value c.in_default.is

pub overflow_add-count : goal.overflow_add-count
overflow_add-count c =
    let g = c.loop-end.invariant in
    let h : c.loop-end.count < 18446744073709551615 = omega (arith, g.1.ahead, g.1.inside) in
    omega arith

pub loop-end-smaller : goal.loop-end-smaller
loop-end-smaller c =
    let g = c.loop-end.invariant in
    let h : c.loop-end.count < 18446744073709551615 = omega (arith, g.1.ahead, g.1.inside) in
    counted-less _ _ g.1 _ (stored-front _ _ c.put_output-size.ensures (omega (arith, g.0, (line-bounds _ h).1))) _ c.skip_text.ensures.result_value c.in-Some.is c.skip_text.ensures.reaches h

pub loop-end-preserved : goal.loop-end-preserved
loop-end-preserved c =
    let g = c.loop-end.invariant in
    let h : c.loop-end.count < 18446744073709551615 = omega (arith, g.1.ahead, g.1.inside) in
    (search rules, counted-more _ _ g.1 _ (stored-front _ _ c.put_output-size.ensures (omega (arith, g.0, (line-bounds _ h).1))) _ c.skip_text.ensures.result_value c.in-Some.is c.skip_text.ensures.reaches h)
