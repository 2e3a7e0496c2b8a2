use native.Mathlib.Omega.{arith}
use mir.Syntax.{w64}
use mir.Val.{Fits}
use lib.Count.{trailing_le}
use Rattle.meaning.proofs.Words.{tz-lowers}
use borrow.Author.Rules.{rules}
use Rattle.meaning.proofs.bitset.trailing.Goals as goal

pub overflow_cast-result : goal.overflow_cast-result
overflow_cast-result c = record { fits = omega (arith, trailing_le 64 c.args.x) }

pub returns : goal.returns
returns c =
    let f : Fits w64 c.args.x = search rules in
    tz-lowers c.args.x (omega arith) f.fits
