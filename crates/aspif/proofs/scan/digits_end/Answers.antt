-- `digits_end` finds the first byte that is no digit.
use Prim.Native.Nat.{◌-◌}
use native.Mathlib.Omega.{arith}
use borrow.Author.Rules.{rules}
use lib.ListN.{length, take, drop, length-take, length-drop}
use Rattle.std.specs.Char.{IsAsciiDigit, IsNotAsciiDigit}
use Rattle.std.proofs.lemmas.Iterator.{YieldsList-from_slice, IsFirst-from_position}
use Rattle.aspif.proofs.Turns.{digits-found}
use Rattle.aspif.proofs.scan.digits_end.Goals as goal

pub returns-in-Some : goal.returns-in-Some
returns-in-Some c =
    let part = take (length c.args.text.now - c.args.at) (drop c.args.at c.args.text.now) in
    let first = IsFirst-from_position _ _ c.position.result IsNotAsciiDigit IsAsciiDigit c.position.ensures.ran
    (YieldsList-from_slice part cc) (λ x q k. search rules) (λ x q k. search rules) in
    let e = rw c.in-Some.is at (digits-found c.args.text.now c.args.at c.position.result first) in
    let found = rw c.in-Some.is at first in
    (omega (arith, e), omega (arith, simp (length-take, length-drop) at found.0))

pub returns-in-None : goal.returns-in-None
returns-in-None c =
    let part = take (length c.args.text.now - c.args.at) (drop c.args.at c.args.text.now) in
    let first = IsFirst-from_position _ _ c.position.result IsNotAsciiDigit IsAsciiDigit c.position.ensures.ran
    (YieldsList-from_slice part cc) (λ x q k. search rules) (λ x q k. search rules) in
    let e = rw c.in-None.is at (digits-found c.args.text.now c.args.at c.position.result first) in
    (omega (arith, e), omega arith)
