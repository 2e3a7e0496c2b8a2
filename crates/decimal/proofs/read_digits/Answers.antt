-- `read_digits` reads what the digits say: the value so far, and what is left of the word, say what the whole word says.
use mathlib.Core.Path.{◌≡◌, sym, ◌∙◌}
use Prim.Native.Nat.{◌+◌, ◌*◌, ◌-◌}
use native.Mathlib.Omega.{arith}
use lib.ListN.{get_or}
use Rattle.decimal.proofs.Turns.{value-end, value-next, value-none}
use Rattle.decimal.proofs.read_digits.Goals as goal

pub returns-then-not-is_ascii_digit : goal.returns-then-not-is_ascii_digit
returns-then-not-is_ascii_digit c =
    sym (c.loop-x.invariant ∙ value-none _ c.args.word.now c.loop-x.x-index _ (omega arith) (λ low high few.
    omega (arith, c.if-not-is_ascii_digit.ensures.cases)))

pub returns-in_err-checked_mul : goal.returns-in_err-checked_mul
returns-in_err-checked_mul c =
    c.from_residual.ensures ∙ sym (c.loop-x.invariant ∙ value-none _ c.args.word.now c.loop-x.x-index _ (omega arith) (λ low high few.
    c.in_err-checked_mul.ensures (omega arith)))

pub returns-in_err-value : goal.returns-in_err-value
returns-in_err-value c =
    c.from_residual-in_err-value.ensures ∙ sym (c.loop-x.invariant ∙ value-none _ c.args.word.now c.loop-x.x-index _ (omega arith) (λ low high few.
    let tens = c.in_ok-checked_mul.ensures in c.in_err-value.ensures (omega arith)))

pub returns-then-most-value : goal.returns-then-most-value
returns-then-most-value c =
    let tens = c.in_ok-checked_mul.ensures in
    let whole = c.in_ok-value.ensures in
    sym (c.loop-x.invariant ∙ value-none _ c.args.word.now c.loop-x.x-index _ (omega arith) (λ low high few. omega arith))

pub loop-x-preserved : goal.loop-x-preserved
loop-x-preserved c =
    let digit = c.if-not-is_ascii_digit.ensures.cases in
    let tens = c.in_ok-checked_mul.ensures in
    let whole = c.in_ok-value.ensures in
    let e : 10 * c.loop-x.value + (get_or c.args.word.now c.loop-x.x-index 0 - 48) ≡ c.in_ok-value.value = omega arith in
    rw e at (c.loop-x.invariant ∙ value-next _ c.args.word.now c.loop-x.x-index _ (omega arith) digit.0 digit.1 (omega arith))

pub returns : goal.returns
returns c = sym (c.loop-x.invariant ∙ value-end _ c.args.word.now c.loop-x.x-index _ (omega arith))
