-- The search: the word stands at none of the places passed.
use mathlib.Core.Path.{sym, ◌∙◌}
use native.Mathlib.Omega.{arith}
use borrow.Author.Rules.{rules}
use Rattle.words.specs.Names.{is_spelled, place_of}
use Rattle.words.proofs.Names.{first-begun, first-here, first-turn, first-over}
use Rattle.words.proofs.known.number_of.Goals as goal

pub loop-i-init : goal.loop-i-init
unfolding place_of
loop-i-init c = let a = c.args in first-begun a.n (is_spelled a.text.now a.from.now a.to.now a.word.now)

pub returns-then-stands_between : goal.returns-then-stands_between
returns-then-stands_between c =
    let a = c.args in
    (sym (c.loop-i.invariant ∙ first-here a.n (is_spelled a.text.now a.from.now a.to.now a.word.now) c.loop-i.i (omega arith) (sym c.stands_between.ensures ∙ c.if-stands_between.true)), search rules)

pub loop-i-preserved : goal.loop-i-preserved
loop-i-preserved c =
    let a = c.args in
    c.loop-i.invariant ∙ first-turn a.n (is_spelled a.text.now a.from.now a.to.now a.word.now) c.loop-i.i (omega arith) (sym c.stands_between.ensures ∙ c.if-stands_between.false)

pub returns : goal.returns
returns c =
    let a = c.args in
    (sym (c.loop-i.invariant ∙ first-over a.n (is_spelled a.text.now a.from.now a.to.now a.word.now) c.loop-i.i (omega arith) (omega arith)), search rules)
