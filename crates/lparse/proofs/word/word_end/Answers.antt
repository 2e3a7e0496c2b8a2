-- The end of a word: where it ends from here on is where the whole word ends.
use mathlib.Core.Path.{◌≡◌, sym, ◌∙◌, ap}
use Prim.Native.Nat.{◌+◌}
use native.Mathlib.Omega.{arith}
use lib.ListN.{length}
use borrow.Author.Rules.{rules}
use Rattle.lparse.proofs.Words.{end_from, end-first, end-end, end-here, end-turn}
use Rattle.lparse.proofs.word.word_end.Goals as goal

pub loop-i-init : goal.loop-i-init
loop-i-init c = end-first _ _

pub returns-then-ends_word : goal.returns-then-ends_word
returns-then-ends_word c =
    let s = c.args.text.now in (
      sym (c.loop-i.invariant ∙ end-here s _ c.loop-i.i (omega arith)
          (sym c.ends_word.ensures ∙ c.if-ends_word.true)),
      search rules,
    )

pub loop-i-preserved : goal.loop-i-preserved
loop-i-preserved c =
    let s = c.args.text.now in
    c.loop-i.invariant ∙ end-turn s _ c.loop-i.i (omega arith) (sym c.ends_word.ensures ∙ c.if-ends_word.false)
    ∙ ap (λ q. end_from q s (c.loop-i.i + 1)) (sym c.turn-q.ensures)

pub returns : goal.returns
returns c =
    let s = c.args.text.now in
    let e : c.loop-i.i ≡ length s = omega arith in
    (rw (sym e) (sym (c.loop-i.invariant ∙ end-end s _ c.loop-i.i (omega arith))), search rules)
