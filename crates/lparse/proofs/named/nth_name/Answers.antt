-- The pass over the text: the name found so far, or else the one that the rest has, is the name.
use mathlib.Core.Path.{◌≡◌, ap, sym, ◌∙◌}
use native.Mathlib.Omega.{arith}
use borrow.Author.Rules.{rules}
use Rattle.std.specs.Prelude.{Ok}
use Rattle.lparse.proofs.Reading.{took-behind}
use Rattle.lparse.proofs.Names.{named_start, name-turn, name-unread, name_done}
use Rattle.lparse.proofs.named.nth_name.Goals as goal

pub loop-word-init : goal.loop-word-init
loop-word-init c = (search rules, named_start _ _ _)

pub loop-word-smaller : goal.loop-word-smaller
loop-word-smaller c =
    let i : c.take_word.result ≡ Ok c.in-Ok-Some.field-0 = c.in-Ok-Some.is in
    let h = took-behind c.args.text.now c.loop-word.at c.loop-word.due c.take_word.ensures c.in-Ok-Some.word (i ∙ ap Ok c.in-Ok-Some.field-0-is) in
    omega (arith, h.0, h.1)

pub loop-word-preserved : goal.loop-word-preserved
loop-word-preserved c =
    let i : c.take_word.result ≡ Ok c.in-Ok-Some.field-0 = c.in-Ok-Some.is in
    let e = i ∙ ap Ok c.in-Ok-Some.field-0-is in (
      (took-behind c.args.text.now c.loop-word.at c.loop-word.due c.take_word.ensures c.in-Ok-Some.word e).1,
      c.loop-word.invariant.1
          ∙ name-turn c.args.text.now c.args.a c.loop-word.at c.loop-word.due c.loop-word.found c.loop-word.left c.take_word.ensures
          c.in-Ok-Some.word e c.name_said-here.ensures c.kth_found-found.ensures c.kth_left-left.ensures,
    )

pub returns-in-Err : goal.returns-in-Err
returns-in-Err c =
    name-unread _ _ c.loop-word.at c.loop-word.due c.loop-word.found c.loop-word.left c.take_word.ensures _ c.in-Err.is
    ∙ sym c.loop-word.invariant.1

pub returns-in-Ok-None : goal.returns-in-Ok-None
returns-in-Ok-None c =
    let i : c.take_word.result ≡ Ok c.in-Ok-None.field-0 = c.in-Ok-None.is in
    name_done _ _ c.loop-word.at c.loop-word.due c.loop-word.found c.loop-word.left c.take_word.ensures (i ∙ ap Ok c.in-Ok-None.field-0-is)
    ∙ sym c.loop-word.invariant.1
