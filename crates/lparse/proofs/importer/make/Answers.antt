-- The second pass: what is made and what is left are the rules of the book.
use mathlib.Core.Path.{◌≡◌, ap, ◌∙◌}
use native.Mathlib.Omega.{arith}
use borrow.Author.Rules.{rules}
use Rattle.std.specs.Prelude.{Ok}
use Rattle.lparse.proofs.Reading.{took-behind}
use Rattle.lparse.proofs.Turning.{passing-start, passing-placed, passing-turn, passing-unread, passing-end}
use Rattle.lparse.proofs.importer.make.Goals as goal

pub loop-word-init : goal.loop-word-init
loop-word-init c = (
  search rules,
  passing-start c.args.text.now c.args.atoms.now c.requires.0 (c.nothing.ensures c.args.draft.now c.requires.1)
      c.open_rule.ensures,
)

pub form-f-requires : goal.form-f-requires
form-f-requires c =
    let a = c.args in
    let i : c.take_word.result ≡ Ok c.in-Ok-Some.field-0 = c.in-Ok-Some.is in
    passing-placed a.text.now a.atoms.now c.loop-word.at c.loop-word.due c.loop-word.invariant.1 c.take_word.ensures c.in-Ok-Some.word
    (i ∙ ap Ok c.in-Ok-Some.field-0-is)

pub loop-word-smaller : goal.loop-word-smaller
loop-word-smaller c =
    let i : c.take_word.result ≡ Ok c.in-Ok-Some.field-0 = c.in-Ok-Some.is in
    let h = took-behind c.args.text.now c.loop-word.at c.loop-word.due c.take_word.ensures c.in-Ok-Some.word (i ∙ ap Ok c.in-Ok-Some.field-0-is) in
    omega (arith, h.0, h.1)

pub loop-word-preserved : goal.loop-word-preserved
loop-word-preserved c =
    let i : c.take_word.result ≡ Ok c.in-Ok-Some.field-0 = c.in-Ok-Some.is in
    let e = i ∙ ap Ok c.in-Ok-Some.field-0-is in (
      (took-behind c.args.text.now c.loop-word.at c.loop-word.due c.take_word.ensures c.in-Ok-Some.word e).1,
      passing-turn c.args.text.now c.args.atoms.now c.loop-word.at c.loop-word.due c.loop-word.invariant.1 c.take_word.ensures
          c.in-Ok-Some.word e c.form-f.ensures,
    )

pub returns-in-Err : goal.returns-in-Err
returns-in-Err c =
    let a = c.args in
    absurd (passing-unread a.text.now a.atoms.now c.loop-word.at c.loop-word.due c.loop-word.invariant.1 c.take_word.ensures _ c.in-Err.is)

pub returns-in-Ok-None : goal.returns-in-Ok-None
returns-in-Ok-None c =
    let a = c.args in
    let i : c.take_word.result ≡ Ok c.in-Ok-None.field-0 = c.in-Ok-None.is in
    passing-end a.text.now a.atoms.now c.loop-word.at c.loop-word.due c.loop-word.invariant.1 c.take_word.ensures (i ∙ ap Ok c.in-Ok-None.field-0-is)
