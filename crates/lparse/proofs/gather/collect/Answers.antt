-- The pass over the text: the atoms that stand in the array, and those of the rest, are the atoms of the text.
use mathlib.Core.Path.{◌≡◌, refl, ap, sym, ◌∙◌}
use native.Mathlib.Omega.{arith}
use borrow.Author.Rules.{rules}
use Rattle.std.specs.Prelude.{Ok, Err, Some, None}
use Rattle.std.proofs.lemmas.Result.{err_from_is_err_and}
use Rattle.lparse.proofs.Reading.{took-behind}
use Rattle.lparse.proofs.Noting.{stands-long}
use Rattle.lparse.proofs.Collecting.{gathering-start, gathering-turn, gather-unread, gather-end}
use Rattle.lparse.proofs.gather.collect.Goals as goal

pub loop-word-init : goal.loop-word-init
loop-word-init c = (search rules, refl, gathering-start _ _ _ refl)

pub take_word-requires : goal.take_word-requires
take_word-requires c = search rules

pub note-n-requires : goal.note-n-requires
note-n-requires c =
    stands-long c.loop-word.invariant.2.stand

pub loop-word-smaller : goal.loop-word-smaller
loop-word-smaller c =
    let e : c.take_word.result ≡ Ok (Some c.in-Some.word) = c.in_ok-word.was ∙ ap Ok c.in-Some.is in
    let h = took-behind c.args.text.now c.loop-word.at c.loop-word.due c.take_word.ensures _ e in omega (arith, h.0, h.1)

pub loop-word-preserved : goal.loop-word-preserved
loop-word-preserved c =
    let e : c.take_word.result ≡ Ok (Some c.in-Some.word) = c.in_ok-word.was ∙ ap Ok c.in-Some.is in (
      (took-behind c.args.text.now c.loop-word.at c.loop-word.due c.take_word.ensures _ e).1,
      c.loop-word.invariant.1,
      gathering-turn c.args.text.now c.args.seen.now c.loop-word.at c.loop-word.due c.loop-word.invariant.2 c.take_word.ensures _ e
          c.note-n.ensures,
    )

pub returns-in_err-word : goal.returns-in_err-word
returns-in_err-word c =
    let g = c.loop-word.invariant.2 in
    let p = err_from_is_err_and c.from_residual.result c.from_residual.ensures.1 in
    let e : c.take_word.result ≡ Err c.in_err-word.field-0.0 = c.in_err-word.was in
    rw (p.1, p.2)
    (gather-unread c.args.text.now _ c.loop-word.at c.loop-word.due g.atoms c.take_word.ensures _ e ∙ sym g.same)

pub hand_over-requires : goal.hand_over-requires
hand_over-requires c =
    (stands-long c.loop-word.invariant.2.stand, search rules)

pub returns : goal.returns
returns c =
    let g = c.loop-word.invariant.2 in
    let e : c.take_word.result ≡ Ok None = c.in_ok-word.was ∙ ap Ok c.in_default.is in
    c.hand_over.ensures g.atoms g.stand
    ∙ gather-end c.args.text.now _ c.loop-word.at c.loop-word.due g.atoms c.take_word.ensures e ∙ sym g.same
