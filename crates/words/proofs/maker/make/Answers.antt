-- A refusal is told, or the book of what was read is finished and copied, with the places of the names.
use mathlib.Core.Path.{ap}
use native.Mathlib.Omega.{arith}
use Rattle.words.proofs.Handing.{over-made, over-finished, over_done, over-barred, never-goes, front-copied, make-wrong, make-short, make-given}
use Rattle.words.proofs.maker.make.Goals as goal

pub finish_book-n-requires : goal.finish_book-n-requires
finish_book-n-requires c = over-made (over_done _ _ _ c.read_text-r.ensures.0 c.in-Done.is)

pub returns-then-out-n : goal.returns-then-out-n
returns-then-out-n c =
    let a = c.args in
    let o = over_done _ _ _ c.read_text-r.ensures.0 c.in-Done.is in
    make-short a.text.now a.out.now a.from.now a.to.now o.state o.all _ (over-finished o _ _ c.finish_book-n.ensures).size (omega arith)

pub returns-in-Goes : goal.returns-in-Goes
returns-in-Goes c =
    never-goes c.args.text.now c.read_text-r.result c.read_text-r.new.draft c.read_text-r.ensures.1 c.in-Goes.is

pub returns-in-Refused : goal.returns-in-Refused
returns-in-Refused c =
    let a = c.args in
    rw c.unworded.ensures
    (make-wrong a.text.now a.out.now a.from.now a.to.now _ _ (over-barred a.text.now _ c.read_text-r.new.draft c.read_text-r.ensures.0 _ _ c.in-Refused.is))

pub returns-else-out-n : goal.returns-else-out-n
returns-else-out-n c =
    let a = c.args in
    let o = over_done _ _ _ c.read_text-r.ensures.0 c.in-Done.is in
    let f = over-finished o _ _ c.finish_book-n.ensures in
    make-given a.text.now a.out.now a.from.now a.to.now o.state o.all _ f.size (omega arith) _ _ _
    (front-copied f a.out.now _ c.copy_front.ensures) (ap (λ x. x.names.from) o.same) (ap (λ x. x.names.to) o.same)
