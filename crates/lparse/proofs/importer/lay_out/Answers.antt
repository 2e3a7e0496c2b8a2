-- The limits, and then the room, decide whether the book is laid out.
use borrow.Author.Rules.{rules}
use borrow.Author.Tests.{not-true, not-false}
use Rattle.imported.specs.Making.{made_rules, made_book}
use Rattle.lparse.proofs.Capped.{capped-real}
use Rattle.lparse.proofs.Importing.{laid-over, laid-many, laid-short, laid-book, finished-made, short-book, same-book}
use Rattle.lparse.proofs.importer.lay_out.Goals as goal

pub returns-then-not-m : goal.returns-then-not-m
returns-then-not-m c = λ t made same. (laid-over t _ made (not-true _ c.if-not-m.true), λ n e. short-book e)

pub returns-then-atoms-gt255 : goal.returns-then-atoms-gt255
returns-then-atoms-gt255 c = λ t made same. (laid-many t _ made same (search rules), λ n e. short-book e)

pub finish_book-n-requires : goal.finish_book-n-requires
finish_book-n-requires c =
    let (t, made) = c.requires in
    (not-false _ c.if-not-m.false, (made_rules t, made))

pub returns-then-room-n : goal.returns-then-room-n
returns-then-room-n c = λ t made told.
    let same = capped-real (made_book t).atoms told (search rules) in
    let f = finished-made t same (c.finish_book-n.ensures (made_rules t) made) in
    (laid-short t _ made (not-false _ c.if-not-m.false) same (search rules) f (search rules), λ n e. short-book e)

pub returns : goal.returns
returns c = λ t made told.
    let same = capped-real (made_book t).atoms told (search rules) in
    let f = finished-made t same (c.finish_book-n.ensures (made_rules t) made) in
    (laid-book t _ made (not-false _ c.if-not-m.false) same (search rules) f (search rules), λ n e. same-book e f)
