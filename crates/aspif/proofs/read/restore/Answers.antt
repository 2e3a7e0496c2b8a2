-- `restore` reads the text, asks whether its book keeps the limits, and hands it over where there is room.
use native.Mathlib.Omega.{arith}
use mathlib.Core.Path.{sym}
use mathlib.Core.List.{[]}
use lib.Seq.{length-take-le}
use Rattle.aspif.proofs.RestoredBook.{restore-outside, book-seen, restore-passed, restore-many, size-inside, restore-short, restore-given}
use borrow.Author.Tests.{not-true, not-false}
use Rattle.aspif.proofs.read.restore.Goals as goal

pub returns-in_default : goal.returns-in_default
returns-in_default c = restore-outside c.read_text.ensures c.in_default.is

pub returns-then-not-making : goal.returns-then-not-making
returns-then-not-making c =
    restore-passed _ _ (book-seen c.read_text.ensures c.in-Some.is) (not-true _ c.if-not-making.true)

pub returns-then-atoms-gt255 : goal.returns-then-atoms-gt255
returns-then-atoms-gt255 c =
    restore-many _ _ (book-seen c.read_text.ensures c.in-Some.is) (omega arith)

pub finish_book-n-requires : goal.finish_book-n-requires
finish_book-n-requires c =
    let k = book-seen c.read_text.ensures c.in-Some.is in (not-false _ c.if-not-making.false, (k.rules, k.made))

pub returns-then-out-n : goal.returns-then-out-n
returns-then-out-n c =
    let k = book-seen c.read_text.ensures c.in-Some.is in restore-short _ _ k (c.finish_book-n.ensures _ k.made) (omega arith)

pub slice_bounds-draft-end : goal.slice_bounds-draft-end
slice_bounds-draft-end c =
    let k = book-seen c.read_text.ensures c.in-Some.is in size-inside _ [] k (c.finish_book-n.ensures _ k.made)

pub slice_bounds-copy_front-end : goal.slice_bounds-copy_front-end
slice_bounds-copy_front-end c =
    let k = book-seen c.read_text.ensures c.in-Some.is in sym (length-take-le _ _ (size-inside _ [] k (c.finish_book-n.ensures _ k.made)))

pub copy_front-requires : goal.copy_front-requires
copy_front-requires c =
    let k = book-seen c.read_text.ensures c.in-Some.is in
    let h = size-inside _ [] k (c.finish_book-n.ensures _ k.made) in omega (arith, length-take-le c.finish_book-n.result c.finish_book-n.new.draft h)

pub returns : goal.returns
returns c =
    let k = book-seen c.read_text.ensures c.in-Some.is in
    restore-given _ _ k (c.finish_book-n.ensures _ k.made) (not-false _ c.if-not-making.false) (omega arith) (omega arith) c.copy_front.ensures
