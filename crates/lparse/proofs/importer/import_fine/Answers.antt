-- The rules are made and the book is laid out, or not; the draft's front is copied.
use Rattle.lparse.specs.Collect.{text_of}
use Rattle.lparse.proofs.Importing.{blank, count-complete, finished-inside, front_bytes, front-room, given-short, given-book}
use Rattle.lparse.proofs.importer.import_fine.Goals as goal

pub make-f-requires : goal.make-f-requires
make-f-requires c = (c.requires, blank)

-- `done` is what the pass promises of the rules that it made, `laid` what laying them out promises
pub lay_out-requires : goal.lay_out-requires
lay_out-requires c =
    let done = c.make-f.ensures c.requires.part c.requires.heard in (text_of c.requires.part, done.made)

pub returns-in_default : goal.returns-in_default
returns-in_default c =
    let done = c.make-f.ensures c.requires.part c.requires.heard in
    let laid = c.lay_out.ensures (text_of c.requires.part) done.made (count-complete done c.count_atoms-count.ensures) in
    given-short _ _ c.requires.heard laid.0 c.in_default.is

pub slice_bounds-copy_front-end : goal.slice_bounds-copy_front-end
slice_bounds-copy_front-end c =
    let done = c.make-f.ensures c.requires.part c.requires.heard in
    let laid = c.lay_out.ensures (text_of c.requires.part) done.made (count-complete done c.count_atoms-count.ensures) in
    finished-inside (laid.1 _ c.in-Some.is)

pub copy_front-requires : goal.copy_front-requires
copy_front-requires c =
    let done = c.make-f.ensures c.requires.part c.requires.heard in
    let laid = c.lay_out.ensures (text_of c.requires.part) done.made (count-complete done c.count_atoms-count.ensures) in
    front-room _ (laid.1 _ c.in-Some.is) laid.0 c.in-Some.is

pub returns : goal.returns
returns c =
    let done = c.make-f.ensures c.requires.part c.requires.heard in
    let laid = c.lay_out.ensures (text_of c.requires.part) done.made (count-complete done c.count_atoms-count.ensures) in
    given-book _ _ c.requires.heard laid.0 c.in-Some.is (front_bytes _ (laid.1 _ c.in-Some.is)) c.copy_front.ensures
