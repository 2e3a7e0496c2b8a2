-- What is laid out decides; the joined book is copied to the front.
use Rattle.std.proofs.lemmas.Result.{err_from_is_err_and}
use Rattle.crews.proofs.Reading.{blank, finished-inside, front_length, front-room, join-refused, join-laid}
use Rattle.crews.proofs.one_book.join_good.Goals as goal

pub lay_out-requires : goal.lay_out-requires
lay_out-requires c = blank

pub returns-in_err-n : goal.returns-in_err-n
returns-in_err-n c =
    let p = err_from_is_err_and c.from_residual.result c.from_residual.ensures.1 in
    rw (p.1, p.2) (join-refused _ _ _ c.lay_out.ensures.0 c.in_err-n.was)

-- the joined book is laid out, and both the draft and the buffer have room for it
pub slice_bounds-draft-end : goal.slice_bounds-draft-end
slice_bounds-draft-end c = finished-inside (c.lay_out.ensures.1 _ c.in_ok-n.was)

pub slice_bounds-copy_front-end : goal.slice_bounds-copy_front-end
slice_bounds-copy_front-end c = front_length _ _ (c.lay_out.ensures.1 _ c.in_ok-n.was)

pub copy_front-requires : goal.copy_front-requires
copy_front-requires c = front-room _ _ (c.lay_out.ensures.1 _ c.in_ok-n.was) c.lay_out.ensures.0 c.in_ok-n.was

pub returns : goal.returns
returns c =
    let made = c.lay_out.ensures.1 _ c.in_ok-n.was in
    join-laid _ _ _ c.lay_out.ensures.0 c.in_ok-n.was made.bytes c.copy_front.ensures
