-- What is laid out decides; behind it the searches.
use Rattle.std.proofs.lemmas.Result.{err_from_is_err_and}
use Rattle.crews.proofs.Reading.{blank, finished-inside, front_length, front-room}
use Rattle.crews.proofs.Logging.{log-refused, log-is-laid}
use Rattle.crews.proofs.one_log.log_good.Goals as goal

pub lay_out-requires : goal.lay_out-requires
lay_out-requires c = blank

pub returns-in_err-n : goal.returns-in_err-n
returns-in_err-n c =
    let p = err_from_is_err_and c.from_residual.result c.from_residual.ensures.1 in
    rw (p.1, p.2) (log-refused _ _ _ _ _ c.lay_out.ensures.0 c.in_err-n.was)

-- the joined book is laid out, and both the draft and the buffer have room for it
pub slice_bounds-draft-end : goal.slice_bounds-draft-end
slice_bounds-draft-end c = finished-inside (c.lay_out.ensures.1 _ c.in_ok-n.was)

pub slice_bounds-log_laid-end : goal.slice_bounds-log_laid-end
slice_bounds-log_laid-end c = front_length _ _ (c.lay_out.ensures.1 _ c.in_ok-n.was)

pub log_laid-requires : goal.log_laid-requires
log_laid-requires c =
    let made = c.lay_out.ensures.1 _ c.in_ok-n.was in
    (front-room _ _ made c.lay_out.ensures.0 c.in_ok-n.was, made.bytes)

pub returns : goal.returns
returns c =
    let made = c.lay_out.ensures.1 _ c.in_ok-n.was in
    log-is-laid _ _ _ _ _ c.lay_out.ensures.0 c.in_ok-n.was (front_length _ _ made) c.log_laid.ensures
