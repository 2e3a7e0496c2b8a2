-- Behind each search its limit is asked; the joined book is handed over behind both.
use lib.ListN.{length}
use Rattle.book.specs.ReadBook.{the_book}
use Rattle.crews.proofs.Logging.{log-first-passed, log-second-passed, log-both-searched}
use Rattle.crews.proofs.one_log.log_laid.Goals as goal

pub returns-in_default : goal.returns-in_default
returns-in_default c =
    let a = c.args in
    log-first-passed (the_book a.first.now) (the_book a.second.now) a.limit a.other_limit (length a.draft.now) a.out.now
    c.in_default.ensures

pub returns-in_default-search : goal.returns-in_default-search
returns-in_default-search c =
    let a = c.args in
    log-second-passed (the_book a.first.now) (the_book a.second.now) a.limit a.other_limit (length a.draft.now) a.out.now
    c.in-Some.ensures.0 c.in_default-search.ensures

pub returns : goal.returns
returns c =
    let a = c.args in
    log-both-searched (the_book a.first.now) (the_book a.second.now) a.limit a.other_limit (length a.draft.now) a.out.now
    c.in-Some.ensures.0 c.in-Some-search.ensures.0 c.in-Some.ensures.1 c.in-Some-search.ensures.1 c.tell.ensures c.requires.1
    c.copy_front.ensures
