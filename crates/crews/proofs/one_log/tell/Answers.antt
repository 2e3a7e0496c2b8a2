-- The two tests tell which books have a reading.
use Rattle.crews.specs.Log.{entry_of}
use Rattle.crews.proofs.one_log.tell.Goals as goal

pub returns-in-true-true : goal.returns-in-true-true
unfolding entry_of
returns-in-true-true c = rw (c.in-true-true.is-0, c.in-true-true.is-1)

pub returns-in-true-false : goal.returns-in-true-false
unfolding entry_of
returns-in-true-false c = rw (c.in-true-false.is-0, c.in-true-false.is-1)

pub returns-in-false-true : goal.returns-in-false-true
unfolding entry_of
returns-in-false-true c = rw (c.in-false-true.is-0, c.in-false-true.is-1)

pub returns-in-false-false : goal.returns-in-false-false
unfolding entry_of
returns-in-false-false c = rw (c.in-false-false.is-0, c.in-false-false.is-1)
