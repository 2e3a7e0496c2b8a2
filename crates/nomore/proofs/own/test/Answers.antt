-- The test, by its ways: the limit, a contradiction, or a reading.
use Rattle.nomore.proofs.Walking.{clash-told, test-stops, test-clash, test-reading}
use Rattle.nomore.proofs.own.test.Goals as goal

pub returns-then-wanted-t : goal.returns-then-wanted-t
returns-then-wanted-t c =
    test-stops _ _ _ c.requires.0 _ c.if-wanted-t.true c.stopped.ensures

pub returns-in-Some : goal.returns-in-Some
returns-in-Some c =
    test-clash _ _ _ c.requires.0 c.if-wanted-t.false _ c.grow-tested.ensures.0
    (clash-told _ _ c.grow-tested.ensures.1 c.in-Some.is) c.clashed.ensures

pub returns : goal.returns
returns c =
    test-reading _ _ _ c.requires.0 c.if-wanted-t.false _ c.grow-tested.ensures.0
    (clash-told _ _ c.grow-tested.ensures.1 c.in_default.is) c.meet.ensures
