-- The no_mo_re walk meets its contract: each return is one way of the laws in Walking, with what the calls on that way said. The measure is
-- the number of rules without a colour: each side of a fork has fewer.
use Rattle.meaning.specs.Colours.{on_side, off_side}
use Rattle.walk.proofs.Walking.{room-tried, room-run}
use Rattle.closing.proofs.Good.{good-book, good-few}
use Rattle.nomore.proofs.Walking.{rest-coloured, clash-told, lowest-told, propagates-told, leaf-told, forks-told, side-falls, side-grows}
use Rattle.nomore.proofs.Walking.{walk-ended, walk-stops, walk-clash, walk-leaf, walk-fork}
use Rattle.nomore.proofs.own.+own.Goals as goal

pub returns-in_default : goal.returns-in_default
returns-in_default μ c = walk-ended _ _ _ _ c.in_default.not-Going

pub returns-then-wanted-t : goal.returns-then-wanted-t
returns-then-wanted-t μ c =
    walk-stops _ _ _ c.in-Going.is _ c.if-wanted-t.true c.stopped.ensures

pub returns-in-Some : goal.returns-in-Some
returns-in-Some μ c =
    walk-clash _ _ _ c.in-Going.is c.if-wanted-t.false (propagates-told c.args.rowed.now.book c.args.choice _ _ c.grow-d.ensures.0)
    (clash-told _ _ c.grow-d.ensures.1 c.in-Some.is) c.clashed.ensures

pub returns-in_default-lowest_supported : goal.returns-in_default-lowest_supported
returns-in_default-lowest_supported μ c =
    let b = c.args.rowed.now.book in
    let leaf = leaf-told (propagates-told b c.args.choice _ _ c.grow-d.ensures.0) (clash-told _ _ c.grow-d.ensures.1 c.in_default-clash.is)
    (lowest-told _ _ b.read_as _ _ c.lowest_supported.ensures c.in_default-lowest_supported.is) in
    walk-leaf _ _ _ c.in-Going.is c.if-wanted-t.false leaf c.tried-next.ensures
    (rest-coloured _ _ b.read_as (good-few (good-book b)) _ _ _ c.rest_off-rest.ensures) c.test.ensures

pub own-first-requires : goal.own-first-requires
own-first-requires μ c =
    let b = c.args.rowed.now.book in
    let forks = forks-told (propagates-told b c.args.choice _ _ c.grow-d.ensures.0) (clash-told _ _ c.grow-d.ensures.1 c.in_default-clash.is)
    (lowest-told _ _ b.read_as _ _ c.lowest_supported.ensures c.in-Some-lowest_supported.is) in
    (side-falls forks c.decreases on_side, (room-tried c.requires.0 c.in-Going.is c.tried-next.ensures, side-grows forks))

pub own-requires : goal.own-requires
own-requires μ c =
    let b = c.args.rowed.now.book in
    let forks = forks-told (propagates-told b c.args.choice _ _ c.grow-d.ensures.0) (clash-told _ _ c.grow-d.ensures.1 c.in_default-clash.is)
    (lowest-told _ _ b.read_as _ _ c.lowest_supported.ensures c.in-Some-lowest_supported.is) in (
      side-falls forks c.decreases off_side,
      (room-run (room-tried c.requires.0 c.in-Going.is c.tried-next.ensures) _ _ c.own-first.ensures, side-grows forks),
    )

pub returns : goal.returns
returns μ c =
    let b = c.args.rowed.now.book in
    let forks = forks-told (propagates-told b c.args.choice _ _ c.grow-d.ensures.0) (clash-told _ _ c.grow-d.ensures.1 c.in_default-clash.is)
    (lowest-told _ _ b.read_as _ _ c.lowest_supported.ensures c.in-Some-lowest_supported.is) in
    walk-fork _ _ _ c.in-Going.is c.if-wanted-t.false forks c.tried-next.ensures c.own-first.ensures c.own.ensures
