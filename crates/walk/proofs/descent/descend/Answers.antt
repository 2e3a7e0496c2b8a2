-- The way down: each turn's colouring leads where the first one does (Descends), and the rules without a colour become fewer.
use Rattle.book.proofs.Places.{in-shape}
use Rattle.walk.proofs.Events.{fork-in-book}
use Rattle.closing.proofs.Good.{good-book, good-few}
use Rattle.walk.proofs.Walking.{clash-told, lowest-told, forks-told, side-ready}
use Rattle.walk.proofs.ToldClash.{no-rule, some-rule}
use Rattle.walk.proofs.Answering.{shallow-start}
use Rattle.walk.proofs.Descending.{descends-start, descends-closes, descends-clash, descends-reading, descends-falls, descends-fork, follow-taken, follow-takes}
use Rattle.walk.proofs.descent.descend.Goals as goal

pub loop-d-init : goal.loop-d-init
loop-d-init c =
    (descends-start _ _ (shallow-start _ _ c.args.rowed.now.book.read_as c.args.rowed.now.book.small.1 c.empty-c.ensures) c.empty-c.ensures, tt)

pub close_chosen-closed-requires : goal.close_chosen-closed-requires
close_chosen-closed-requires c =
    c.loop-d.invariant.1

pub returns-then-is_some : goal.returns-then-is_some
returns-then-is_some c =
    let closes = descends-closes c.loop-d.invariant.0 (good-few (good-book c.args.rowed.now.book)) c.close_chosen-closed.ensures.0 in
    descends-clash c.loop-d.invariant.0 closes
    (clash-told closes c.close_chosen-closed.ensures.1 (some-rule _ c.is_some.ensures c.if-is_some.true).1)

pub returns-in_default : goal.returns-in_default
returns-in_default c =
    let closes = descends-closes c.loop-d.invariant.0 (good-few (good-book c.args.rowed.now.book)) c.close_chosen-closed.ensures.0 in
    descends-reading c.loop-d.invariant.0 closes
    (clash-told closes c.close_chosen-closed.ensures.1 (no-rule _ c.is_some.ensures c.if-is_some.false))
    (lowest-told _ _ c.args.rowed.now.book.read_as _ _ c.lowest_uncoloured.ensures c.in_default.is)

pub follow-choice-requires : goal.follow-choice-requires
follow-choice-requires c =
    let closes = descends-closes c.loop-d.invariant.0 (good-few (good-book c.args.rowed.now.book)) c.close_chosen-closed.ensures.0 in
    let calm = clash-told closes c.close_chosen-closed.ensures.1 (no-rule _ c.is_some.ensures c.if-is_some.false) in
    let forks = forks-told _ _ c.args.rowed.now.book.read_as closes calm c.lowest_uncoloured.ensures c.in-Some.is in
    in-shape _ _ c.args.rowed.now.book.read_as _ (fork-in-book forks)

pub loop-d-smaller : goal.loop-d-smaller
loop-d-smaller c =
    let closes = descends-closes c.loop-d.invariant.0 (good-few (good-book c.args.rowed.now.book)) c.close_chosen-closed.ensures.0 in
    let calm = clash-told closes c.close_chosen-closed.ensures.1 (no-rule _ c.is_some.ensures c.if-is_some.false) in
    let forks = forks-told _ _ c.args.rowed.now.book.read_as closes calm c.lowest_uncoloured.ensures c.in-Some.is in
    descends-falls c.loop-d.invariant.0 forks (follow-taken _ _ c.follow-choice.ensures _)

pub loop-d-preserved : goal.loop-d-preserved
loop-d-preserved c =
    let closes = descends-closes c.loop-d.invariant.0 (good-few (good-book c.args.rowed.now.book)) c.close_chosen-closed.ensures.0 in
    let calm = clash-told closes c.close_chosen-closed.ensures.1 (no-rule _ c.is_some.ensures c.if-is_some.false) in
    let forks = forks-told _ _ c.args.rowed.now.book.read_as closes calm c.lowest_uncoloured.ensures c.in-Some.is in
    (descends-fork c.loop-d.invariant.0 forks (follow-taken _ _ c.follow-choice.ensures _), follow-takes _ _ c.follow-choice.ensures _ (side-ready forks c.loop-d.invariant.0.shallow))
