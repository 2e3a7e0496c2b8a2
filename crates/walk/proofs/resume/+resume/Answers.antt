-- Resuming meets its contract: each return is one way of the laws in Walking, with what the calls on that way said. The measure is the
-- number of rules without a colour: each side of a fork has fewer.
use borrow.Author.Rules.{rules}
use Rattle.meaning.specs.Colours.{on_side, off_side}
use Rattle.meaning.proofs.Listed.{sized-written}
use Rattle.book.proofs.Places.{in-shape}
use Rattle.walk.proofs.Events.{fork-in-book, fork-shallow}
use Rattle.closing.proofs.Good.{good-book, good-few}
use Rattle.walk.proofs.Walking.{lowest-told, forks-told, side-falls, side-ready, sized-taken, room-run}
use Rattle.walk.proofs.Walking.{resume-clash, resume-reading, resume-off, resume-on}
use Rattle.walk.proofs.ToldClash.{room-told, closes-calm, closes-clash}
use Rattle.walk.proofs.resume.+resume.Goals as goal

pub close_or_clash-closed-requires : goal.close_or_clash-closed-requires
close_or_clash-closed-requires μ c =
    c.requires.2

pub returns-then-is_some : goal.returns-then-is_some
returns-then-is_some μ c =
    let (closes, q, e) = closes-clash (good-few (good-book c.args.rowed.now.book)) (sized-taken c.args.choice (sized-written c.args.c (search rules))) c.close_or_clash-closed.result.clash c.close_or_clash-closed.ensures c.is_some.ensures c.if-is_some.true in
    resume-clash _ _ _ _ _ closes e

pub returns-in_default : goal.returns-in_default
returns-in_default μ c =
    let (closes, calm) = closes-calm (good-few (good-book c.args.rowed.now.book)) (sized-taken c.args.choice (sized-written c.args.c (search rules))) c.close_or_clash-closed.result.clash c.close_or_clash-closed.ensures c.is_some.ensures c.if-is_some.false in
    let all = lowest-told _ _ c.args.rowed.now.book.read_as _ _ c.lowest_uncoloured.ensures c.in_default.is in
    resume-reading _ _ _ _ _ closes calm all

pub generates-requires : goal.generates-requires
generates-requires μ c =
    let (closes, calm) = closes-calm (good-few (good-book c.args.rowed.now.book)) (sized-taken c.args.choice (sized-written c.args.c (search rules))) c.close_or_clash-closed.result.clash c.close_or_clash-closed.ensures c.is_some.ensures c.if-is_some.false in
    let forks = forks-told _ _ c.args.rowed.now.book.read_as closes calm c.lowest_uncoloured.ensures c.in-Some.is in
    in-shape _ _ c.args.rowed.now.book.read_as _ (fork-in-book forks)

pub resume-requires : goal.resume-requires
resume-requires μ c =
    let s = c.requires in
    let (closes, calm) = closes-calm (good-few (good-book c.args.rowed.now.book)) (sized-taken c.args.choice (sized-written c.args.c (search rules))) c.close_or_clash-closed.result.clash c.close_or_clash-closed.ensures c.is_some.ensures c.if-is_some.false in
    let forks = forks-told _ _ c.args.rowed.now.book.read_as closes calm c.lowest_uncoloured.ensures c.in-Some.is in
    (side-falls forks c.decreases off_side, (s.0, fork-shallow forks s.1 off_side, side-ready forks s.1))

pub returns-then-not-generates : goal.returns-then-not-generates
returns-then-not-generates μ c =
    let (closes, calm) = closes-calm (good-few (good-book c.args.rowed.now.book)) (sized-taken c.args.choice (sized-written c.args.c (search rules))) c.close_or_clash-closed.result.clash c.close_or_clash-closed.ensures c.is_some.ensures c.if-is_some.false in
    let forks = forks-told _ _ c.args.rowed.now.book.read_as closes calm c.lowest_uncoloured.ensures c.in-Some.is in
    resume-off _ _ _ _ _ forks c.generates.ensures c.if-not-generates.true c.resume.ensures

pub resume-first-requires : goal.resume-first-requires
resume-first-requires μ c =
    let s = c.requires in
    let (closes, calm) = closes-calm (good-few (good-book c.args.rowed.now.book)) (sized-taken c.args.choice (sized-written c.args.c (search rules))) c.close_or_clash-closed.result.clash c.close_or_clash-closed.ensures c.is_some.ensures c.if-is_some.false in
    let forks = forks-told _ _ c.args.rowed.now.book.read_as closes calm c.lowest_uncoloured.ensures c.in-Some.is in
    (side-falls forks c.decreases on_side, (s.0, fork-shallow forks s.1 on_side, side-ready forks s.1))

pub walk-requires : goal.walk-requires
walk-requires μ c =
    let s = c.requires in
    let (closes, calm) = closes-calm (good-few (good-book c.args.rowed.now.book)) (sized-taken c.args.choice (sized-written c.args.c (search rules))) c.close_or_clash-closed.result.clash c.close_or_clash-closed.ensures c.is_some.ensures c.if-is_some.false in
    let forks = forks-told _ _ c.args.rowed.now.book.read_as closes calm c.lowest_uncoloured.ensures c.in-Some.is in
    let room = (room-told _ _ (record { tally = c.resume-first.result; out = _ })).1 (room-run ((room-told _ c.args.origin.now _).0 s.0) _ _ c.resume-first.ensures) in
    (room, fork-shallow forks s.1 off_side, side-ready forks s.1)

pub returns : goal.returns
returns μ c =
    let (closes, calm) = closes-calm (good-few (good-book c.args.rowed.now.book)) (sized-taken c.args.choice (sized-written c.args.c (search rules))) c.close_or_clash-closed.result.clash c.close_or_clash-closed.ensures c.is_some.ensures c.if-is_some.false in
    let forks = forks-told _ _ c.args.rowed.now.book.read_as closes calm c.lowest_uncoloured.ensures c.in-Some.is in
    resume-on _ _ _ _ _ forks c.generates.ensures c.if-not-generates.false
    c.resume-first.ensures c.walk.ensures
