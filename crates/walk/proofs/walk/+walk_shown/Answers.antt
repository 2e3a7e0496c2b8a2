-- The walk meets its contract: each return is one way of the laws in Walking, with what the calls on that way said. The measure is the
-- number of rules without a colour: each side of a fork has fewer.
use mathlib.Core.Path.{refl, sym, ◌∙◌, ap}
use borrow.Author.Rules.{rules}
use Rattle.meaning.specs.Colours.{on_side, off_side}
use Rattle.meaning.proofs.Choice.{b-yes, b-no}
use Rattle.meaning.proofs.Listed.{sized-written}
use Rattle.book.specs.ReadBook.{the_book}
use Rattle.walk.specs.Origin.{told_clash, told_from}
use Rattle.walk.specs.declared.tally.Tally.{Tally}
use Rattle.walk.proofs.Events.{fork-shallow}
use Rattle.walk.proofs.Forks.{reading-generated}
use Rattle.walk.proofs.Remembering.{remembers-at}
use Rattle.closing.proofs.Good.{good-book, good-few}
use Rattle.walk.proofs.Walking.{lowest-told, forks-told, side-falls, side-ready, sized-taken}
use Rattle.walk.proofs.Walking.{room-tried, room-run, met-sets, walk-ended, walk-stops, walk-reading, walk-quiet, walk-fork}
use Rattle.walk.proofs.ToldClash.{told-met, room-told, closes-calm, walk-left}
use Rattle.walk.proofs.walk.+walk_shown.Goals as goal

pub returns-in_default : goal.returns-in_default
returns-in_default μ c =
    (walk-ended _ _ _ _ _ c.in_default.not-Going, c.requires.2)

pub returns-then-wanted-t : goal.returns-then-wanted-t
returns-then-wanted-t μ c = (
  ap (told_from _ c.args.origin.now) (ap (λ (t : Tally). record { tally = t; out = c.args.out.now }) c.stopped.ensures) ∙ walk-stops _ _ _ _ _ c.in-Going.is c.if-wanted-t.true,
  remembers-at (ap (λ (u : Tally). u.sets) c.stopped.ensures) c.requires.2,
)

pub close_or_clash-closed-requires : goal.close_or_clash-closed-requires
close_or_clash-closed-requires μ c =
    c.requires.3

pub clashed-requires : goal.clashed-requires
clashed-requires μ c = search rules

pub returns-then-is_some : goal.returns-then-is_some
returns-then-is_some μ c =
    let d = c.close_or_clash-closed.result.colours in (
      walk-left (good-few (good-book c.args.rowed.now.book)) (sized-taken c.args.choice (sized-written c.args.c (search rules))) c.close_or_clash-closed.result.clash c.close_or_clash-closed.ensures c.is_some.ensures _ _ _ c.in-Going.is c.if-wanted-t.false c.if-is_some.true
          d.on.w d.off.w _ refl c.keep_origin.ensures c.clashed.ensures,
      remembers-at (ap (λ (u : Tally). u.sets) c.clashed.ensures) c.requires.2,
    )

pub does_count-requires : goal.does_count-requires
does_count-requires μ c =
    let s = c.requires in
    let (closes, calm) = closes-calm (good-few (good-book c.args.rowed.now.book)) (sized-taken c.args.choice (sized-written c.args.c (search rules))) c.close_or_clash-closed.result.clash c.close_or_clash-closed.ensures c.is_some.ensures c.if-is_some.false in
    let all = lowest-told _ _ c.args.rowed.now.book.read_as _ _ c.lowest_uncoloured.ensures c.in_default-lowest_uncoloured.is in
    (reading-generated closes calm all, s.2)

pub tried-requires : goal.tried-requires
tried-requires μ c = search rules

pub returns-then-not-does_count : goal.returns-then-not-does_count
returns-then-not-does_count μ c =
    let f = c.if-not-does_count.true in
    let (closes, calm) = closes-calm (good-few (good-book c.args.rowed.now.book)) (sized-taken c.args.choice (sized-written c.args.c (search rules))) c.close_or_clash-closed.result.clash c.close_or_clash-closed.ensures c.is_some.ensures c.if-is_some.false in
    let all = lowest-told _ _ c.args.rowed.now.book.read_as _ _ c.lowest_uncoloured.ensures c.in_default-lowest_uncoloured.is in (
      walk-quiet _ _ _ _ _ c.in-Going.is c.if-wanted-t.false closes calm all c.does_count.ensures.0 f
          (ap (told_clash (the_book c.args.rowed.now.book) c.args.origin.now) c.tried.ensures),
      remembers-at (ap (λ (u : Tally). u.sets) c.tried.ensures ∙ sym (b-no _ _ _ f)) c.does_count.ensures.1,
    )

pub meet-requires : goal.meet-requires
meet-requires μ c =
    let s = c.requires in
    (c.if-wanted-t.false, c.in-Going.is, s.0)

pub returns-in_default-lowest_uncoloured : goal.returns-in_default-lowest_uncoloured
returns-in_default-lowest_uncoloured μ c =
    let f = c.if-not-does_count.false in
    let (closes, calm) = closes-calm (good-few (good-book c.args.rowed.now.book)) (sized-taken c.args.choice (sized-written c.args.c (search rules))) c.close_or_clash-closed.result.clash c.close_or_clash-closed.ensures c.is_some.ensures c.if-is_some.false in
    let all = lowest-told _ _ c.args.rowed.now.book.read_as _ _ c.lowest_uncoloured.ensures c.in_default-lowest_uncoloured.is in (
      walk-reading _ _ _ _ _ c.in-Going.is c.if-wanted-t.false closes calm all c.does_count.ensures.0 f
          (ap (told_from _ c.args.origin.now) c.meet.ensures ∙ told-met _ _ _ _ _),
      remembers-at (met-sets _ _ _ _ c.meet.ensures ∙ sym (b-yes _ _ _ f)) c.does_count.ensures.1,
    )

pub tried-forked-requires : goal.tried-forked-requires
tried-forked-requires μ c = search rules

pub walk_shown-first-requires : goal.walk_shown-first-requires
walk_shown-first-requires μ c =
    let s = c.requires in
    let (closes, calm) = closes-calm (good-few (good-book c.args.rowed.now.book)) (sized-taken c.args.choice (sized-written c.args.c (search rules))) c.close_or_clash-closed.result.clash c.close_or_clash-closed.ensures c.is_some.ensures c.if-is_some.false in
    let forks = forks-told _ _ c.args.rowed.now.book.read_as closes calm c.lowest_uncoloured.ensures c.in-Some.is in (
      side-falls forks c.decreases on_side,
      (
        room-tried s.0 c.in-Going.is c.tried-forked.ensures,
        fork-shallow forks s.1 on_side,
        remembers-at (ap (λ (u : Tally). u.sets) c.tried-forked.ensures) s.2,
        side-ready forks s.1,
      ),
    )

pub walk_shown-requires : goal.walk_shown-requires
walk_shown-requires μ c =
    let s = c.requires in
    let (closes, calm) = closes-calm (good-few (good-book c.args.rowed.now.book)) (sized-taken c.args.choice (sized-written c.args.c (search rules))) c.close_or_clash-closed.result.clash c.close_or_clash-closed.ensures c.is_some.ensures c.if-is_some.false in
    let forks = forks-told _ _ c.args.rowed.now.book.read_as closes calm c.lowest_uncoloured.ensures c.in-Some.is in (
      side-falls forks c.decreases off_side,
      (
        (room-told _ _ (record { tally = c.walk_shown-first.result; out = _ })).1
            (room-run ((room-told _ c.args.origin.now _).0 (room-tried s.0 c.in-Going.is c.tried-forked.ensures)) _ _ c.walk_shown-first.ensures.0),
        fork-shallow forks s.1 off_side,
        c.walk_shown-first.ensures.1,
        side-ready forks s.1,
      ),
    )

pub returns : goal.returns
returns μ c =
    let (closes, calm) = closes-calm (good-few (good-book c.args.rowed.now.book)) (sized-taken c.args.choice (sized-written c.args.c (search rules))) c.close_or_clash-closed.result.clash c.close_or_clash-closed.ensures c.is_some.ensures c.if-is_some.false in
    let forks = forks-told _ _ c.args.rowed.now.book.read_as closes calm c.lowest_uncoloured.ensures c.in-Some.is in (
      walk-fork _ _ _ _ _ c.in-Going.is c.if-wanted-t.false forks (ap (told_clash (the_book c.args.rowed.now.book) c.args.origin.now) c.tried-forked.ensures)
          c.walk_shown-first.ensures.0 c.walk_shown.ensures.0,
      c.walk_shown.ensures.1,
    )
