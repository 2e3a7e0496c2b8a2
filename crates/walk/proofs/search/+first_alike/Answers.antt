-- The search meets its contract: each return is one way of the laws in Searching. The measure is the number of rules without a colour.
use mathlib.Core.Path.{refl}
use borrow.Author.Rules.{rules}
use Rattle.meaning.specs.Colours.{on_side, off_side}
use Rattle.meaning.proofs.Listed.{sized-written}
use Rattle.book.proofs.Places.{shape-count}
use Rattle.walk.proofs.Events.{fork-shallow}
use Rattle.closing.proofs.Good.{good-book, good-few}
use Rattle.walk.proofs.Walking.{lowest-told, forks-told, side-falls, side-ready, sized-taken}
use Rattle.walk.proofs.ToldClash.{closes-calm, closes-clash}
use Rattle.walk.proofs.Searching.{tells-clash, tells-left, tells-this, tells-another, tells-on, tells-off}
use Rattle.walk.proofs.search.+first_alike.Goals as goal

pub close_or_clash-closed-requires : goal.close_or_clash-closed-requires
close_or_clash-closed-requires μ c = c.requires.1

pub returns-then-is_some : goal.returns-then-is_some
returns-then-is_some μ c =
    let (closes, q, e) = closes-clash (good-few (good-book c.args.rowed.now.book)) (sized-taken c.args.choice (sized-written c.args.c (search rules))) c.close_or_clash-closed.result.clash c.close_or_clash-closed.ensures c.is_some.ensures c.if-is_some.true in
    tells-clash c.args.rowed.now.rowed _ _ closes e

pub returns-then-is_lost_in : goal.returns-then-is_lost_in
returns-then-is_lost_in μ c =
    let (closes, calm) = closes-calm (good-few (good-book c.args.rowed.now.book)) (sized-taken c.args.choice (sized-written c.args.c (search rules))) c.close_or_clash-closed.result.clash c.close_or_clash-closed.ensures c.is_some.ensures c.if-is_some.false in
    tells-left c.args.rowed.now.rowed _ _ closes _ _ refl refl c.is_lost_in.ensures c.if-is_lost_in.true

-- every rule has a colour: the same rules are on or not
pub returns-then-same_rules : goal.returns-then-same_rules
returns-then-same_rules μ c =
    let (closes, calm) = closes-calm (good-few (good-book c.args.rowed.now.book)) (sized-taken c.args.choice (sized-written c.args.c (search rules))) c.close_or_clash-closed.result.clash c.close_or_clash-closed.ensures c.is_some.ensures c.if-is_some.false in
    let all = lowest-told _ _ c.args.rowed.now.book.read_as _ _ c.lowest_uncoloured.ensures c.in_default.is in
    tells-this c.args.rowed.now.rowed _ _ closes _ _ refl refl c.is_lost_in.ensures c.if-is_lost_in.false calm all
    (shape-count _ _ c.args.rowed.now.book.read_as) c.same_rules.ensures c.if-same_rules.true

pub returns-in_default : goal.returns-in_default
returns-in_default μ c =
    let (closes, calm) = closes-calm (good-few (good-book c.args.rowed.now.book)) (sized-taken c.args.choice (sized-written c.args.c (search rules))) c.close_or_clash-closed.result.clash c.close_or_clash-closed.ensures c.is_some.ensures c.if-is_some.false in
    let all = lowest-told _ _ c.args.rowed.now.book.read_as _ _ c.lowest_uncoloured.ensures c.in_default.is in
    tells-another c.args.rowed.now.rowed _ _ closes _ _ refl refl c.is_lost_in.ensures c.if-is_lost_in.false calm all
    (shape-count _ _ c.args.rowed.now.book.read_as) c.same_rules.ensures c.if-same_rules.false

pub first_alike-verdict-requires : goal.first_alike-verdict-requires
first_alike-verdict-requires μ c =
    let s = c.requires in
    let (closes, calm) = closes-calm (good-few (good-book c.args.rowed.now.book)) (sized-taken c.args.choice (sized-written c.args.c (search rules))) c.close_or_clash-closed.result.clash c.close_or_clash-closed.ensures c.is_some.ensures c.if-is_some.false in
    let forks = forks-told _ _ c.args.rowed.now.book.read_as closes calm c.lowest_uncoloured.ensures c.in-Some.is in
    (side-falls forks c.decreases on_side, (fork-shallow forks s.0 on_side, side-ready forks s.0))

pub returns-in_default-verdict : goal.returns-in_default-verdict
returns-in_default-verdict μ c =
    let (closes, calm) = closes-calm (good-few (good-book c.args.rowed.now.book)) (sized-taken c.args.choice (sized-written c.args.c (search rules))) c.close_or_clash-closed.result.clash c.close_or_clash-closed.ensures c.is_some.ensures c.if-is_some.false in
    let forks = forks-told _ _ c.args.rowed.now.book.read_as closes calm c.lowest_uncoloured.ensures c.in-Some.is in
    tells-on _ _ forks c.first_alike-verdict.ensures c.in_default-verdict.not-Nobody

pub first_alike-requires : goal.first_alike-requires
first_alike-requires μ c =
    let s = c.requires in
    let (closes, calm) = closes-calm (good-few (good-book c.args.rowed.now.book)) (sized-taken c.args.choice (sized-written c.args.c (search rules))) c.close_or_clash-closed.result.clash c.close_or_clash-closed.ensures c.is_some.ensures c.if-is_some.false in
    let forks = forks-told _ _ c.args.rowed.now.book.read_as closes calm c.lowest_uncoloured.ensures c.in-Some.is in
    (side-falls forks c.decreases off_side, (fork-shallow forks s.0 off_side, side-ready forks s.0))

pub returns : goal.returns
returns μ c =
    let (closes, calm) = closes-calm (good-few (good-book c.args.rowed.now.book)) (sized-taken c.args.choice (sized-written c.args.c (search rules))) c.close_or_clash-closed.result.clash c.close_or_clash-closed.ensures c.is_some.ensures c.if-is_some.false in
    let forks = forks-told _ _ c.args.rowed.now.book.read_as closes calm c.lowest_uncoloured.ensures c.in-Some.is in
    tells-off _ _ forks c.first_alike-verdict.ensures c.in-Nobody.is c.first_alike.ensures
