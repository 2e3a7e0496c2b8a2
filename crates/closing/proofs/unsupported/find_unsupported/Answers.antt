-- Where off is what it was, nothing is to be looked for. Else the suspects that are not held are the rules that nothing holds up.
use mathlib.Core.Path.{refl}
use Rattle.closing.proofs.Good.{good-book, good-count, good-few}
use Rattle.closing.proofs.Dropping.{unheld-settled, unheld-suspected}
use Rattle.closing.proofs.unsupported.find_unsupported.Goals as goal

pub returns-then-is_within : goal.returns-then-is_within
returns-then-is_within c =
    unheld-settled _ (good-few (good-book c.args.rowed.now.book)) c.args.old.now.w c.args.off.now.w _ _ c.requires.0 c.requires.1
    refl refl c.is_within.ensures c.if-is_within.true

pub returns : goal.returns
returns c =
    unheld-suspected _ (good-few (good-book c.args.rowed.now.book)) (good-count (good-book c.args.rowed.now.book)) c.args.old.now.w c.args.off.now.w c.find_suspects.new.suspects.w
    c.below.result.w c.difference.result.w _ c.difference-others.result.w _
    c.clear.new.held.w c.difference-2.result.w _ _ c.requires.0 c.requires.1
    c.find_suspects.ensures.0 c.find_suspects.ensures.1 c.below.ensures c.difference.ensures refl
    c.difference-others.ensures refl c.clear.ensures c.difference-2.ensures refl refl
