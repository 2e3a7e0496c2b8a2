-- The rule may not go on and is passed over, or it has gone on.
use mathlib.Core.Path.{sym, ◌∙◌}
use native.Mathlib.Omega.{arith}
use Rattle.meaning.specs.Bits.{listed}
use Rattle.meaning.specs.Written.{of}
use Rattle.closing.specs.News.{atom_set, passed}
use Rattle.closing.proofs.Good.{good-book}
use Rattle.closing.proofs.Raising.{looked-risen}
use Rattle.closing.proofs.propagation.look_at.Goals as goal

pub returns-then-not-may_go_on : goal.returns-then-not-may_go_on
returns-then-not-may_go_on c = passed (sym c.may_go_on.ensures ∙ c.if-not-may_go_on.true)

pub returns : goal.returns
returns c =
    let g = good-book c.args.rowed.now.book in
    looked-risen _ (of (listed c.args.off.now.w)) c.args.r c.args.on.now.w c.rise.new.on.w (atom_set c.args.nt.now.w)
    (omega (arith, g.rules, c.requires)) (sym c.may_go_on.ensures ∙ c.if-not-may_go_on.false) c.rise.ensures.0 c.rise.ensures.1
