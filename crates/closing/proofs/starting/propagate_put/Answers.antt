-- A rule that goes on makes its head newly true, and nothing else is pending; of a rule that goes off only its head can be newly lost.
use mathlib.Core.Path.{refl}
use native.Mathlib.Omega.{arith}
use Rattle.closing.proofs.Good.{good-book, good-in}
use Rattle.closing.proofs.Starts.{risen-pending, put-above}
use Rattle.closing.proofs.starting.propagate_put.Goals as goal

pub propagate_from-requires : goal.propagate_from-requires
propagate_from-requires c =
    let g = good-book c.args.rowed.now.book in
    risen-pending _ c.empty.result.w c.empty-in-On.result.w c.empty.ensures c.empty-in-On.ensures c.args.on.now.w c.rise.new.on.w c.args.off.now.w
    c.rise.new.nt.w c.args.r c.requires.1 (good-in g c.args.r c.requires.0) (omega (arith, g.rules, c.requires.0))
    c.rise.ensures.0 c.rise.ensures.1

pub propagate_dropped-requires : goal.propagate_dropped-requires
propagate_dropped-requires c =
    let g = good-book c.args.rowed.now.book in
    (c.requires.1, put-above _ c.put.new.self.w c.args.off.now.w c.args.off.now.w c.args.r (omega (arith, g.rules, c.requires.0)) c.put.ensures refl)
