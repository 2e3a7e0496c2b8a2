-- Both joins of rows, the rules that are hit and were not off, and the heads that are lost by them.
use mathlib.Core.Path.{ap₂, ◌∙◌, refl}
use mathlib.Core.List.{List}
use Prim.Native.Nat.{ℕ}
use lib.ListN.{replicate}
use Rattle.meaning.specs.Bits.{less, members}
use Rattle.meaning.proofs.Four.{members-nothing}
use Rattle.closing.proofs.Falling.{fallen}
use Rattle.closing.proofs.propagation.fall.Goals as goal

pub returns : goal.returns
returns c =
    let a = c.args in
    fallen _ a.rowed.now.rows c.args.rowed.now.rowed a.off.now.w a.nt.now.w a.nl.now.w a.cand.now.w (replicate 4 0)
    c.spread.new.by_neg.w c.spread-2.new.by_pos.w c.spread.new.by_pos.w c.spread-2.new.by_neg.w
    members-nothing c.spread.ensures.0 c.spread.ensures.1 c.spread-2.ensures.0 c.spread-2.ensures.1
    c.difference-fresh.result.w c.join.new.self.w (replicate 4 0) c.lost_heads.new.lost.w
    (c.difference-fresh.ensures ∙ ap₂ (λ (u v : List ℕ). less (members u) (members v)) refl refl)
    c.join.ensures members-nothing c.lost_heads.ensures
