-- A row written: its first i bytes stand in the buffer, and all others are those from before.
use mathlib.Core.Path.{ap₂, ◌∙◌}
use native.Mathlib.Omega.{arith}
use lib.ListN.{length-set}
use Rattle.meaning.specs.Bits.{listed}
use Rattle.meaning.specs.Written.{of}
use Rattle.closing.specs.Settle.{settled_byte}
use borrow.Author.Rules.{rules}
use Rattle.closing.proofs.Settling.{settled-turn, settled-written}
use Rattle.closing.proofs.first.write_settled.Goals as goal

pub loop-i-preserved : goal.loop-i-preserved
unfolding of
loop-i-preserved c =
    let a = c.args in (
      length-set c.loop-i.out _ _ ∙ c.loop-i.invariant.0,
      settled-turn (listed a.holds.now.w) (listed a.fails.now.w) a.n a.at a.out.now c.requires (omega arith)
          (c.settled_byte.ensures ∙ ap₂ settled_byte c.has.ensures c.has-in-loop-i.ensures) c.loop-i.invariant.1,
    )

pub returns : goal.returns
returns c = search (rules, settled-written)
