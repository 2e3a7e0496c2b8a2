-- The atoms below the one at which the search stands are in the part exactly if they are heads of on rules.
use mathlib.Core.Path.{◌∙◌, ap}
use native.Mathlib.Omega.{arith}
use Rattle.meaning.specs.Bits.{listed}
use Rattle.meaning.specs.declared.bitset.Bits.{Bits}
use Rattle.meaning.proofs.Next.{next-further}
use Rattle.meaning.proofs.Four.{members-nothing}
use Rattle.walk.proofs.Gathering.{parted-start, parted-skip, parted-put, parted-all}
use Rattle.walk.proofs.part.shown_part.Goals as goal
use Rattle.walk.proofs.part.shown_part.Goals.{then-meets, else-meets}

pub loop-i-init : goal.loop-i-init
loop-i-init c = parted-start _ _ _ _ _ members-nothing c.next_in-i.ensures

pub loop-i-smaller : goal.loop-i-smaller
loop-i-smaller c = omega (arith, next-further _ _ _ c.next_in-i-in-loop-i.ensures (omega arith))

pub loop-i-preserved : goal.loop-i-preserved
loop-i-preserved c =
    elim c.if-meets.branch [
      | then-meets w ↦
          parted-put _ _ _ _ c.loop-i.invariant (omega arith) _ c.head_row.ensures c.meets.ensures c.next_in-i-in-loop-i.ensures
          w.if-meets.true _ (ap (λ (b : Bits). listed b.w) w.part-is ∙ w.put.ensures)
      | else-meets w ↦
          rw w.part-is (parted-skip _ _ _ _ c.loop-i.invariant (omega arith) _ c.head_row.ensures c.meets.ensures
          c.next_in-i-in-loop-i.ensures w.if-meets.false)
    ]

pub returns : goal.returns
returns c = parted-all _ _ _ _ c.loop-i.invariant (omega arith)
