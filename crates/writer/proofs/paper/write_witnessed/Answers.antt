-- The first walk decides, then the paper's walk, then whether the paper fits.
use native.Mathlib.Omega.{arith}
use Rattle.walk.specs.Find.{first_walk}
use Rattle.writer.proofs.Drafts.{stands-most}
use Rattle.writer.proofs.Handing.{stands-long}
use Rattle.writer.proofs.Answering.{write-fewer, write-first-limit, write-full, after-limited, after-refuted, after-handed}
use Rattle.writer.proofs.paper.write_witnessed.Goals as goal

-- ---- the first walk ends otherwise
pub returns-in-Going : goal.returns-in-Going
unfolding first_walk
returns-in-Going c =
    write-fewer _ _ _ _ c.first-reading.ensures c.in-Going.is

pub returns-in-Limit : goal.returns-in-Limit
unfolding first_walk
returns-in-Limit c = write-first-limit _ _ _ _ c.first-reading.ensures c.in-Limit.is

-- ---- the paper's walk
pub finish-length-requires : goal.finish-length-requires
finish-length-requires c =
    let m = stands-most c.write_steps-steps.ensures.bytes in
    omega arith

pub hand_over-requires : goal.hand_over-requires
hand_over-requires c =
    stands-long (c.finish-length.ensures _ c.write_steps-steps.ensures.bytes)

pub returns-in-Limited : goal.returns-in-Limited
unfolding first_walk
returns-in-Limited c =
    write-full _ _ _ _ c.first-reading.ensures c.in-Full.is
    (after-limited _ _ _ _ _ c.write_steps-steps.ensures c.in-Limited.is)

pub returns-in-Refuted : goal.returns-in-Refuted
unfolding first_walk
returns-in-Refuted c =
    write-full _ _ _ _ c.first-reading.ensures c.in-Full.is
    (after-refuted _ _ _ _ _ c.write_steps-steps.ensures c.in-Refuted.is c.unproved.ensures)

pub returns-in-Writing : goal.returns-in-Writing
unfolding first_walk
returns-in-Writing c =
    write-full _ _ _ _ c.first-reading.ensures c.in-Full.is
    (after-handed _ _ _ _ _ c.write_steps-steps.ensures c.in-Writing.is
    (c.hand_over.ensures _ (c.finish-length.ensures _ c.write_steps-steps.ensures.bytes)))
