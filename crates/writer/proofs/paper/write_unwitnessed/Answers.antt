-- The paper's walk decides: stopped, unproved, or the draft with its trailer, which is handed over if it fits.
use native.Mathlib.Omega.{arith}
use Rattle.writer.proofs.Drafts.{stands-most}
use Rattle.writer.proofs.Handing.{stands-long, paper-bare}
use Rattle.writer.proofs.Answering.{after-limited, after-refuted, after-handed, write-bare}
use Rattle.writer.proofs.paper.write_unwitnessed.Goals as goal

pub write_trailer-length-requires : goal.write_trailer-length-requires
write_trailer-length-requires c =
    let m = stands-most c.write_steps-walked.ensures.bytes in
    omega arith

pub hand_over-requires : goal.hand_over-requires
hand_over-requires c =
    stands-long (paper-bare _ _ c.write_steps-walked.ensures.bytes c.write_trailer-length.ensures)

pub returns-in-Limited : goal.returns-in-Limited
returns-in-Limited c = write-bare _ _ _ _ (after-limited _ _ _ _ _ c.write_steps-walked.ensures c.in-Limited.is)

pub returns-in-Refuted : goal.returns-in-Refuted
returns-in-Refuted c =
    write-bare _ _ _ _ (after-refuted _ _ _ _ _ c.write_steps-walked.ensures c.in-Refuted.is
    c.unproved.ensures)

pub returns-in-Writing : goal.returns-in-Writing
returns-in-Writing c =
    write-bare _ _ _ _ (after-handed _ _ _ _ _ c.write_steps-walked.ensures c.in-Writing.is
    (c.hand_over.ensures _ (paper-bare _ _ c.write_steps-walked.ensures.bytes c.write_trailer-length.ensures)))
