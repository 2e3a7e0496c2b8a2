-- The rules of the step that was found are rules of the book, and it ends before the witness.
use borrow.Author.Rules.{rules}
use native.Mathlib.Omega.{arith}
use mathlib.Core.Path.{subst}
use Rattle.book.proofs.Places.{in-shape, shape-count}
use Rattle.checker.specs.Parts.{StepWithin}
use Rattle.checker.proofs.Lists.{part-is, below_more}
use Rattle.explaining.proofs.steps.tell_step.Goals as goal

pub tell_on-requires : goal.tell_on-requires
tell_on-requires g c =
    in-shape _ _ c.args.paper.now.book.read_as _ (subst (StepWithin _ _ _ _) c.in-On.is c.requires).0

pub tell_off-requires : goal.tell_off-requires
tell_off-requires g c =
    in-shape _ _ c.args.paper.now.book.read_as _ (subst (StepWithin _ _ _ _) c.in-Off.is c.requires).0

-- ---- 55: its list ends before the witness
pub overflow_add-first : goal.overflow_add-first
overflow_add-first g c = let h = (subst (StepWithin _ _ _ _) c.in-Unfounded.is c.requires).0 in search rules

pub overflow_add-end : goal.overflow_add-end
overflow_add-end g c = let h = (subst (StepWithin _ _ _ _) c.in-Unfounded.is c.requires).0 in search rules

pub slice_bounds-tell_list-end : goal.slice_bounds-tell_list-end
slice_bounds-tell_list-end g c = let h = (subst (StepWithin _ _ _ _) c.in-Unfounded.is c.requires).0 in search rules

pub tell_list-requires : goal.tell_list-requires
tell_list-requires g c =
    let below = (subst (StepWithin _ _ _ _) c.in-Unfounded.is c.requires).1 in
    rw (part-is _ _ _) (below_more (omega (arith, shape-count _ _ c.args.paper.now.book.read_as)) below)

pub tell_stop-requires : goal.tell_stop-requires
tell_stop-requires g c = subst (StepWithin _ _ _ _) c.in-Stops.is c.requires
