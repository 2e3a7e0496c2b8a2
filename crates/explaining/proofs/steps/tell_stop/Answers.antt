-- The rule of a split is one of the book.
use mathlib.Core.Path.{subst}
use Rattle.book.proofs.Places.{in-shape}
use Rattle.checker.specs.Parts.{StopWithin}
use Rattle.explaining.proofs.steps.tell_stop.Goals as goal

pub tell_split-requires : goal.tell_split-requires
tell_split-requires g c =
    in-shape _ _ c.args.paper.now.book.read_as _ (subst (StopWithin _ _ _) c.in-Split.is c.requires).0
