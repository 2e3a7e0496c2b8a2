-- A name that is noted or an atom that is placed has a number.
use Rattle.words.proofs.Able.{able-note, able-stand}
use Rattle.words.proofs.step.take.Goals as goal

pub note-requires : goal.note-requires
note-requires c =
    able-note _ _ c.in-Note.is c.requires

pub know-requires : goal.know-requires
know-requires c =
    able-stand _ _ _ _ c.in-Stand.is c.requires

pub place-requires : goal.place-requires
place-requires c =
    able-stand _ _ _ _ c.in-Stand.is c.requires
