-- Both ways by what `==` of two slices says.
use Rattle.std.proofs.lemmas.Bool.Decides.{Decides-eqb}
use Rattle.std.proofs.lemmas.Slice.Eq.{slice_eq-Decides}
use Rattle.words.proofs.Names.{bytes-told}
use Rattle.words.proofs.term.is_same.Goals as goal

pub returns : goal.returns
returns c = let d = slice_eq-Decides Decides-eqb _ _ _ c.eq.ensures in bytes-told _ _ _ d.0 d.1
