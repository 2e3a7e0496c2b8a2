use mathlib.Core.List.{map}
use lib.ListN.{drop}
use Rattle.meaning.specs.Books.{atom_no}
use Rattle.aspif.specs.Text.{part_bytes}
use Rattle.aspif.proofs.Onward.{Onward}
use Rattle.aspif.proofs.lines.put_part.Given as goal

abbrev pub invariant-loop-n : goal.invariant-loop-n
invariant-loop-n l =
    Onward (part_bytes l.sign (map atom_no l.part)) l.at l.initial.out (part_bytes l.sign (map atom_no (drop l.n-index l.part))) l.end l.out
