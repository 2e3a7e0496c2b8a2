use mathlib.Core.Path.{◌∙◌, ap, sym}
use mathlib.Core.Bool.{Bool, not}
use Prim.Native.Nat.{ℕ}
use Rattle.meaning.specs.Sets.{Set, some_below}
use Rattle.meaning.proofs.Four.{not-not, not_some}
use Rattle.meaning.proofs.bitset.Bits.is_within.Goals as goal

pub returns : goal.returns
returns c =
    sym (not-not _) ∙ ap (λ (t : Bool). not t) (c.is_empty.ensures ∙ ap (λ (s : Set ℕ). some_below 256 s) c.difference.ensures)
    ∙ not_some 256 _ _
