use mathlib.Core.Path.{◌∙◌, ap}
use Prim.Native.Nat.{ℕ}
use Rattle.meaning.specs.Sets.{Set, some_below}
use Rattle.meaning.proofs.bitset.Bits.meets.Goals as goal

pub returns : goal.returns
returns c = c.is_empty.ensures ∙ ap (λ (s : Set ℕ). some_below 256 s) c.intersection.ensures
