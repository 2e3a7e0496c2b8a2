-- Where the memory has a reading with the same shown part, the reading is fresh exactly if it is that one; else it is searched for.
use mathlib.Core.Path.{◌∙◌, ap}
use mathlib.Core.List.{List}
use Prim.Native.Nat.{ℕ}
use native.Mathlib.Omega.{arith}
use Rattle.meaning.specs.Sets.{every_below}
use Rattle.meaning.specs.Bits.{members}
use Rattle.meaning.specs.Choice.{agree}
use Rattle.book.proofs.Places.{shape-count}
use Rattle.closing.proofs.Good.{good-book, good-few}
use Rattle.walk.proofs.ShownSets.{part_in}
use Rattle.walk.proofs.Remembering.{known-first}
use Rattle.walk.proofs.counts.is_first_known.Goals as goal

pub words_at-requires : goal.words_at-requires
words_at-requires c = let h = c.in-Some.ensures.1 in omega arith

pub returns-in-Some : goal.returns-in-Some
returns-in-Some c =
    let (l, h, e) = c.in-Some.ensures in
    known-first _ (good-few (good-book c.args.rowed.now.book)) _ (c.requires.2 _ l h) _ _ e
    (part_in c.args.rowed.now.rowed _ _ _ c.requires.1) c.requires.0 (shape-count _ _ c.args.rowed.now.book.read_as)
    (c.same_rules.ensures
    ∙ ap (λ (u : List ℕ). every_below c.args.rowed.now.book.shape.rules (λ i. agree (members c.args.on.w i) (members u i))) c.words_at.ensures)
