-- A contradiction is there exactly if a rule is told of it.
use mathlib.Core.Path.{ap₂, ◌∙◌, refl}
use mathlib.Core.List.{List}
use Prim.Native.Nat.{ℕ}
use Rattle.meaning.specs.Bits.{listed}
use Rattle.meaning.specs.Colours.{clashing}
use Rattle.meaning.specs.Written.{lent}
use Rattle.book.specs.Format.{book_in}
use Rattle.book.proofs.Places.{shape-count}
use Rattle.writer.proofs.Choosing.{clash-told}
use Rattle.writer.proofs.step.is_clashing.Goals as goal

pub returns : goal.returns
returns c =
    c.is_some.ensures
    ∙ clash-told _ (shape-count _ _ c.args.book.now.read_as) _ _ c.lowest_clash.ensures
    ∙ ap₂ (λ (a b : List ℕ). clashing (book_in c.args.book.now.bytes.now) (lent (listed a) (listed b))) refl refl
