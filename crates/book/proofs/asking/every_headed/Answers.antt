-- What is asked of each byte of the part, asked of the atoms that they are.
use mathlib.Core.Path.{◌∙◌}
use Prim.Native.Nat.{ℕ}
use borrow.Author.Rules.{rules}
use Rattle.std.proofs.Common.{tests}
use Rattle.std.proofs.lemmas.Iterator.{YieldsList-from_slice}
use Rattle.std.proofs.lemmas.Iterator.Search.{all_from_yields_List}
use Rattle.meaning.specs.Books.{atom_no}
use Rattle.book.specs.RuleRows.{headed_by}
use Rattle.book.proofs.Bodies.{all-every}
use Rattle.book.proofs.asking.every_headed.Goals as goal

pub returns : goal.returns
returns c =
    let a = c.args in
    all_from_yields_List (λ (n : ℕ). headed_by a.rows.now a.on.now.w (atom_no n)) _ _ _ c.all.ensures.ran
    (YieldsList-from_slice a.part.now cc) (λ x b q k. search (rules, tests))
    ∙ all-every (headed_by a.rows.now a.on.now.w) a.part.now
