-- The test of each atom of the part is whether it is as is asked.
use mathlib.Core.Path.{◌∙◌}
use borrow.Author.Rules.{rules}
use borrow.Author.Tests.{tests}
use Rattle.std.specs.Bool.{beq}
use Rattle.std.proofs.lemmas.Iterator.{YieldsList-from_slice}
use Rattle.std.proofs.lemmas.Iterator.Search.{all_from_yields_List}
use Rattle.meaning.specs.Books.{atom_no}
use Rattle.walk.specs.Page.{set_in}
use Rattle.walk.proofs.Agreeing.{every-list}
use Rattle.walk.proofs.resume.all_so.Goals as goal

pub returns : goal.returns
returns c =
    let a = c.args in
    all_from_yields_List (λ n. beq (set_in a.row.now (atom_no n)) a.inside) _ _ c.all.result c.all.ensures.ran
    (YieldsList-from_slice a.part.now cc) (λ x b q k. search (rules, tests))
    ∙ every-list a.inside a.row.now a.part.now
