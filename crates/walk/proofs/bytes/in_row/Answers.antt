-- An atom of a row: past the row's end it isn't in the set, before it the atom's byte says.
use mathlib.Core.Path.{◌≡◌, refl, ◌∙◌}
use mathlib.Core.Bool.{false}
use borrow.Author.Rules.{rules}
use borrow.Author.Tests.{tests}
use lib.Dec.{ltb}
use lib.ListN.{length}
use Rattle.walk.specs.Page.{set_in}
use Rattle.walk.proofs.RowBytes.{row-past}
use Rattle.walk.proofs.bytes.in_row.Goals as goal

pub returns-else-i-row : goal.returns-else-i-row
unfolding set_in
returns-else-i-row c =
    let a = c.args in
    let past : ltb a.atom.0 (length a.row.now) ≡ false = search (rules, tests) in
    past ∙ row-past a.row.now a.atom c.if-i-row.false

pub returns-then-i-row : goal.returns-then-i-row
unfolding set_in
returns-then-i-row c = refl
