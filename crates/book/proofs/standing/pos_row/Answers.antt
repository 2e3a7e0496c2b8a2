-- The row with the atom's number, behind the rows before it.
use mathlib.Core.Path.{ap, ◌∙◌}
use Prim.Native.Nat.{ℕ, ◌+◌}
use Rattle.book.specs.RuleRows.{row}
use Rattle.book.proofs.standing.pos_row.Goals as goal

pub returns : goal.returns
returns c = c.row_at.ensures ∙ ap (λ (n : ℕ). row c.args.rows.now (256 + n)) c.wide.ensures.0
