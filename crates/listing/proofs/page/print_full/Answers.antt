-- `print_full` holds nothing behind a write, and what it held where there was no need of one.
use Rattle.std.proofs.Common.{ap, sym, ◌∙◌, arith}
use Rattle.meaning.proofs.Choice.{lt_yes, lt_no}
use Rattle.talk.specs.Gathered.{Piece}
use Rattle.listing.proofs.page.print_full.Goals as goal

pub returns-then-room_left-lt-LONGEST_LINE-clause-held : goal.returns-then-room_left-lt-LONGEST_LINE-clause-held
returns-then-room_left-lt-LONGEST_LINE-clause-held g c = ap (λ (p : Piece). p.held) c.clear.ensures ∙ sym (lt_yes _ _ _ _ (omega arith))

pub returns-else-room_left-lt-LONGEST_LINE-clause-held : goal.returns-else-room_left-lt-LONGEST_LINE-clause-held
returns-else-room_left-lt-LONGEST_LINE-clause-held g c = sym (lt_no _ _ _ _ (omega arith))
