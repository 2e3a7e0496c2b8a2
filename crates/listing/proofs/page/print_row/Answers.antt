-- `print_row` leaves room for the longest line, behind a line that had it.
use Rattle.listing.proofs.Lines.{line-room, room-stays}
use Rattle.listing.proofs.page.print_row.Goals as goal

pub put_line-requires : goal.put_line-requires
put_line-requires g c = line-room c.args.n c.args.row.now c.args.line_end _ _ c.requires.0 c.requires.1.1

pub returns : goal.returns
returns g c =
    room-stays _ _ _ _ c.requires.1 (line-room c.args.n c.args.row.now c.args.line_end _ _ c.requires.0 c.requires.1.1) c.put_line.ensures
    c.print_full.ensures.bytes c.print_full.ensures.held
