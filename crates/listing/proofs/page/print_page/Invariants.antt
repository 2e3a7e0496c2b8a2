use Rattle.talk.specs.Gathered.{gathered}
use Rattle.listing.specs.Text.{HasRoom}
use Rattle.listing.proofs.page.print_page.Given as goal

abbrev pub invariant-loop-row : goal.invariant-loop-row
invariant-loop-row g l = HasRoom (gathered l.piece)
