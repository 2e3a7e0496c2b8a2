-- The rule of the last contradictory try, told late. A try is left at its first contradiction, and of all contradictory tries only the last
-- one's rule is ever told. So a walk keeps the sets from which that try was closed, its origin, and whoever tells the rule closes them once.
-- Document 02, request 14. No entry point speaks of this.
--
--   origin_in w       the colouring that eight words stand for: the rules that are on, and those that are off
--   clash_of b w r    the rule told: none, which is 255, where r is; else the lowest rule in both sets of the closing of the origin
--   told_clash b w t  the tally t of a walk with this rule: before, its rule says only whether there was a contradictory try
--   told_from b w s   the same of a state
use Rattle.std.specs.Prelude.{List, ℕ}
use Rattle.meaning.specs.declared.RuleNo.{RuleNo}
use Rattle.meaning.specs.Books.{Book}
use Rattle.meaning.specs.Bits.{listed}
use Rattle.meaning.specs.Choice.{if_eq}
use Rattle.meaning.specs.Written.{Tables, coloured, pair}
use Rattle.meaning.specs.Computed.{close}
use Rattle.meaning.specs.Lowest.{on_pick, clashed}
use Rattle.book.specs.RuleRows.{row}
use Rattle.walk.specs.Run.{State}
use Rattle.walk.specs.declared.tally.Tally.{Tally}

unfoldable pub origin_in : List ℕ → Tables
origin_in w = coloured (listed (row w 0)) (listed (row w 1))

unfoldable pub clash_of : Book → List ℕ → RuleNo → RuleNo
clash_of b w r = if_eq r.0 255 r (on_pick (clashed b (pair (close b (origin_in w)))) r (λ q. q))

abbrev pub told_clash : Book → List ℕ → Tally → Tally
told_clash b w t = record { tries = t.tries; sets = t.sets; clash = clash_of b w t.clash; halt = t.halt }

abbrev pub told_from : Book → List ℕ → State → State
told_from b w s = record { tally = told_clash b w s.tally; out = s.out }
