-- What is settled of worked books of document 01, by computation.
use mathlib.Core.Path.{◌≡◌, refl}
use mathlib.Core.List.{[], ◌∷◌}
use Rattle.meaning.specs.Sets.{every, some, every_below, some_below}
use Rattle.meaning.specs.Books.{same_atom, count, rule, every_rule, some_rule}
use Rattle.meaning.specs.Choice.{ifb}
use Rattle.meaning.specs.Colours.{heads, all_in, may_on, blocked, starved}
use Rattle.meaning.specs.Written.{of, add_from, added}
use Rattle.meaning.specs.Computed.{iterate, upheld, support_more, support, goes_off, close_more, marked, stamped, close}
use Rattle.meaning.proofs.Cases.{six, circular, undone}
use Rattle.closing.specs.Settle.{settled_byte, settled_from, settled_rows}

-- six: rules 0 and 1 are on, 4 is off, the others wait for a choice; atoms 0 and 1 are true, 4 is false
-- circular: two rules that hold each other up are off, and so are their atoms false
-- undone: rule 0 is on and its atom true, and there is no reading
pub settled-cases : (settled_rows six ≡ 1 ∷ 1 ∷ 2 ∷ 2 ∷ 0 ∷ 2 ∷ 1 ∷ 1 ∷ 2 ∷ 2 ∷ 0 ∷ 2 ∷ [])
    × (settled_rows circular ≡ 0 ∷ 0 ∷ 0 ∷ 0 ∷ []) × (settled_rows undone ≡ 1 ∷ 2 ∷ 1 ∷ 2 ∷ [])
unfolding every some every_below some_below same_atom count rule every_rule some_rule heads all_in may_on blocked starved of add_from added
    iterate upheld support_more support goes_off close_more marked stamped close ifb settled_byte settled_from settled_rows
settled-cases = (refl, refl, refl)
