-- Small books, by computation: what propagation leaves without a colour where closing does not.
use mathlib.Core.Path.{◌≡◌, refl}
use mathlib.Core.Bool.{Bool, true, false}
use mathlib.Core.List.{List, [], ◌∷◌}
use lib.ListN.{take}
use Rattle.meaning.specs.Sets.{every, some, every_below, some_below}
use Rattle.meaning.specs.Books.{Book, same_atom, count, rule, every_rule, some_rule}
use Rattle.meaning.specs.Colours.{heads, all_in, may_on, blocked, starved}
use Rattle.meaning.specs.Written.{of, add_from, added, nothing}
use Rattle.meaning.specs.Computed.{iterate, upheld, support_more, support, goes_off, close_more, marked, stamped, close}
use Rattle.meaning.specs.Propagation.{may_off, propagate_more, propagate}
use Rattle.meaning.proofs.Cases.{six, circular}

-- the on and off rules of the book after propagation from nothing
abbrev After : Book → List Bool → List Bool → Type 0
After b on off = (take (count b) (propagate b nothing).on ≡ on) × (take (count b) (propagate b nothing).off ≡ off)

-- six: the first two rules are on, the fifth is off, and three are left; circular: both are left, and closing puts them off
left_alone : After six (true ∷ true ∷ false ∷ false ∷ false ∷ false ∷ []) (false ∷ false ∷ false ∷ false ∷ true ∷ false ∷ [])
    × After circular (false ∷ false ∷ []) (false ∷ false ∷ []) × (take 2 (close circular nothing).off ≡ true ∷ true ∷ [])
unfolding every some every_below some_below same_atom count rule every_rule some_rule heads all_in may_on blocked starved of add_from added
    iterate upheld support_more support goes_off close_more marked stamped close may_off propagate_more propagate
left_alone = ((refl, refl), (refl, refl), refl)
