-- The first try never ends in a contradiction, since the first closing is the well-founded model: document 01's "if the first closing has
-- no contradiction" is no condition.
use mathlib.Core.Path.{◌≡◌, refl, sym, ◌∙◌, ap}
use mathlib.Core.Bool.{Bool, true, false, false≢true}
use mathlib.Core.List.{List, [], ◌∷◌}
use Prim.Native.Nat.{◌≤◌}
use Rattle.meaning.specs.declared.RuleNo.{RuleNo}
use Rattle.meaning.specs.Written.{Tables}
use Rattle.meaning.specs.Books.{Book, count}
use Rattle.meaning.specs.Written.{nothing}
use Rattle.meaning.specs.Computed.{close}
use Rattle.meaning.specs.Lowest.{Pick, none, one}
use Rattle.meaning.proofs.Written.{sized-nothing}
use Rattle.meaning.proofs.WellFounded.{first-calm}
use Rattle.walk.specs.Events.{Event, clash, fork, reading, quiet, after, events}
use Rattle.walk.proofs.Events.{events-unfold}

-- the list begins with a contradiction
unfoldable clashes_first : List Event → Bool
clashes_first [] = false
clashes_first (clash r ∷ es) = true
clashes_first (fork r ∷ es) = false
clashes_first (reading d ∷ es) = false
clashes_first (quiet ∷ es) = false

calm-after : (d : Tables) (p : Pick) (f : Tables → List Event) → clashes_first (after d none p f) ≡ false
unfolding after clashes_first
calm-after d none f = refl
calm-after d (one r) f = refl

pub first-try : (b : Book) → count b ≤ 255 → (r : RuleNo) (es : List Event) → events b nothing ≡ clash r ∷ es → ⊥
unfolding clashes_first
first-try b fits r es e = false≢true (sym calm ∙ ap clashes_first e)
  where
    calm : clashes_first (events b nothing) ≡ false
    calm = ap clashes_first (events-unfold b fits nothing sized-nothing)
        ∙ (rw (first-calm b fits) (calm-after (close b nothing) _ (events b)))
