-- A try of the no_mo_re walk, computed (specs/Own): what it leaves without a colour; and the test, which closes the colouring with the rest off.
-- Of a colouring in which every rule has a colour, closing without support finds no contradiction just where it adds nothing.
use mathlib.Core.Path.{◌≡◌, refl, sym, ◌∙◌, subst}
use mathlib.Core.Bool.{false, ◌||◌}
use Prim.Native.Nat.{◌≤◌, ◌<◌}
use native.Mathlib.Omega.{arith}
use Rattle.meaning.specs.declared.RuleNo.{RuleNo}
use Rattle.meaning.specs.Sets.{◌∈◌}
use Rattle.meaning.specs.Books.{Book, count, InBook}
use Rattle.meaning.specs.Colours.{Side, on_side, off_side, Within, clashing, Consistent, uncoloured, Total}
use Rattle.meaning.specs.Written.{Tables, of, colour, chosen, pair}
use Rattle.meaning.specs.Propagation.{Propagation, propagate}
use Rattle.meaning.proofs.Rules.{within_both, consistent-clashing}
use Rattle.meaning.proofs.RulesIn.{rules-more}
use Rattle.meaning.proofs.Written.{length-added, of-added, Sized}
use Rattle.meaning.proofs.Propagation.{propagation-same}
use Rattle.meaning.proofs.Propagate.{propagate-is, propagated-propagate}
use Rattle.closing.specs.Left.{left}
use Rattle.closing.proofs.Left.{uncoloured-mono, left-chosen}
use Rattle.nomore.specs.Own.{rest_off}
use Rattle.nomore.proofs.Grounded.{rested, rests-propagated}

-- ---- a rule coloured by choice, on one side or the other

-- but for the levels it is the choice of the fixed walk
pub pair-colour : (x : Side) (r : RuleNo) (d : Tables) → pair (colour x r d) ≡ pair (chosen x r d)
pair-colour on_side r d = refl
pair-colour off_side r d = refl

left-colour : (b : Book) (x : Side) (r : RuleNo) (d : Tables) → left b (colour x r d) ≡ left b (chosen x r d)
unfolding left
left-colour b on_side r d = refl
left-colour b off_side r d = refl

module _ (b : Book) (fits : count b ≤ 255) where
  -- ---- how many rules are left without a colour

  module _ (c : Tables) (s : Sized c) where
    pub left-propagate : left b (propagate b c) ≤ left b c
    unfolding left
    left-propagate = rules-more b _ _ (uncoloured-mono b (propagate-is b fits c s).good.above)

    pub left-coloured : (x : Side) (r : RuleNo) → InBook b r → r ∈ uncoloured (pair c) → left b (colour x r c) < left b c
    left-coloured x r h m = rw (left-colour b x r c) (left-chosen b fits c s x r h m)

    -- ---- a colouring in which every rule has a colour

    pub total-propagate : Total b (pair c) → clashing b (pair (propagate b c)) ≡ false → c ≡ propagate b c
    total-propagate t e = propagated-propagate b fits c s (rests-propagated b (propagate-is b fits c s) t e)

    pub propagate-total : Consistent b (pair c) → c ≡ propagate b c → clashing b (pair (propagate b c)) ≡ false
    propagate-total k e = subst (λ (d : Tables). clashing b (pair d) ≡ false) e (consistent-clashing b (pair c) k)

  -- ---- the rest put off

  module _ (d : Tables) (s : Sized d) where
    rest-sized : Sized (rest_off b d)
    unfolding rest_off
    rest-sized = record { on = s.on; off = length-added b _ d.off ∙ s.off; marks = s.marks; levels = s.levels }

    rest-off : (r : RuleNo) → InBook b r → of (rest_off b d).off r ≡ (of d.off r || uncoloured (pair d) r)
    unfolding rest_off
    rest-off r h = of-added b _ d.off (omega (arith, s.off)) r h

    rest-within : Within b (pair (rest_off b d)) (rested (pair d))
    unfolding rest_off
    rest-within = within_both b (λ r h m. m) (λ r h m. sym (rest-off r h) ∙ m)

    within-rest : Within b (rested (pair d)) (pair (rest_off b d))
    unfolding rest_off
    within-rest = within_both b (λ r h m. m) (λ r h m. rest-off r h ∙ m)

    -- the test is a propagation of the pair with the rest off
    pub test-is : Propagation b (rested (pair d)) (pair (propagate b (rest_off b d)))
    test-is = propagation-same b rest-within within-rest (propagate-is b fits (rest_off b d) rest-sized)
