-- The way of a branch of the engine's paper, beside the closing of the pair that it starts from (law T, T1 to T4): its steps add only what
-- closing adds, so every pair on the way lies between the two; a contradiction on the way is one of the closing; and where no step is left
-- the closing is reached, with the same rules without a colour. Under a claim that no pair shows a branch so ends as a try does.
--
--   OnWay b k c d    d is met by a branch that starts from c, before it ends or splits
--   Silent b k       no pair shows the claim: 45 is allowed only at a contradiction
--   Rests b k d      no 41, 42 or 55 is left at d, and 45 is not allowed
use mathlib.Core.Path.{◌≡◌, sym, ◌∙◌}
use mathlib.Core.Logic.{⊎_elim}
use mathlib.Core.Bool.{true, false}
use mathlib.Core.List.{List, [], ◌∷◌}
use Prim.Native.Nat.{◌≤◌}
use Rattle.meaning.specs.declared.RuleNo.{RuleNo}
use Rattle.meaning.specs.Books.{Book, count}
use Rattle.meaning.specs.Colours.{Pair, on_side, off_side, put, clashing, uncoloured, Closed, Within, Closing}
use Rattle.meaning.specs.declared.kind.Claim.{Claim}
use Rattle.meaning.specs.Claim.{shown, ended}
use Rattle.meaning.specs.Lowest.{none, one, lowest}
use Rattle.meaning.specs.Engine.{ends, puts-on, puts-off, drops, splits, stuck, next}
use Rattle.meaning.proofs.Tests.{either, true-and-false, neither_left}
use Rattle.meaning.proofs.Rules.{put-above, within-trans, clashing-mono, consistent-clashing}
use Rattle.meaning.proofs.Lowest.{one-lowest}
use Rattle.meaning.proofs.Additions.{Reached, reached-start, reached-closing}
use Rattle.meaning.proofs.Branches.{step-on-keeps, step-off-keeps, step-unfounded-keeps}
use Rattle.meaning.proofs.Engine.{next-ends, next-puts-on, next-puts-off, next-drops, next-splits, next-splits-closed, next-stuck}
use Rattle.meaning.proofs.Engine.{next-stuck-none}
use Rattle.meaning.proofs.Alike.{Alike, closings-alike, alike-clashing, alike-lowest}

pub data OnWay (b : Book) (k : Claim) : Pair → Pair → Type 0 where
  at-start : {c : Pair} → OnWay b k c c
  by-on : {c d : Pair} (r : RuleNo) → next b k c ≡ puts-on r → OnWay b k (put on_side (r ∷ []) c) d → OnWay b k c d
  by-off : {c d : Pair} (r : RuleNo) → next b k c ≡ puts-off r → OnWay b k (put off_side (r ∷ []) c) d → OnWay b k c d
  by-drop : {c d : Pair} (l : List RuleNo) → next b k c ≡ drops l → OnWay b k (put off_side l c) d → OnWay b k c d

abbrev pub Silent : Book → Claim → Type 0
Silent b k = (c : Pair) → shown b k c ≡ false

pub data Rests (b : Book) (k : Claim) (d : Pair) : Type 0 where
  at_split : (r : RuleNo) → next b k d ≡ splits r → Rests b k d
  at-stuck : next b k d ≡ stuck → Rests b k d

module _ (b : Book) where
  -- what is reached from a pair between c and all closed pairs above c is reached from c
  reached-earlier : {c e d : Pair} → Within b c e → ((f : Pair) → Within b c f → Closed b f → Within b e f) → Reached b e d → Reached b c d
  reached-earlier w g p = record {
    above = within-trans b w p.above;
    below = λ f k. p.below f (record { above = g f k.above k.closed; closed = k.closed });
  }

module _ (b : Book) (k : Claim) (fits : count b ≤ 255) where
  -- ---- T1

  pub way-reached : {c d : Pair} → OnWay b k c d → Reached b c d
  way-reached {c} at-start = reached-start b c
  way-reached {c} (by-on r e p) =
      let (h, m, n, low) = next-puts-on b k c r e in
      reached-earlier b (put-above b on_side (r ∷ []) c) (λ f w g. step-on-keeps b w g r h m) (way-reached p)
  way-reached {c} (by-off r e p) =
      let (h, m, n, low) = next-puts-off b k c r e in
      reached-earlier b (put-above b off_side (r ∷ []) c) (λ f w g. step-off-keeps b w g r h m) (way-reached p)
  way-reached {c} (by-drop l e p) =
      reached-earlier b (put-above b off_side l c) (λ f w g. step-unfounded-keeps b w g l (next-drops b k c fits l e).legal) (way-reached p)

  module _ {c d e : Pair} (way : OnWay b k c d) (closing : Closing b c e) where
    pub way-between : Within b c d × Within b d e
    way-between = let p = way-reached way in (p.above, p.below e closing.good)

    -- ---- T2

    pub way-clash : clashing b d ≡ true → clashing b e ≡ true
    way-clash = clashing-mono b way-between.1

    -- ---- T3

    module _ (rests : Rests b k d) where
      pub rests-closed : Closed b d
      rests-closed = from rests
        where
          from : Rests b k d → Closed b d
          from (at_split r n) = (next-splits-closed b k d fits r n).0
          from (at-stuck n) = (next-stuck b k d fits n).0

      pub rests-calm : clashing b d ≡ false
      unfolding ended
      rests-calm = from rests
        where
          from : Rests b k d → clashing b d ≡ false
          from (at_split r n) = neither_left (clashing b d) _ (next-splits-closed b k d fits r n).1
          from (at-stuck n) = let (closed, total, consistent, answer, fails) = next-stuck b k d fits n in consistent-clashing b d consistent

      pub way-closing : Closing b c d
      way-closing = reached-closing b (way-reached way) rests-closed

      pub way-alike : Alike b d e
      way-alike = closings-alike b way-closing closing

      pub closing-calm : clashing b e ≡ false
      closing-calm = sym (alike-clashing b way-alike) ∙ rests-calm

      -- ---- T4

      pub same-lowest : lowest b (uncoloured d) ≡ lowest b (uncoloured e)
      same-lowest = alike-lowest b way-alike

    -- ---- how the branch ends, told by the closing

    pub ends-clash : Silent b k → next b k d ≡ ends → clashing b e ≡ true
    unfolding ended
    ends-clash silent n = way-clash (⊎_elim (λ z. z) (λ z. true-and-false z (silent d)) (either (clashing b d) _ (next-ends b k d n)))

    pub splits-lowest : (r : RuleNo) → next b k d ≡ splits r → lowest b (uncoloured e) ≡ one r
    splits-lowest r n =
        let (h, m, low) = next-splits b k d r n in sym (same-lowest (at_split r n)) ∙ one-lowest b (uncoloured d) r h m low

    pub stuck-lowest : next b k d ≡ stuck → lowest b (uncoloured e) ≡ none
    stuck-lowest n = sym (same-lowest (at-stuck n)) ∙ next-stuck-none b k d n
