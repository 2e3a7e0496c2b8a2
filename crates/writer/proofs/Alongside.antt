-- Under a claim that no pair shows, the branches of the engine's paper and the events of the fixed walk go side by side, one for one (law
-- T): a 45 beside a contradiction, a split beside a fork at the same rule, a branch that is left unsettled beside a reading. By induction
-- over the rules without a colour: a branch ends as the closing of its first pair does (proofs/OnWay of the meaning), and after a split
-- both sides start from pairs that are alike.
use mathlib.Core.Path.{◌≡◌, refl}
use mathlib.Core.Bool.{true, false}
use mathlib.Core.List.{List, [], ◌∷◌, ◌++◌}
use Prim.Native.Nat.{ℕ, zero, suc, ◌≤◌, ◌<◌}
use native.Mathlib.Omega.{arith}
use Rattle.meaning.specs.declared.RuleNo.{RuleNo}
use Rattle.meaning.specs.Books.{Book, count}
use Rattle.meaning.specs.Colours.{Pair, Side, on_side, off_side, put, start, clashing, Closing}
use Rattle.meaning.specs.declared.kind.Claim.{Claim}
use Rattle.meaning.specs.Written.{Tables, nothing, chosen, pair}
use Rattle.meaning.specs.Computed.{close}
use Rattle.meaning.specs.Lowest.{Pick, none, one, clashed}
use Rattle.meaning.specs.Engine.{ends, splits, stuck, next}
use Rattle.meaning.proofs.Written.{Sized, sized-nothing, sized-chosen, pair-nothing, pair-on, pair-off}
use Rattle.meaning.proofs.Closing.{close-is, close-sized}
use Rattle.meaning.proofs.Tests.{true-and-false}
use Rattle.meaning.proofs.Lowest.{clashed-none}
use Rattle.meaning.proofs.Engine.{next-splits}
use Rattle.meaning.proofs.Alike.{Alike, alike_refl, alike-closing, alike-put}
use Rattle.meaning.proofs.OnWay.{OnWay, at-start, by-on, by-off, by-drop, Silent, way-alike, closing-calm}
use Rattle.meaning.proofs.OnWay.{ends-clash, splits-lowest, stuck-lowest}
use Rattle.meaning.proofs.OnWay.{at_split as rests-at-split, at-stuck as rests-at-stuck}
use Rattle.walk.specs.Events.{Event, clash, fork, reading, events}
use Rattle.walk.proofs.Events.{Closes, Forks, events-clash, events-reading, events-fork}
use Rattle.writer.specs.Branches.{Tip, ended, parted, unsettled, Branch, behind, branch, branches}
use Rattle.writer.proofs.Branches.{Steps, at-end, at_split, at-stuck, step-on, step-off, step-all, branch-steps, left, parted-left}
use Rattle.writer.proofs.Branches.{branches-ended, branches-unsettled, branches-parted}

-- a branch ends as a try does
pub data Same : Tip → Event → Type 0 where
  both-clash : {r : RuleNo} → Same ended (clash r)
  both-part : {r : RuleNo} {d : Pair} → Same (parted r d) (fork r)
  both-whole : {d : Tables} → Same unsettled (reading d)

pub data Alongside : List Branch → List Event → Type 0 where
  no_more : Alongside [] []
  one_each : {t : Branch} {e : Event} {l : List Branch} {es : List Event} → Same t.tip e → Alongside l es → Alongside (t ∷ l) (e ∷ es)

-- the same, where the tip is known
each-tip : (t : Branch) {u : Tip} {e : Event} {l : List Branch} {es : List Event} → t.tip ≡ u → Same u e → Alongside l es
    → Alongside (t ∷ l) (e ∷ es)
each-tip t {e = e} p s q = one_each {t = t} {e = e} (rw p s) q

alongside-append : {l m : List Branch} {es fs : List Event} → Alongside l es → Alongside m fs → Alongside (l ++ m) (es ++ fs)
alongside-append no_more q = q
alongside-append (one_each s p) q = one_each s (alongside-append p q)

module _ (b : Book) (k : Claim) where
  -- what the tip of a branch from c says: the pair at the tip is on its way, and what the engine does there
  data Tipped (c : Pair) : Tip → Type 0 where
    tipped-end : {d : Pair} → OnWay b k c d → next b k d ≡ ends → Tipped c ended
    tipped-split : {d : Pair} {r : RuleNo} → OnWay b k c d → next b k d ≡ splits r → Tipped c (parted r d)
    tipped-stuck : {d : Pair} → OnWay b k c d → next b k d ≡ stuck → Tipped c unsettled

  tipped-before : {c d : Pair} {t : Tip} → ((e : Pair) → OnWay b k d e → OnWay b k c e) → Tipped d t → Tipped c t
  tipped-before f (tipped-end w n) = tipped-end (f _ w) n
  tipped-before f (tipped-split w n) = tipped-split (f _ w) n
  tipped-before f (tipped-stuck w n) = tipped-stuck (f _ w) n

  steps-tipped : {c : Pair} {t : Branch} → Steps b k c t → Tipped c t.tip
  unfolding behind
  steps-tipped (at-end e) = tipped-end at-start e
  steps-tipped (at_split r e) = tipped-split at-start e
  steps-tipped (at-stuck e) = tipped-stuck at-start e
  steps-tipped (step-on r e p) = tipped-before (λ d w. by-on r e w) (steps-tipped p)
  steps-tipped (step-off r e p) = tipped-before (λ d w. by-off r e w) (steps-tipped p)
  steps-tipped (step-all l e p) = tipped-before (λ d w. by-drop l e w) (steps-tipped p)

module _ (b : Book) where
  -- a contradiction has its lowest rule
  clash-picked : (c : Pair) → clashing b c ≡ true → (r : RuleNo) × (clashed b c ≡ one r)
  clash-picked c t = by (clashed b c) refl
    where
      by : (p : Pick) → clashed b c ≡ p → (r : RuleNo) × (clashed b c ≡ one r)
      by none e = true-and-false t ((clashed-none b c).0 e)
      by (one r) e = (r, e)

  -- a rule chosen is a rule put in
  alike-chosen : (x : Side) (r : RuleNo) → r.0 < 255 → {c : Pair} {d : Tables} → Sized d → Alike b c (pair d)
      → Alike b (put x (r ∷ []) c) (pair (chosen x r d))
  alike-chosen on_side r h {d = d} s a = rw (pair-on d r (omega (arith, s.on))) (alike-put b on_side (r ∷ []) a)
  alike-chosen off_side r h {d = d} s a = rw (pair-off d r (omega (arith, s.off))) (alike-put b off_side (r ∷ []) a)

module _ (b : Book) (k : Claim) (fits : count b ≤ 255) (silent : Silent b k) where
  pub alongside : (c : Pair) (a : Tables) → Sized a → Alike b c (pair a) → Alongside (branches b k c) (events b a)
  alongside c a s w = down (suc (left b c)) c a s w (omega arith)
    where
      down : (n : ℕ) (c : Pair) (a : Tables) → Sized a → Alike b c (pair a) → left b c < n → Alongside (branches b k c) (events b a)
      down zero c a s w h = absurd (omega arith)
      down (suc n) c a s w h = ways (branch b k c).tip refl (steps-tipped b k (branch-steps b k fits c))
          (λ x r d e f t v. down n (put x (r ∷ []) d) f t v (omega (arith, parted-left b k fits x r c d e)))
        where
          closing : Closing b c (pair (close b a))
          closing = alike-closing b w (close-is b fits a s)

          calm : clashing b (pair (close b a)) ≡ false → clashed b (pair (close b a)) ≡ none
          calm = (clashed-none b (pair (close b a))).1

          closes : Closes b a (close b a)
          closes = record { few = fits; sized = s; closed = refl }

          ways : (t : Tip) → (branch b k c).tip ≡ t → Tipped b k c t
              → ((x : Side) (r : RuleNo) (d : Pair) → (branch b k c).tip ≡ parted r d → (f : Tables) → Sized f
              → Alike b (put x (r ∷ []) d) (pair f) → Alongside (branches b k (put x (r ∷ []) d)) (events b f))
              → Alongside (branches b k c) (events b a)
          ways ended e (tipped-end way n) f =
              let (r, p) = clash-picked b (pair (close b a)) (ends-clash b k fits way closing silent n) in
              rw (branches-ended b k fits c e, events-clash closes p) (each-tip (branch b k c) e both-clash no_more)
          ways unsettled e (tipped-stuck way n) f =
              rw (
                branches-unsettled b k fits c e,
                events-reading closes (calm (closing-calm b k fits way closing (rests-at-stuck n))) (stuck-lowest b k fits way closing n),
              )
              (each-tip (branch b k c) e both-whole no_more)
          ways (parted r d) e (tipped-split way n) f =
              rw (branches-parted b k fits c r d e, events-fork forks)
              (each-tip (branch b k c) e both-part (alongside-append (further on_side) (further off_side)))
            where
              forks : Forks b a (close b a) r
              forks = record {
                closes = closes;
                calm = calm (closing-calm b k fits way closing (rests-at-split r n));
                choice = splits-lowest b k fits way closing r n;
              }

              further : (x : Side) → Alongside (branches b k (put x (r ∷ []) d)) (events b (chosen x r (close b a)))
              further x =
                  let z = close-sized b fits a s in let (h, m, low) = next-splits b k d r n in
                  f x r d e (chosen x r (close b a)) (sized-chosen x r z)
                  (alike-chosen b x r (omega arith) z (way-alike b k fits way closing (rests-at-split r n)))

  pub walks-alongside : Alongside (branches b k start) (events b nothing)
  walks-alongside = alongside start nothing sized-nothing (rw pair-nothing (alike_refl b start))
