-- Closing rule by rule (document 01, "so the closed pair doesn't depend on their order"; blueprint C1 and C2): what is added in any order,
-- until nothing can be added, is the closing; and the third condition adds nothing that support does not.
use mathlib.Core.List.{List, [], ◌∷◌}
use native.Mathlib.Omega.{arith}
use Rattle.meaning.specs.declared.AtomNo.{AtomNo}
use Rattle.meaning.specs.declared.RuleNo.{RuleNo}
use Rattle.meaning.specs.Sets.{◌∈◌, ◌∉◌, Smallest}
use Rattle.meaning.specs.Books.{Rules, among, Book, count, InBook}
use Rattle.meaning.specs.Colours.{Pair, Side, on_side, off_side, side, put, heads, all_in, may_on, blocked, starved, Under}
use Rattle.meaning.specs.Colours.{Support, Closed, Within, ClosedAbove, Closing}
use Rattle.meaning.proofs.Tests.{true-and-false, absent, refuted}
use Rattle.meaning.proofs.Sets.{not-every-of-some}
use Rattle.meaning.proofs.Least.{smallest-same, reached-smallest}
use Rattle.meaning.proofs.Rules.{heads-by, all_in-at, within-off, within-refl, within-trans, may_on-mono, blocked-mono, starved-mono}
use Rattle.meaning.proofs.Rules.{one-under, put-above, put-within}
use Rattle.meaning.proofs.Support.{support-found, supported, outside}

-- d holds c, and is within every closed pair that holds c
pub record Reached (b : Book) (c d : Pair) : Type 0 where
  pub above : Within b c d
  pub below : (e : Pair) → ClosedAbove b c e → Within b d e

-- the rule may be put on this side of the pair now
pub data Legal (b : Book) (d : Pair) (r : RuleNo) : Side → Type 0 where
  may-go-on : r ∈ may_on b d → Legal b d r on_side
  is-blocked : r ∈ blocked b d → Legal b d r off_side
  is-starved : r ∈ starved b d → Legal b d r off_side
  is-unsupported : (v : Rules) → Support b d.off v → r ∉ v → Legal b d r off_side

-- d comes from c by single additions, each of them legal when it is made
pub data Additions (b : Book) (c : Pair) : Pair → Type 0 where
  no-addition : Additions b c c
  one_more : {d : Pair} {x : Side} (r : RuleNo) → Additions b c d → InBook b r → Legal b d r x → Additions b c (put x (r ∷ []) d)

-- closed, if the third condition is left out
pub record ClosedBut (b : Book) (c : Pair) : Type 0 where
  pub goes_on : Under b (may_on b c) c.on
  pub goes-off-blocked : Under b (blocked b c) c.off
  pub goes-off-unsupported : (v : Rules) → Support b c.off v → (r : RuleNo) → InBook b r → r ∉ v → r ∈ c.off

module _ (b : Book) where
  pub reached-start : (c : Pair) → Reached b c c
  reached-start c = record { above = within-refl b c; below = λ e g. g.above }

  pub reached-more : {c d f : Pair} → Reached b c d → Within b d f → ((e : Pair) → Within b d e → Closed b e → Within b f e) → Reached b c f
  reached-more p w g = record {
    above = within-trans b p.above w;
    below = λ e k. g e (p.below e k) k.closed;
  }

  pub reached-put : {c d : Pair} → Reached b c d → (x : Side) (l : List RuleNo)
      → ((e : Pair) → Within b d e → Closed b e → Under b (among l) (side x e)) → Reached b c (put x l d)
  reached-put {d = d} p x l g = reached-more p (put-above b x l d) (λ e w k. put-within b x l w (g e w k))

  pub reached-closing : {c d : Pair} → Reached b c d → Closed b d → Closing b c d
  reached-closing p k = reached-smallest p.below (record { above = p.above; closed = k })

  -- ---- single additions

  -- what is legal is so in every closed pair above
  pub legal-forced : {d : Pair} {r : RuleNo} {x : Side} → InBook b r → Legal b d r x → (e : Pair) → Within b d e → Closed b e → r ∈ side x e
  unfolding side
  legal-forced h (may-go-on m) e w k = k.goes_on _ h (may_on-mono b w _ m)
  legal-forced h (is-blocked m) e w k = k.goes-off-blocked _ h (blocked-mono b w _ m)
  legal-forced h (is-starved m) e w k = k.goes-off-starved _ h (starved-mono b w _ m)
  legal-forced h (is-unsupported v s n) e w k =
      outside b k v (λ q g z. s.good q g (absent (within-off b w q g) z)) _ h n

  additions-reached : {c d : Pair} → Additions b c d → Reached b c d
  additions-reached {c} no-addition = reached-start c
  additions-reached (one_more {x = x} r p h g) =
      reached-put (additions-reached p) x (r ∷ []) (λ e w k. one-under b _ r (legal-forced h g e w k))

  pub additions-closing : {c d : Pair} → Additions b c d → Closed b d → Closing b c d
  additions-closing p k = reached-closing (additions-reached p) k

  -- where no addition changes anything the pair is closed
  pub no-addition-closed : (d : Pair) → ((x : Side) (r : RuleNo) → InBook b r → Legal b d r x → r ∈ side x d) → Closed b d
  unfolding side
  no-addition-closed d f = record {
    goes_on = λ r h m. f on_side r h (may-go-on m);
    goes-off-blocked = λ r h m. f off_side r h (is-blocked m);
    goes-off-starved = λ r h m. f off_side r h (is-starved m);
    goes-off-unsupported = λ v s r h n. f off_side r h (is-unsupported v s n);
  }

  -- ---- without the third condition

  pub closed-but : {c : Pair} → Closed b c → ClosedBut b c
  closed-but k = record { goes_on = k.goes_on; goes-off-blocked = k.goes-off-blocked; goes-off-unsupported = k.goes-off-unsupported }

  -- a starved rule is outside V: no rule of V is off, so an atom all of whose rules are off is no head of V
  pub starved-outside : (c : Pair) {v : Rules} → Support b c.off v → (r : RuleNo) → InBook b r → r ∈ starved b c → r ∉ v
  unfolding starved
  starved-outside c {v} s r h m = refuted (λ n. true-and-false (supported b s r h n).1 (not-every-of-some headless _ m))
    where
      headless : (a : AtomNo) → a ∈ all_in b c.off → a ∉ heads b v
      headless a e = refuted (λ p.
          let (q, k, n, z) = heads-by b v a p in true-and-false (all_in-at b c.off a e q k z) (supported b s q k n).0)

  pub closed-without-starved : {c : Pair} → ClosedBut b c → Closed b c
  closed-without-starved {c} k = record {
    goes_on = k.goes_on;
    goes-off-blocked = k.goes-off-blocked;
    goes-off-starved = λ r h m.
        let s = support-found b c.off (count b) (omega arith) in k.goes-off-unsupported _ s r h (starved-outside c s r h m);
    goes-off-unsupported = k.goes-off-unsupported;
  }

  -- so the smallest pair is the same
  pub closing-without-starved : {c d : Pair} → Smallest (Within b) (λ e. Within b c e × ClosedBut b e) d → Closing b c d
  closing-without-starved = smallest-same
      (λ e k. record { above = k.0; closed = closed-without-starved k.1 }) (λ e k. (k.above, closed-but k.closed))

  pub closing-but : {c d : Pair} → Closing b c d → Smallest (Within b) (λ e. Within b c e × ClosedBut b e) d
  closing-but = smallest-same
      (λ e k. (k.above, closed-but k.closed)) (λ e k. record { above = k.0; closed = closed-without-starved k.1 })
