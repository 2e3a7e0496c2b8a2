-- Propagation (document 003, Definitions 4 and 5): it is unique and grows with the pair; a closed pair is propagated, so propagation is
-- within every closed pair above; and a propagated pair without an unsupported rule that is not off is closed. So closing may propagate,
-- put off what is unsupported, and so on until there is none: each turn keeps to the closing.
use mathlib.Core.Path.{◌≡◌}
use mathlib.Core.Logic.{◌⊎◌, ⊎_elim}
use mathlib.Core.List.{[], ◌∷◌}
use Rattle.meaning.specs.declared.RuleNo.{RuleNo}
use Rattle.meaning.specs.Sets.{◌∈◌, ◌∉◌}
use Rattle.meaning.specs.Books.{Rules, Book, InBook}
use Rattle.meaning.specs.Colours.{Pair, Side, on_side, side, put, may_on, blocked, starved, Under, Support}
use Rattle.meaning.specs.Colours.{Closed, Within, ClosedAbove, Closing}
use Rattle.meaning.specs.Propagation.{Propagated, Propagation}
use Rattle.meaning.specs.Pending.{Forced}
use Rattle.meaning.proofs.Tests.{absent, same}
use Rattle.meaning.proofs.Least.{smallest-mono, smallest-unique, smallest-same, reached-smallest}
use Rattle.meaning.proofs.Rules.{within_on, within-off, within_both, within-refl, within-trans}
use Rattle.meaning.proofs.Rules.{may_on-mono, blocked-mono, starved-mono, one-under, put-above, put-within}
use Rattle.meaning.proofs.Support.{outside, unsupported-any}
use Rattle.meaning.proofs.Additions.{Reached, reached-more, reached-closing}

module _ (b : Book) where
  -- ---- propagations of pairs

  pub propagation-unique : {c d e : Pair} → Propagation b c d → Propagation b c e
      → (x : Side) (r : RuleNo) → InBook b r → side x d r ≡ side x e r
  propagation-unique p q x r h = let (v, w) = smallest-unique p q in same _ _ (v.each x r h) (w.each x r h)

  pub propagation-mono : {c d e f : Pair} → Within b c d → Propagation b c e → Propagation b d f → Within b e f
  propagation-mono w p q = smallest-mono (λ t g. record { above = within-trans b w g.above; propagated = g.propagated }) p q

  -- a propagated pair is its own propagation
  pub propagated-propagation : {c : Pair} → Propagated b c → Propagation b c c
  propagated-propagation {c} k = record { good = record { above = within-refl b c; propagated = k }; least = λ t g. g.above }

  -- pairs that hold each other are propagated together
  pub propagated-same : {c d : Pair} → Within b c d → Within b d c → Propagated b d → Propagated b c
  propagated-same w v k = record {
    goes_on = λ r h m. within_on b v r h (k.goes_on r h (may_on-mono b w r m));
    goes-off-blocked = λ r h m. within-off b v r h (k.goes-off-blocked r h (blocked-mono b w r m));
    goes-off-starved = λ r h m. within-off b v r h (k.goes-off-starved r h (starved-mono b w r m));
  }

  -- and have the same propagation
  pub propagation-same : {c d e : Pair} → Within b c d → Within b d c → Propagation b c e → Propagation b d e
  propagation-same w v = smallest-same
      (λ t g. record { above = within-trans b v g.above; propagated = g.propagated })
      (λ t g. record { above = within-trans b w g.above; propagated = g.propagated })

  -- ---- propagation and closing

  pub closed-propagated : {c : Pair} → Closed b c → Propagated b c
  closed-propagated k =
      record { goes_on = k.goes_on; goes-off-blocked = k.goes-off-blocked; goes-off-starved = k.goes-off-starved }

  -- propagation is within every closed pair above
  pub propagation-within-closed : {c d : Pair} → Propagation b c d → (e : Pair) → ClosedAbove b c e → Within b d e
  propagation-within-closed p e k = p.least e (record { above = k.above; propagated = closed-propagated k.closed })

  -- so within the closing
  pub propagation-within-closing : {c d e : Pair} → Propagation b c d → Closing b c e → Within b d e
  propagation-within-closing p k = propagation-within-closed p _ k.good

  -- a propagated pair without an unsupported rule that is not off is closed
  pub propagated-closed : {c : Pair} → Propagated b c → {v : Rules} → Support b c.off v
      → ((r : RuleNo) → InBook b r → r ∉ v → r ∈ c.off) → Closed b c
  propagated-closed k s f = record {
    goes_on = k.goes_on;
    goes-off-blocked = k.goes-off-blocked;
    goes-off-starved = k.goes-off-starved;
    goes-off-unsupported = unsupported-any b s f;
  }

  -- ---- the turns of closing: propagate, and put off what is unsupported

  pub reached-propagation : {c d e : Pair} → Reached b c d → Propagation b d e → Reached b c e
  reached-propagation p q = reached-more b p q.good.above
      (λ e w k. propagation-within-closed q e (record { above = w; closed = k }))

  pub reached-unsupported : {c d : Pair} → Reached b c d → {v : Rules} → Support b d.off v → (off : Rules) → Under b d.off off
      → ((r : RuleNo) → InBook b r → r ∈ off → (r ∈ d.off) ⊎ (r ∉ v)) → Reached b c (record { on = d.on; off = off })
  reached-unsupported {d = d} p {v} s off up f = reached-more b p (within_both b (λ r h m. m) up) (λ e w k. within_both b (within_on b w)
      (λ r h m. ⊎_elim (within-off b w r h)
      (λ n. outside b k v (λ q g z. s.good q g (absent (within-off b w q g) z)) r h n) (f r h m)))

  pub reached-propagated : {c d : Pair} → Reached b c d → Propagated b d → {v : Rules} → Support b d.off v
      → ((r : RuleNo) → InBook b r → r ∉ v → r ∈ d.off) → Closing b c d
  reached-propagated p k s f = reached-closing b p (propagated-closed k s f)

  -- ---- propagation step by step, in any order

  pub forced-start : (c : Pair) → Forced b c c
  forced-start c = record { above = within-refl b c; below = λ e g. g.above }

  pub forced-more : {c d f : Pair} → Forced b c d → Within b d f → ((e : Pair) → Within b d e → Propagated b e → Within b f e)
      → Forced b c f
  forced-more p w g = record {
    above = within-trans b p.above w;
    below = λ e k. g e (p.below e k) k.propagated;
  }

  -- a rule that may go on goes on
  pub forced-on : {c d : Pair} → Forced b c d → (r : RuleNo) → InBook b r → r ∈ may_on b d → Forced b c (put on_side (r ∷ []) d)
  unfolding side
  forced-on {d = d} p r h m = forced-more p (put-above b on_side (r ∷ []) d) (λ e w k.
      put-within b on_side (r ∷ []) w (one-under b e.on r (k.goes_on r h (may_on-mono b w r m))))

  -- rules that are blocked or starved go off
  pub forced-off : {c d : Pair} → Forced b c d → (off : Rules) → Under b d.off off
      → ((r : RuleNo) → InBook b r → r ∈ off → (r ∈ d.off) ⊎ ((r ∈ blocked b d) ⊎ (r ∈ starved b d)))
      → Forced b c (record { on = d.on; off = off })
  forced-off p off up f = forced-more p (within_both b (λ r h m. m) up) (λ e w k. within_both b (within_on b w)
      (λ r h m. ⊎_elim (within-off b w r h)
      (⊎_elim (λ n. k.goes-off-blocked r h (blocked-mono b w r n)) (λ n. k.goes-off-starved r h (starved-mono b w r n))) (f r h m)))

  pub forced-propagation : {c d : Pair} → Forced b c d → Propagated b d → Propagation b c d
  forced-propagation p k = reached-smallest p.below (record { above = p.above; propagated = k })
