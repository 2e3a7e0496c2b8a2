-- The first closing is the well-founded model (documents 003, Theorem 7, and 000, section 6), and has no contradiction. The idea: the pair
-- that stands for two sets that alternate is closed, so the first closing is within it; and what the first closing's own two sets account
-- for is closed too, so it is all of it, and they alternate. F4 to F9 of request 8. Only the last section asks for a book of at most 255
-- rules.
use mathlib.Core.Path.{◌≡◌, sym, ◌∙◌, ap, subst}
use mathlib.Core.Logic.{⊎_elim}
use mathlib.Core.Bool.{not, ◌&&◌}
use Prim.Native.Nat.{◌≤◌}
use borrow.Author.Tests.{not-false}
use Rattle.meaning.specs.declared.AtomNo.{AtomNo}
use Rattle.meaning.specs.Sets.{◌∈◌, ◌⊆◌, every}
use Rattle.meaning.specs.Books.{Atoms, Rules, Book, count, rule}
use Rattle.meaning.specs.AnswerSet.{reduct, ClosedUnder, AnswerSet}
use Rattle.meaning.specs.WellFounded.{LeastOf, Alternates, WellFounded}
use Rattle.meaning.specs.Colours.{Pair, start, heads, all_in, may_on, blocked, starved, Upheld, Closed, Within, Closing, Consistent}
use Rattle.meaning.specs.Written.{of, nothing, pair}
use Rattle.meaning.specs.Computed.{close}
use Rattle.meaning.specs.Lowest.{none, clashed}
use Rattle.meaning.proofs.Tests.{both, and_left, and_right, true-and-false, absent, refuted, decided, same, not-second}
use Rattle.meaning.proofs.Sets.{every-mono, every-of-none, none-of-every, not-every-of-some}
use Rattle.meaning.proofs.Rules.{heads-of, heads-by, heads-mono, all_in-mono, within_on, within-off, within_both}
use Rattle.meaning.proofs.Rules.{may_on-mono, blocked-mono, starved-mono, consistent-clashing}
use Rattle.meaning.proofs.Lowest.{clashed-none}
use Rattle.meaning.proofs.Written.{pair-nothing, sized-nothing}
use Rattle.meaning.proofs.Reduct.{closed→by, by→closed}
use Rattle.meaning.proofs.Support.{outside}
use Rattle.meaning.proofs.Closing.{close-is}
use Rattle.meaning.proofs.Papers.{start-within}
use Rattle.meaning.proofs.Alternates.{applied, open_heads, standing, least-of, least-is, least-antitone, Spares, applied-no-pos}
use Rattle.meaning.proofs.Alternates.{applied-no-neg, applied-upheld, in-applied, lost-out, open_of, open_by}
use Rattle.meaning.proofs.Alternates.{standing-heads, standing-closed, standing-consistent}

module _ (b : Book) where
  -- ---- a closed pair: what follows where its open heads are denied is a head, and what is open follows where its heads are denied (F4)

  module _ (c : Pair) (closed : Closed b c) where
    pub derived-below : (y : Atoms) → LeastOf b (open_heads b c.off) y → y ⊆ heads b c.on
    unfolding may_on
    derived-below y l = l.least _ (by→closed b _ _ (λ r h n e.
        heads-of b c.on r h (closed.goes_on r h (both e (every-of-none (λ a. not-false _) _ n)))))

    module _ (z : Atoms) (k : ClosedUnder (reduct (heads b c.on) b.rules) z) where
      abbrev founded : Rules
      founded r = not (c.off r) && z (rule b r).head

      founded-heads : heads b founded ⊆ z
      founded-heads a e = let (r, h, m, q) = heads-by b founded a e in rw q at (and_right (not (c.off r)) _ m)

      founded-upheld : Upheld b c.off founded
      unfolding blocked
      founded-upheld r h n e = both (ap not n)
          (closed→by b _ z k r h (absent (closed.goes-off-blocked r h) n) (every-mono founded-heads _ e))

      pub open-below : open_heads b c.off ⊆ z
      open-below a m =
          let (r, h, n, q) = open_by b c.off a m in
          ⊎_elim (λ (e : r ∈ founded). rw q at (and_right (not (c.off r)) _ e))
          (λ e. true-and-false (outside b closed founded founded-upheld r h e) n) (decided (founded r))

  -- ---- the part of a closed pair that its two sets account for is closed (F5)

  module _ (c : Pair) (closed : Closed b c) (y z : Atoms) (least-y : LeastOf b (open_heads b c.off) y)
      (least-z : LeastOf b (heads b c.on) z) where
    abbrev accounted : Pair
    accounted = record { on = λ r. c.on r && y (rule b r).head; off = λ r. c.off r && not (applied b z (heads b c.on) r) }

    accounted-within : Within b accounted c
    accounted-within = within_both b (λ r h m. and_left (c.on r) _ m) (λ r h m. and_left (c.off r) _ m)

    accounted-heads : heads b accounted.on ⊆ y
    accounted-heads a e = let (r, h, m, q) = heads-by b accounted.on a e in rw q at (and_right (c.on r) _ m)

    spared : Spares b (heads b c.on) z accounted.off
    spared r h m = not-second (c.off r) (ap not m)

    pub accounted-closed : Closed b accounted
    unfolding may_on blocked starved
    accounted-closed = record {
      goes_on = λ r h m. both
          (closed.goes_on r h (may_on-mono b accounted-within r m))
          (closed→by b _ y least-y.good r h
          (none-of-every (λ a. ap not) _ (every-mono (all_in-mono b (within-off b accounted-within)) _ (and_right (every (heads b _) _) _ m)))
          (every-mono accounted-heads _ (and_left (every (heads b _) _) _ m)));
      goes-off-blocked = λ r h m. both
          (closed.goes-off-blocked r h (blocked-mono b accounted-within r m))
          (ap not (applied-no-neg b z _ r (blocked-mono b accounted-within r m)));
      goes-off-starved = λ r h m. both
          (closed.goes-off-starved r h (starved-mono b accounted-within r m))
          (ap not (applied-no-pos b z _ r (not-every-of-some (lost-out b _ z least-z _ spared) _ m)));
      goes-off-unsupported = λ v s r h n. both
          (outside b closed v (λ q k i e. s.good q k (absent (within-off b accounted-within q k) i) e) r h n)
          (ap not (absent (applied-upheld b _ z least-z _ v s.good spared r h) n));
    }

    -- and if that is all of it, its two sets alternate
    pub accounted-alternates : Within b c accounted → Alternates b (heads b c.on) (open_heads b c.off)
    accounted-alternates w = record {
      possible = least-is b _ least-z in-open (open-below c closed z least-z.good);
      derived = least-is b _ least-y (derived-below c closed y least-y) in-derived;
    }
      where
        in-open : z ⊆ open_heads b c.off
        in-open a m =
            let (r, h, k, q) = heads-by b _ a (in-applied b _ z least-z a m) in
            rw q at (open_of b c.off r h (refuted (λ e. true-and-false (within-off b w r h e) (spared r h k))))

        in-derived : heads b c.on ⊆ y
        in-derived a m = accounted-heads a (heads-mono b (within_on b w) a m)

  -- ---- the well-founded model is one (F8), and it is within every answer set, and every answer set within what it leaves possible (F9)

  pub alternates-turned : {t p : Atoms} → Alternates b t p → Alternates b p t
  alternates-turned k = record { possible = k.derived; derived = k.possible }

  pub answer-alternates : (x : Atoms) → AnswerSet b x → Alternates b x x
  answer-alternates x answer = record { possible = answer; derived = answer }

  module _ {t p : Atoms} (w : WellFounded b t p) where
    -- what is true is not false
    pub well-founded-consistent : t ⊆ p
    well-founded-consistent = w.least p t (alternates-turned w.fixed)

    pub well-founded-answers : (x : Atoms) → AnswerSet b x → (t ⊆ x) × (x ⊆ p)
    well-founded-answers x answer =
        let f = w.least x x (answer-alternates x answer) in (f, least-antitone b f w.fixed.possible answer)

    pub well-founded-one : {u q : Atoms} → WellFounded b u q → (a : AtomNo) → (t a ≡ u a) × (p a ≡ q a)
    well-founded-one {u} {q} v a =
        let f = w.least u q v.fixed in let g = v.least t p w.fixed in (
          same _ _ (f a) (g a),
          same _ _ (least-antitone b g v.fixed.possible w.fixed.possible a)
              (least-antitone b f w.fixed.possible v.fixed.possible a),
        )

  -- ---- the first closing is within every closed pair (F6, F7)

  module _ (d : Pair) (g : Closing b start d) where
    first-within : (e : Pair) → Closed b e → Within b d e
    first-within e k = g.least e (record { above = start-within b e; closed = k })

    first-standing : (t p : Atoms) → Alternates b t p → Within b d (standing b t p)
    first-standing t p k = first-within _ (standing-closed b t p k)

    first-alternates : Alternates b (heads b d.on) (open_heads b d.off)
    first-alternates =
        let (y, least-y) = least-of b (open_heads b d.off) in let (z, least-z) = least-of b (heads b d.on) in
        let k = g.good.closed in
        accounted-alternates d k y z least-y least-z (first-within _ (accounted-closed d k y z least-y least-z))

    pub first-pair-well-founded : WellFounded b (heads b d.on) (open_heads b d.off)
    first-pair-well-founded = record {
      fixed = first-alternates;
      least = λ u q k a m. sym (standing-heads b u q k a) ∙ heads-mono b (within_on b (first-standing u q k)) a m;
    }

    pub first-pair-consistent : Consistent b d
    first-pair-consistent r h m n =
        let k = first-standing _ _ first-alternates in
        standing-consistent b _ _ (well-founded-consistent first-pair-well-founded) r h (within_on b k r h m) (within-off b k r h n)

  -- ---- the computed one

  module _ (fits : count b ≤ 255) where
    first-closing : Closing b start (pair (close b nothing))
    first-closing = subst (λ (c : Pair). Closing b c (pair (close b nothing))) pair-nothing (close-is b fits nothing sized-nothing)

    pub first-closing-well-founded : WellFounded b (heads b (of (close b nothing).on))
        (λ a. not (all_in b (of (close b nothing).off) a))
    first-closing-well-founded = first-pair-well-founded _ first-closing

    pub first-consistent : Consistent b (pair (close b nothing))
    first-consistent = first-pair-consistent _ first-closing

    pub first-calm : clashed b (pair (close b nothing)) ≡ none
    first-calm = (clashed-none b _).1 (consistent-clashing b _ first-consistent)
