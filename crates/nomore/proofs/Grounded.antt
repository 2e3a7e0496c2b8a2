-- The no_mo_re way of choosing, at one node (document 003, Theorem 15): grounded on rules stay grounded, so the test at a leaf finds answer
-- sets only, and it finds each that stands above. The idea of the first: a total grounded pair has no unsupported rule that is not off, so
-- it is closed. Of the second: where no supported rule is left, the heads of the on rules are closed under the reduct by the answer set.
--
--   others s         the rules outside s
--   Grounded b s     the rules of s hold each other up from the ground when all others are off: s is within their support
--   rested c         the pair with all rules without a colour put in off
use mathlib.Core.Path.{◌≡◌, refl, sym, ◌∙◌, ap}
use mathlib.Core.Logic.{inr, ⊎_elim, ⊎_map}
use mathlib.Core.Bool.{true, false, not, ◌&&◌, ◌||◌}
use mathlib.Core.List.{[], ◌∷◌}
use Prim.Native.Nat.{◌≤◌}
use native.Mathlib.Omega.{arith}
use lib.ListN.{replicate}
use borrow.Author.Tests.{not-true, not-false}
use Rattle.meaning.specs.declared.AtomNo.{AtomNo}
use Rattle.meaning.specs.declared.RuleNo.{RuleNo}
use Rattle.meaning.specs.Sets.{◌∈◌, ◌∉◌, ◌⊆◌, every}
use Rattle.meaning.specs.Books.{Atoms, Rules, Book, count, rule, InBook}
use Rattle.meaning.specs.AnswerSet.{AnswerSet, generating}
use Rattle.meaning.specs.Colours.{Pair, Side, on_side, side, put, plus, heads, may_on, Under, Upheld, Support, Closed, Within}
use Rattle.meaning.specs.Colours.{clashing, Consistent, uncoloured, Total, colouring_of}
use Rattle.meaning.specs.Written.{of}
use Rattle.meaning.specs.Computed.{iterate, support_more, support}
use Rattle.meaning.specs.Propagation.{Propagated, PropagatedAbove, Propagation}
use Rattle.nomore.specs.Own.{supported}
use Rattle.meaning.proofs.Tests.{both, and_left, and_right, either, or_left, or_right, neither_left, decided, true-and-false, absent, refuted, same}
use Rattle.meaning.proofs.Sets.{every-mono}
use Rattle.meaning.proofs.Rules.{among_one, heads-of, heads-mono, within_on, within-off, within_both, within-trans}
use Rattle.meaning.proofs.Rules.{may_on-mono, blocked-mono, starved-mono, clashing-no, consistent-clashing}
use Rattle.meaning.proofs.Rules.{clashing-mono, uncoloured-no}
use Rattle.meaning.proofs.Reduct.{ClosedBy, by→closed}
use Rattle.meaning.proofs.Support.{support-is, support-found}
use Rattle.meaning.proofs.Propagation.{closed-propagated, propagated-closed, propagated-same}
use Rattle.meaning.proofs.Answers.{generating-of, generating-by, total-answer, total-stands, answer-consistent, answer-heads}
use Rattle.meaning.proofs.Answers.{answer-closed}

abbrev pub others : Rules → Rules
others s r = not (s r)

abbrev pub Grounded : Book → Rules → Type 0
Grounded b s = (v : Rules) → Support b (others s) v → Under b s v

abbrev pub rested : Pair → Pair
rested c = record { on = c.on; off = λ r. c.off r || uncoloured c r }

module _ (b : Book) where
  -- ---- grounded sets

  -- a grounded set is within every set that is upheld when all others are off
  pub grounded-upheld : {s : Rules} → Grounded b s → (v : Rules) → Upheld b (others s) v → Under b s v
  grounded-upheld {s} g v u r h m =
      let k = support-found b (others s) (count b) (omega arith) in k.least v u r h (g _ k r h m)

  pub upheld-grounded : {s : Rules} → ((v : Rules) → Upheld b (others s) v → Under b s v) → Grounded b s
  upheld-grounded f v k = f v k.good

  -- and within the computed support
  pub grounded-computed : count b ≤ 255 → {s : Rules} → Grounded b s → Under b s (of (support b (others s)))
  grounded-computed fits {s} g = g _ (support-is b (others s) fits)

  pub computed-grounded : count b ≤ 255 → {s : Rules} → Under b s (of (support b (others s))) → Grounded b s
  computed-grounded fits {s} f = upheld-grounded (λ v u r h m. (support-is b (others s) fits).least v u r h (f r h m))

  -- a set that is upheld with few rules off is upheld with more off
  fewer-upheld : {s t : Rules} → Under b s t → (v : Rules) → Upheld b (others t) v → Upheld b (others s) v
  fewer-upheld f v u r h n p = u r h (ap not (f r h (not-false _ n))) p

  pub grounded-none : Grounded b (λ r. false)
  grounded-none v k r h m = true-and-false m refl

  -- a rule whose positive atoms are heads of a grounded set may be added to it
  pub grounded-more : {s : Rules} → Grounded b s → (r : RuleNo) → every (heads b s) (rule b r).pos ≡ true
      → Grounded b (plus s (r ∷ []))
  grounded-more {s} g r p = upheld-grounded more
    where
      more : (v : Rules) → Upheld b (others (plus s (r ∷ []))) v → Under b (plus s (r ∷ [])) v
      more v u q h m = ⊎_elim (under q h) (λ e. u q h (ap not m) (rw (among_one {r = r} {q = q} e) (every-mono (heads-mono b under) _ p)))
          (either (s q) _ m)
        where
          under : Under b s v
          under = grounded-upheld g v (fewer-upheld {s = s} {t = plus s (r ∷ [])} (λ q h m. or_left _ m) v u)

  -- propagation keeps on rules grounded: with just those of them that an upheld set holds the pair would be propagated too
  module _ {c d : Pair} (g : Grounded b c.on) (p : Propagation b c d) where
    module _ (v : Rules) (u : Upheld b (others d.on) v) where
      abbrev kept : Pair
      kept = record { on = λ r. d.on r && v r; off = d.off }

      kept-within : Within b kept d
      kept-within = within_both b (λ r h m. and_left (d.on r) _ m) (λ r h m. m)

      kept_above : Within b c kept
      kept_above = let w = p.good.above in within_both b
          (λ r h m. both (within_on b w r h m) (grounded-upheld g v (fewer-upheld (within_on b w) v u) r h m)) (within-off b w)

      kept_on : Under b (may_on b kept) kept.on
      unfolding may_on
      kept_on r h m =
          let k = p.good.propagated.goes_on r h (may_on-mono b kept-within r m) in
          let e = and_left (every (heads b kept.on) (rule b r).pos) _ m in
          both k (u r h (ap not k) (every-mono (heads-mono b (λ q g z. and_right (d.on q) _ z)) _ e))

      kept-propagated : PropagatedAbove b c kept
      kept-propagated = let k = p.good.propagated in record {
        above = kept_above;
        propagated = record {
          goes_on = kept_on;
          goes-off-blocked = λ r h m. k.goes-off-blocked r h (blocked-mono b kept-within r m);
          goes-off-starved = λ r h m. k.goes-off-starved r h (starved-mono b kept-within r m);
        };
      }

    pub grounded-propagation : Grounded b d.on
    grounded-propagation = upheld-grounded (λ v u r h m. and_right (d.on r) _ (within_on b (p.least _ (kept-propagated v u)) r h m))

  -- so does the choice of a supported rule
  pub grounded-choice : (c : Pair) → Grounded b c.on → (r : RuleNo) → r ∈ supported b c → Grounded b (put on_side (r ∷ []) c).on
  unfolding put supported
  grounded-choice c g r m = grounded-more g r (and_right (uncoloured c r) _ m)

  -- ---- total pairs

  -- a rule added to one side of a total pair is on the other
  pub total-above : {c d : Pair} → Total b c → Within b c d → Consistent b d → Within b d c
  total-above t w k = within_both b
      (λ r h m. ⊎_elim (λ e. e) (λ e. absurd (k r h m (within-off b w r h e))) (t r h))
      (λ r h m. ⊎_elim (λ e. absurd (k r h (within_on b w r h e) m)) (λ e. e) (t r h))

  module _ {c d : Pair} (p : Propagation b c d) where
    -- propagation of a total pair makes no contradiction just where it adds nothing
    pub total-rests : Total b c → clashing b d ≡ false → (x : Side) (r : RuleNo) → InBook b r → side x d r ≡ side x c r
    total-rests t e x r h =
        same _ _ ((total-above t p.good.above (clashing-no b d e)).each x r h) (p.good.above.each x r h)

    pub rests-consistent : Consistent b c → ((x : Side) (r : RuleNo) → InBook b r → side x d r ≡ side x c r) → clashing b d ≡ false
    rests-consistent k f = absent (clashing-mono b (record { each = λ x r h m. sym (f x r h) ∙ m })) (consistent-clashing b c k)

    -- then the pair is propagated, and without contradiction itself
    pub rests-propagated : Total b c → clashing b d ≡ false → Propagated b c
    rests-propagated t e =
        propagated-same b p.good.above (total-above t p.good.above (clashing-no b d e)) p.good.propagated

    pub below-consistent : clashing b d ≡ false → Consistent b c
    below-consistent e = clashing-no b c (absent (clashing-mono b p.good.above) e)

  -- ---- sound: a total, propagated, grounded pair without contradiction stands for an answer set

  module _ (c : Pair) (total : Total b c) (consistent : Consistent b c) (k : Propagated b c) (g : Grounded b c.on) where
    pub grounded-closed : Closed b c
    grounded-closed = propagated-closed b k s
        (λ r h n. ⊎_elim (λ m. true-and-false (grounded-upheld g _ upheld r h m) n) (λ m. m) (total r h))
      where
        s : Support b c.off (of (iterate (support_more b c.off) (count b) (replicate (count b) false)))
        s = support-found b c.off (count b) (omega arith)

        upheld : Upheld b (others c.on) (of (iterate (support_more b c.off) (count b) (replicate (count b) false)))
        upheld r h n p = s.good r h (refuted (consistent r h (not-false _ n))) p

    pub grounded-answer : AnswerSet b (heads b c.on)
    grounded-answer = total-answer b c grounded-closed total consistent

    pub grounded-stands : (r : RuleNo) → InBook b r
        → (c.on r ≡ (colouring_of b (heads b c.on)).on r) × (c.off r ≡ (colouring_of b (heads b c.on)).off r)
    grounded-stands = total-stands b c grounded-closed total consistent

  -- the test: a total grounded pair whose propagation makes no contradiction
  pub test-sound : {c d : Pair} → Total b c → Grounded b c.on → Propagation b c d → clashing b d ≡ false
      → AnswerSet b (heads b c.on) × ((r : RuleNo) → InBook b r
      → (c.on r ≡ (colouring_of b (heads b c.on)).on r) × (c.off r ≡ (colouring_of b (heads b c.on)).off r))
  test-sound {c} t g p e = let k = rests-propagated p t e in let z = below-consistent p e in
      (grounded-answer c t z k g, grounded-stands c t z k g)

  -- ---- the rest put off

  pub rest-total : (c : Pair) → Total b (rested c)
  rest-total c r h = ⊎_elim (λ u. inr (or_right (c.off r) u)) (λ n. ⊎_map (λ m. m) (λ m. or_left _ m) (uncoloured-no b c r n))
      (decided (uncoloured c r))

  pub rest-above : (c : Pair) → Within b c (rested c)
  rest-above c = within_both b (λ r h m. m) (λ r h m. or_left _ m)

  -- a leaf with grounded rules on, whose test passes, is an answer set
  pub leaf-sound : {c d e : Pair} → Grounded b c.on → Propagation b c d → Propagation b (rested d) e → clashing b e ≡ false
      → AnswerSet b (heads b d.on) × Within b c (colouring_of b (heads b d.on))
  leaf-sound {d = d} g p q e =
      let (answer, stands) = test-sound (rest-total d) (grounded-propagation g p) q e in (
        answer,
        within-trans b p.good.above (within-trans b (rest-above d)
            (within_both b (λ r h m. sym (stands r h).0 ∙ m) (λ r h m. sym (stands r h).1 ∙ m))),
      )

  -- ---- complete: an answer set that stands above

  module _ (x : Atoms) (answer : AnswerSet b x) where
    pub answer-propagated : Propagated b (colouring_of b x)
    answer-propagated = closed-propagated b (answer-closed b x answer)

    module _ {c d : Pair} (p : Propagation b c d) (w : Within b c (colouring_of b x)) where
      pub propagation-keeps-answers : Within b d (colouring_of b x)
      propagation-keeps-answers = p.least _ (record { above = w; propagated = answer-propagated })

      pub propagation-no-clash : clashing b d ≡ false
      propagation-no-clash =
          absent (clashing-mono b propagation-keeps-answers) (consistent-clashing b _ (answer-consistent b x))

    -- a leaf: no supported rule is left
    module _ {d : Pair} (w : Within b d (colouring_of b x)) (left_over : (r : RuleNo) → InBook b r → r ∉ supported b d) where
      -- a generating rule whose positive atoms are heads of on rules is on
      generating-on : (r : RuleNo) → InBook b r → r ∈ generating b x → every (heads b d.on) (rule b r).pos ≡ true → r ∈ d.on
      unfolding supported
      generating-on r h m p = ⊎_elim (λ e. e) (λ e. true-and-false m (not-true _ (within-off b w r h e)))
          (uncoloured-no b d r (refuted (λ u. true-and-false (both u p) (left_over r h))))

      heads-in : heads b d.on ⊆ x
      heads-in a e = sym (answer-heads b x answer a) ∙ heads-mono b (within_on b w) a e

      heads-closed : ClosedBy b x (heads b d.on)
      heads-closed r h n p = heads-of b d.on r h (generating-on r h (generating-of b x r (every-mono heads-in _ p) n) p)

      in-heads : x ⊆ heads b d.on
      in-heads = answer.least _ (by→closed b x _ heads-closed)

      leaf-on : (r : RuleNo) → InBook b r → d.on r ≡ generating b x r
      leaf-on r h = same _ _ (within_on b w r h)
          (λ m. generating-on r h m (every-mono in-heads _ (generating-by b x r m).0))

      leaf-off : (r : RuleNo) → InBook b r → (rested d).off r ≡ not (generating b x r)
      unfolding uncoloured
      leaf-off r h = same _ _
          (λ m. ⊎_elim (within-off b w r h) (λ u. ap not (sym (leaf-on r h) ∙ neither_left (d.on r) _ (not-true _ u)))
          (either (d.off r) _ m))
          (λ n. ⊎_elim (λ m. true-and-false m (leaf-on r h ∙ not-true _ n)) (λ m. m) (rest-total d r h))

      -- the pair with the rest off stands for the answer set, and its heads are the set
      pub leaf-stands : (r : RuleNo) → InBook b r
          → ((rested d).on r ≡ (colouring_of b x).on r) × ((rested d).off r ≡ (colouring_of b x).off r)
      leaf-stands r h = (leaf-on r h, leaf-off r h)

      pub leaf-heads : (a : AtomNo) → heads b (rested d).on a ≡ x a
      leaf-heads a = same _ _ (heads-in a) (in-heads a)

      -- and the test of it passes
      pub leaf-test : {e : Pair} → Propagation b (rested d) e → clashing b e ≡ false
      leaf-test p = propagation-no-clash p (within_both b (λ r h m. sym (leaf-on r h) ∙ m) (λ r h m. sym (leaf-off r h) ∙ m))
