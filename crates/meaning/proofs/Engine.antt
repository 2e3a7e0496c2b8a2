-- The engine's steps (document 01, "The engine's own paper"; blueprint, N1 and N2): each step that it writes is one that a paper may make
-- there and adds something, and where it is stuck the pair stands for an answer set of which the claim fails. The rules outside support
-- that are not off are an unfounded list: a positive atom of such a rule is no head of a supported one.
use mathlib.Core.Path.{◌≡◌, refl, ap, subst}
use mathlib.Core.Logic.{⊎_elim}
use mathlib.Core.Bool.{Bool, true, false, not}
use mathlib.Core.List.{List, [], ◌∷◌}
use Prim.Native.Nat.{◌≤◌, ◌<◌}
use native.Mathlib.Omega.{arith}
use lib.ListN.{length}
use borrow.Author.Tests.{not-true, not-false}
use Rattle.meaning.specs.declared.AtomNo.{AtomNo}
use Rattle.meaning.specs.declared.RuleNo.{RuleNo}
use Rattle.meaning.specs.Sets.{◌∈◌, ◌∉◌, ascending}
use Rattle.meaning.specs.Books.{Rules, among, Book, count, InBook}
use Rattle.meaning.specs.AnswerSet.{AnswerSet, Throughout}
use Rattle.meaning.specs.Colours.{Pair, plus, heads, all_in, may_on, blocked, uncoloured, Under, Support, Closed, Total, Consistent}
use Rattle.meaning.specs.Colours.{clashing}
use Rattle.meaning.specs.declared.kind.Claim.{Claim}
use Rattle.meaning.specs.Claim.{meant, ended}
use Rattle.meaning.specs.Paper.{numbers, unfounded}
use Rattle.meaning.specs.Written.{of}
use Rattle.meaning.specs.Computed.{support}
use Rattle.meaning.specs.Lowest.{Pick, none, one, lowest, rules_in}
use Rattle.meaning.specs.Engine.{Next, ends, puts-on, puts-off, drops, splits, stuck, less, first_of, unsupported, next}
use Rattle.meaning.proofs.Tests.{both, and_left, and_right, or_left, or_right, neither_left, neither_right, true-and-false, absent, refuted, proved}
use Rattle.meaning.proofs.Tests.{decided}
use Rattle.meaning.proofs.Sets.{every-all, some-of-not-every}
use Rattle.meaning.proofs.Rules.{member-among, heads-of, all_in-all, clashing-no}
use Rattle.meaning.proofs.Lowest.{lowest-one, lowest-none, lowest-total}
use Rattle.meaning.proofs.RulesIn.{rules-in, in-rules, rules-ascending, rules-none}
use Rattle.meaning.proofs.Support.{support-is}
use Rattle.meaning.proofs.Answers.{total-answer}
use Rattle.meaning.proofs.Additions.{closed-without-starved}
use Rattle.meaning.proofs.Claims.{unshown-fails}

-- ---- which of the five it is

-- what each answer of first_of says of what it was given
Chosen : Bool → Pick → Pick → List RuleNo → Pick → Next → Type 0
Chosen t p q l u ends = t ≡ true
Chosen t p q l u (puts-on r) = p ≡ one r
Chosen t p q l u (puts-off r) = q ≡ one r
Chosen t p q l u (drops w) = (0 < length w) × (l ≡ w)
Chosen t p q l u (splits r) = (t ≡ false) × (p ≡ none) × (q ≡ none) × (l ≡ []) × (u ≡ one r)
Chosen t p q l u stuck = (t ≡ false) × (p ≡ none) × (q ≡ none) × (l ≡ []) × (u ≡ none)

chosen : (t : Bool) (p q : Pick) (l : List RuleNo) (u : Pick) → Chosen t p q l u (first_of t p q l u)
unfolding Chosen first_of
chosen true p q l u = refl
chosen false (one r) q l u = refl
chosen false none (one r) l u = refl
chosen false none none (r ∷ l) u = (omega arith, refl)
chosen false none none [] (one r) = (refl, refl, refl, refl, refl)
chosen false none none [] none = (refl, refl, refl, refl, refl)

module _ (b : Book) where
  -- ---- a step that adds a rule

  -- r is the lowest rule of the book that is in s and not yet in t
  abbrev pub LowestNew : Rules → Rules → RuleNo → Type 0
  LowestNew s t r = InBook b r × (r ∈ s) × (r ∉ t) × ((q : RuleNo) → q.0 < r.0 → q ∈ s → q ∈ t)

  less-no : (s t : Rules) (r : RuleNo) → r ∉ less s t → r ∈ s → r ∈ t
  less-no s t r n m = not-false _ (refuted (λ k. true-and-false (both m k) n))

  lowest-new : (s t : Rules) (r : RuleNo) → lowest b (less s t) ≡ one r → LowestNew s t r
  lowest-new s t r e =
      let (h, m, f) = lowest-one b _ r e in (h, and_left (s r) _ m, not-true _ (and_right (s r) _ m), λ q l. less-no s t q (f q l))

  none-new : (s t : Rules) → lowest b (less s t) ≡ none → Under b s t
  none-new s t e r h = less-no s t r (lowest-none b _ e r h)

  -- ---- the rules outside support

  module _ {off v : Rules} (s : Support b off v) where
    -- a list of just the rules outside support that are not off
    pub outside-unfounded : (l : List RuleNo) → ((r : RuleNo) → r ∈ among l → InBook b r × (r ∉ v) × (r ∉ off))
        → ((r : RuleNo) → InBook b r → r ∉ v → r ∉ off → r ∈ among l) → unfounded b off l ≡ true
    unfolding unfounded
    outside-unfounded l f g = every-all _ l (λ r m.
        let (h, n, o) = f r (member-among l r m) in
        some-of-not-every headless _ (refuted (λ p. true-and-false (s.good r h o p) n)))
      where
        headless : (a : AtomNo) → a ∉ heads b v → a ∈ all_in b (plus off l)
        headless a n = all_in-all b _ a (λ q h e.
            let out = absent (λ m. rw e at (heads-of b v q h m)) n in
            ⊎_elim (λ p. or_left _ p) (λ p. or_right (off q) (g q h out p)) (decided (off q)))

  unsupported-by : (c : Pair) (r : RuleNo) → r ∈ unsupported b c → (r ∉ of (support b c.off)) × (r ∉ c.off)
  unfolding unsupported
  unsupported-by c r m = (not-true _ (and_left (not (of (support b c.off) r)) _ m), not-true _ (and_right (not (of (support b c.off) r)) _ m))

  unsupported-of : (c : Pair) (r : RuleNo) → r ∉ of (support b c.off) → r ∉ c.off → r ∈ unsupported b c
  unfolding unsupported
  unsupported-of c r n o = both (ap not n) (ap not o)

  -- what a step 55 of the engine lists
  pub record Dropped (c : Pair) (l : List RuleNo) : Type 0 where
    pub not-empty : 0 < length l
    pub in_order : ascending (numbers l) ≡ true
    pub in-book : (r : RuleNo) → r ∈ among l → InBook b r
    pub legal : unfounded b c.off l ≡ true
    pub fresh : (r : RuleNo) → r ∈ among l → r ∉ c.off
    pub all-of-them : (r : RuleNo) → InBook b r → r ∉ of (support b c.off) → r ∉ c.off → r ∈ among l

  module _ (k : Claim) (c : Pair) where
    said : (n : Next) → next b k c ≡ n → Chosen (ended b k c) (lowest b (less (may_on b c) c.on))
        (lowest b (less (blocked b c) c.off)) (rules_in b (unsupported b c)) (lowest b (uncoloured c)) n
    unfolding next
    said n e = subst (Chosen _ _ _ _ _) e (chosen _ _ _ _ _)

    pub next-ends : next b k c ≡ ends → ended b k c ≡ true
    unfolding Chosen
    next-ends e = said ends e

    pub next-puts-on : (r : RuleNo) → next b k c ≡ puts-on r → LowestNew (may_on b c) c.on r
    unfolding Chosen
    next-puts-on r e = lowest-new _ _ r (said (puts-on r) e)

    pub next-puts-off : (r : RuleNo) → next b k c ≡ puts-off r → LowestNew (blocked b c) c.off r
    unfolding Chosen
    next-puts-off r e = lowest-new _ _ r (said (puts-off r) e)

    pub next-splits : (r : RuleNo) → next b k c ≡ splits r
        → InBook b r × (r ∈ uncoloured c) × ((q : RuleNo) → q.0 < r.0 → q ∉ uncoloured c)
    unfolding Chosen
    next-splits r e = let (n, p, q, l, u) = said (splits r) e in lowest-one b _ r u

    pub next-drops : count b ≤ 255 → (l : List RuleNo) → next b k c ≡ drops l → Dropped c l
    unfolding Chosen
    next-drops fits l e = let (n, p) = said (drops l) e in subst (Dropped c) p (dropped (rw (← p) at n))
      where
        dropped : 0 < length (rules_in b (unsupported b c)) → Dropped c (rules_in b (unsupported b c))
        dropped n = record {
          not-empty = n;
          in_order = rules-ascending b _;
          in-book = λ r m. (rules-in b _ r m).0;
          legal = outside-unfounded (support-is b c.off fits) _
              (λ r m. let (h, u) = rules-in b _ r m in let (o, p) = unsupported-by c r u in (h, o, p))
              (λ r h o p. in-rules b _ r h (unsupported-of c r o p));
          fresh = λ r m. (unsupported-by c r (rules-in b _ r m).1).1;
          all-of-them = λ r h o p. in-rules b _ r h (unsupported-of c r o p);
        }

    -- where no 41, 42 or 55 is left the pair is closed
    no-step-closed : count b ≤ 255 → lowest b (less (may_on b c) c.on) ≡ none → lowest b (less (blocked b c) c.off) ≡ none
        → rules_in b (unsupported b c) ≡ [] → Closed b c
    no-step-closed fits p q l = closed-without-starved b (record {
      goes_on = none-new _ _ p;
      goes-off-blocked = none-new _ _ q;
      goes-off-unsupported = λ v s r h o.
          let out = absent ((support-is b c.off fits).least v s.good r h) o in
          proved (λ n. true-and-false (unsupported-of c r out n) (rules-none b _ l r h));
    })

    -- so at a split, and there 45 is not allowed
    pub next-splits-closed : count b ≤ 255 → (r : RuleNo) → next b k c ≡ splits r → Closed b c × (ended b k c ≡ false)
    unfolding Chosen
    next-splits-closed fits r e = let (n, p, q, l, u) = said (splits r) e in (no-step-closed fits p q l, n)

    pub next-stuck-none : next b k c ≡ stuck → lowest b (uncoloured c) ≡ none
    unfolding Chosen
    next-stuck-none e = let (n, p, q, l, u) = said stuck e in u

    pub next-stuck : count b ≤ 255 → next b k c ≡ stuck
        → Closed b c × Total b c × Consistent b c × AnswerSet b (heads b c.on) × (heads b c.on ∉ meant k)
    unfolding Chosen ended
    next-stuck fits e =
        let (n, p, q, l, u) = said stuck e in
        let closed = no-step-closed fits p q l in
        let total = lowest-total b c u in
        let consistent = clashing-no b c (neither_left (clashing b c) _ n) in (
          closed,
          total,
          consistent,
          total-answer b c closed total consistent,
          unshown-fails b c closed total consistent k (neither_right (clashing b c) _ n),
        )

    -- where the claim holds throughout, the engine is never stuck
    pub next-certain : count b ≤ 255 → Throughout b (meant k) → next b k c ≡ stuck → ⊥
    next-certain fits t e = let (closed, total, consistent, answer, n) = next-stuck fits e in true-and-false (t.each _ answer) n
