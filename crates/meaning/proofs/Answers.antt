-- Closed colourings and answer sets, one for one (document 003, Corollary 4; blueprint M1, C3 to C5, and K1's unfounded lists). Each
-- direction tries minimality on one set: for a colouring the rules that are not off and whose head is in the other set, for an answer
-- set the heads of its generating rules in V.
use mathlib.Core.Path.{◌≡◌, refl, sym, ◌∙◌, ap}
use mathlib.Core.Logic.{⊎_elim, ⊎_map}
use mathlib.Core.Bool.{true, false, not, ◌&&◌}
use mathlib.Core.List.{List}
use borrow.Author.Tests.{not-true}
use Rattle.meaning.specs.declared.AtomNo.{AtomNo}
use Rattle.meaning.specs.declared.RuleNo.{RuleNo}
use Rattle.meaning.specs.Sets.{Set, ◌∈◌, ◌∉◌, ◌⊆◌, every, some}
use Rattle.meaning.specs.Books.{Atoms, Rules, among, Book, rule, InBook}
use Rattle.meaning.specs.AnswerSet.{AnswerSet, Throughout, generates, generating}
use Rattle.meaning.specs.Colours.{Pair, plus, heads, all_in, may_on, blocked, starved, Under, Upheld, Closed, Within, Closing}
use Rattle.meaning.specs.Colours.{clashing, Total, Consistent, colouring_of}
use Rattle.meaning.specs.Paper.{unfounded}
use Rattle.meaning.proofs.Tests.{both, and_left, and_right, either, true-and-false, absent, refuted, proved, decided, same, not_first, not-second}
use Rattle.meaning.proofs.Sets.{every-at, every-mono, some_mono, every-of-none, none-of-every, some-of-not-every, not-every-of-some}
use Rattle.meaning.proofs.Rules.{among-member, heads-of, heads-by, heads-mono, all_in-at, all_in-all}
use Rattle.meaning.proofs.Rules.{clashing-mono, consistent-clashing}
use Rattle.meaning.proofs.Reduct.{ClosedBy, closed→by, by→closed}
use Rattle.meaning.proofs.Support.{outside}

module _ (b : Book) where
  -- ---- generating rules

  module _ (x : Atoms) (r : RuleNo) where
    pub generating-of : every x (rule b r).pos ≡ true → some x (rule b r).neg ≡ false → r ∈ generating b x
    unfolding generating generates
    generating-of p n = both p (ap not n)

    pub generating-by : r ∈ generating b x → (every x (rule b r).pos ≡ true) × (some x (rule b r).neg ≡ false)
    unfolding generating generates
    generating-by m = (and_left (every x (rule b r).pos) _ m, not-true _ (and_right (every x (rule b r).pos) _ m))

    pub generating-no-pos : every x (rule b r).pos ≡ false → r ∉ generating b x
    unfolding generating generates
    generating-no-pos p = not_first _ p

    pub generating-no-neg : some x (rule b r).neg ≡ true → r ∉ generating b x
    unfolding generating generates
    generating-no-neg n = not-second (every x (rule b r).pos) (ap not n)

  -- ---- a closed, total pair without contradiction: the heads of its on rules are an answer set

  module _ (c : Pair) (closed : Closed b c) (total : Total b c) (consistent : Consistent b c) where
    not-head-lost : (a : AtomNo) → a ∉ heads b c.on → a ∈ all_in b c.off
    not-head-lost a n =
        all_in-all b _ a (λ r h q. ⊎_elim (λ (m : r ∈ c.on). true-and-false (rw q at (heads-of b c.on r h m)) n) (λ m. m) (total r h))

    goes_on : (r : RuleNo) → InBook b r → every (heads b c.on) (rule b r).pos ≡ true → some (heads b c.on) (rule b r).neg ≡ false
        → r ∈ c.on
    unfolding may_on
    goes_on r h p n = closed.goes_on r h (both p (every-of-none not-head-lost _ n))

    not-blocked : (r : RuleNo) → InBook b r → r ∉ c.off → some (heads b c.on) (rule b r).neg ≡ false
    unfolding blocked
    not-blocked r h n = absent (closed.goes-off-blocked r h) n

    not-starved : (r : RuleNo) → InBook b r → r ∉ c.off → every (heads b c.on) (rule b r).pos ≡ true
    unfolding starved
    not-starved r h n = proved (λ k. true-and-false (closed.goes-off-starved r h (some-of-not-every not-head-lost _ k)) n)

    module _ (y : Atoms) (f : ClosedBy b (heads b c.on) y) where
      abbrev founded : Rules
      founded r = not (c.off r) && y (rule b r).head

      founded-heads : heads b founded ⊆ y
      founded-heads a e = let (r, h, m, q) = heads-by b founded a e in rw q at (and_right (not (c.off r)) _ m)

      founded-upheld : Upheld b c.off founded
      founded-upheld r h n p = both (ap not n) (f r h (not-blocked r h n) (every-mono founded-heads _ p))

      heads-least : heads b c.on ⊆ y
      heads-least a e =
          let (r, h, m, q) = heads-by b c.on a e in
          ⊎_elim (λ (p : r ∈ founded). rw q at (and_right (not (c.off r)) _ p))
          (λ n. absurd (consistent r h m (outside b closed founded founded-upheld r h n)))
          (decided (founded r))

    pub total-answer : AnswerSet b (heads b c.on)
    total-answer = record {
      good = by→closed b _ _ (λ r h n p. heads-of b c.on r h (goes_on r h p n));
      least = λ y k. heads-least y (closed→by b _ y k);
    }

    total-on : (r : RuleNo) → InBook b r → c.on r ≡ generating b (heads b c.on) r
    total-on r h = same _ _
        (λ m. let n = refuted (consistent r h m) in generating-of _ r (not-starved r h n) (not-blocked r h n))
        (λ g. let (p, n) = generating-by _ r g in goes_on r h p n)

    total-off : (r : RuleNo) → InBook b r → c.off r ≡ not (generating b (heads b c.on) r)
    total-off r h = same _ _
        (λ m. ap not (refuted (λ g. let (p, n) = generating-by _ r g in consistent r h (goes_on r h p n) m)))
        (λ n. ⊎_elim (λ m. true-and-false (sym (total-on r h) ∙ m) (not-true _ n)) (λ m. m) (total r h))

    -- and the pair stands for that answer set
    pub total-stands : (r : RuleNo) → InBook b r
        → (c.on r ≡ (colouring_of b (heads b c.on)).on r) × (c.off r ≡ (colouring_of b (heads b c.on)).off r)
    total-stands r h = (total-on r h, total-off r h)

  -- ---- an answer set: the pair that stands for it is closed, total and without contradiction, and its heads are the set

  pub answer-total : (x : Atoms) → Total b (colouring_of b x)
  answer-total x r h = ⊎_map (λ p. p) (ap not) (decided (generating b x r))

  pub answer-consistent : (x : Atoms) → Consistent b (colouring_of b x)
  answer-consistent x r h p q = true-and-false p (not-true _ q)

  module _ (x : Atoms) (answer : AnswerSet b x) where
    closed-by : ClosedBy b x x
    closed-by = closed→by b x x answer.good

    least_by : (y : Atoms) → ClosedBy b x y → x ⊆ y
    least_by y f = answer.least y (by→closed b x y f)

    heads-in : heads b (generating b x) ⊆ x
    heads-in a e =
        let (r, h, m, q) = heads-by b (generating b x) a e in let (p, n) = generating-by x r m in rw q at (closed-by r h n p)

    -- the generating rules of an upheld set v: their heads are all of x
    module _ (v : Rules) (u : Upheld b (colouring_of b x).off v) where
      abbrev upholding : Rules
      upholding r = v r && generating b x r

      upholding-closed : ClosedBy b x (heads b upholding)
      upholding-closed r h n p = heads-of b upholding r h (both (u r h (ap not g) (every-mono in-v _ p)) g)
        where
          in-v : heads b upholding ⊆ heads b v
          in-v = heads-mono b (λ q k m. and_left (v q) _ m)

          in-x : heads b upholding ⊆ x
          in-x a e = heads-in a (heads-mono b (λ q k m. and_right (v q) _ m) a e)

          g : r ∈ generating b x
          g = generating-of x r (every-mono in-x _ p) n

      pub generating-upheld : Under b (generating b x) v
      generating-upheld r h g = u r h (ap not g) (every-mono in-heads _ (generating-by x r g).0)
        where
          in-heads : x ⊆ heads b v
          in-heads a e = heads-mono b (λ q k m. and_left (v q) _ m) a (least_by _ upholding-closed a e)

    in-heads : x ⊆ heads b (generating b x)
    in-heads a e = heads-mono b (λ r h m. and_right true _ m) a (least_by _ (upholding-closed (λ r. true) (λ r h n p. refl)) a e)

    pub answer-heads : (a : AtomNo) → heads b (generating b x) a ≡ x a
    answer-heads a = same _ _ (heads-in a) (in-heads a)

    lost-out : (a : AtomNo) → a ∈ all_in b (colouring_of b x).off → a ∉ x
    lost-out a e = refuted (λ p.
        let (r, h, m, q) = heads-by b (generating b x) a (in-heads a p) in true-and-false m (not-true _ (all_in-at b _ a e r h q)))

    -- the pair that stands for an answer set has all rules of an atom off just where the set lacks it
    pub answer-lost : (a : AtomNo) → all_in b (colouring_of b x).off a ≡ not (x a)
    answer-lost a = same _ _ (λ e. ap not (lost-out a e)) (λ n. all_in-all b _ a (λ r h q.
        ap not (refuted (λ m. true-and-false (rw q at (heads-in _ (heads-of b _ r h m))) (not-true _ n)))))

    pub answer-closed : Closed b (colouring_of b x)
    unfolding may_on blocked starved
    answer-closed = record {
      goes_on = λ r h p. generating-of x r
          (every-mono heads-in _ (and_left (every (heads b _) _) _ p)) (none-of-every lost-out _ (and_right (every (heads b _) _) _ p));
      goes-off-blocked = λ r h p. ap not (generating-no-neg x r (some_mono heads-in _ p));
      goes-off-starved = λ r h p. ap not (generating-no-pos x r (not-every-of-some lost-out _ p));
      goes-off-unsupported = λ v s r h n. ap not (absent (generating-upheld v s.good r h) n);
    }

  -- ---- closing keeps within what stands for an answer set

  pub closing-keeps-answers : {c d : Pair} → Closing b c d → (x : Atoms) → AnswerSet b x → Within b c (colouring_of b x)
      → Within b d (colouring_of b x)
  closing-keeps-answers g x answer w = g.least _ (record { above = w; closed = answer-closed x answer })

  pub clash-no-answer : {c d : Pair} → Closing b c d → clashing b d ≡ true → (x : Atoms) → AnswerSet b x → Within b c (colouring_of b x) → ⊥
  clash-no-answer g e x answer w =
      true-and-false (clashing-mono b (closing-keeps-answers g x answer w) e) (consistent-clashing b _ (answer-consistent x))

  -- ---- an unfounded list is off in every closed pair, so in the one that stands for an answer set

  module _ {d : Pair} (closed : Closed b d) (off : Rules) (under : Under b off d.off) (l : List RuleNo)
      (e : unfounded b off l ≡ true) where
    abbrev unlisted : Rules
    unlisted r = not (among l r) && not (d.off r)

    lost-unlisted : (a : AtomNo) → a ∈ all_in b (plus off l) → a ∉ heads b unlisted
    lost-unlisted a k = refuted (λ p.
        let (r, h, m, q) = heads-by b unlisted a p in
        ⊎_elim (λ z. true-and-false (under r h z) (not-true _ (and_right (not (among l r)) _ m))) (λ z. true-and-false z (not-true _ (and_left _ _ m)))
        (either (off r) _ (all_in-at b _ a k r h q)))

    unlisted-upheld : Upheld b d.off unlisted
    unfolding unfounded
    unlisted-upheld r h n p = both
        (ap not (refuted (λ m. true-and-false p (not-every-of-some lost-unlisted _ (every-at _ l e r (among-member l r m))))))
        (ap not n)

    pub unfounded-off : Under b (among l) d.off
    unfounded-off r h m = outside b closed unlisted unlisted-upheld r h (not_first _ (ap not m))

  -- ---- in a book without answer sets nothing is certain

  pub nothing-certain : ((x : Atoms) → AnswerSet b x → ⊥) → {fact : Set Atoms} → Throughout b fact → ⊥
  nothing-certain none t = let (x, answer) = t.one in none x answer
