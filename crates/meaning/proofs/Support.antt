-- Support (document 01, "Colours and closing"; blueprint C0 and C1): the computed set is the smallest upheld one, it holds no off rule, its
-- rules stand on each other, and it shrinks as off grows. Each comes from minimality, tried on a set made for the purpose.
use mathlib.Core.Path.{◌≡◌, sym, ◌∙◌, ap}
use mathlib.Core.Logic.{⊎_elim}
use mathlib.Core.Bool.{Bool, true, false, not, ◌&&◌}
use mathlib.Core.List.{List}
use Prim.Native.Nat.{ℕ, ◌≤◌}
use lib.ListN.{length, replicate, length-replicate}
use native.Mathlib.Omega.{arith}
use borrow.Author.Tests.{not-true}
use Rattle.meaning.specs.declared.RuleNo.{RuleNo}
use Rattle.meaning.specs.Sets.{◌∈◌, ◌∉◌, every}
use Rattle.meaning.specs.Books.{Rules, Book, count, rule, InBook}
use Rattle.meaning.specs.Colours.{Pair, heads, Under, Upheld, Support, Closed}
use Rattle.meaning.specs.Written.{of}
use Rattle.meaning.specs.Computed.{iterate, upheld, support_more, support}
use Rattle.meaning.proofs.Tests.{both, and_left, and_right, either, true-and-false, absent, same}
use Rattle.meaning.proofs.Sets.{every-mono}
use Rattle.meaning.proofs.Least.{Adding, smallest-mono, smallest-unique, iterate-fine, iterate-smallest}
use Rattle.meaning.proofs.Rules.{heads-mono, in-book-or-not}
use Rattle.meaning.proofs.Written.{of_none, of-same, length-added, of-added, of-added-outside, added-grows, added-rests}
use Rattle.meaning.proofs.Written.{size, size-le}

module _ (b : Book) (off : Rules) where
  upheld-of : (v : Rules) (r : RuleNo) → r ∉ off → every (heads b v) (rule b r).pos ≡ true → r ∈ upheld b off v
  unfolding upheld
  upheld-of v r n p = both (ap not n) p

  pub upheld-by : (v : Rules) (r : RuleNo) → r ∈ upheld b off v → (r ∉ off) × (every (heads b v) (rule b r).pos ≡ true)
  unfolding upheld
  upheld-by v r m = (not-true _ (and_left (not (off r)) _ m), and_right (not (off r)) _ m)

  -- ---- the computed set, in any number of places that has room for the book

  abbrev Fine : ℕ → List Bool → Type 0
  Fine places v = (length v ≡ places) × ((r : RuleNo) → count b ≤ r.0 → r ∉ of v)

  fine-start : (places : ℕ) → Fine places (replicate places false)
  fine-start places = (length-replicate places false, λ r h. of_none places r)

  module _ (places : ℕ) (fits : count b ≤ places) where
    fine-room : (v : List Bool) → Fine places v → count b ≤ length v
    fine-room v f = rw f.0 fits

    support-adding : Adding (Under b) (Upheld b off) of (support_more b off) (Fine places) (count b)
    unfolding support_more
    support-adding = record {
      size = size (count b);
      bounded = λ v f. size-le (count b) v;
      kept = λ v f. (length-added b _ v ∙ f.0, λ r h. of-added-outside b _ v r h ∙ f.1 r h);
      grows = λ v f. added-grows b _ v (fine-room v f);
      forced = λ v f t g w r h m.
          ⊎_elim (w r h) (λ p. let (n, q) = upheld-by (of v) r p in g r h n (every-mono (heads-mono b w) _ q))
          (either (of v r) _ (sym (of-added b _ v (fine-room v f) r h) ∙ m));
      rests = λ v f e r h n p. added-rests b _ v (fine-room v f) e r h (upheld-of (of v) r n p);
    }

    pub support-found : Support b off (of (iterate (support_more b off) (count b) (replicate places false)))
    support-found = iterate-smallest support-adding _ (fine-start places) (λ t g r h m. true-and-false m (of_none places r))

  pub support-is : count b ≤ 255 → Support b off (of (support b off))
  unfolding support
  support-is fits = support-found 256 (omega arith)

  support-fine : count b ≤ 255 → Fine 256 (support b off)
  unfolding support
  support-fine fits = iterate-fine (support-adding 256 (omega arith)) (count b) _ (fine-start 256)

  pub length-support : count b ≤ 255 → length (support b off) ≡ 256
  length-support fits = (support-fine fits).0

  pub support-outside : count b ≤ 255 → (r : RuleNo) → count b ≤ r.0 → r ∉ of (support b off)
  support-outside fits = (support-fine fits).1

module _ (b : Book) where
  -- ---- what minimality says

  pub support-unique : {off v w : Rules} → Support b off v → Support b off w → (r : RuleNo) → InBook b r → v r ≡ w r
  support-unique p q r h = let (f, g) = smallest-unique p q in same _ _ (f r h) (g r h)

  -- a list that stands for the support, and says no from R on, is the computed one
  pub support-computed : (off : Rules) (l : List Bool) → count b ≤ 255 → length l ≡ 256 → ((r : RuleNo) → count b ≤ r.0 → r ∉ of l)
      → Support b off (of l) → l ≡ support b off
  support-computed off l fits long out s =
      of-same l _ (long ∙ sym (length-support b off fits)) (λ r. ⊎_elim
      (support-unique s (support-is b off fits) r) (λ h. out r h ∙ sym (support-outside b off fits r h)) (in-book-or-not b r))

  -- it shrinks as off grows
  pub support-antitone : {few many v w : Rules} → Under b few many → Support b few v → Support b many w → Under b w v
  support-antitone f p q = smallest-mono (λ u g r h n. g r h (absent (f r h) n)) q p

  module _ {off v : Rules} (s : Support b off v) where
    abbrev inner : Rules
    inner r = v r && upheld b off v r

    -- a supported rule is not off, and its positive atoms are heads of supported rules
    pub supported : (r : RuleNo) → InBook b r → r ∈ v → (r ∉ off) × (every (heads b v) (rule b r).pos ≡ true)
    supported r h m = upheld-by b off v r (and_right (v r) _ (s.least inner inner-upheld r h m))
      where
        inner-upheld : Upheld b off inner
        inner-upheld q k n p =
            let e = every-mono (heads-mono b (λ i g z. and_left (v i) _ z)) _ p in both (s.good q k n e) (upheld-of b off v q n e)

  -- what goes off for being outside one support set goes off for being outside any
  pub unsupported-any : {off v : Rules} → Support b off v → ((r : RuleNo) → InBook b r → r ∉ v → r ∈ off)
      → (w : Rules) → Support b off w → (r : RuleNo) → InBook b r → r ∉ w → r ∈ off
  unsupported-any s f w t r h n = f r h (support-unique s t r h ∙ n)

  -- a rule outside any upheld set is off in a closed pair
  pub outside : {c : Pair} → Closed b c → (w : Rules) → Upheld b c.off w → (r : RuleNo) → InBook b r → r ∉ w → r ∈ c.off
  outside {c} closed w u r h n =
      let s = support-found b c.off (count b) (omega arith) in
      closed.goes-off-unsupported _ s r h (absent (s.least w u r h) n)
