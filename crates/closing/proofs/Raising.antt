-- Step 2 of propagation by what is new (specs/News, Looked and Raised): the candidates one after the other. A candidate that was passed over
-- could not go on then; if it may now, one of its positive atoms has become true since, and is new.
use mathlib.Core.Path.{◌≡◌, refl, sym, ap, ap₂, subst, fun_ext, ◌∙◌}
use mathlib.Core.Logic.{◌⊎◌, inl, inr, ⊎_elim}
use mathlib.Core.Bool.{Bool, true, not, ◌&&◌, ◌||◌, or-false}
use mathlib.Core.List.{List, [], ◌∷◌}
use Prim.Native.Nat.{ℕ, ◌+◌, ◌≤◌, ◌<◌}
use native.Mathlib.Decide.{ℕ_discrete, dec_lt}
use native.Mathlib.Omega.{arith}
use lib.Dec.{ltb}
use lib.ListN.{set}
use borrow.Author.Tests.{not-true, lt-ltb, le-ltb}
use Rattle.meaning.specs.declared.AtomNo.{AtomNo}
use Rattle.meaning.specs.declared.RuleNo.{RuleNo}
use Rattle.meaning.specs.Sets.{◌∈◌, ◌∉◌}
use Rattle.meaning.specs.Books.{Atoms, Rules, Book, rule_no, same_atom, rule, count, InBook}
use Rattle.meaning.specs.Colours.{put, plus, heads, may_on}
use Rattle.meaning.specs.Bits.{less as less-in, members, listed, NextIn}
use Rattle.meaning.specs.Written.{of}
use Rattle.meaning.specs.Pending.{newly_true}
use Rattle.meaning.proofs.Tests.{both, and_left, and_right, either, or_left, decided, true-and-false, refuted, absent}
use Rattle.meaning.proofs.Rules.{among_one, heads-mono}
use Rattle.meaning.proofs.Written.{of-set}
use Rattle.meaning.proofs.Listed.{listed-long}
use Rattle.meaning.proofs.Propagation.{forced-on}
use Rattle.meaning.proofs.Pending.{pending-fewer, pending-looked-on, pending-looked-past}
use Rattle.closing.specs.News.{Looked, passed, risen, Raised}
use Rattle.closing.proofs.Noting.{noted}
use Rattle.closing.proofs.Falling.{at-rule}

-- the rules of a set from r on
unfoldable pub onward : List ℕ → ℕ → Rules
onward w r q = of (listed w) q && not (ltb q.0 r)

-- one set without another, by value
pub less-listed : (d w v x y : List ℕ) → members d ≡ less-in (members w) (members v) → w ≡ x → v ≡ y
    → (q : RuleNo) → of (listed d) q ≡ (of (listed x) q && not (of (listed y) q))
less-listed d w v x y e f g q =
    at-rule d e q
    ∙ ap₂ (λ (m n : Bool). m && not n)
    (ap (λ (u : List ℕ). members u q.0) f ∙ sym (at-rule x refl q)) (ap (λ (u : List ℕ). members u q.0) g ∙ sym (at-rule y refl q))

-- the head of a rule is noted unless it was the head of an on rule
pub noted-true : (b : Book) (r : RuleNo) (on : Rules) (nt : Atoms) {nt' : Atoms} (h : AtomNo) (told : Bool) → h ≡ (rule b r).head
    → told ≡ heads b on h → nt' ≡ (λ a. nt a || (not told && same_atom h a)) → nt' ≡ newly_true b r on nt
unfolding newly_true
noted-true b r on nt h told e f g = g ∙ noted (λ a. not (heads b on a)) nt h (not told) (ap not f)
    ∙ fun_ext (λ a. ap (λ (h : AtomNo). nt a || (same_atom h a && not (heads b on a))) e)

-- a set of words with a rule put in
pub put-rule : (w v : List ℕ) (r : RuleNo) → r.0 < 256 → listed w ≡ set (listed v) r.0 true → of (listed w) ≡ plus (of (listed v)) (r ∷ [])
put-rule w v r low p = ap of p ∙ of-set (listed v) r (omega (arith, listed-long v))

-- a rule that may go on has gone on
pub looked-risen : (b : Book) (off : Rules) (r : RuleNo) (on on' : List ℕ) (nt : Atoms) {nt' : Atoms} → r.0 < 256
    → r ∈ may_on b (record { on = of (listed on); off = off }) → listed on' ≡ set (listed on) r.0 true
    → nt' ≡ newly_true b r (of (listed on)) nt → Looked b off r (of (listed on)) nt (of (listed on')) nt'
looked-risen b off r on on' nt {nt'} low m p new =
    subst (λ (o : Rules). Looked b off r (of (listed on)) nt o nt') (sym (put-rule on' on r low p))
    (subst (λ (a : Atoms). Looked b off r (of (listed on)) nt (plus (of (listed on)) (r ∷ [])) a) (sym new) (risen m))

-- where the search begins, all of the set is left
pub onward-first : (w : List ℕ) (r : ℕ) → NextIn (members w) 0 r → (q : RuleNo) → q ∈ of (listed w) → q ∈ onward w r
unfolding onward
onward-first w r p q i = elim (dec_lt q.0 r) [
  | yes l ↦ true-and-false (sym (at-rule w refl q) ∙ i) (p.passed q.0 (omega arith) l)
  | no l ↦ both i (ap not (le-ltb q.0 r (omega arith)))
]

-- at its end none is left
pub onward-last : (w : List ℕ) (r n : ℕ) → n ≤ r → (q : RuleNo) → q.0 < n → q ∉ onward w r
unfolding onward
onward-last w r n h q l = refuted (λ m. true-and-false (and_right (of (listed w) q) _ m) (ap not (lt-ltb q.0 r (omega arith))))

pub onward-start : (b : Book) (off on : Rules) (nt : Atoms) (todo : List ℕ) (r : ℕ) → NextIn (members todo) 0 r
    → Raised b off (of (listed todo)) on nt (onward todo r) on nt
onward-start b off on nt todo r p = record {
  pending = λ nl k. pending-fewer b k _ (λ q h m z. inr (onward-first todo r p q m));
  forced = λ s f. f;
  above = λ q h m. m;
  outside = λ q h. refl;
  new = λ a m. inl m;
}

-- of the candidates only those that are not on need a look
pub raised-off : (b : Book) (off cand todo on : Rules) (nt : Atoms) {rest on' : Rules} {nt' : Atoms}
    → ((q : RuleNo) → todo q ≡ (cand q && not (on q))) → Raised b off todo on nt rest on' nt' → Raised b off cand on nt rest on' nt'
raised-off b off cand todo on nt e k = record {
  pending = λ nl p. k.pending nl (pending-fewer b p todo (λ q h m z.
      ⊎_elim (λ o. inl o) (λ o. inr (e q ∙ both m (ap not o))) (decided (on q))));
  forced = k.forced;
  above = k.above;
  outside = k.outside;
  new = k.new;
}

-- the candidates behind the one at which the search stands
pub behind : (todo : List ℕ) (r m : ℕ) → NextIn (members todo) (r + 1) m → (q : RuleNo) → q ∈ onward todo r → (q ≡ rule_no r) ⊎ (q ∈ onward todo m)
unfolding onward
behind todo r m p q i = elim (ℕ_discrete q.0 r) [
  | yes e ↦ inl (λ i. record { 0 = e i })
  | no d ↦ inr (both (and_left (of (listed todo) q) _ i) (ap not (le-ltb q.0 m (late d))))
]
  where
    from : r ≤ q.0
    from = elim (dec_lt q.0 r) [
      | yes l ↦ true-and-false (and_right (of (listed todo) q) _ i) (ap not (lt-ltb q.0 r l))
      | no l ↦ omega arith
    ]

    late : (q.0 ≡ r → ⊥) → m ≤ q.0
    late d = elim (dec_lt q.0 m) [
      | yes l ↦ true-and-false (sym (at-rule todo refl q) ∙ and_left (of (listed todo) q) _ i) (p.passed q.0 (omega (arith, from)) l)
      | no l ↦ omega arith
    ]

module _ (b : Book) (off cand on : Rules) (nt : Atoms) (rest : Rules) (on' : Rules) (nt' : Atoms) (k : Raised b off cand on nt rest on' nt') where
  -- one candidate has had its look
  pub raised-turn : (r : RuleNo) (rest' : Rules) → ((q : RuleNo) → q ∈ rest → (q ≡ r) ⊎ (q ∈ rest')) → InBook b r
      → {on'' : Rules} {nt'' : Atoms} → Looked b off r on' nt' on'' nt'' → Raised b off cand on nt rest' on'' nt''
  unfolding put newly_true
  raised-turn r rest' f h (passed n) = record {
    pending = λ nl p. pending-looked-past b (k.pending nl p) r n rest' f;
    forced = k.forced;
    above = k.above;
    outside = k.outside;
    new = k.new;
  }
  raised-turn r rest' f h (risen m) = record {
    pending = λ nl p. pending-looked-on b (k.pending nl p) r h rest' f;
    forced = λ s g. forced-on b (k.forced s g) r h m;
    above = λ q g i. or_left _ (k.above q g i);
    outside = λ q g. ap (λ (x : Bool). on' q || x) (refuted (λ e. far q g (among_one {r = r} {q = q} e))) ∙ or-false (on' q) ∙ k.outside q g;
    new = λ a i. ⊎_elim (k.new a) (λ e. inr (absent (heads-mono b k.above a) (not-true _ (and_right (same_atom (rule b r).head a) _ e)))) (either (nt' a) _ i);
  }
    where
      far : (q : RuleNo) → count b ≤ q.0 → q ≡ r → ⊥
      far q g e = omega (arith, g, h, ap (λ (x : RuleNo). x.0) e)

  -- no candidate of the book is left
  pub raised-end : (cand' : Rules) → ((r : RuleNo) → InBook b r → r ∉ rest) → Raised b off cand on nt cand' on' nt'
  raised-end cand' f = record {
    pending = λ nl p. pending-fewer b (k.pending nl p) cand' (λ q h m z. true-and-false m (f q h));
    forced = k.forced;
    above = k.above;
    outside = k.outside;
    new = k.new;
  }

pub onward-turn : (b : Book) (off cand on : Rules) (nt : Atoms) (todo : List ℕ) (r m : ℕ) {on' : Rules} {nt' : Atoms} {on'' : Rules} {nt'' : Atoms}
    → Raised b off cand on nt (onward todo r) on' nt' → NextIn (members todo) (r + 1) m → InBook b (rule_no r)
    → Looked b off (rule_no r) on' nt' on'' nt'' → Raised b off cand on nt (onward todo m) on'' nt''
onward-turn b off cand on nt todo r m k p h l = raised-turn b off cand on nt (onward todo r) _ _ k (rule_no r) (onward todo m) (behind todo r m p) h l

pub onward-end : (b : Book) (off cand on : Rules) (nt : Atoms) (todo : List ℕ) (r : ℕ) {on' : Rules} {nt' : Atoms}
    → Raised b off cand on nt (onward todo r) on' nt' → count b ≤ r → (cand' : Rules) → Raised b off cand on nt cand' on' nt'
onward-end b off cand on nt todo r k h cand' = raised-end b off cand on nt (onward todo r) _ _ k cand' (onward-last todo r (count b) h)
