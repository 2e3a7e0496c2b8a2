-- Suspects that stand on supported rules, found by what is new (specs/Clearing, src/cleared.rt). A suspect that was passed over did not
-- stand on what was held then; if it does now, one of its positive atoms has become the head of a rule that is held, and has woken it.
use mathlib.Core.Path.{◌≡◌, refl, sym, ap, ap₂, ◌∙◌, fun_ext, subst}
use mathlib.Core.Logic.{◌⊎◌, ⊎_elim}
use mathlib.Core.Bool.{Bool, true, false, not, ◌&&◌, ◌||◌}
use mathlib.Core.List.{List, [], ◌∷◌}
use Prim.Native.Nat.{ℕ, ◌+◌, ◌<◌}
use native.Mathlib.Omega.{arith}
use lib.Dec.{ltb}
use lib.ListN.{length, set}
use borrow.Author.Tests.{not-true, lt-ltb}
use Rattle.meaning.specs.declared.AtomNo.{AtomNo}
use Rattle.meaning.specs.declared.RuleNo.{RuleNo}
use Rattle.meaning.specs.Sets.{Set, ◌∈◌, ◌∉◌, every, some}
use Rattle.meaning.specs.Books.{Rules, Rule, Book, rule_no, same_atom, rule, count, InBook}
use Rattle.meaning.specs.Colours.{heads, Under}
use Rattle.meaning.specs.Colours.{plus as with-rules}
use Rattle.meaning.specs.Bits.{plus, less as less-in, both as both-in, members, listed, NextIn}
use Rattle.meaning.specs.Written.{of}
use Rattle.meaning.specs.Lowest.{rules_in}
use Rattle.meaning.specs.Pending.{joined}
use Rattle.meaning.specs.Suspects.{live, AtRest, stands, Cleared}
use Rattle.meaning.proofs.Tests.{both, and_left, and_right, either, or_left, or_right, decided, true-and-false, absent, not-second}
use Rattle.meaning.proofs.Sets.{every-at, every-mono, some_one, some-by, some-of-not-every}
use Rattle.meaning.proofs.Least.{reached-smallest}
use Rattle.meaning.proofs.Rules.{atom-same, among_one, one-among, one-under, heads-of, heads-by, heads-mono, in-book-or-not}
use Rattle.meaning.proofs.RulesIn.{rules-fewer}
use Rattle.meaning.proofs.Written.{of-set}
use Rattle.meaning.proofs.Listed.{listed-long}
use Rattle.book.specs.RuleRows.{sets, headed_by, RuleRows}
use Rattle.closing.specs.Clearing.{no_rules, woke, Tried, waits, holds, Swept}
use Rattle.closing.proofs.Falling.{at-rule}
use Rattle.closing.proofs.Spreading.{outside}
use Rattle.closing.proofs.Raising.{onward, less-listed, onward-first, behind}

-- ---- one look

-- the rules of the row, in the book
standing-at : (b : Book) (t : List ℕ) → RuleRows b t → (a : AtomNo) → a.0 < 256 → (q : RuleNo)
    → sets t (256 + a.0) q.0 ≡ some (same_atom a) (rule b q).pos
unfolding some
standing-at b t k a low q = ap (λ (s : Set ℕ). s q.0) (k.pos a.0 low) ∙ ⊎_elim
    (λ h. ap (λ (x : Bool). x && some (same_atom a) (rule b q).pos) (lt-ltb q.0 (count b) h))
    (λ h. let z = ap (λ (p : Rule). some (same_atom a) p.pos) (outside b q h) in not-second (ltb q.0 (count b)) z ∙ sym z)
    (in-book-or-not b q)

pub tried-holds : (b : Book) (t : List ℕ) → RuleRows b t → (r : RuleNo) → r.0 < 256 → (v v' woken woken' : List ℕ) (a : AtomNo) → a.0 < 256
    → a ≡ (rule b r).head → headed_by t v a ≡ heads b (of (listed v)) a → every (heads b (of (listed v))) (rule b r).pos ≡ true
    → members woken' ≡ plus (members woken) (λ q. not (headed_by t v a) && sets t (256 + a.0) q) → listed v' ≡ set (listed v) r.0 true
    → Tried b r (of (listed v)) (of (listed woken)) (of (listed v')) (of (listed woken'))
unfolding woke
tried-holds b t k r low v v' woken woken' a small h g e f p =
    subst (λ (z : Rules). Tried b r (of (listed v)) (of (listed woken)) z (of (listed woken'))) (sym went)
    (subst (λ (z : Rules). Tried b r (of (listed v)) (of (listed woken)) (with-rules (of (listed v)) (r ∷ [])) z) (sym called-now) (holds e))
  where
    went : of (listed v') ≡ with-rules (of (listed v)) (r ∷ [])
    went = ap of p ∙ of-set (listed v) r (omega (arith, listed-long v))

    called-now : of (listed woken') ≡ (λ q. of (listed woken) q || (not (heads b (of (listed v)) (rule b r).head) && some (same_atom (rule b r).head) (rule b q).pos))
    called-now = fun_ext (λ q. at-rule woken' f q ∙ ap₂ ◌||◌ (sym (at-rule woken refl q))
        (ap₂ (λ (y z : Bool). not y && z) g (standing-at b t k a small q)
        ∙ ap (λ (c : AtomNo). not (heads b (of (listed v)) c) && some (same_atom c) (rule b q).pos) h))

-- ---- one after the other

pub swept-start : (b : Book) (s v : Rules) (cand : List ℕ) (r : ℕ) → NextIn (members cand) 0 r → (woken : Rules) → ((q : RuleNo) → q ∉ woken)
    → Swept b s v (of (listed cand)) v (onward cand r) woken
swept-start b s v cand r p woken n = record {
  above = λ q h m. m;
  forced = λ a t g u. u;
  covered = λ g q h m. ⊎_elim (λ i. or_left _ i) (λ i. or_right (v q) (or_left _ (onward-first cand r p q i))) (either (v q) _ (g q h m));
  new = λ q m. true-and-false m (n q);
}

module _ {b : Book} {s v cand v' rest woken : Rules} (k : Swept b s v cand v' rest woken) where
  swept-turn : (r : RuleNo) (rest' : Rules) → ((q : RuleNo) → q ∈ rest → (q ≡ r) ⊎ (q ∈ rest')) → InBook b r → r ∈ cand
      → {v'' woken' : Rules} → Tried b r v' woken v'' woken' → Swept b s v cand v'' rest' woken'
  unfolding stands woke
  swept-turn r rest' f h c (waits n) = record {
    above = k.above;
    forced = k.forced;
    covered = λ g q i m. ⊎_elim (λ o. or_left _ o) (λ o. or_right (v' q) (⊎_elim
        (λ j. ⊎_elim (λ z. true-and-false (subst (λ (p : RuleNo). every (heads b v') (rule b p).pos ≡ true) z (and_right (s q) _ m)) n) (λ z. or_left _ z) (f q j))
        (λ j. or_right (rest' q) j) (either (rest q) _ o)))
        (either (v' q) _ (k.covered g q i m));
    new = k.new;
  }
  swept-turn r rest' f h c (holds e) = record {
    above = λ q i m. or_left _ (k.above q i m);
    forced = λ among t g u. let inner = k.forced among t g u in
        λ q i m. ⊎_elim (inner q i) (one-under b t r (g r h (both (among r h c) (every-mono (heads-mono b inner) _ e))) q i) (either (v' q) _ m);
    covered = λ g q i m. ⊎_elim
        (λ o. ⊎_elim (λ j. or_left _ (or_left _ j)) (λ j. ⊎_elim
        (λ l. ⊎_elim (λ z. or_left _ (or_right (v' q) (rw z (one-among r)))) (λ z. or_right (held q) (or_left _ z)) (f q l))
        (λ l. or_right (held q) (or_right (rest' q) (or_left _ l))) (either (rest q) _ j))
        (either (v' q) _ (k.covered g q i (both (and_left (s q) _ m) o))))
        (λ o. or_right (held q) (or_right (rest' q) (or_right (woken q) (awake q (and_right (s q) _ m) o))))
        (decided (every (heads b v') (rule b q).pos));
    new = λ q m. ⊎_elim (λ o. let (p, i, j, n) = k.new q o in (p, i, or_left _ j, n))
        (λ o. let n = not-true _ (and_left (not (heads b v' (rule b r).head)) _ o) in
        (r, h, or_right (v' r) (one-among r), absent (λ i. heads-of b v' r h (k.above r h i)) n)) (either (woken q) _ m);
  }
    where
      held : Rules
      held = with-rules v' (r ∷ [])

      -- an atom that is the head of a rule that is held now, and was not before, is the head of r
      newly : (a : AtomNo) → a ∈ heads b held → a ∉ heads b v' → (rule b r).head ≡ a
      newly a m n = let (z, i, j, o) = heads-by b held a m in ⊎_elim
          (λ l. true-and-false (rw o at (heads-of b v' z i l)) n)
          (λ l. ap (λ (p : RuleNo). (rule b p).head) (sym (among_one {r = r} l)) ∙ o) (either (v' z) _ j)

      awake : (q : RuleNo) → every (heads b held) (rule b q).pos ≡ true → every (heads b v') (rule b q).pos ≡ false
          → (not (heads b v' (rule b r).head) && some (same_atom (rule b r).head) (rule b q).pos) ≡ true
      awake q m n = let (a, i, o) = some-by (λ a. not (heads b v' a)) _ (some-of-not-every {s = heads b v'} (λ a l. ap not l) _ n) in
          let z = newly a (every-at (heads b held) _ m a i) (not-true _ o) in
          both (ap (λ (c : AtomNo). not (heads b v' c)) z ∙ o) (some_one (same_atom (rule b r).head) _ a i (atom-same z))

  pub swept-end : (cand' : Rules) → ((q : RuleNo) → InBook b q → q ∉ rest) → ((q : RuleNo) → cand' q ≡ ((woken q && s q) && not (v' q)))
      → Swept b s v cand v' no_rules cand' × Under b cand' s
  unfolding stands
  swept-end cand' f e = (
    record {
      above = k.above;
      forced = k.forced;
      covered = λ g q i m. ⊎_elim (λ o. or_left _ o)
          (λ o. ⊎_elim (λ j. or_left _ j)
          (λ j. or_right (v' q) (e q ∙ both (both (⊎_elim (λ l. true-and-false l (f q i)) (λ l. l) (either (rest q) _ o)) (and_left (s q) _ m)) (ap not j)))
          (decided (v' q))) (either (v' q) _ (k.covered g q i m));
      new = λ q m. k.new q (and_left (woken q) _ (and_left (woken q && s q) _ (sym (e q) ∙ m)));
    },
    λ q i m. and_right (woken q) _ (and_left (woken q && s q) _ (sym (e q) ∙ m)),
  )

pub swept-next : (b : Book) (s v : Rules) (cand : List ℕ) (from r m : ℕ) {v' woken v'' woken' : Rules}
    → Swept b s v (of (listed cand)) v' (onward cand r) woken → NextIn (members cand) from r → r < 256 → NextIn (members cand) (r + 1) m
    → InBook b (rule_no r) → Tried b (rule_no r) v' woken v'' woken' → Swept b s v (of (listed cand)) v'' (onward cand m) woken'
swept-next b s v cand from r m k n low p h t =
    swept-turn k (rule_no r) (onward cand m) (behind cand r m p) h (at-rule cand refl (rule_no r) ∙ (n.within low).1) t

-- the candidates that are left: those that were woken, are suspects and are not held
pub left_at : (left d v x y woken s held : List ℕ) → members left ≡ less-in (members d) (members v) → v ≡ held
    → members d ≡ both-in (members x) (members y) → x ≡ woken → y ≡ s
    → (q : RuleNo) → of (listed left) q ≡ ((of (listed woken) q && of (listed s) q) && not (of (listed held) q))
left_at left d v x y woken s held e g h i j q = less-listed left d v d held e refl g q ∙ ap (λ (m : Bool). m && not (of (listed held) q))
    (at-rule d h q ∙ ap₂ ◌&&◌ (at x woken i) (at y s j))
  where
    at : (l m : List ℕ) → l ≡ m → members l q.0 ≡ of (listed m) q
    at l m z = ap (λ (n : List ℕ). members n q.0) z ∙ sym (at-rule m refl q)

-- ---- pass after pass

pub record Clearing (b : Book) (s first v cand : Rules) : Type 0 where
  pub above : Under b first v
  pub forced : (t : Rules) → AtRest b (stands b s) t → Under b first t → Under b v t
  pub among : Under b cand s
  -- a suspect that stands on what is held is held, or it will be looked at
  pub covered : Under b (stands b s v) (joined v cand)

pub clearing-start : (b : Book) (s first cand : Rules) → cand ≡ s → Clearing b s first first cand
unfolding stands
clearing-start b s first cand e = record {
  above = λ q h m. m;
  forced = λ t g u. u;
  among = λ q h m. ap (λ (z : Rules). z q) (sym e) ∙ m;
  covered = λ q h m. or_right (first q) (ap (λ (z : Rules). z q) e ∙ and_left (s q) _ m);
}

module _ {b : Book} {s first v cand : Rules} (c : Clearing b s first v cand) where
  pub clearing-more : {v' cand' : Rules} → Swept b s v cand v' no_rules cand' → Under b cand' s → Clearing b s first v' cand'
  clearing-more k a = record {
    above = λ q h m. k.above q h (c.above q h m);
    forced = λ t g u. k.forced c.among t g (c.forced t g u);
    among = a;
    covered = k.covered c.covered;
  }

  pub clearing-end : ((q : RuleNo) → q ∉ cand) → Cleared b s first v
  clearing-end n = reached-smallest (λ t (u, g). c.forced t g u)
      (c.above, λ q h m. ⊎_elim (λ i. i) (λ i. true-and-false i (n q)) (either (v q) _ (c.covered q h m)))

-- a pass that leaves a candidate has added a rule
pub swept-less : {b : Book} {s v cand v' cand' : Rules} → Swept b s v cand v' no_rules cand' → (q : RuleNo) → q ∈ cand'
    → length (rules_in b (live v')) < length (rules_in b (live v))
swept-less {b} {s} {v} {cand} {v'} k q m =
    let (r, h, i, n) = k.new q m in
    rules-fewer b (live v) (live v') (λ p g l. ap not (absent (k.above p g) (not-true _ l))) r h (ap not n) (ap not i)
