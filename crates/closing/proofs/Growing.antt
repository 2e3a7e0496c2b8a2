-- Laws of sets that grow by turns (specs/Growing): how a pass starts, what a turn does to it, and what it says at its end. What a turn
-- adds is in every set to which the rules go, since the conditions only grow with the set (blueprint C1).
use mathlib.Core.Path.{◌≡◌, refl, sym, ◌∙◌, ap}
use mathlib.Core.Logic.{◌⊎◌, ⊎_elim, ⊎_map}
use mathlib.Core.Bool.{Bool, true, false, true≢false, or-false}
use mathlib.Core.List.{List, [], ◌∷◌}
use Prim.Native.Nat.{ℕ, ◌+◌, ◌-◌, ◌≤◌, ◌<◌}
use native.Mathlib.Nat.{eq-or-lt_of_le, le_of_suc-le-suc, le_antisymm}
use native.Mathlib.Numerals.{add-one}
use native.Mathlib.Omega.{arith}
use lib.ListN.{length, set, length-set}
use Rattle.meaning.specs.declared.RuleNo.{RuleNo}
use Rattle.meaning.specs.Sets.{◌∈◌}
use Rattle.meaning.specs.Books.{Rules, rule_no, among, Book, count, InBook}
use Rattle.meaning.specs.Colours.{Under, plus}
use Rattle.meaning.specs.Written.{of}
use Rattle.meaning.proofs.Tests.{either, or_left, or_right, true-and-false, refuted, proved}
use Rattle.meaning.proofs.Rules.{among_one, one-among, one-under}
use Rattle.meaning.proofs.Written.{of-set, size, size-le, grows}
use Rattle.closing.specs.Growing.{Condition, Turn, stays, added, Grown, Pass}

-- the rules that go become more with the set
abbrev pub Monotone : Book → Condition → Type 0
Monotone b k = (s t : Rules) → Under b s t → Under b (k s) (k t)

-- how many rules of the book are not in the list
pub room : Book → List Bool → ℕ
room b l = count b - size (count b) l

-- the rule that is added is in the set
set-in : (r : RuleNo) (m : List Bool) → r.0 < length m → r ∈ of (set m r.0 true)
set-in r m room = rw (of-set m r room) (or_right (of m r) (one-among r))

module _ {b : Book} {k : Condition} where
  pub grown-start : (l : List Bool) → Grown b k l l
  grown-start l = record { long = refl; outside = λ r h. refl; above = λ r m. m; forced = λ w g h. h }

  pub grown-none : (l m : List Bool) → m ≡ l → Grown b k l m
  grown-none l m e = rw e (grown-start l)

  pub grown-more : {l m n : List Bool} → Grown b k l m → Grown b k m n → Grown b k l n
  grown-more p q = record {
    long = q.long ∙ p.long;
    outside = λ r h. q.outside r h ∙ p.outside r h;
    above = λ r m. q.above r (p.above r m);
    forced = λ w g h. q.forced w g (p.forced w g h);
  }

  -- one rule is added
  grown-set : Monotone b k → (r : RuleNo) (m : List Bool) → InBook b r → r.0 < length m → r ∈ k (of m)
      → Grown b k m (set m r.0 true)
  grown-set mono r m h room g = record {
    long = length-set m r.0 true;
    outside = λ q out. rw (of-set m r room) (beyond q out);
    above = λ q e. rw (of-set m r room) (or_left _ e);
    forced = λ w goes under q in-book e. ⊎_elim (under q in-book)
        (one-under b w r (goes r h (mono (of m) w under r h g)) q in-book)
        (either (of m q) _ (rw (of-set m r room) at e));
  }
    where
      beyond : (q : RuleNo) → count b ≤ q.0 → plus (of m) (r ∷ []) q ≡ of m q
      beyond q out =
          let n : among (r ∷ []) q ≡ false = refuted (λ e. let z = among_one {r = r} e in omega (arith, ap (λ (p : RuleNo). p.0) z)) in
          rw n (or-false (of m q))

  pub pass-turn : Monotone b k → (n : ℕ) {l m o : List Bool} {more after : Bool} → n < count b → n < length m → Pass b k n l m more
      → Turn k (rule_no n) m more o after → Pass b k (n + 1) l o after
  pass-turn mono n {l} {m} h room p (stays f) = record {
    grown = p.grown;
    more-differs = p.more-differs;
    none-same = p.none-same;
    none-rests = λ e r g a. ⊎_elim
        (λ z. here r (λ i. record { 0 = z i }) (p.none-same e) a) (λ z. p.none-rests e r z a)
        (eq-or-lt_of_le (le_of_suc-le-suc (rw add-one at g)));
  }
    where
      here : (r : RuleNo) → r ≡ rule_no n → l ≡ m → r ∈ k (of l) → r ∈ of l
      here r q s a = proved (λ u.
          let v : of m (rule_no n) ≡ false = cc in let w = f v in true-and-false a (cc))
  pass-turn mono n {l} {m} h room p (added u g) = record {
    grown = grown-more p.grown (grown-set mono (rule_no n) m h room g);
    more-differs = λ e s. true-and-false (p.grown.above (rule_no n) (rw s (set-in (rule_no n) m room))) u;
    none-same = λ e. absurd (true≢false e);
    none-rests = λ e. absurd (true≢false e);
  }

  -- all rules have had their turns
  pub pass-end : (n : ℕ) {l m : List Bool} {more : Bool} → n ≤ count b → count b ≤ n → Pass b k n l m more → Pass b k (count b) l m more
  pass-end n h g p = rw (← le_antisymm h g) p

  -- ---- the measure: there is less room after a pass that added a rule

  grown-room : {l m : List Bool} → Grown b k l m → (l ≡ m) ⊎ (room b m < room b l)
  unfolding room
  grown-room {l} {m} g = ⊎_map (λ e. e) (λ h. omega (arith, size-le (count b) m))
      (grows (count b) l m (sym g.long) g.above (λ r h. sym (g.outside r h)))

  pub pass-less : {n : ℕ} {l m : List Bool} → Pass b k n l m true → room b m < room b l
  pass-less p = ⊎_elim (λ e. absurd (p.more-differs refl e)) (λ h. h) (grown-room p.grown)
