-- Support found anew by suspects (document 02, request 14). The idea: what supported the rules before still does, but for rules that stand
-- on a head that was lost; so V(old) is within the rules that went off, the suspects and V(off), a set made for the purpose that is upheld.
-- What grows from the rules that are not suspected is V(off).
use mathlib.Core.Path.{◌≡◌, refl, sym, ◌∙◌, ap}
use mathlib.Core.Logic.{⊎_elim}
use mathlib.Core.Bool.{true, not, ◌&&◌}
use mathlib.Core.List.{List, [], ◌∷◌}
use native.Mathlib.Omega.{arith}
use lib.Dec.{eqb}
use lib.ListN.{length}
use borrow.Author.Tests.{not-true, eqb-true}
use Rattle.meaning.specs.declared.AtomNo.{AtomNo}
use Rattle.meaning.specs.declared.RuleNo.{RuleNo}
use Rattle.meaning.specs.Sets.{Set, ◌∈◌, ◌∉◌, ◌⊆◌, every, some}
use Rattle.meaning.specs.Books.{Rules, Book, count, rule, InBook}
use Rattle.meaning.specs.Colours.{Pair, heads, Under, Upheld, Support, Closed}
use Rattle.meaning.specs.Engine.{less}
use Rattle.meaning.specs.Pending.{joined}
use Rattle.meaning.specs.Suspects.{live, Alike, Settled, free, sure, doubted, standing, suspect, AtRest, Suspects, stands, Cleared}
use Rattle.meaning.proofs.Tests.{both, and_left, and_right, either, or_left, or_right, neither, decided, true-and-false, absent, proved, same}
use Rattle.meaning.proofs.Sets.{every-at, every-all, every-mono, some_one, some_mono}
use Rattle.meaning.proofs.Rules.{heads-of, heads-by, heads-mono}
use Rattle.meaning.proofs.Support.{support-found, supported}
use Rattle.meaning.proofs.ClosedMarks.{closed-marks}

-- ---- the rules of a set that are not in another

pub less-of : (s t : Rules) (r : RuleNo) → r ∈ s → r ∉ t → r ∈ less s t
less-of s t r m n = both m (ap not n)

pub less_by : (s t : Rules) (r : RuleNo) → r ∈ less s t → (r ∈ s) × (r ∉ t)
less_by s t r m = (and_left (s r) _ m, not-true _ (and_right (s r) _ m))

module _ (b : Book) where
  -- ---- sets that are alike

  alike-under : {s t : Rules} → Alike b s t → Under b s t
  alike-under e r h m = sym (e r h) ∙ m

  alike-over : {s t : Rules} → Alike b s t → Under b t s
  alike-over e r h m = e r h ∙ m

  support-alike : {off many v w : Rules} → Alike b off many → Alike b v w → Support b off v → Support b many w
  support-alike e f s = record {
    good = λ r h n p. alike-under f r h (s.good r h (e r h ∙ n) (every-mono (heads-mono b (alike-over f)) _ p));
    least = λ t u r h m. s.least t (λ q k n p. u q k (sym (e q k) ∙ n) p) r h (alike-over f r h m);
  }

  -- ---- what old may be

  pub settled-alike : {old off : Rules} → Alike b old off → Settled b old → Settled b off
  settled-alike e = support-alike e (λ r h. ap not (e r h))

  -- in a closed pair the off rules are settled
  pub closed-settled : {d : Pair} → Closed b d → Settled b d.off
  closed-settled {d} k = let s = support-found b d.off (count b) (omega arith) in
      support-alike (λ r h. refl) (closed-marks b k s) s

  -- V stays what it is if rules outside it go off
  support-without : {off many v : Rules} → Under b off many → ((r : RuleNo) → InBook b r → r ∈ v → r ∉ many) → Support b off v
      → Support b many v
  support-without {off} {many} {v} f out w = record {
    good = λ r h n p. w.good r h (absent (f r h) n) p;
    least = λ t u r h m. and_right (v r) _ (w.least (λ q. v q && t q) (inner t u) r h m);
  }
    where
      inner : (t : Rules) → Upheld b many t → Upheld b off (λ q. v q && t q)
      inner t u q k n p =
          let m = w.good q k n (every-mono (heads-mono b (λ i g z. and_left (v i) _ z)) _ p) in
          both m (u q k (out q k m) (every-mono (heads-mono b (λ i g z. and_right (v i) _ z)) _ p))

  -- so it is all that is left when all rules outside it are off too, whatever was off before
  pub settled-after : {off many v : Rules} → Support b off v → Alike b (joined off (live v)) many → Settled b many
  settled-after {off} {many} {v} w e =
      support-alike (λ r h. refl) rest (support-without (λ r h m. alike-under e r h (or_left _ m)) out w)
    where
      out : (r : RuleNo) → InBook b r → r ∈ v → r ∉ many
      out r h m = sym (e r h) ∙ neither (supported b w r h m).0 (ap not m)

      rest : Alike b v (live many)
      rest r h = same _ _ (λ m. ap not (out r h m))
          (λ n. proved (λ z. true-and-false (alike-under e r h (or_right (off r) (ap not z))) (not-true _ n)))

  -- ---- suspects

  -- a rule without positive atoms asks for nothing
  free-every : (l : List AtomNo) (s : Set AtomNo) → eqb (length l) 0 ≡ true → every s l ≡ true
  unfolding every
  free-every [] s e = refl
  free-every (a ∷ l) s e = let p = eqb-true (length (a ∷ l)) 0 e in absurd (omega arith)

  -- a sure atom is the head of a supported rule
  sure-supported : {off v : Rules} → Upheld b off v → sure b off ⊆ heads b v
  unfolding sure free
  sure-supported {off} {v} u = heads-mono b (λ r h m.
      u r h (not-true _ (and_left (not (off r)) _ m)) (free-every (rule b r).pos _ (and_right (not (off r)) _ m)))

  module _ (off : Rules) where
    pub doubted-mono : {s t : Rules} → Under b s t → doubted b off s ⊆ doubted b off t
    unfolding doubted
    doubted-mono {s} {t} f a e = both (heads-mono b f a (and_left (heads b s a) _ e)) (and_right (heads b s a) _ e)

    module _ (old : Rules) where
      -- what is new beside the rules that went off
      beside : {s t : Rules} → Under b s t → Under b (joined (less off old) s) (joined (less off old) t)
      beside f r h m = ⊎_elim (λ p. or_left _ p) (λ p. or_right (less off old r) (f r h p)) (either (less off old r) _ m)

      pub suspect-of : (s : Rules) (r : RuleNo) → r ∉ off → some (doubted b off (joined (less off old) s)) (rule b r).pos ≡ true
          → r ∈ suspect b old off s
      unfolding suspect standing
      suspect-of s r n e = both (ap not n) e

      pub suspect-by : (s : Rules) (r : RuleNo) → r ∈ suspect b old off s
          → (r ∉ off) × (some (doubted b off (joined (less off old) s)) (rule b r).pos ≡ true)
      unfolding suspect standing
      suspect-by s r m = (not-true _ (and_left (not (off r)) _ m), and_right (not (off r)) _ m)

      -- so a rule that is suspected while only some suspects are known is one of them
      pub suspect-mono : {s t : Rules} → Under b s t → Under b (suspect b old off s) (suspect b old off t)
      suspect-mono {s} {t} f r h m = let (n, e) = suspect-by s r m in suspect-of t r n (some_mono (doubted-mono (beside f)) _ e)

      suspects-live : {s : Rules} → Suspects b old off s → (r : RuleNo) → InBook b r → r ∈ s → r ∉ off
      suspects-live {s} w r h m = (less_by s off r (w.least (less s off) inner r h m)).1
        where
          inner : AtRest b (suspect b old off) (less s off)
          inner q k e = less-of s off q (w.good q k (suspect-mono (λ i g z. and_left (s i) _ z) q k e))
              (suspect-by (less s off) q e).0

  module _ {old off s : Rules} (settled : Settled b old) (under : Under b old off) (suspects : Suspects b old off s) where
    module _ {v : Rules} (support : Support b off v) where
      -- the rules that went off, the suspects and the supported rules
      abbrev known : Rules
      known = joined (joined (less off old) s) v

      -- a head of these that is not doubted is a head of a supported rule
      undoubted : (a : AtomNo) → a ∈ heads b known → a ∉ doubted b off (joined (less off old) s) → a ∈ heads b v
      unfolding doubted
      undoubted a e n = ⊎_elim (sure-supported support.good a) from (decided (sure b off a))
        where
          from : a ∉ sure b off → a ∈ heads b v
          from k = let (q, h, m, z) = heads-by b known a e in ⊎_elim
              (λ p. true-and-false (both (rw z at (heads-of b (joined (less off old) s) q h p)) (ap not k)) n)
              (λ p. rw z at (heads-of b v q h p))
              (either (joined (less off old) s q) _ m)

      known-upheld : Upheld b old known
      known-upheld r h n p = ⊎_elim
          (λ m. or_left _ (or_left _ (both m (ap not n))))
          (λ m. ⊎_elim (λ k. or_left _ (or_right (less off old r) k)) (λ k. or_right (joined (less off old) s r) (stays m k)) (decided (s r)))
          (decided (off r))
        where
          stays : r ∉ off → r ∉ s → r ∈ v
          stays m k = support.good r h m (every-all (heads b v) _ (λ a i. undoubted a (every-at (heads b known) _ p a i)
              (absent (some_one (doubted b off (joined (less off old) s)) _ a i) (absent (λ e. suspects.good r h (suspect-of off old s r m e)) k))))

      -- a live rule that is not suspected is supported
      unsuspected-supported : Under b (less (live off) s) v
      unsuspected-supported r h m = let (l, k) = less_by (live off) s r m in let n = not-true _ l in ⊎_elim
          (λ p. ⊎_elim (λ z. true-and-false (and_left (off r) _ z) n) (λ z. true-and-false z k) (either (less off old r) _ p)) (λ p. p)
          (either (joined (less off old) s r) _ (settled.least known known-upheld r h (ap not (absent (under r h) n))))

    -- ---- what grows from the other rules

    module _ {first w : Rules} (others : Alike b first (less (live off) s)) (cleared : Cleared b s first w) where
      -- nothing grows out of the supported rules, and where nothing more grows the set is upheld
      pub cleared-is : Support b off w
      unfolding stands
      cleared-is = let v = support-found b off (count b) (omega arith) in
          support-alike (λ r h. refl) (λ r h. same _ _ (v.least w upheld r h) (cleared.least _ (within v) r h)) v
        where
          within : {v : Rules} → Support b off v → Under b first v × AtRest b (stands b s) v
          within v = (
            λ r h m. unsuspected-supported v r h (alike-under others r h m),
            λ r h m. v.good r h (suspects-live off old suspects r h (and_left (s r) _ m)) (and_right (s r) _ m),
          )

          upheld : Upheld b off w
          upheld r h n p = ⊎_elim (λ m. cleared.good.1 r h (both m p))
              (λ m. cleared.good.0 r h (alike-over others r h (less-of (live off) s r (ap not n) m))) (decided (s r))

      -- so the rest of the suspects are the rules that are neither supported nor off
      pub rest-unsupported : Alike b (less s w) (less (live w) off)
      rest-unsupported r h = same _ _ to from
        where
          to : r ∈ less s w → r ∈ less (live w) off
          to m = let (p, n) = less_by s w r m in less-of (live w) off r (ap not n) (suspects-live off old suspects r h p)

          from : r ∈ less (live w) off → r ∈ less s w
          from m = let (p, n) = less_by (live w) off r m in let k = not-true _ p in
              less-of s w r (proved (λ z. true-and-false (cleared.good.0 r h (alike-over others r h (less-of (live off) s r (ap not n) z))) k)) k
