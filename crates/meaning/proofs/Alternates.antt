-- Two sets of atoms that alternate (specs/WellFounded): the pair of rule sets that stands for them is closed, and they are read from it
-- again. F1 to F3 of request 8; each tries minimality on one set, as in Answers, of which these are the form for two sets.
use mathlib.Core.Path.{◌≡◌, refl, ap, subst, fun_ext}
use mathlib.Core.Logic.{⊎_elim}
use mathlib.Core.Bool.{true, false, not, ◌&&◌}
use native.Mathlib.Omega.{arith}
use borrow.Author.Tests.{not-true, not-false}
use Rattle.meaning.specs.declared.AtomNo.{AtomNo}
use Rattle.meaning.specs.declared.RuleNo.{RuleNo}
use Rattle.meaning.specs.Sets.{◌∈◌, ◌∉◌, ◌⊆◌, every, some}
use Rattle.meaning.specs.Books.{Atoms, Rules, Book, count, rule, InBook}
use Rattle.meaning.specs.WellFounded.{LeastOf, Alternates}
use Rattle.meaning.specs.Colours.{Pair, heads, all_in, may_on, blocked, starved, Under, Upheld, Closed, Consistent}
use Rattle.meaning.proofs.Tests.{both, and_left, and_right, true-and-false, absent, refuted, proved, decided, same, not_first, not-second}
use Rattle.meaning.proofs.Sets.{every-mono, some_mono, none-of-every, not-every-of-some}
use Rattle.meaning.proofs.Least.{smallest-mono}
use Rattle.meaning.proofs.Rules.{heads-of, heads-by, heads-mono, all_in-at, all_in-all}
use Rattle.meaning.proofs.Reduct.{ClosedBy, closed→by, by→closed}
use Rattle.meaning.proofs.Support.{support-found}
use Rattle.meaning.proofs.LeastModel.{barred, supported-smallest}

-- the rules whose positive atoms are all in t and whose negative atoms are all outside p; generating b x is applied b x x
unfoldable pub applied : Book → Atoms → Atoms → Rules
applied b t p r = every t (rule b r).pos && not (some p (rule b r).neg)

-- the atoms with a rule that is not off
abbrev pub open_heads : Book → Rules → Atoms
open_heads b off a = not (all_in b off a)

-- the pair that stands for two sets of atoms; colouring_of b x is standing b x x
abbrev pub standing : Book → Atoms → Atoms → Pair
standing b t p = record { on = applied b t p; off = λ r. not (applied b p t r) }

module _ (b : Book) where
  -- ---- the smallest set closed under a reduct: there is one for each set, and it shrinks as that set grows (F1)

  pub least-of : (x : Atoms) → (y : Atoms) × LeastOf b x y
  least-of x = (_, supported-smallest b x _ (support-found b (barred b x) (count b) (omega arith)))

  pub least-is : (x : Atoms) {y z : Atoms} → LeastOf b x y → y ⊆ z → z ⊆ y → LeastOf b x z
  least-is x p f g = subst (LeastOf b x) (fun_ext (λ a. same _ _ (f a) (g a))) p

  pub least-antitone : {x z y w : Atoms} → x ⊆ z → LeastOf b x y → LeastOf b z w → w ⊆ y
  least-antitone {x} {z} f p q =
      smallest-mono (λ u k. by→closed b z u (λ r h n e. closed→by b x u k r h (absent (some_mono f _) n) e)) q p

  -- ---- applied rules

  -- where y is the smallest set closed under the reduct by x: no applied rule is off
  abbrev pub Spares : Atoms → Atoms → Rules → Type 0
  Spares x y off = (r : RuleNo) → InBook b r → r ∈ applied b y x → r ∉ off

  module _ (t p : Atoms) (r : RuleNo) where
    pub applied-of : every t (rule b r).pos ≡ true → some p (rule b r).neg ≡ false → r ∈ applied b t p
    unfolding applied
    applied-of e n = both e (ap not n)

    pub applied_by : r ∈ applied b t p → (every t (rule b r).pos ≡ true) × (some p (rule b r).neg ≡ false)
    unfolding applied
    applied_by m = (and_left (every t (rule b r).pos) _ m, not-true _ (and_right (every t (rule b r).pos) _ m))

    pub applied-no-pos : every t (rule b r).pos ≡ false → r ∉ applied b t p
    unfolding applied
    applied-no-pos e = not_first _ e

    pub applied-no-neg : some p (rule b r).neg ≡ true → r ∉ applied b t p
    unfolding applied
    applied-no-neg n = not-second (every t (rule b r).pos) (ap not n)

  applied-mono : {t p u q : Atoms} → t ⊆ u → q ⊆ p → applied b t p ⊆ applied b u q
  applied-mono {t} {p} {u} {q} f g r m =
      let (e, n) = applied_by t p r m in applied-of u q r (every-mono f _ e) (absent (some_mono g _) n)

  -- ---- a smallest set is the heads of the rules that are applied (F2)

  module _ (x y : Atoms) (l : LeastOf b x y) where
    pub applied-in : heads b (applied b y x) ⊆ y
    applied-in a e =
        let (r, h, m, q) = heads-by b (applied b y x) a e in let (i, n) = applied_by y x r m in
        rw q at (closed→by b x y l.good r h n i)

    -- the applied rules of an upheld set v: their heads are all of y, so each applied rule is in v
    module _ (off v : Rules) (u : Upheld b off v) (f : Spares x y off) where
      abbrev upholding : Rules
      upholding r = v r && applied b y x r

      upholding-closed : ClosedBy b x (heads b upholding)
      upholding-closed r h n e = heads-of b upholding r h (both (u r h (f r h g) (every-mono in-v _ e)) g)
        where
          in-v : heads b upholding ⊆ heads b v
          in-v = heads-mono b (λ q k m. and_left (v q) _ m)

          in-y : heads b upholding ⊆ y
          in-y a m = applied-in a (heads-mono b (λ q k z. and_right (v q) _ z) a m)

          g : r ∈ applied b y x
          g = applied-of y x r (every-mono in-y _ e) n

      in-upholding : y ⊆ heads b upholding
      in-upholding = l.least _ (by→closed b x _ upholding-closed)

      pub applied-upheld : Under b (applied b y x) v
      applied-upheld r h g =
          u r h (f r h g) (every-mono (λ a m. heads-mono b (λ q k z. and_left (v q) _ z) a (in-upholding a m)) _ (applied_by y x r g).0)

    pub in-applied : y ⊆ heads b (applied b y x)
    in-applied a m = heads-mono b (λ r h z. and_right true _ z) a
        (in-upholding (λ r. false) (λ r. true) (λ r h n e. refl) (λ r h g. refl) a m)

    pub least-heads : (a : AtomNo) → heads b (applied b y x) a ≡ y a
    least-heads a = same _ _ (applied-in a) (in-applied a)

    -- an atom all of whose rules are off is outside
    pub lost-out : (off : Rules) → Spares x y off → (a : AtomNo) → a ∈ all_in b off → a ∉ y
    lost-out off f a e = refuted (λ m.
        let (r, h, g, q) = heads-by b (applied b y x) a (in-applied a m) in true-and-false (all_in-at b off a e r h q) (f r h g))

  -- ---- atoms with a rule that is not off

  module _ (off : Rules) where
    pub open_of : (r : RuleNo) → InBook b r → r ∉ off → (rule b r).head ∈ open_heads b off
    open_of r h n = ap not (refuted (λ e. true-and-false (all_in-at b off _ e r h refl) n))

    pub open_by : (a : AtomNo) → a ∈ open_heads b off → (r : RuleNo) × InBook b r × (r ∉ off) × ((rule b r).head ≡ a)
    open_by a m = ⊎_elim
        (λ e. let (r, h, n, q) = heads-by b (λ r. not (off r)) a e in (r, h, not-true _ n, q))
        (λ e. true-and-false (all_in-all b off a (λ r h q. proved (λ n. true-and-false (rw q at (heads-of b (λ r. not (off r)) r h (ap not n))) e)))
        (not-true _ m))
        (decided (heads b (λ r. not (off r)) a))

  -- ---- two sets that alternate: the pair that stands for them is closed, and they are read from it again (F3)

  module _ (t p : Atoms) (alternates : Alternates b t p) where
    abbrev lost : Rules
    lost = (standing b t p).off

    kept : Spares t p lost
    kept r h m = ap not m

    pub standing-heads : (a : AtomNo) → heads b (standing b t p).on a ≡ t a
    standing-heads = least-heads p t alternates.derived

    pub standing-open : (a : AtomNo) → open_heads b (standing b t p).off a ≡ p a
    standing-open a = same _ _
        (λ m. let (r, h, n, q) = open_by lost a m in rw q at (applied-in t p alternates.possible _ (heads-of b _ r h (not-false _ n))))
        (λ m. ap not (refuted (λ e. true-and-false m (lost-out t p alternates.possible lost kept a e))))

    pub standing-closed : Closed b (standing b t p)
    unfolding may_on blocked starved
    standing-closed = record {
      goes_on = λ r h m. applied-of t p r
          (every-mono heads-in _ (and_left (every (heads b _) _) _ m)) (none-of-every outside-p _ (and_right (every (heads b _) _) _ m));
      goes-off-blocked = λ r h m. ap not (applied-no-neg p t r (some_mono heads-in _ m));
      goes-off-starved = λ r h m. ap not (applied-no-pos p t r (not-every-of-some outside-p _ m));
      goes-off-unsupported = λ v s r h n. ap not (absent (applied-upheld t p alternates.possible lost v s.good kept r h) n);
    }
      where
        heads-in : heads b (standing b t p).on ⊆ t
        heads-in = applied-in p t alternates.derived

        outside-p : (a : AtomNo) → a ∈ all_in b lost → a ∉ p
        outside-p = lost-out t p alternates.possible lost kept

  pub standing-consistent : (t p : Atoms) → t ⊆ p → Consistent b (standing b t p)
  standing-consistent t p f r h m n = true-and-false (applied-mono f f r m) (not-true _ n)
