-- Propagation by what is new (specs/Pending): where none of the three sets is left the pair is propagated. Laws over sets: the start, the
-- two steps and the end. The idea of each step: an atom that became true or lost by it is among the new ones.
--
-- Step 1 is pending-drop with forced-drop; step 2, for each candidate, is pending-looked-on with forced-on, or pending-looked-past.
use mathlib.Core.Path.{◌≡◌, refl, ap}
use mathlib.Core.Logic.{◌⊎◌, inr, ⊎_elim, ⊎_map}
use mathlib.Core.Bool.{true, false, not, ◌&&◌, ◌||◌}
use mathlib.Core.List.{[], ◌∷◌, Memᴰ}
use borrow.Author.Tests.{not-true}
use Rattle.meaning.specs.declared.AtomNo.{AtomNo}
use Rattle.meaning.specs.declared.RuleNo.{RuleNo}
use Rattle.meaning.specs.Sets.{◌∈◌, ◌∉◌, ◌⊆◌, every, some}
use Rattle.meaning.specs.Books.{Atoms, Rules, same_atom, Book, rule, InBook}
use Rattle.meaning.specs.Colours.{Pair, on_side, put, plus, heads, all_in, may_on, blocked, starved, Under}
use Rattle.meaning.specs.Engine.{less}
use Rattle.meaning.specs.Propagation.{Propagated, Propagation}
use Rattle.meaning.specs.Pending.{Forced, Waits, is-on, is-candidate, by-true, by-lost, Pending, no_atoms, hit, called, joined, dropped}
use Rattle.meaning.specs.Pending.{newly_lost, newly_true}
use Rattle.meaning.proofs.Tests.{both, and_left, and_right, either, or_left, or_right, decided, true-and-false, absent, proved}
use Rattle.meaning.proofs.Sets.{every-at, some-by, some_one, some_mono, some-of-not-every}
use Rattle.meaning.proofs.Rules.{same-atom, atom-same, among_one, one-among, heads-of, heads-by, heads-mono, all_in-at, all_in-all}
use Rattle.meaning.proofs.Rules.{all_in-mono}
use Rattle.meaning.proofs.Propagation.{forced-off, forced-propagation}

module _ (b : Book) where
  -- ---- the start and the end

  -- all that is true and all that is lost, as far as bodies ask for it, and all rules of the book
  pub pending-start : (c : Pair) (nt nl : Atoms) (cand : Rules) → nt ⊆ heads b c.on → nl ⊆ all_in b c.off
      → ((r : RuleNo) → InBook b r → (a : AtomNo) → Memᴰ a (rule b r).neg → a ∈ heads b c.on → a ∈ nt)
      → ((r : RuleNo) → InBook b r → (a : AtomNo) → Memᴰ a (rule b r).pos → a ∈ all_in b c.off → a ∈ nl)
      → ((r : RuleNo) → InBook b r → r ∈ cand) → Pending b c nt nl cand
  pending-start c nt nl cand t l f g k = record {
    is_true = t;
    is_lost = l;
    blocks = λ r h a m e n. true-and-false (f r h a m e) n;
    starves = λ r h a m e n. true-and-false (g r h a m e) n;
    waits = λ r h m. is-candidate (k r h);
  }

  -- in a propagated pair nothing is left to look at
  pub propagated-pending : {c : Pair} → Propagated b c → (cand : Rules) → Pending b c no_atoms no_atoms cand
  unfolding blocked starved
  propagated-pending k cand = record {
    is_true = λ a e. true-and-false e refl;
    is_lost = λ a e. true-and-false e refl;
    blocks = λ r h a m e n. k.goes-off-blocked r h (some_one _ _ a m e);
    starves = λ r h a m e n. k.goes-off-starved r h (some_one _ _ a m e);
    waits = λ r h m. is-on (k.goes_on r h m);
  }

  -- an atom that became lost is the head of a rule that went off
  lost-head : (off off' : Rules) (a : AtomNo) → a ∈ all_in b off' → a ∉ all_in b off → a ∈ heads b (less off' off)
  lost-head off off' a e n = proved (λ z. true-and-false (all_in-all b off a (λ r h q. proved (λ o.
      true-and-false (rw q at (heads-of b (less off' off) r h (both (all_in-at b off' a e r h q) (ap not o)))) z))) n)

  module _ {c : Pair} {nt nl : Atoms} {cand : Rules} (p : Pending b c nt nl cand) where
    pub pending-end : ((a : AtomNo) → a ∉ nt) → ((a : AtomNo) → a ∉ nl) → ((r : RuleNo) → InBook b r → r ∉ cand) → Propagated b c
    unfolding blocked starved
    pending-end t l k = record {
      goes_on = λ r h m. on r h (p.waits r h m);
      goes-off-blocked = λ r h m. let (a, i, e) = some-by _ _ m in p.blocks r h a i e (t a);
      goes-off-starved = λ r h m. let (a, i, e) = some-by _ _ m in p.starves r h a i e (l a);
    }
      where
        on : (r : RuleNo) → InBook b r → Waits b c nt nl cand r → r ∈ c.on
        on r h (is-on m) = m
        on r h (is-candidate m) = true-and-false m (k r h)
        on r h (by-true m) = let (a, i, e) = some-by _ _ m in true-and-false e (t a)
        on r h (by-lost m) = let (a, i, e) = some-by _ _ m in true-and-false e (l a)

    -- ---- what keeps it

    -- more rules are on: the atoms that became true are new
    pub pending-on : (on : Rules) (now : Atoms) → Under b c.on on → nt ⊆ now → now ⊆ heads b on
        → ((a : AtomNo) → a ∈ heads b on → a ∉ heads b c.on → a ∈ now) → Pending b (record { on = on; off = c.off }) now nl cand
    unfolding may_on
    pending-on on now up more true-now new = record {
      is_true = true-now;
      is_lost = p.is_lost;
      blocks = λ r h a m e n. ⊎_elim
          (λ o. p.blocks r h a m o (absent (more a) n)) (λ o. true-and-false (new a e o) n) (decided (heads b c.on a));
      starves = p.starves;
      waits = λ r h m. ⊎_elim
          (λ e. carried r h (p.waits r h (both e (and_right (every (heads b on) (rule b r).pos) _ m))))
          (λ e. let (a, i, o) = some-by (λ a. not (heads b c.on a)) _ (some-of-not-every (λ a n. ap not n) _ e) in
          by-true (some_one now _ a i (new a (every-at _ _ (and_left (every (heads b on) (rule b r).pos) _ m) a i) (not-true _ o))))
          (decided (every (heads b c.on) (rule b r).pos));
    }
      where
        carried : (r : RuleNo) → InBook b r → Waits b c nt nl cand r → Waits b (record { on = on; off = c.off }) now nl cand r
        carried r h (is-on m) = is-on (up r h m)
        carried r h (is-candidate m) = is-candidate m
        carried r h (by-true m) = by-true (some_mono more _ m)
        carried r h (by-lost m) = by-lost m

    -- more rules are off: the atoms that became lost are new
    pub pending-off : (off : Rules) (now : Atoms) → Under b c.off off → nl ⊆ now → now ⊆ all_in b off
        → ((a : AtomNo) → a ∈ all_in b off → a ∉ all_in b c.off → a ∈ now) → Pending b (record { on = c.on; off = off }) nt now cand
    unfolding may_on
    pending-off off now up more lost-now new = record {
      is_true = p.is_true;
      is_lost = lost-now;
      blocks = λ r h a m e n. up r h (p.blocks r h a m e n);
      starves = λ r h a m e n. ⊎_elim
          (λ o. up r h (p.starves r h a m o (absent (more a) n))) (λ o. true-and-false (new a e o) n) (decided (all_in b c.off a));
      waits = λ r h m. ⊎_elim
          (λ e. carried r (p.waits r h (both (and_left (every (heads b c.on) (rule b r).pos) _ m) e)))
          (λ e. let (a, i, o) = some-by (λ a. not (all_in b c.off a)) _ (some-of-not-every (λ a n. ap not n) _ e) in
          by-lost (some_one now _ a i (new a (every-at _ _ (and_right (every (heads b c.on) (rule b r).pos) _ m) a i) (not-true _ o))))
          (decided (every (all_in b c.off) (rule b r).neg));
    }
      where
        carried : (r : RuleNo) → Waits b c nt nl cand r → Waits b (record { on = c.on; off = off }) nt now cand r
        carried r (is-on m) = is-on m
        carried r (is-candidate m) = is-candidate m
        carried r (by-true m) = by-true m
        carried r (by-lost m) = by-lost (some_mono more _ m)

    -- fewer atoms are new: those taken away have put off the rules that they block or starve
    pending-less : (nt' nl' : Atoms) (cand' : Rules) → nt' ⊆ nt → nl' ⊆ nl
        → ((r : RuleNo) → InBook b r → (a : AtomNo) → Memᴰ a (rule b r).neg → a ∈ nt → a ∉ nt' → r ∈ c.off)
        → ((r : RuleNo) → InBook b r → (a : AtomNo) → Memᴰ a (rule b r).pos → a ∈ nl → a ∉ nl' → r ∈ c.off)
        → ((r : RuleNo) → InBook b r → r ∈ may_on b c → Waits b c nt nl cand r → Waits b c nt' nl' cand' r) → Pending b c nt' nl' cand'
    pending-less nt' nl' cand' t l f g w = record {
      is_true = λ a m. p.is_true a (t a m);
      is_lost = λ a m. p.is_lost a (l a m);
      blocks = λ r h a m e n. ⊎_elim (λ o. f r h a m o n) (p.blocks r h a m e) (decided (nt a));
      starves = λ r h a m e n. ⊎_elim (λ o. g r h a m o n) (p.starves r h a m e) (decided (nl a));
      waits = λ r h m. w r h m (p.waits r h m);
    }

    -- a candidate that is on, or may not go on, need not be looked at
    pub pending-fewer : (cand' : Rules) → ((r : RuleNo) → InBook b r → r ∈ cand → r ∈ may_on b c → (r ∈ c.on) ⊎ (r ∈ cand'))
        → Pending b c nt nl cand'
    pending-fewer cand' f = pending-less nt nl cand' (λ a m. m) (λ a m. m)
        (λ r h a m e n. true-and-false e n) (λ r h a m e n. true-and-false e n) carried
      where
        carried : (r : RuleNo) → InBook b r → r ∈ may_on b c → Waits b c nt nl cand r → Waits b c nt nl cand' r
        carried r h k (is-on m) = is-on m
        carried r h k (is-candidate m) = ⊎_elim (λ e. is-on e) (λ e. is-candidate e) (f r h m k)
        carried r h k (by-true m) = by-true m
        carried r h k (by-lost m) = by-lost m

    -- ---- step 1: the new atoms put rules off

    -- what is put off is blocked or starved
    pub hit-legal : (r : RuleNo) → r ∈ hit b nt nl → (r ∈ blocked b c) ⊎ (r ∈ starved b c)
    unfolding hit blocked starved
    hit-legal r m = ⊎_map (some_mono p.is_true _) (some_mono p.is_lost _) (either (some nt (rule b r).neg) _ m)

    pub forced-drop : {start : Pair} → Forced b start c → Forced b start (dropped (hit b nt nl) c)
    forced-drop f = forced-off b f _ (λ r h m. or_left _ m) (λ r h m. ⊎_map (λ k. k) (hit-legal r) (either (c.off r) _ m))

    -- an atom that became lost is the head of a rule put off just now
    newly-lost : (s : Rules) (a : AtomNo) → a ∈ all_in b (joined c.off s) → a ∉ all_in b c.off → a ∈ newly_lost b s c.off
    unfolding newly_lost
    newly-lost s a e n = both (heads-mono b (λ r h m. both (put-off r m) (and_right (joined c.off s r) _ m)) a (lost-head _ _ a e n)) e
      where
        put-off : (r : RuleNo) → r ∈ less (joined c.off s) c.off → r ∈ s
        put-off r m = ⊎_elim (λ k. true-and-false k (not-true _ (and_right (joined c.off s r) _ m))) (λ k. k)
            (either (c.off r) _ (and_left (joined c.off s r) _ m))

    -- legal or chosen, rules go off: what is lost by it is new
    pub pending-fall : (s : Rules) → Pending b (dropped s c) nt (λ a. nl a || newly_lost b s c.off a) cand
    unfolding newly_lost
    pending-fall s = pending-off _ _ (λ r h m. or_left _ m) (λ a m. or_left _ m)
        (λ a m. ⊎_elim (λ e. all_in-mono b (λ r h k. or_left _ k) a (p.is_lost a e)) (λ e. and_right (heads b (less s c.off) a) _ e)
        (either (nl a) _ m))
        (λ a e n. or_right (nl a) (newly-lost s a e n))

  -- from here on the laws above are used of other pairs
  module _ {c : Pair} {nt nl : Atoms} {cand : Rules} (p : Pending b c nt nl cand) where
    abbrev fresh : Atoms
    fresh = newly_lost b (hit b nt nl) c.off

    pub pending-drop : Pending b (dropped (hit b nt nl) c) no_atoms fresh (joined cand (called b nt nl))
    unfolding hit called
    pending-drop = pending-less (pending-fall p (hit b nt nl)) no_atoms fresh _ (λ a m. true-and-false m refl) (λ a m. or_right (nl a) m)
        (λ r h a m e n. or_right (c.off r) (or_left _ (some_one nt _ a m e)))
        (λ r h a m e n. or_right (c.off r) (or_right (some nt (rule b r).neg)
        (some_one nl _ a m (⊎_elim (λ k. k) (λ k. true-and-false k n) (either (nl a) _ e)))))
        (λ r h k. carried r)
      where
        carried : (r : RuleNo) → Waits b (dropped (hit b nt nl) c) nt (λ a. nl a || fresh a) cand r
            → Waits b (dropped (hit b nt nl) c) no_atoms fresh (joined cand (called b nt nl)) r
        carried r (is-on m) = is-on m
        carried r (is-candidate m) = is-candidate (or_left _ m)
        carried r (by-true m) = is-candidate (or_right (cand r) (or_left _ m))
        carried r (by-lost m) = let (a, i, e) = some-by _ _ m in ⊎_elim
            (λ k. is-candidate (or_right (cand r) (or_right (some nt (rule b r).pos) (some_one nl _ a i k))))
            (λ k. by-lost (some_one fresh _ a i k)) (either (nl a) _ e)

    -- ---- step 2: a rule goes on

    -- legal or chosen: its head is new unless it was true before
    pub pending-raise : (r : RuleNo) → InBook b r → Pending b (put on_side (r ∷ []) c) (newly_true b r c.on nt) nl cand
    unfolding put newly_true
    pending-raise r h = pending-on p _ _ (λ q g m. or_left _ m) (λ a m. or_left _ m)
        (λ a m. ⊎_elim (λ e. heads-mono b (λ q g k. or_left _ k) a (p.is_true a e)) (λ e. risen a (and_left _ _ e)) (either (nt a) _ m))
        (λ a e n. or_right (nt a) (both (new a e n) (ap not n)))
      where
        risen : (a : AtomNo) → same_atom (rule b r).head a ≡ true → a ∈ heads b (plus c.on (r ∷ []))
        risen a e = rw (← same-atom e) (heads-of b (plus c.on (r ∷ [])) r h (or_right (c.on r) (one-among r)))

        new : (a : AtomNo) → a ∈ heads b (plus c.on (r ∷ [])) → a ∉ heads b c.on → same_atom (rule b r).head a ≡ true
        new a e n = let (q, g, m, z) = heads-by b _ a e in ⊎_elim
            (λ k. true-and-false (rw z at (heads-of b c.on q g k)) n)
            (λ k. atom-same (rw (among_one {r = r} {q = q} k) at z)) (either (c.on q) _ m)

    -- a candidate had its look: it went on, or could not
    pub pending-looked-on : (r : RuleNo) → InBook b r → (cand' : Rules) → ((q : RuleNo) → q ∈ cand → (q ≡ r) ⊎ (q ∈ cand'))
        → Pending b (put on_side (r ∷ []) c) (newly_true b r c.on nt) nl cand'
    unfolding put
    pending-looked-on r h cand' f = pending-fewer (pending-raise r h) cand' (λ q g m k.
        ⊎_map (λ e. or_right (c.on q) (rw e (one-among r))) (λ e. e) (f q m))

    pub pending-looked-past : (r : RuleNo) → r ∉ may_on b c → (cand' : Rules) → ((q : RuleNo) → q ∈ cand → (q ≡ r) ⊎ (q ∈ cand'))
        → Pending b c nt nl cand'
    pending-looked-past r n cand' f = pending-fewer p cand' (λ q g m k. ⊎_elim (λ e. true-and-false (rw e at k) n) (λ e. inr e) (f q m))

    -- ---- the end of propagation

    pub pending-propagation : {start : Pair} → Forced b start c → ((a : AtomNo) → a ∉ nt) → ((a : AtomNo) → a ∉ nl)
        → ((r : RuleNo) → InBook b r → r ∉ cand) → Propagation b start c
    pending-propagation f t l k = forced-propagation b f (pending-end p t l k)

  -- ---- the start where a propagated pair has grown: only heads of the rules that went on or off can be new

  pub pending-chosen : {c : Pair} → Propagated b c → (r : RuleNo) → InBook b r
      → Pending b (put on_side (r ∷ []) c) (newly_true b r c.on no_atoms) no_atoms (λ q. false)
  pending-chosen k r h = pending-raise (propagated-pending k (λ q. false)) r h

  pub pending-dropped : {c : Pair} → Propagated b c → (off : Rules) → Under b c.off off
      → Pending b (record { on = c.on; off = off }) no_atoms (λ a. heads b (less off c.off) a && all_in b off a) (λ q. false)
  pending-dropped {c} k off up = pending-off (propagated-pending k (λ q. false)) off _ up (λ a m. true-and-false m refl)
      (λ a m. and_right (heads b (less off c.off) a) _ m) (λ a e n. both (lost-head c.off off a e n) e)
