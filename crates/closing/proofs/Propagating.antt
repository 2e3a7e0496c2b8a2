-- Propagation by what is new, as the loop of `propagate_from` goes through it (src/propagation.rt): the two steps, the measure and the
-- end. What is reached lies within every propagated pair above the start, and what is pending is in the three sets.
use mathlib.Core.Path.{◌≡◌, refl, sym, ap, subst, ◌∙◌}
use mathlib.Core.Logic.{⊎_elim}
use mathlib.Core.Bool.{Bool, true, false, ◌||◌, or-false}
use mathlib.Core.List.{List}
use Prim.Native.Nat.{ℕ, ◌≤◌, ◌<◌}
use lib.ListN.{length-replicate}
use Rattle.meaning.specs.declared.AtomNo.{AtomNo}
use Rattle.meaning.specs.declared.RuleNo.{RuleNo}
use Rattle.meaning.specs.Sets.{Set, ◌∈◌, ◌∉◌, every_below, some_below}
use Rattle.meaning.specs.Books.{Atoms, Rules, Book, atom_no, count, InBook}
use Rattle.meaning.specs.Colours.{Pair, Side, on_side, off_side}
use Rattle.meaning.specs.Bits.{none, implied, members, listed}
use Rattle.meaning.specs.Written.{Tables, coloured, colour, lent}
use Rattle.meaning.specs.Propagation.{propagate}
use Rattle.meaning.specs.Pending.{Forced, Pending, no_atoms, hit, dropped, newly_lost}
use Rattle.meaning.proofs.Tests.{or_left, true-and-false, refuted, implies, decided}
use Rattle.meaning.proofs.Tests.{implied as implied-by}
use Rattle.meaning.proofs.Sets.{below_at, below_all, below-some, below_one}
use Rattle.meaning.proofs.Rules.{within_both}
use Rattle.meaning.proofs.Written.{Sized, sized_on, sized-off}
use Rattle.meaning.proofs.Four.{members-small}
use Rattle.meaning.proofs.Listed.{listed-long}
use Rattle.meaning.proofs.Propagate.{propagation-computed}
use Rattle.meaning.proofs.Pending.{pending-drop, forced-drop, pending-propagation}
use Rattle.meaning.proofs.Remaining.{remaining, remaining-more, remaining-on, remaining-drop}
use Rattle.closing.specs.News.{atom_set, Fallen, Raised}

pub record Propagating (b : Book) (start c : Pair) (nt nl : Atoms) (cand : Rules) : Type 0 where
  pub forced : Forced b start c
  pub pending : Pending b c nt nl cand
  pub on-outside : (r : RuleNo) → count b ≤ r.0 → c.on r ≡ start.on r
  pub off-outside : (r : RuleNo) → count b ≤ r.0 → c.off r ≡ start.off r

-- ---- step 1

module _ (b : Book) (start : Pair) (on off : Rules) (nt nl : Atoms) (cand off' : Rules) (nt' nl' : Atoms) (cand' : Rules)
    (f : Fallen b off nt nl cand off' nt' nl' cand') where
  abbrev stood : Pair
  stood = record { on = on; off = off }

  abbrev fell : Pair
  fell = record { on = on; off = off' }

  -- only bodies of the book are hit
  pub propagating-fall : ((r : RuleNo) → count b ≤ r.0 → r ∉ hit b nt nl) → Propagating b start stood nt nl cand
      → Propagating b start fell nt' nl' cand'
  propagating-fall out p =
      subst (λ (z : Rules). Propagating b start (record { on = on; off = z }) nt' nl' cand') (sym f.off-now)
      (subst (λ (z : Atoms). Propagating b start (dropped (hit b nt nl) stood) z nl' cand') (sym f.nt-now)
      (subst (λ (z : Atoms). Propagating b start (dropped (hit b nt nl) stood) no_atoms z cand') (sym f.nl-now)
      (subst (λ (z : Rules). Propagating b start (dropped (hit b nt nl) stood) no_atoms (newly_lost b (hit b nt nl) off) z) (sym f.cand-now) (record {
        forced = forced-drop b p.pending p.forced;
        pending = pending-drop b p.pending;
        on-outside = p.on-outside;
        off-outside = λ r l. ap (λ (x : Bool). off r || x) (out r l) ∙ or-false (off r) ∙ p.off-outside r l;
      }))))

  pub fall-no-more : remaining b fell ≤ remaining b stood
  fall-no-more = remaining-more b (within_both b (λ r h m. m) (λ r h m. ap (λ (x : Rules). x r) f.off-now ∙ or_left _ m))

  pub fall-less : (a : AtomNo) → a ∈ nl' → remaining b fell < remaining b stood
  fall-less a m =
      subst (λ (z : Rules). remaining b (record { on = on; off = z }) < remaining b stood) (sym f.off-now)
      (remaining-drop b (hit b nt nl) stood a (ap (λ (x : Atoms). x a) (sym f.nl-now) ∙ m))

-- ---- step 2

module _ (b : Book) (start : Pair) (off cand on : Rules) (nt nl : Atoms) (cand' on' : Rules) (nt' : Atoms) (k : Raised b off cand on nt cand' on' nt') where
  pub propagating-rise : Propagating b start (record { on = on; off = off }) nt nl cand
      → Propagating b start (record { on = on'; off = off }) nt' nl cand'
  propagating-rise p = record {
    forced = k.forced start p.forced;
    pending = k.pending nl p.pending;
    on-outside = λ r l. k.outside r l ∙ p.on-outside r l;
    off-outside = p.off-outside;
  }

  -- an atom is new now, where none was before
  pub rise-less : nt ≡ no_atoms → Propagating b start (record { on = on; off = off }) nt nl cand → (a : AtomNo) → a ∈ nt'
      → remaining b (record { on = on'; off = off }) < remaining b (record { on = on; off = off })
  rise-less e p a m = remaining-on b (within_both b k.above (λ r h i. i)) a ((propagating-rise p).pending.is_true a m)
      (⊎_elim (λ i. true-and-false (ap (λ (x : Atoms). x a) (sym e) ∙ i) refl) (λ n. n) (k.new a m))

-- ---- what the test on a set of atoms says

module _ (w v z : List ℕ) (e : v ≡ w) (n : members z ≡ none) {x : Bool} (f : x ≡ every_below 256 (implied (members v) (members z))) where
  asked : x ≡ every_below 256 (implied (members v) none)
  asked = f ∙ ap (λ (s : Set ℕ). every_below 256 (implied (members v) s)) n

  pub none_in : x ≡ true → (a : AtomNo) → a ∉ atom_set w
  none_in t a = refuted (λ m. let i = ap (λ (u : List ℕ). members u a.0) e ∙ m in
      true-and-false (implies (members v a.0) false (below_at 256 _ (sym asked ∙ t) a.0 (members-small v a.0 i)) i) refl)

  pub one_in : x ≡ false → (a : AtomNo) × (a ∈ atom_set w)
  one_in t = ⊎_elim
      (λ m. let (i, l, k) = below-some 256 (members v) m in (atom_no i, ap (λ (u : List ℕ). members u i) (sym e) ∙ k))
      (λ m. true-and-false (below_all 256 (implied (members v) none) (λ i l. implied-by (members v i) false (λ k. true-and-false (below_one 256 (members v) i l k) m)))
      (sym asked ∙ t))
      (decided (some_below 256 (members v)))

-- ---- the end

pub sized-coloured : (on off : List ℕ) → Sized (coloured (listed on) (listed off))
sized-coloured on off =
    record { on = listed-long on; off = listed-long off; marks = length-replicate 256 false; levels = length-replicate {A = ℕ} 255 0 }

pub sized-colour : (x : Side) (r : RuleNo) {c : Tables} → Sized c → Sized (colour x r c)
sized-colour on_side r s = sized_on r s
sized-colour off_side r s = sized-off r s

pub propagating-end : (b : Book) → count b ≤ 255 → (on₀ off₀ on off : List ℕ) {nt nl : Atoms} {cand : Rules}
    → Propagating b (lent (listed on₀) (listed off₀)) (lent (listed on) (listed off)) nt nl cand
    → ((a : AtomNo) → a ∉ nt) → ((a : AtomNo) → a ∉ nl) → ((r : RuleNo) → InBook b r → r ∉ cand)
    → (listed on ≡ (propagate b (coloured (listed on₀) (listed off₀))).on) × (listed off ≡ (propagate b (coloured (listed on₀) (listed off₀))).off)
propagating-end b few on₀ off₀ on off p t l c =
    let e = propagation-computed b few (coloured (listed on₀) (listed off₀)) (sized-coloured on₀ off₀) (coloured (listed on) (listed off)) (sized-coloured on off)
    (pending-propagation b p.pending p.forced t l c) refl refl refl (record { on = p.on-outside; off = p.off-outside }) in
    (ap (λ (d : Tables). d.on) e, ap (λ (d : Tables). d.off) e)
