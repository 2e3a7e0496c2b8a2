-- The suspects, found by what is new (document 02, request 14): beside the set s of suspects known so far the atoms are kept that are
-- doubted and whose rules have not been looked at. A turn takes all live rules with such a positive atom and keeps the heads of the fresh
-- ones that are not sure. At the end there is no such atom, and s is the set of all suspects.
use mathlib.Core.Path.{◌≡◌, sym, ◌∙◌, ap}
use mathlib.Core.Logic.{◌⊎◌, inl, inr, ⊎_elim}
use mathlib.Core.Bool.{true, not}
use mathlib.Core.List.{Memᴰ}
use Prim.Native.Nat.{◌<◌}
use lib.ListN.{length}
use borrow.Author.Tests.{not-true}
use Rattle.meaning.specs.declared.AtomNo.{AtomNo}
use Rattle.meaning.specs.declared.RuleNo.{RuleNo}
use Rattle.meaning.specs.Sets.{◌∈◌, ◌∉◌, ◌⊆◌, some}
use Rattle.meaning.specs.Books.{Atoms, Rules, Book, rule, InBook}
use Rattle.meaning.specs.Colours.{heads, Under}
use Rattle.meaning.specs.Lowest.{rules_in}
use Rattle.meaning.specs.Engine.{less}
use Rattle.meaning.specs.Pending.{joined}
use Rattle.meaning.specs.Suspects.{live, doubted, standing, suspect, AtRest, Suspects}
use Rattle.meaning.proofs.Tests.{both, and_left, and_right, either, or_left, or_right, decided, true-and-false, absent}
use Rattle.meaning.proofs.Sets.{some-by, some_one, some_mono}
use Rattle.meaning.proofs.Least.{reached-smallest}
use Rattle.meaning.proofs.Rules.{heads-of, heads-by}
use Rattle.meaning.proofs.RulesIn.{rules-fewer}
use Rattle.meaning.proofs.Suspects.{less-of, less_by, doubted-mono, suspect-of, suspect-by, suspect-mono}

pub record Suspecting (b : Book) (old off s : Rules) (todo : Atoms) : Type 0 where
  pub within : (t : Rules) → AtRest b (suspect b old off) t → Under b s t
  pub doubtful : todo ⊆ doubted b off (joined (less off old) s)
  -- a live rule with a doubted positive atom is known, or the atom is still to be looked at
  pub covered : (r : RuleNo) → InBook b r → r ∉ off → (a : AtomNo) → Memᴰ a (rule b r).pos
      → a ∈ doubted b off (joined (less off old) s) → (r ∈ s) ⊎ (a ∈ todo)

module _ (b : Book) (old off : Rules) where
  pub suspecting-start : {s : Rules} → ((r : RuleNo) → InBook b r → r ∉ s) → {todo : Atoms} → todo ≡ doubted b off (less off old)
      → Suspecting b old off s todo
  suspecting-start {s} none e = record {
    within = λ t g r h m. true-and-false m (none r h);
    doubtful = λ a m. doubted-mono b off (λ r h k. or_left _ k) a (ap (λ (x : Atoms). x a) (sym e) ∙ m);
    covered = λ r h n a i m. inr (ap (λ (x : Atoms). x a) e ∙ doubted-mono b off went a m);
  }
    where
      went : Under b (joined (less off old) s) (less off old)
      went r h m = ⊎_elim (λ p. p) (λ p. true-and-false p (none r h)) (either (less off old r) _ m)

  module _ (s : Rules) (todo : Atoms) {t fresh : Rules} {next : Atoms} (new : fresh ≡ less (standing b off todo) s) (more : t ≡ joined s fresh)
      (e : next ≡ doubted b off fresh) where
    fresh-by : (r : RuleNo) → r ∈ fresh → (r ∉ off) × (some todo (rule b r).pos ≡ true) × (r ∉ s)
    unfolding standing
    fresh-by r m = let (p, n) = less_by (standing b off todo) s r (ap (λ (x : Rules). x r) (sym new) ∙ m) in
        (not-true _ (and_left (not (off r)) _ p), and_right (not (off r)) _ p, n)

    fresh-of : (r : RuleNo) → r ∉ off → (a : AtomNo) → Memᴰ a (rule b r).pos → a ∈ todo → r ∉ s → r ∈ fresh
    unfolding standing
    fresh-of r n a i m k = ap (λ (x : Rules). x r) new ∙ less-of (standing b off todo) s r (both (ap not n) (some_one todo _ a i m)) k

    known-by : (r : RuleNo) → r ∈ t → (r ∈ s) ⊎ (r ∈ fresh)
    known-by r m = either (s r) _ (ap (λ (x : Rules). x r) (sym more) ∙ m)

    kept : (r : RuleNo) → r ∈ s → r ∈ t
    kept r m = ap (λ (x : Rules). x r) more ∙ or_left _ m

    added : (r : RuleNo) → r ∈ fresh → r ∈ t
    added r m = ap (λ (x : Rules). x r) more ∙ or_right (s r) m

    -- what is doubted now was so before, or is new
    doubted-before : (a : AtomNo) → a ∈ doubted b off (joined (less off old) t)
        → (a ∈ doubted b off (joined (less off old) s)) ⊎ (a ∈ next)
    unfolding doubted
    doubted-before a m = let n = and_right (heads b (joined (less off old) t) a) _ m in
        let (q, h, k, z) = heads-by b (joined (less off old) t) a (and_left (heads b (joined (less off old) t) a) _ m) in
        let before : (x : Rules) → q ∈ x → a ∈ heads b x = λ x l. rw z at (heads-of b x q h l) in
        ⊎_elim (λ p. inl (both (before (joined (less off old) s) (or_left _ p)) n))
        (λ p. ⊎_elim (λ l. inl (both (before (joined (less off old) s) (or_right (less off old q) l)) n))
        (λ l. inr (ap (λ (x : Atoms). x a) e ∙ both (before fresh l) n)) (known-by q p))
        (either (less off old q) _ k)

    pub suspecting-more : Suspecting b old off s todo → Suspecting b old off t next
    suspecting-more g = record {
      within = λ u f r h m. ⊎_elim (g.within u f r h)
          (λ p. let (n, o, k) = fresh-by r p in
          f r h (suspect-mono b off old (g.within u f) r h (suspect-of b off old s r n (some_mono g.doubtful _ o))))
          (known-by r m);
      doubtful = λ a m. doubted-mono b off (λ r h k. or_right (less off old r) (added r k)) a (ap (λ (x : Atoms). x a) (sym e) ∙ m);
      covered = λ r h n a i m. ⊎_elim
          (λ k. ⊎_elim (λ l. inl (kept r l))
          (λ l. inl (⊎_elim (kept r) (λ o. added r (fresh-of r n a i l o)) (decided (s r)))) (g.covered r h n a i k))
          (λ k. inr k) (doubted-before a m);
    }

    -- a turn that leaves atoms to look at has found a suspect
    pub suspecting-less : (a : AtomNo) → a ∈ next → length (rules_in b (live t)) < length (rules_in b (live s))
    unfolding doubted
    suspecting-less a m =
        let (r, h, k, z) = heads-by b fresh a (and_left (heads b fresh a) _ (ap (λ (x : Atoms). x a) (sym e) ∙ m)) in
        rules-fewer b (live s) (live t) (λ q g l. ap not (absent (kept q) (not-true _ l))) r h (ap not (fresh-by r k).2) (ap not (added r k))

  pub suspecting-end : {s : Rules} {todo : Atoms} → Suspecting b old off s todo → ((a : AtomNo) → a ∉ todo) → Suspects b old off s
  suspecting-end {s} g none = reached-smallest g.within (λ r h m.
      let (n, e) = suspect-by b off old s r m in let (a, i, k) = some-by (doubted b off (joined (less off old) s)) _ e in
      ⊎_elim (λ l. l) (λ l. true-and-false l (none a)) (g.covered r h n a i k))
