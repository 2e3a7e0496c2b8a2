-- The search for the first reading alike x, closing by closing (request 3, H3): what it may answer after one closing. A pair may be left
-- when it has a contradiction, or when a shown atom of x has all its rules off: no answer set above it holds that atom. A pair that was
-- not left and has a colour for every rule stands for a set alike x: a shown atom outside x has only off rules, and a shown atom of x has
-- a rule that is not off, so on. Else the search goes both ways, first with the rule on.
use mathlib.Core.Path.{◌≡◌, sym, ◌∙◌}
use mathlib.Core.Logic.{⊎_elim}
use mathlib.Core.Bool.{true, false, ◌&&◌}
use mathlib.Core.List.{List, Memᴰ}
use Prim.Native.Nat.{◌≤◌}
use borrow.Author.Tests.{not-true}
use Rattle.meaning.specs.declared.AtomNo.{AtomNo}
use Rattle.meaning.specs.declared.RuleNo.{RuleNo}
use Rattle.meaning.specs.Written.{Tables}
use Rattle.meaning.specs.Sets.{◌∈◌, ◌∉◌}
use Rattle.meaning.specs.Books.{Atoms, Book, count, InBook, every_rule}
use Rattle.meaning.specs.AnswerSet.{generating}
use Rattle.meaning.specs.Colours.{Side, on_side, off_side, Under, Total, heads, all_in, uncoloured}
use Rattle.meaning.specs.Written.{of, pair}
use Rattle.meaning.specs.Choice.{ifb, agree}
use Rattle.meaning.specs.Lowest.{none, one, lowest, clashed}
use Rattle.meaning.proofs.Tests.{both, and_left, and_right, true-and-false, refuted, proved, same}
use Rattle.meaning.proofs.Sets.{some_one, some-by}
use Rattle.meaning.proofs.Rules.{every-rule-at, every-rule-all, heads-of, heads-by, all_in-at, all_in-all, within-off, clashing-no}
use Rattle.meaning.proofs.Lowest.{lowest-total, clashed-none}
use Rattle.meaning.proofs.Answers.{answer-heads, total-stands}
use Rattle.meaning.proofs.Choice.{b-yes, agree-yes, agree_same}
use Rattle.meaning.specs.Written.{chosen}
use Rattle.closing.proofs.Left.{chosen-above}
use Rattle.walk.specs.Events.{events}
use Rattle.walk.specs.Readings.{reading_of, readings_in}
use Rattle.walk.specs.Shown.{alike}
use Rattle.walk.specs.FirstAlike.{avoided, avoiding, lost_shown, same_reading, first_among, or_else}
use Rattle.walk.specs.declared.verdict.Verdict.{Verdict}
use Rattle.walk.specs.declared.verdict.Verdict.TheVariants.{Nobody, This, Another}
use Rattle.walk.proofs.Events.{Closes, Forks, fork-low, walks, events-clash, events-reading, events-fork}
use Rattle.walk.proofs.Forks.{Stands, closing, sized, stands_after}
use Rattle.walk.proofs.Readings.{readings-append, walk-sound}
use Rattle.walk.proofs.Alike.{alike_at, alike_all}
use Rattle.walk.proofs.Avoiding.{avoided-of, avoiding-off}
use Rattle.walk.proofs.FirstAlike.{first-append, first-nobody}

module _ (b : Book) (s : List AtomNo) (x : Atoms) where
  -- what the search from c answers
  abbrev pub verdict_from : Tables → Verdict
  verdict_from c = first_among b s x (readings_in b (events b c))

  -- the rules whose head is a shown atom outside x are off
  abbrev pub Avoids : Tables → Type 0
  Avoids c = Under b (avoided b s x) (of c.off)

  pub avoiding-avoids : count b ≤ 255 → Avoids (avoiding b s x)
  avoiding-avoids fits r h m = avoiding-off b s x fits r h ∙ m

  module _ {c d : Tables} (k : Closes b c d) where
    pub closes-avoids : Avoids c → Avoids d
    closes-avoids f r h m = within-off b (closing k).good.above r h (f r h m)

    -- ---- a pair that may be left

    pub first-clash : {r : RuleNo} → clashed b (pair d) ≡ one r → verdict_from c ≡ Nobody
    unfolding readings_in first_among
    first-clash t = rw (events-clash k t)

    -- no answer set above c holds an atom that has all its rules off in d
    lost-out : (a : AtomNo) → a ∈ all_in b (of d.off) → (y : Atoms) → Stands b c y → a ∉ y
    lost-out a e y t = refuted (λ m.
        let (r, h, g, q) = heads-by b (generating b y) a (answer-heads b y t.answer a ∙ m) in
        true-and-false g (not-true _ (within-off b (stands_after k y t).holds r h (all_in-at b _ a e r h q))))

    pub first-left : lost_shown b s x (of d.off) ≡ true → verdict_from c ≡ Nobody
    unfolding lost_shown
    first-left t = first-nobody b s x _ (λ y m e.
        let (a, n, z) = some-by (λ a. x a && all_in b (of d.off) a) s t in
        true-and-false (sym (alike_at s x y e a n) ∙ and_left (x a) _ z)
        (lost-out a (and_right (x a) _ z) y (walk-sound (walks b k.few c k.sized) y m)))

    -- ---- a pair with a colour for every rule that was not left

    module _ (t : clashed b (pair d) ≡ none) (p : lowest b (uncoloured (pair d)) ≡ none) (f : Avoids c)
        (n : lost_shown b s x (of d.off) ≡ false) where
      total : Total b (pair d)
      total = lowest-total b (pair d) p

      pub total-alike : alike s x (reading_of b d) ≡ true
      unfolding lost_shown
      total-alike = alike_all s x (reading_of b d) (λ a m. same _ _ (has a m) (in-x a m))
        where
          -- a shown atom of x has a rule that is not off, so on
          has : (a : AtomNo) → Memᴰ a s → a ∈ x → a ∈ heads b (of d.on)
          has a m e = proved (λ o. true-and-false (some_one (λ a. x a && all_in b (of d.off) a) s a m (both e (all_in-all b _ a (λ r h q.
              ⊎_elim (λ (i : r ∈ of d.on). true-and-false (rw q at (heads-of b (of d.on) r h i)) o) (λ i. i) (total r h))))) n)

          -- a shown atom outside x has only off rules
          in-x : (a : AtomNo) → Memᴰ a s → a ∈ heads b (of d.on) → a ∈ x
          in-x a m e = proved (λ o.
              let (r, h, i, q) = heads-by b (of d.on) a e in
              clashing-no b (pair d) ((clashed-none b (pair d)).0 t) r h i (closes-avoids f r h (avoided-of b s x r a m q o)))

      pub first-total : verdict_from c ≡ ifb (same_reading b x (reading_of b d)) This Another
      unfolding readings_in first_among
      first-total = rw (events-reading k t p) (b-yes _ _ _ total-alike)

    -- whether it is x itself is seen from its on rules
    pub total-same : clashed b (pair d) ≡ none → lowest b (uncoloured (pair d)) ≡ none
        → same_reading b x (reading_of b d) ≡ every_rule b (λ r. agree (generating b x r) (of d.on r))
    unfolding same_reading
    total-same t p = same _ _
        (λ e. every-rule-all b _ (λ r h. agree-yes (agree_same _ _ (every-rule-at b _ e r h) ∙ sym (on r h))))
        (λ e. every-rule-all b _ (λ r h. agree-yes (agree_same _ _ (every-rule-at b _ e r h) ∙ on r h)))
      where
        on : (r : RuleNo) → InBook b r → of d.on r ≡ generating b (reading_of b d) r
        on r h = (total-stands b (pair d) (closing k).good.closed (lowest-total b (pair d) p) (clashing-no b (pair d) ((clashed-none b (pair d)).0 t)) r h).0

  -- ---- both ways

  module _ {c d : Tables} {r : RuleNo} (f : Forks b c d r) where
    pub side-avoids : (z : Side) → Avoids c → Avoids (chosen z r d)
    side-avoids z g q h m =
        within-off b (chosen-above b d (sized f.closes) z r (fork-low f)) q h (closes-avoids f.closes g q h m)

    pub first-fork : verdict_from c ≡ or_else (verdict_from (chosen on_side r d)) (verdict_from (chosen off_side r d))
    unfolding readings_in
    first-fork = rw (events-fork f, readings-append b _ _) (first-append b s x _ _)
