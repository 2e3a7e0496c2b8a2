-- The search for the first reading alike x by its ways (src/search.rt): what each return tells, in the words of what was called, is the
-- verdict on the readings of the walk from its colouring.
use mathlib.Core.Path.{◌≡◌, refl, sym, ◌∙◌, ap}
use mathlib.Core.Bool.{Bool, true, false, ◌&&◌}
use mathlib.Core.List.{List}
use Prim.Native.Nat.{ℕ}
use native.Mathlib.Omega.{arith}
use Rattle.meaning.specs.declared.AtomNo.{AtomNo}
use Rattle.meaning.specs.declared.RuleNo.{RuleNo}
use Rattle.meaning.specs.Sets.{every_below}
use Rattle.meaning.specs.Books.{Atoms, Rules, rule_no, atom_no, Book, count, InBook, every_rule}
use Rattle.meaning.specs.AnswerSet.{generating}
use Rattle.meaning.specs.Bits.{implied, members, listed}
use Rattle.meaning.specs.Choice.{agree}
use Rattle.meaning.specs.Colours.{Side, on_side, off_side, all_in, uncoloured}
use Rattle.meaning.specs.Written.{Tables, of, chosen, pair}
use Rattle.meaning.specs.Lowest.{none, one, lowest, clashed}
use Rattle.meaning.proofs.Tests.{both, and_left, and_right, same}
use Rattle.meaning.proofs.Sets.{some_one, some-by, below-some, below_one, below_at, below_all}
use Rattle.meaning.proofs.Rules.{every-rule-at, every-rule-all}
use Rattle.meaning.proofs.Choice.{b-yes, b-no, agree-yes, agree_same}
use Rattle.meaning.proofs.Four.{members-small}
use Rattle.meaning.proofs.Listed.{of-listed}
use Rattle.book.specs.RuleRows.{sets, RuleRows}
use Rattle.book.proofs.RuleRows.{row-lost}
use Rattle.walk.specs.Events.{events}
use Rattle.walk.specs.Readings.{readings_in}
use Rattle.walk.specs.FirstAlike.{lost_shown, first_among, or_else, is_this}
use Rattle.walk.specs.Search.{lost_in, Searches, TellsFirst}
use Rattle.walk.specs.declared.verdict.Verdict.{Verdict}
use Rattle.walk.specs.declared.verdict.Verdict.TheVariants.{Nobody, This, Another}
use Rattle.walk.proofs.Events.{Closes, Forks}
use Rattle.walk.proofs.FirstSteps.{first-clash, first-left, first-total, total-same, side-avoids, first-fork}

-- a rule is in the set that words stand for
asked : (w : List ℕ) (i : ℕ) → of (listed w) (rule_no i) ≡ members w i
asked w i = ap (λ (s : Rules). s (rule_no i)) (of-listed w)

-- the same rules, asked of words
pub same-words : (b : Book) (p q : Rules) (on other : List ℕ) {n : ℕ} → count b ≡ n
    → ((r : RuleNo) → InBook b r → p r ≡ of (listed on) r) → ((r : RuleNo) → InBook b r → q r ≡ of (listed other) r)
    → every_rule b (λ r. agree (p r) (q r)) ≡ every_below n (λ i. agree (members on i) (members other i))
same-words b p q on other {n} e f g = same _ _
    (λ t. below_all n _ (λ i h.
    let k = f (rule_no i) (omega arith) ∙ asked on i in let l = g (rule_no i) (omega arith) ∙ asked other i in
    agree-yes (sym k ∙ agree_same _ _ (every-rule-at b _ t (rule_no i) (omega arith)) ∙ l)))
    (λ t. every-rule-all b _ (λ r h.
    let k = f r h ∙ asked on r.0 in let l = g r h ∙ asked other r.0 in
    agree-yes (k ∙ agree_same _ _ (below_at n _ t r.0 (omega arith)) ∙ sym l)))

module _ {b : Book} {t : List ℕ} (rows : RuleRows b t) (inside : List ℕ) where
  -- whether a shown atom of x has lost all its rules, asked of the table of rows
  lost-shown : {s : List AtomNo} {x : Atoms} {on : List ℕ} {c : Tables} → Searches b s x inside on c → (off : List ℕ)
      → lost_shown b s x (of (listed off)) ≡ lost_in t inside off
  unfolding lost_shown lost_in
  lost-shown {s} {x} f off = same _ _
      (λ e. let (a, m, z) = some-by (λ a. x a && all_in b (of (listed off)) a) s e in
      let i = f.atoms-in a m (and_left (x a) _ z) in let l = members-small inside a.0 i in
      below_one 256 (λ a. members inside a && every_below 256 (implied (sets t a) (members off))) a.0 l
      (both i (row-lost b t rows a l off ∙ and_right (x a) _ z)))
      (λ e. let (i, l, m) = below-some 256 (λ a. members inside a && every_below 256 (implied (sets t a) (members off))) e in
      let (n, z) = f.atoms-of i (and_left (members inside i) _ m) in
      some_one (λ a. x a && all_in b (of (listed off)) a) s (atom_no i) n
      (both z (sym (row-lost b t rows (atom_no i) l off) ∙ and_right (members inside i) _ m)))

  module _ (on : List ℕ) {c d : Tables} (k : Closes b c d) where
    pub tells-clash : {r : RuleNo} → clashed b (pair d) ≡ one r → TellsFirst b inside on c Nobody
    tells-clash e = record { each = λ s x f. sym (first-clash b s x k e) }

    -- off and on-words are those of the closed colouring
    module _ (off here : List ℕ) (eo : d.off ≡ listed off) (en : d.on ≡ listed here) {lost : Bool} (el : lost ≡ lost_in t inside off) where
      told-lost : {s : List AtomNo} {x : Atoms} → Searches b s x inside on c → lost_shown b s x (of d.off) ≡ lost
      told-lost {s} {x} f = ap (λ (l : List Bool). lost_shown b s x (of l)) eo ∙ lost-shown f off ∙ sym el

      pub tells-left : lost ≡ true → TellsFirst b inside on c Nobody
      tells-left e = record { each = λ s x f. sym (first-left b s x k (told-lost f ∙ e)) }

      module _ (left : lost ≡ false) (calm : clashed b (pair d) ≡ none) (all : lowest b (uncoloured (pair d)) ≡ none) {n : ℕ}
          (en' : count b ≡ n) {equal : Bool} (ee : equal ≡ every_below n (λ i. agree (members on i) (members here i))) where
        told_same : {s : List AtomNo} {x : Atoms} → Searches b s x inside on c
            → every_rule b (λ r. agree (generating b x r) (of d.on r)) ≡ equal
        told_same {s} {x} f =
            ap (λ (l : List Bool). every_rule b (λ r. agree (generating b x r) (of l r))) en
            ∙ same-words b (generating b x) (of (listed here)) on here en' f.rules (λ r h. refl) ∙ sym ee

        pub tells-this : equal ≡ true → TellsFirst b inside on c This
        tells-this e = record {
          each = λ s x f. sym (first-total b s x k calm all f.avoids (told-lost f ∙ left)
              ∙ b-yes _ _ _ (total-same b s x k calm all ∙ told_same f ∙ e));
        }

        pub tells-another : equal ≡ false → TellsFirst b inside on c Another
        tells-another e = record {
          each = λ s x f. sym (first-total b s x k calm all f.avoids (told-lost f ∙ left)
              ∙ b-no _ _ _ (total-same b s x k calm all ∙ told_same f ∙ e));
        }

-- ---- both ways

or-else-told : (v w : Verdict) → (v ≡ Nobody → ⊥) → or_else v w ≡ v
unfolding or_else
or-else-told Nobody w k = absurd (k refl)
or-else-told This w k = refl
or-else-told Another w k = refl

module _ {b : Book} (inside on : List ℕ) {c d : Tables} {r : RuleNo} (f : Forks b c d r) where
  side-searches : (z : Side) {s : List AtomNo} {x : Atoms} → Searches b s x inside on c → Searches b s x inside on (chosen z r d)
  side-searches z {s} {x} g = record {
    atoms-in = g.atoms-in;
    atoms-of = g.atoms-of;
    rules = g.rules;
    avoids = side-avoids b s x f z g.avoids;
  }

  module _ {v : Verdict} (tv : TellsFirst b inside on (chosen on_side r d) v) where
    on-verdict : (s : List AtomNo) (x : Atoms) → Searches b s x inside on c
        → v ≡ first_among b s x (readings_in b (events b (chosen on_side r d)))
    on-verdict s x g = tv.each s x (side-searches on_side g)

    abbrev off-verdict : List AtomNo → Atoms → Verdict
    off-verdict s x = first_among b s x (readings_in b (events b (chosen off_side r d)))

    pub tells-on : (v ≡ Nobody → ⊥) → TellsFirst b inside on c v
    tells-on k = record {
      each = λ s x g. sym (first-fork b s x f ∙ ap (λ (u : Verdict). or_else u (off-verdict s x)) (sym (on-verdict s x g))
          ∙ or-else-told v _ k);
    }

    pub tells-off : v ≡ Nobody → {w : Verdict} → TellsFirst b inside on (chosen off_side r d) w → TellsFirst b inside on c w
    unfolding or_else
    tells-off n tw = record {
      each = λ s x g. sym (first-fork b s x f ∙ ap (λ (u : Verdict). or_else u (off-verdict s x)) (sym (on-verdict s x g) ∙ n)
          ∙ sym (tw.each s x (side-searches off_side g)));
    }

-- ---- what a verdict says

pub this-told : (v : Verdict) → v ≡ This → true ≡ is_this v
unfolding is_this
this-told v e = rw e

pub not-this : (v : Verdict) → (v ≡ This → ⊥) → false ≡ is_this v
unfolding is_this
not-this Nobody k = refl
not-this This k = absurd (k refl)
not-this Another k = refl
