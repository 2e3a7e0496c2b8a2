-- The conditions of the steps as the code tests them, place by place: what each test says of the pair that the lent tables stand for.
-- Document 01, "The paper": 53, 45 and 55. Each is its definition, with the place in the table put for the rule or the atom.
use mathlib.Core.Path.{◌≡◌, sym, ◌∙◌, ap, ap₂}
use mathlib.Core.Bool.{Bool, true, false, not, ◌&&◌}
use mathlib.Core.List.{List, map}
use Prim.Native.Nat.{ℕ, ◌+◌, ◌≤◌, ◌<◌}
use native.Mathlib.Omega.{arith}
use lib.ListN.{length, get_or, take}
use borrow.Author.Tests.{ne_eqb, ltb-true, lt-ltb}
use Rattle.meaning.specs.declared.AtomNo.{AtomNo}
use Rattle.meaning.specs.declared.RuleNo.{RuleNo}
use Rattle.meaning.specs.Sets.{Set, every, some, some_below}
use Rattle.meaning.specs.Books.{Atoms, Rules, rule_no, same_atom, Book, count, rule, some_rule, InBook}
use Rattle.meaning.specs.Colours.{heads, all_in, plus, clashing, uncoloured}
use Rattle.meaning.specs.declared.kind.Kind.{Kind}
use Rattle.meaning.specs.declared.kind.Kind.TheVariants.{Naming, Clearing}
use Rattle.meaning.specs.declared.kind.Claim.{Claim}
use Rattle.meaning.specs.declared.kind.Claim.TheVariants.{NoReading}
use Rattle.meaning.specs.Claim.{claim, shown_by, shown, ended}
use Rattle.meaning.specs.Paper.{unfounded}
use Rattle.meaning.specs.Bits.{below, less, members, listed}
use Rattle.meaning.specs.Bits.{both as both-in}
use Rattle.meaning.specs.Written.{of, lent}
use Rattle.meaning.proofs.Tests.{both, and_left, and_right, same, or_left, not_first, not-second}
use Rattle.meaning.proofs.Sets.{every_here, every-all-next, every-all-end, below-some, below_one}
use Rattle.meaning.proofs.Rules.{heads-of, heads-mono, all-in-not-heads}
use Rattle.meaning.proofs.Listed.{listed-members}
use Rattle.book.specs.declared.reader.Shape.{Shape}
use Rattle.book.specs.Format.{book_in, ReadAs}
use Rattle.book.specs.Tables.{atom_table, atoms_in}
use Rattle.book.proofs.Asked.{every-table, some-table, pos-small, neg_small}
use Rattle.checker.proofs.Lists.{every_map}

-- ---- 53: the rule has no colour

module _ (on off : List Bool) (r : RuleNo) where
  pub uncoloured-on : of on r ≡ true → uncoloured (lent on off) r ≡ false
  unfolding uncoloured
  uncoloured-on h = rw h

  pub uncoloured-off : of on r ≡ false → uncoloured (lent on off) r ≡ not (of off r)
  unfolding uncoloured
  uncoloured-off h = rw h

-- ---- 45: a rule in both sets, or the claim is shown

-- the code asks whether what both sets have meets the numbers below n
pub clash-asked : (n : ℕ) → n < 256 → (on off m all : List ℕ) {x : Bool} → members m ≡ both-in (members on) (members off) → members all ≡ below n
    → x ≡ some_below 256 (both-in (members m) (members all)) → x ≡ some_below n (λ i. of (listed on) (rule_no i) && of (listed off) (rule_no i))
clash-asked n low on off m all e f g = g ∙ same _ _
    (λ t. let (i, l, h) = below-some 256 _ t in
    let h1 = ap (λ (s : Set ℕ). s i) (sym e) ∙ and_left (members m i) (members all i) h in
    below_one n _ i (ltb-true i n (ap (λ (s : Set ℕ). s i) (sym f) ∙ and_right (members m i) (members all i) h)) (in_both i ∙ h1))
    (λ t. let (i, l, h) = below-some n _ t in
    below_one 256 _ i (omega arith) (both (ap (λ (s : Set ℕ). s i) e ∙ sym (in_both i) ∙ h) (ap (λ (s : Set ℕ). s i) f ∙ lt-ltb i n l)))
  where
    in_both : (i : ℕ) → (of (listed on) (rule_no i) && of (listed off) (rule_no i)) ≡ (members on i && members off i)
    in_both i = ap₂ (λ (s t : Set ℕ). s i && t i) (listed-members on) (listed-members off)

-- an atom is looked for among the heads of a set's rules, one by one; the code reads h as the head of rule r
module _ (b : Book) (s : Rules) (a : AtomNo) where
  module _ (h : AtomNo) (r : ℕ) (p : h ≡ (rule b (rule_no r)).head) where
    pub head-here : r < count b → s (rule_no r) ≡ true → h.0 ≡ a.0 → heads b s a ≡ true
    head-here l t q =
        let z : (rule b (rule_no r)).head ≡ a = sym p ∙ (λ j. record { 0 = q j }) in
        rw z at (heads-of b s (rule_no r) l t)

    pub head-other : (h.0 ≡ a.0 → ⊥) → (s (rule_no r) && same_atom (rule b (rule_no r)).head a) ≡ false
    unfolding same_atom
    head-other n = not-second (s (rule_no r)) (rw (← p) (ne_eqb _ _ n))

  pub head-out : (r : ℕ) → s (rule_no r) ≡ false → (s (rule_no r) && same_atom (rule b (rule_no r)).head a) ≡ false
  head-out r t = not_first _ t

  pub head-none : (n : ℕ) → count b ≡ n → some_below n (λ r. s (rule_no r) && same_atom (rule b (rule_no r)).head a) ≡ false
      → heads b s a ≡ false
  unfolding heads some_rule
  head-none n e h = rw e h

-- all rules of an atom are in the set where it is no head of the others, which the code makes of the numbers below n
module _ (b : Book) (n : ℕ) (e : n ≡ count b) (set below_n others : List ℕ) (p : members below_n ≡ below n)
    (q : members others ≡ less (members below_n) (members set)) where
  is-other : (r : RuleNo) → InBook b r → of (listed others) r ≡ not (of (listed set) r)
  is-other r h =
      let at = λ (w : List ℕ). ap (λ (s : Set ℕ). s r.0) (listed-members w) in
      at others ∙ ap (λ (s : Set ℕ). s r.0) q ∙ rw (ap (λ (s : Set ℕ). s r.0) p, lt-ltb r.0 n (omega arith)) (ap not (sym (at set)))

  pub lost-asked : (a : AtomNo) {v : Bool} → v ≡ heads b (of (listed others)) a → not v ≡ all_in b (of (listed set)) a
  lost-asked a h = ap not (h ∙ same _ _ (heads-mono b (λ r l m. sym (is-other r l) ∙ m) a) (heads-mono b (λ r l m. is-other r l ∙ m) a))
      ∙ sym (all-in-not-heads b (of (listed set)) a)

-- the claim by its cases
module _ (b : Book) (on off : List Bool) (k : Claim) where
  module _ {q : Kind} {a : AtomNo} (e : k ≡ claim q a) where
    pub shown-naming : q ≡ Naming → shown b k (lent on off) ≡ heads b (of on) a
    unfolding shown shown_by
    shown-naming f = rw (e, f)

    pub shown-clearing : q ≡ Clearing → shown b k (lent on off) ≡ all_in b (of off) a
    unfolding shown shown_by
    shown-clearing f = rw (e, f)

  pub shown-no-reading : k ≡ NoReading → shown b k (lent on off) ≡ false
  unfolding shown
  shown-no-reading e = rw e

module _ (b : Book) (on off : List Bool) (k : Claim) (n : ℕ) (e : n ≡ count b) where
  clashing-is : some_below n (λ r. of on (rule_no r) && of off (rule_no r)) ≡ clashing b (lent on off)
  unfolding clashing some_rule
  clashing-is = rw e

  pub ended-clash : some_below n (λ r. of on (rule_no r) && of off (rule_no r)) ≡ true → ended b k (lent on off) ≡ true
  unfolding ended
  ended-clash h = or_left _ (sym clashing-is ∙ h)

  pub ended-shown : some_below n (λ r. of on (rule_no r) && of off (rule_no r)) ≡ false → ended b k (lent on off) ≡ shown b k (lent on off)
  unfolding ended
  ended-shown h = rw (sym clashing-is ∙ h)

-- ---- a rule's body, asked by a table of atoms

module _ (s : List ℕ) (h : Shape) (e : ReadAs s h) (n : h.atoms < 256) (r : RuleNo) (l : r.0 < h.rules) (x : Atoms) (t : List Bool)
    (q : t ≡ atom_table x) where
  pub positive-every : every (atoms_in t) (rule (book_in s) r).pos ≡ every x (rule (book_in s) r).pos
  positive-every = rw q (every-table x _ (pos-small s h e n r l))

  pub negative-some : some (atoms_in t) (rule (book_in s) r).neg ≡ some x (rule (book_in s) r).neg
  negative-some = rw q (some-table x _ (neg_small s h e n r l))

-- ---- 55: a positive atom all of whose rules are off or listed

-- rule n has a positive atom all of whose rules are in the set
abbrev pub starved_by : Book → Rules → ℕ → Bool
starved_by b gone n = some (all_in b gone) (rule b (rule_no n)).pos

module _ (b : Book) (gone : Rules) (l : List ℕ) (i : ℕ) where
  pub starved-stops : i < length l → starved_by b gone (get_or l i 0) ≡ false
      → every (λ r. some (all_in b gone) (rule b r).pos) (map rule_no l) ≡ false
  starved-stops h z = every_map _ rule_no l ∙ every_here _ l i 0 h z

  pub starved-next : i < length l → starved_by b gone (get_or l i 0) ≡ true → every (starved_by b gone) (take i l) ≡ true
      → every (starved_by b gone) (take (i + 1) l) ≡ true
  starved-next h z w = every-all-next _ l i 0 h z w

  pub starved-end : length l ≤ i → every (starved_by b gone) (take i l) ≡ true
      → every (λ r. some (all_in b gone) (rule b r).pos) (map rule_no l) ≡ true
  starved-end h w = every_map _ rule_no l ∙ every-all-end _ l i h w

-- gone holds the rules that are off and those of the list
pub unfounded-by : (b : Book) (off gone : Rules) (l : List ℕ) → gone ≡ plus off (map rule_no l)
    → every (λ r. some (all_in b gone) (rule b r).pos) (map rule_no l) ≡ unfounded b off (map rule_no l)
unfolding unfounded
unfounded-by b off gone l p = rw p
