-- The suspects, as the functions of src/suspected.rt find them: by the rows of the doubted atoms, and by looking for a free rule among the
-- live ones of a head.
use mathlib.Core.Path.{◌≡◌, refl, sym, ap, ap₂, ◌∙◌, fun_ext}
use mathlib.Core.Logic.{⊎_elim}
use mathlib.Core.Bool.{Bool, true, false, not, ◌&&◌, ◌||◌}
use mathlib.Core.List.{List}
use Prim.Native.Nat.{ℕ, ◌+◌, ◌≤◌, ◌<◌}
use native.Mathlib.Decide.{ℕ_discrete, dec_lt}
use native.Mathlib.Omega.{arith}
use lib.Dec.{ltb}
use lib.ListN.{length, length-map}
use borrow.Author.Tests.{lt-ltb, eq-eqb, ne_eqb}
use Rattle.meaning.specs.declared.AtomNo.{AtomNo}
use Rattle.meaning.specs.declared.RuleNo.{RuleNo}
use Rattle.meaning.specs.Sets.{Set, ◌∈◌, some}
use Rattle.meaning.specs.Books.{Atoms, Rules, Rule, Book, rule_no, same_atom, rule, count, some_rule}
use Rattle.meaning.specs.Colours.{heads}
use Rattle.meaning.specs.Bits.{none, plus, less as less-in, members, listed, NextIn}
use Rattle.meaning.specs.Written.{of}
use Rattle.meaning.specs.Engine.{less}
use Rattle.meaning.specs.Suspects.{live, free, sure, doubted, standing}
use Rattle.meaning.proofs.Tests.{both, and_left, and_right, either, same, true-and-false, refuted}
use Rattle.meaning.proofs.Rules.{same-atom, atom-same, some-rule-by, some-rule-one, heads-of, heads-by}
use Rattle.book.specs.Writing.{atom_bytes}
use Rattle.book.specs.RuleRows.{row, sets, RuleRows}
use Rattle.closing.specs.News.{atom_set, rows_below}
use Rattle.closing.specs.Clearing.{Inside, Suspected}
use Rattle.closing.proofs.Falling.{at-rule}
use Rattle.closing.proofs.Spreading.{outside, rows-pos}
use Rattle.closing.proofs.Raising.{less-listed}

-- ---- a free rule

-- what the length of the part says
module _ (p : Rule) (part : List ℕ) (e : part ≡ atom_bytes p.pos) where
  long : length part ≡ length p.pos
  long = ap length e ∙ length-map p.pos (λ a. a.0)

  pub free-yes : length part ≡ 0 → free p ≡ true
  unfolding free
  free-yes z = eq-eqb (length p.pos) 0 (sym long ∙ z)

  pub free-no : (length part ≡ 0 → ⊥) → free p ≡ false
  unfolding free
  free-no f = ne_eqb (length p.pos) 0 (λ z. f (long ∙ z))

module _ (b : Book) (w : List ℕ) where
  -- no rule of the set below r is free
  abbrev pub NoneFree : ℕ → Type 0
  NoneFree r = (q : RuleNo) → q.0 < r → q ∈ of (listed w) → free (rule b q) ≡ false

  pub free-start : (r : ℕ) → NextIn (members w) 0 r → NoneFree r
  free-start r p q l m = true-and-false (sym (at-rule w refl q) ∙ m) (p.passed q.0 (omega arith) l)

  pub free-turn : (r m : ℕ) → NextIn (members w) (r + 1) m → free (rule b (rule_no r)) ≡ false → NoneFree r → NoneFree m
  free-turn r m p f n q l i = elim (dec_lt q.0 r) [
    | yes k ↦ n q k i
    | no k ↦ elim (ℕ_discrete q.0 r) [
      | yes e ↦ ap (λ (j : ℕ). free (rule b (rule_no j))) e ∙ f
      | no d ↦ true-and-false (sym (at-rule w refl q) ∙ i) (p.passed q.0 (omega arith) l)
    ]
  ]

  pub free-none : (r : ℕ) → count b ≤ r → NoneFree r → false ≡ some_rule b (λ q. of (listed w) q && free (rule b q))
  free-none r h n = sym (refuted (λ e.
      let (q, l, m) = some-rule-by b (λ q. of (listed w) q && free (rule b q)) e in
      true-and-false (and_right (of (listed w) q) _ m) (n q (omega arith) (and_left (of (listed w) q) _ m))))

  pub free_one : (from r : ℕ) → NextIn (members w) from r → r < count b → r < 256 → free (rule b (rule_no r)) ≡ true
      → true ≡ some_rule b (λ q. of (listed w) q && free (rule b q))
  free_one from r p h low f =
      sym (some-rule-one b (λ q. of (listed w) q && free (rule b q)) (rule_no r) h (both (at-rule w refl (rule_no r) ∙ (p.within low).1) f))

-- the live rules of a head, asked for a free one
pub sure-asked : (b : Book) (t : List ℕ) → RuleRows b t → (a : AtomNo) → a.0 < 256 → (off w u v : List ℕ)
    → members w ≡ less-in (members u) (members v) → u ≡ row t a.0 → v ≡ off → {x : Bool}
    → x ≡ some_rule b (λ r. of (listed w) r && free (rule b r)) → x ≡ sure b (of (listed off)) a
unfolding sure sets
sure-asked b t k a low off w u v e f g {x} z = z ∙ same _ _
    (λ m. let (r, h, i) = some-rule-by b (λ r. of (listed w) r && free (rule b r)) m in
    let l = sym (in-set r) ∙ and_left (of (listed w) r) _ i in
    let o = and_left (row_of r) _ l in
    let q = same-atom (and_right (ltb r.0 (count b)) _ (sym (rows_at r) ∙ o)) in
    ap (heads b found) (sym q) ∙ heads-of b found r h (both (and_right (row_of r) _ l) (and_right (of (listed w) r) _ i)))
    (λ m. let (r, h, i, q) = heads-by b found a m in
    some-rule-one b (λ r. of (listed w) r && free (rule b r)) r h
    (both (in-set r ∙ both (rows_at r ∙ both (lt-ltb r.0 (count b) h) (atom-same q)) (and_left (not (of (listed off) r)) _ i)) (and_right (not (of (listed off) r)) _ i)))
  where
    found : Rules
    found r = live (of (listed off)) r && free (rule b r)

    row_of : Rules
    row_of r = members (row t a.0) r.0

    in-set : (r : RuleNo) → of (listed w) r ≡ (row_of r && not (of (listed off) r))
    in-set r = at-rule w e r ∙ ap₂ (λ (x y : Bool). x && not y) (ap (λ (l : List ℕ). members l r.0) f)
        (ap (λ (l : List ℕ). members l r.0) g ∙ sym (at-rule off refl r))

    rows_at : (r : RuleNo) → row_of r ≡ (ltb r.0 (count b) && same_atom (rule b r).head a)
    rows_at r = ap (λ (s : Set ℕ). s r.0) (k.head a.0 low)

-- ---- a turn

-- the rules that stand on the atoms, less those that are off, less those that are known
module _ (b : Book) (t : List ℕ) (k : RuleRows b t) (off todo s zero on d fresh u v y : List ℕ) (n : members zero ≡ none)
    (e : members on ≡ plus (members zero) (rows_below t 256 (members todo) 256))
    (f : members d ≡ less-in (members u) (members v)) (fu : u ≡ on) (fv : v ≡ off)
    (g : members fresh ≡ less-in (members d) (members y)) (gy : y ≡ s) where
  fresh_at : (r : RuleNo) → of (listed fresh) r ≡ less (standing b (of (listed off)) (atom_set todo)) (of (listed s)) r
  unfolding standing
  fresh_at r = less-listed fresh d y d s g refl gy r ∙ ap (λ (p : Bool). p && not (of (listed s) r)) (less-listed d u v on off f fu fv r
      ∙ ap (λ (p : Bool). p && not (of (listed off) r)) (at-rule on e r ∙ ap (λ (z : Set ℕ). z r.0 || rows_below t 256 (members todo) 256 r.0) n ∙ rows-pos b t k todo r)
      ∙ swapped (some (atom_set todo) (rule b r).pos) (not (of (listed off) r)))
    where
      swapped : (p q : Bool) → (p && q) ≡ (q && p)
      swapped true true = refl
      swapped true false = refl
      swapped false true = refl
      swapped false false = refl

  pub suspected : (s' todo' : List ℕ) → members s' ≡ plus (members s) (members fresh)
      → atom_set todo' ≡ doubted b (of (listed off)) (of (listed fresh))
      → Suspected b (of (listed off)) (of (listed s)) (atom_set todo) (of (listed s')) (atom_set todo')
  suspected s' todo' h i = record {
    suspects-now = fun_ext (λ r. at-rule s' h r ∙ ap₂ ◌||◌ (sym (at-rule s refl r)) (sym (at-rule fresh refl r) ∙ fresh_at r));
    todo-now = i ∙ ap (λ (z : Rules). doubted b (of (listed off)) z) (fun_ext fresh_at);
  }

-- the doubted heads of the rules that went off, by value
pub went-off : (b : Book) (old off w u v : List ℕ) → members w ≡ less-in (members u) (members v) → u ≡ off → v ≡ old
    → doubted b (of (listed off)) (of (listed w)) ≡ doubted b (of (listed off)) (less (of (listed off)) (of (listed old)))
went-off b old off w u v e f g = ap (λ (z : Rules). doubted b (of (listed off)) z) (fun_ext (less-listed w u v off old e f g))

-- no rule outside the book is suspected
pub suspected-inside : (b : Book) (off s : Rules) (todo : Atoms) {s' : Rules} {todo' : Atoms} → Suspected b off s todo s' todo'
    → Inside b s → Inside b s'
unfolding standing some
suspected-inside b off s todo k i r h = refuted (λ m. ⊎_elim (λ p. true-and-false p (i r h))
    (λ p. true-and-false (and_right (not (off r)) _ (and_left (standing b off todo r) _ p)) (ap (λ (q : Rule). some todo q.pos) (outside b r h)))
    (either (s r) _ (ap (λ (z : Rules). z r) (sym k.suspects-now) ∙ m)))
