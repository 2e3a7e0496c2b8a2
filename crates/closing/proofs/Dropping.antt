-- The rules that nothing holds up, as words (src/unsupported.rt): found from nothing, they are the rules of the book, less the marks, less
-- those that are off; found by suspects, they are the suspects that are not held.
use mathlib.Core.Path.{◌≡◌, refl, sym, ap, ap₂, ◌∙◌, fun_ext}
use mathlib.Core.Logic.{⊎_elim}
use mathlib.Core.Bool.{Bool, true, not, ◌&&◌, ◌||◌, or-false}
use mathlib.Core.List.{List}
use Prim.Native.Nat.{ℕ, ◌≤◌}
use native.Mathlib.Omega.{arith}
use lib.Dec.{ltb}
use lib.ListN.{replicate}
use borrow.Author.Tests.{not-true, lt-ltb, le-ltb, ltb-true}
use Rattle.meaning.specs.declared.RuleNo.{RuleNo}
use Rattle.meaning.specs.Sets.{◌∉◌, every_below, some_below}
use Rattle.meaning.specs.Books.{Rules, Book, rule_no, count, InBook, some_rule}
use Rattle.meaning.specs.Colours.{Under}
use Rattle.meaning.specs.Bits.{none, below, plus, less, implied, members, listed}
use Rattle.meaning.specs.Written.{of}
use Rattle.meaning.specs.Computed.{support}
use Rattle.meaning.specs.Pending.{joined}
use Rattle.meaning.specs.Suspects.{Alike, Settled, Suspects, Cleared}
use Rattle.meaning.proofs.Tests.{and_left, and_right, same, decided, true-and-false, refuted, not_first, implies}
use Rattle.meaning.proofs.Sets.{below_at, below-some, below_one}
use Rattle.meaning.proofs.Rules.{some-rule-by, some-rule-one, in-book-or-not}
use Rattle.meaning.proofs.Four.{members-small, members-nothing}
use Rattle.meaning.proofs.Support.{support-is, support-unique}
use Rattle.meaning.proofs.Suspects.{settled-alike, cleared-is, rest-unsupported}
use Rattle.closing.specs.Clearing.{Inside}
use Rattle.closing.specs.Dropped.{unheld, Dropped}
use Rattle.closing.proofs.Falling.{at-rule}
use Rattle.closing.proofs.Raising.{less-listed}
use Rattle.closing.proofs.Propagating.{none_in, one_in}

-- ---- found from nothing

pub unheld-marked : (b : Book) {n : ℕ} → count b ≡ n → (off marks all held v y rest : List ℕ) → members all ≡ below n
    → listed marks ≡ support b (of (listed off)) → members held ≡ less (members all) (members v) → v ≡ marks
    → members rest ≡ less (members held) (members y) → y ≡ off → of (listed rest) ≡ unheld b (of (listed off))
unfolding unheld
unheld-marked b c off marks all held v y rest a m p pv q qy = fun_ext (λ r.
    less-listed rest held y held off q refl qy r ∙ ap (λ (z : Bool). z && not (of (listed off) r)) (less-listed held all v all marks p refl pv r
    ∙ ap₂ (λ (x y : Bool). x && not y) (at-rule all a r ∙ ap (λ (k : ℕ). ltb r.0 k) (sym c)) (ap (λ (l : List Bool). of l r) m)))

-- ---- found by suspects

module _ (b : Book) (few : count b ≤ 255) where
  -- with these off all others are supported
  settled-unheld : (off : Rules) → Settled b off → (r : RuleNo) → r ∉ unheld b off
  unfolding unheld
  settled-unheld off k r = refuted (λ m.
      let i = and_left (ltb r.0 (count b) && not (of (support b off) r)) _ m in
      let h = ltb-true r.0 (count b) (and_left (ltb r.0 (count b)) _ i) in
      true-and-false (support-unique b (support-is b off few) k r h ∙ and_right (ltb r.0 (count b) && not (of (support b off) r)) _ m)
      (not-true _ (and_right (ltb r.0 (count b)) _ i)))

  -- off is what it was
  pub unheld-settled : (old off w v : List ℕ) → Settled b (of (listed old)) → Under b (of (listed old)) (of (listed off)) → w ≡ off → v ≡ old
      → {x : Bool} → x ≡ every_below 256 (implied (members w) (members v)) → x ≡ true
      → of (listed (replicate 4 0)) ≡ unheld b (of (listed off))
  unheld-settled old off w v k u e f g t = fun_ext (λ r. at-rule (replicate 4 0) members-nothing r
      ∙ sym (settled-unheld (of (listed off)) (settled-alike b alike k) r))
    where
      alike : Alike b (of (listed old)) (of (listed off))
      alike r h = same _ _ (u r h) (λ m.
          let i = ap (λ (l : List ℕ). members l r.0) e ∙ sym (at-rule off refl r) ∙ m in
          at-rule old refl r ∙ ap (λ (l : List ℕ). members l r.0) (sym f)
          ∙ implies (members w r.0) (members v r.0) (below_at 256 _ (sym g ∙ t) r.0 (members-small w r.0 i)) i)

  pub unheld-suspected : {n : ℕ} → count b ≡ n → (old off s all live u first y held left p q : List ℕ) → Settled b (of (listed old)) → Under b (of (listed old)) (of (listed off))
      → Suspects b (of (listed old)) (of (listed off)) (of (listed s)) → Inside b (of (listed s))
      → members all ≡ below n → members live ≡ less (members all) (members u) → u ≡ off → members first ≡ less (members live) (members y) → y ≡ s
      → Cleared b (of (listed s)) (of (listed first)) (of (listed held)) → members left ≡ less (members p) (members q) → p ≡ s → q ≡ held
      → of (listed left) ≡ unheld b (of (listed off))
  unfolding unheld
  unheld-suspected e old off s all live u first y held left p q k under g inside a l lu f fy c m mp mq = fun_ext (λ r. rest r ∙ ⊎_elim
      (λ h. rest-unsupported b k under g others c r h ∙ ap (λ (v : Bool). v && not (of (listed off) r))
      (ap not (support-unique b (cleared-is b k under g others c) (support-is b (of (listed off)) few) r h)
      ∙ sym (ap (λ (z : Bool). z && not (of (support b (of (listed off))) r)) (lt-ltb r.0 (count b) h))))
      (λ h. not_first _ (inside r h) ∙ sym (not_first _ (not_first _ (le-ltb r.0 (count b) h))))
      (in-book-or-not b r))
    where
      rest : (r : RuleNo) → of (listed left) r ≡ (of (listed s) r && not (of (listed held) r))
      rest = less-listed left p q s held m mp mq

      others : Alike b (of (listed first)) (λ r. not (of (listed off) r) && not (of (listed s) r))
      others r h = less-listed first live y live s f refl fy r ∙ ap (λ (v : Bool). v && not (of (listed s) r)) (less-listed live all u all off l refl lu r
          ∙ ap (λ (v : Bool). v && not (of (listed off) r)) (at-rule all a r ∙ lt-ltb r.0 _ (omega (arith, e))))

-- ---- they go off

-- whether there is one among the words
pub some_in : (w v z : List ℕ) → v ≡ w → members z ≡ none → {x : Bool} → x ≡ every_below 256 (implied (members v) (members z))
    → not x ≡ some_below 256 (members w)
some_in w v z e n {x} f = ⊎_elim
    (λ t. ap not t ∙ sym (refuted (λ m. let (i, l, k) = below-some 256 (members w) m in true-and-false k (none_in w v z e n f t (record { 0 = i })))))
    (λ t. ap not t ∙ sym (let (a, k) = one_in w v z e n f t in below_one 256 (members w) a.0 (members-small w a.0 k) k))
    (decided x)

-- what is joined has gone off
pub gone-off : (b : Book) (off off' rest : List ℕ) → of (listed rest) ≡ unheld b (of (listed off)) → members off' ≡ plus (members off) (members rest)
    → of (listed off') ≡ joined (of (listed off)) (unheld b (of (listed off)))
gone-off b off off' rest u e =
    fun_ext (λ r. at-rule off' e r ∙ ap₂ ◌||◌ (sym (at-rule off refl r)) (sym (at-rule rest refl r) ∙ ap (λ (z : Rules). z r) u))

pub dropped-by : (b : Book) (off off' rest : List ℕ) {more : Bool} → of (listed rest) ≡ unheld b (of (listed off))
    → members off' ≡ plus (members off) (members rest) → more ≡ some_below 256 (members rest)
    → Dropped b (of (listed off)) more (of (listed off'))
unfolding unheld
dropped-by b off off' rest {more} u e f = record {
  more = f ∙ same _ _ to from;
  gone = gone-off b off off' rest u e;
  rests = λ n. gone-off b off off' rest u e ∙ fun_ext (λ r. ap (λ (x : Bool). of (listed off) r || x) (refuted (λ m.
      let i = ap (λ (z : Rules). z r) u ∙ m in
      let j = sym (at-rule rest refl r) ∙ i in
      true-and-false (below_one 256 (members rest) r.0 (members-small rest r.0 j) j) (sym f ∙ n))) ∙ or-false (of (listed off) r));
}
  where
    inside : (r : RuleNo) → unheld b (of (listed off)) r ≡ true → InBook b r
    inside r m = ltb-true r.0 (count b) (and_left (ltb r.0 (count b)) _
        (and_left (ltb r.0 (count b) && not (of (support b (of (listed off))) r)) _ m))

    to : some_below 256 (members rest) ≡ true → some_rule b (unheld b (of (listed off))) ≡ true
    to m = let (i, l, k) = below-some 256 (members rest) m in
        let h = ap (λ (z : Rules). z (rule_no i)) (sym u) ∙ at-rule rest refl (rule_no i) ∙ k in
        some-rule-one b (unheld b (of (listed off))) (rule_no i) (inside (rule_no i) h) h

    from : some_rule b (unheld b (of (listed off))) ≡ true → some_below 256 (members rest) ≡ true
    from m = let (r, h, k) = some-rule-by b (unheld b (of (listed off))) m in
        let j = sym (at-rule rest refl r) ∙ ap (λ (z : Rules). z r) u ∙ k in
        below_one 256 (members rest) r.0 (members-small rest r.0 j) j
