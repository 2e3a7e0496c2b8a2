-- Propagation and support in turn keep to the closing, and where nothing is unsupported the pair is closed: the steps of `close` (document
-- 01, "Closing repeats these until nothing is added"; blueprint C2).
use mathlib.Core.Path.{◌≡◌, refl, sym, ◌∙◌, ap, subst}
use mathlib.Core.Logic.{◌⊎◌, inl, inr, ⊎_elim}
use mathlib.Core.Bool.{Bool, true, false, not, ◌&&◌, ◌||◌, or-false}
use mathlib.Core.List.{List}
use Prim.Native.Nat.{ℕ, ◌≤◌, ◌<◌}
use native.Mathlib.Nat.{zero-add}
use native.Mathlib.Omega.{arith}
use lib.Dec.{ltb}
use lib.Seq.{ext_get_or}
use borrow.Author.Tests.{not-true, le-ltb, lt-ltb}
use Rattle.meaning.specs.declared.RuleNo.{RuleNo}
use Rattle.meaning.specs.Sets.{◌∈◌, ◌∉◌}
use Rattle.meaning.specs.Books.{Rules, Book, rule_no, count, InBook}
use Rattle.meaning.specs.Colours.{Pair, Side, on_side, off_side, Under, Closed}
use Rattle.meaning.specs.Bits.{below, less, table_from, listed}
use Rattle.meaning.specs.Written.{Tables, of, stamp_from, coloured, colour, chosen, lent, pair}
use Rattle.meaning.specs.Lowest.{Pick, lowest_from, lowest, in_both, clashed}
use Rattle.meaning.specs.Computed.{support, newly, new_levels, close}
use Rattle.meaning.specs.Propagation.{Propagated, Propagation, propagate}
use Rattle.meaning.specs.Pending.{joined}
use Rattle.meaning.specs.Suspects.{Settled}
use Rattle.meaning.proofs.Tests.{both, and_left, and_right, either, or_left, or_right, same, true-and-false, refuted, decided, not_first}
use Rattle.meaning.proofs.Rules.{some-rule-by, some-rule-one, within-off, within-trans}
use Rattle.meaning.proofs.RulesIn.{rules-fewer}
use Rattle.meaning.proofs.Written.{Sized, of-set}
use Rattle.meaning.proofs.Stamps.{length-stamp}
use Rattle.meaning.proofs.Support.{support-is, length-support}
use Rattle.meaning.proofs.Listed.{listed-long, table-long, table_at}
use Rattle.meaning.proofs.Additions.{Reached, reached-start, reached-closing}
use Rattle.meaning.proofs.Propagation.{reached-propagation, reached-unsupported, reached-propagated}
use Rattle.meaning.proofs.Propagate.{propagate-is, propagate-untouched}
use Rattle.meaning.proofs.Remaining.{remaining, remaining-more}
use Rattle.meaning.proofs.Suspects.{settled-after}
use Rattle.meaning.proofs.ClosedMarks.{closed-support}
use Rattle.meaning.proofs.Closing.{closing-computed}
use Rattle.closing.specs.Ended.{ClosedTo, ended_at}
use Rattle.closing.specs.Dropped.{unheld, Dropped}
use Rattle.closing.proofs.Searches.{lowest-in}

-- the sets of a closing that started from a pair
pub record UnderWay (b : Book) (start c : Pair) : Type 0 where
  pub reached : Reached b start c
  pub on-outside : (r : RuleNo) → count b ≤ r.0 → c.on r ≡ start.on r
  pub off-outside : (r : RuleNo) → count b ≤ r.0 → c.off r ≡ start.off r

pub closes-start : (b : Book) (c : Pair) → UnderWay b c c
closes-start b c = record { reached = reached-start b c; on-outside = λ r h. refl; off-outside = λ r h. refl }

-- ---- propagation

module _ (b : Book) (few : count b ≤ 255) (c : Tables) (sized : Sized c) {on off : List Bool}
    (e : on ≡ (propagate b c).on) (f : off ≡ (propagate b c).off) where
  pub propagated-to : Propagation b (pair c) (lent on off)
  propagated-to = rw (e, f) (propagate-is b few c sized)

  pub closes-propagated : {start : Pair} → UnderWay b start (pair c) → UnderWay b start (lent on off)
  closes-propagated s = record {
    reached = reached-propagation b s.reached propagated-to;
    on-outside = λ r h. rw e ((propagate-untouched b few c sized).on r h) ∙ s.on-outside r h;
    off-outside = λ r h. rw f ((propagate-untouched b few c sized).off r h) ∙ s.off-outside r h;
  }

  pub propagated-off : Under b (of c.off) (of off)
  propagated-off = within-off b propagated-to.good.above

  pub propagated-no-more : remaining b (lent on off) ≤ remaining b (pair c)
  propagated-no-more = remaining-more b propagated-to.good.above

-- a rule that is put in takes none away
pub put-stays : (x : Side) (r : RuleNo) (on off : List ℕ) → r.0 < 256 → (q : RuleNo) → q ∈ of (listed off)
    → q ∈ of (colour x r (coloured (listed on) (listed off))).off
put-stays on_side r on off low q m = m
put-stays off_side r on off low q m = ap (λ (s : Rules). s q) (of-set (listed off) r (omega (arith, listed-long off))) ∙ or_left _ m

-- a choice puts its rule on its side
pub pair-chosen : (x : Side) (r : RuleNo) (c : Tables) → pair (colour x r (coloured c.on c.off)) ≡ pair (chosen x r c)
pair-chosen on_side r c = refl
pair-chosen off_side r c = refl

-- ---- what nothing holds up goes off

module _ (b : Book) (few : count b ≤ 255) (off off' : Rules) (d : off' ≡ joined off (unheld b off)) where
  gone : (r : RuleNo) → r ∈ off' → (r ∈ off) ⊎ (r ∉ of (support b off))
  unfolding unheld
  gone r m = ⊎_elim (λ i. inl i)
      (λ i. inr (not-true _ (and_right (ltb r.0 (count b)) _ (and_left (ltb r.0 (count b) && not (of (support b off) r)) _ i))))
      (either (off r) _ (ap (λ (s : Rules). s r) (sym d) ∙ m))

  still : (r : RuleNo) → r ∈ off → r ∈ off'
  still r m = ap (λ (s : Rules). s r) d ∙ or_left _ m

  pub dropped-above : Under b off off'
  dropped-above r h = still r

  pub closes-dropped : (on : Rules) {start : Pair} → UnderWay b start (record { on = on; off = off }) → UnderWay b start (record { on = on; off = off' })
  unfolding unheld
  closes-dropped on s = record {
    reached = reached-unsupported b s.reached (support-is b off few) off' (λ r h. still r) (λ r h. gone r);
    on-outside = s.on-outside;
    off-outside = λ r h.
        ap (λ (s : Rules). s r) d
        ∙ ap (λ (x : Bool). off r || x) (not_first _ (not_first _ (le-ltb r.0 (count b) h))) ∙ or-false (off r) ∙ s.off-outside r h;
  }

  -- with these off all others are supported
  pub dropped-settled : Settled b off'
  unfolding unheld
  dropped-settled = settled-after b (support-is b off few) (λ r h. ⊎_elim
      (λ m. or_left _ m ∙ sym (still r m)) (λ n. ap (λ (x : Bool). off r || x) (added r h n) ∙ ap (λ (s : Rules). s r) (sym d)) (decided (off r)))
    where
      added : (r : RuleNo) → InBook b r → r ∉ off → not (of (support b off) r) ≡ unheld b off r
      added r h n = same _ _ (λ m. both (both (lt-ltb r.0 (count b) h) m) (ap not n))
          (λ m. and_right (ltb r.0 (count b)) _ (and_left (ltb r.0 (count b) && not (of (support b off) r)) _ m))

module _ (b : Book) (few : count b ≤ 255) (off off' : Rules) {more : Bool} (d : Dropped b off more off') where
  pub dropped-less : (on : Rules) → more ≡ true → remaining b (record { on = on; off = off' }) < remaining b (record { on = on; off = off })
  unfolding remaining unheld
  dropped-less on e =
      let (r, h, m) = some-rule-by b _ (sym d.more ∙ e) in
      let n : off r ≡ false = not-true _ (and_right (ltb r.0 (count b) && not (of (support b off) r)) _ m) in
      let i : off' r ≡ true = ap (λ (s : Rules). s r) d.gone ∙ or_right (off r) m in
      let up : (q : RuleNo) → InBook b q → not (off' q) ≡ true → not (off q) ≡ true =
      λ q g z. ap not (refuted (λ o. true-and-false (dropped-above b few off off' d.gone q g o) (not-true _ z))) in
      omega (arith, rules-fewer b (λ q. not (off q)) (λ q. not (off' q)) up r h (ap not n) (ap not i))

  -- where there was none
  none_left : more ≡ false → (r : RuleNo) → InBook b r → r ∉ of (support b off) → r ∈ off
  unfolding unheld
  none_left e r h n = ⊎_elim (λ o. o)
      (λ o. true-and-false (some-rule-one b (unheld b off) r h (both (both (lt-ltb r.0 (count b) h) (ap not n)) (ap not o))) (sym d.more ∙ e))
      (decided (off r))

-- ---- the end of the closing

-- in a closed pair the marks are the rules that are not off
marks-live : (b : Book) → count b ≤ 255 → {n : ℕ} → count b ≡ n → (on off : List Bool) → Closed b (lent on off)
    → table_from 0 256 (less (below n) (λ i. of off (rule_no i))) ≡ support b (of off)
unfolding of
marks-live b few {n} e on off k = ext_get_or false _ _ (table-long 0 256 _ ∙ sym (length-support b (of off) few)) (λ i h.
    table_at 0 256 (less (below n) (λ i. of off (rule_no i))) i (omega (arith, h, table-long 0 256 (less (below n) (λ i. of off (rule_no i)))))
    ∙ ap (λ (j : ℕ). ltb j n && not (of off (rule_no j))) (zero-add i) ∙ ap (λ (m : ℕ). ltb i m && not (of off (rule_no i))) (sym e)
    ∙ sym (closed-support b few (lent on off) k (rule_no i)))

-- where nothing is unsupported
pub closed-to : (b : Book) → count b ≤ 255 → (start : Pair) (on off off' : List ℕ) {more : Bool}
    → UnderWay b start (lent (listed on) (listed off)) → Propagated b (lent (listed on) (listed off))
    → Dropped b (of (listed off)) more (of (listed off')) → more ≡ false → ClosedTo b start (lent (listed on) (listed off'))
closed-to b few start on off off' s k d e =
    let closing = reached-propagated b s.reached k (support-is b (of (listed off)) few) (none_left b few _ _ d e) in
    subst (λ (o : Rules). ClosedTo b start (record { on = of (listed on); off = o })) (sym (d.rests e))
    (record { closing = closing; on-outside = s.on-outside; off-outside = s.off-outside })

-- what was reached before goes before
pub closed-behind : (b : Book) {start c d : Pair} → UnderWay b start c → ClosedTo b c d → ClosedTo b start d
closed-behind b s k = record {
  closing = reached-closing b
      (record {
        above = within-trans b s.reached.above k.closing.good.above;
        below = λ e g. k.closing.least e (record { above = s.reached.below e g; closed = g.closed });
      })
      k.closing.good.closed;
  on-outside = λ r h. k.on-outside r h ∙ s.on-outside r h;
  off-outside = λ r h. k.off-outside r h ∙ s.off-outside r h;
}

pub closes-end : (b : Book) → count b ≤ 255 → (c : Tables) → Sized c → (on off : List ℕ)
    → ClosedTo b (pair c) (lent (listed on) (listed off)) → {n : ℕ} → count b ≡ n → {d : Tables}
    → d ≡ ended_at n c (listed on) (listed off) → d ≡ close b c
unfolding new_levels
closes-end b few c long on off k {n} i z =
    z ∙ closing-computed b few c _ long
    (record {
      on = listed-long on;
      off = listed-long off;
      marks = table-long 0 256 _;
      levels = length-stamp 0 _ _ c.level c.levels ∙ long.levels;
    })
    k.closing (marks-live b few i (listed on) (listed off) k.closing.good.closed)
    (record { on = k.on-outside; off = k.off-outside })
    refl (ap (λ (m : ℕ). stamp_from 0 m (newly (pair c) (lent (listed on) (listed off))) c.level c.levels) (sym i))

-- the rule told of a contradiction, where the search among the first rules has found it
pub clash-end : (b : Book) (c : Tables) {n : ℕ} → count b ≡ n → {d : Tables} → d ≡ close b c → (on off : List Bool)
    → pair d ≡ lent on off → {p : Pick} → p ≡ lowest_from 0 n (in_both (lent on off)) → p ≡ clashed b (pair (close b c))
unfolding clashed
clash-end b c e q on off g f =
    lowest-in b e _ f ∙ sym (ap (λ (k : Pair). lowest b (in_both k)) g) ∙ ap (λ (d : Tables). lowest b (in_both (pair d))) q
