-- The witness as it is checked, byte by byte: one turn of each pass and its end, and what the tables hold of the rules listed so far.
-- Document 01, number 27.
use mathlib.Core.Path.{◌≡◌, refl, sym, ◌∙◌, ap, fun_ext}
use mathlib.Core.Logic.{⊎_elim}
use mathlib.Core.Bool.{Bool, true, false, not, ◌||◌, or_comm, or-false, false≢true}
use mathlib.Core.List.{List, [], ◌∷◌, map, Memᴰ}
use Prim.Native.Nat.{ℕ, zero, suc, ◌+◌, ◌-◌, ◌≤◌, ◌<◌}
use native.Mathlib.Nat.{add-zero, add_assoc, not-suc-le-zero, le_of_suc-le-suc}
use native.Mathlib.Numerals.{add-one}
use native.Mathlib.Omega.{arith}
use lib.Dec.{ltb}
use lib.ListN.{length, get_or, set, take, drop, replicate, drop_of_length-le, length-replicate, length-set}
use lib.Seq.{drop-cons}
use borrow.Author.Tests.{ltb-true, lt-ltb, le-ltb}
use Rattle.meaning.specs.declared.AtomNo.{AtomNo}
use Rattle.meaning.specs.declared.RuleNo.{RuleNo}
use Rattle.meaning.specs.Choice.{ifb}
use Rattle.meaning.specs.Sets.{◌∈◌, every, some, every_below}
use Rattle.meaning.specs.Books.{Atoms, Rules, rule_no, same_rule, among, Rule, Book, count, rule, InBook, every_rule}
use Rattle.meaning.specs.Colours.{heads, plus, Under}
use Rattle.meaning.specs.Paper.{fails}
use Rattle.meaning.specs.Written.{of}
use Rattle.meaning.proofs.Choice.{b-yes, b-no, b-either}
use Rattle.meaning.proofs.Tests.{both, and_left, not_first, not-second, or_left, or_right, either, same, decided, refuted}
use Rattle.meaning.proofs.Sets.{some-of-not-every, none-of-every}
use Rattle.meaning.proofs.Rules.{same-rule, rule-same, heads-of, heads-by, heads-mono, every-rule-at, every-rule-all}
use Rattle.meaning.proofs.Written.{of_none, of-set}
use Rattle.book.specs.Tables.{atom_table, atoms_in, Below}
use Rattle.book.proofs.AtomSets.{table_same, table_filled, table-set}
use Rattle.book.proofs.Asked.{every-table}
use Rattle.book.specs.declared.reader.Shape.{Shape}
use Rattle.book.specs.Format.{book_in, ReadAs}
use Rattle.book.proofs.Places.{in-shape}
use Rattle.checker.specs.Witness.{fine, wrong, and_then, follows, order_of, blocked_of, rest_fails, list_of, witness_verdict}
use Rattle.checker.proofs.Witnesses.{then-both}
use Rattle.checker.proofs.Lists.{part-is, below_rest}
use Rattle.checker.proofs.Conditions.{positive-every, negative-some}

-- ---- number, repetition and positive atoms

-- the first i bytes are right: the rules of `before` are listed, and the rest decides
pub record Ordered (b : Book) (at : ℕ) (l : List ℕ) (i : ℕ) (listed headed : List Bool) : Type 0 where
  pub before : List RuleNo
  pub short : i ≤ length l
  pub rest : order_of b at [] l ≡ order_of b (at + i) before (drop i l)
  pub long : length listed ≡ 256
  pub set_is : of listed ≡ among before
  pub table_is : headed ≡ atom_table (heads b (among before))

module _ (b : Book) where
  no-heads : (a : AtomNo) → heads b (among []) a ≡ false
  unfolding some
  no-heads a = refuted (λ e. let (r, h, m, q) = heads-by b (among []) a e in false≢true m)

  -- a rule more is listed: its head is an atom more
  module _ (r : RuleNo) (h : InBook b r) (before : List RuleNo) where
    grown : Under b (among before) (among (r ∷ before))
    unfolding some
    grown q l m = or_right (same_rule q r) m

    listed-now : r ∈ among (r ∷ before)
    unfolding some
    listed-now = or_left _ (rule-same refl)

    head_more : (a : AtomNo) → ((rule b r).head ≡ a → ⊥) → heads b (among before) a ≡ heads b (among (r ∷ before)) a
    unfolding some
    head_more a n = same _ _ (heads-mono b grown a) (λ e. back (heads-by b (among (r ∷ before)) a e))
      where
        back : (q : RuleNo) × InBook b q × (q ∈ among (r ∷ before)) × ((rule b q).head ≡ a) → heads b (among before) a ≡ true
        back (q, l, m, p) = ⊎_elim (λ z. absurd (n (ap (λ x. (rule b x).head) (sym (same-rule z)) ∙ p)))
            (λ z. rw (← p) (heads-of b (among before) q l z)) (either (same_rule q r) _ m)

    -- the code stores at place k of the table, where it has read the head a
    heads-more : (headed : List Bool) (k : ℕ) (a : AtomNo) → headed ≡ atom_table (heads b (among before)) → k ≡ a.0 → a ≡ (rule b r).head
        → a.0 < 255 → set headed k true ≡ atom_table (heads b (among (r ∷ before)))
    heads-more headed k a t e q small =
        rw (t, e) (table-set _ _ a true small (rw q (heads-of b _ r h listed-now))
        (λ c n. head_more c (λ z. n (ap (λ (x : AtomNo). x.0) (sym (q ∙ z))))))

among-more : (listed : List Bool) (r : RuleNo) (before : List RuleNo) → r.0 < length listed → of listed ≡ among before
    → of (set listed r.0 true) ≡ among (r ∷ before)
unfolding some
among-more listed r before h e =
    of-set listed r h ∙ rw e (fun_ext (λ q. or_comm (among before q) _ ∙ ap (λ t. t || among before q) (or-false (same_rule q r))))

pub ordered-start : (b : Book) (at : ℕ) (l : List ℕ) (listed : List Bool) → listed ≡ replicate 256 false
    → Ordered b at l 0 listed (replicate 255 false)
unfolding some
ordered-start b at l listed e = record {
  before = [];
  short = omega arith;
  rest = rw add-zero;
  long = rw e (length-replicate 256 false);
  set_is = rw e (fun_ext (of_none 256));
  table_is = table_filled false ∙ table_same _ _ (λ a. sym (no-heads b a));
}

module _ {b : Book} {at : ℕ} {l : List ℕ} {i : ℕ} {listed headed : List Bool} (o : Ordered b at l i listed headed) where
  pub ordered_end : length l ≤ i → order_of b at [] l ≡ fine
  unfolding order_of
  ordered_end h = o.rest ∙ rw (drop_of_length-le l h)

  module _ (h : i < length l) where
    turn : order_of b at [] l
        ≡ ifb (follows b o.before (get_or l i 0)) (order_of b (at + i + 1) (rule_no (get_or l i 0) ∷ o.before) (drop (i + 1) l))
        (wrong (at + i))
    unfolding order_of
    turn = o.rest ∙ rw (add-one i, drop-cons l i 0 h)

    stops : follows b o.before (get_or l i 0) ≡ false → order_of b at [] l ≡ wrong (at + i)
    stops e = turn ∙ b-no _ _ _ e

    pub stops-number : count b ≤ get_or l i 0 → order_of b at [] l ≡ wrong (at + i)
    unfolding follows
    stops-number g = stops (not_first _ (le-ltb _ _ g))

    module _ where
      among-at : (v : Bool) → of listed (rule_no (get_or l i 0)) ≡ v → among o.before (rule_no (get_or l i 0)) ≡ v
      among-at v t = ap (λ (s : Rules). s (rule_no (get_or l i 0))) (sym o.set_is) ∙ t

      pub stops-again : of listed (rule_no (get_or l i 0)) ≡ true → order_of b at [] l ≡ wrong (at + i)
      unfolding follows
      stops-again t = stops (not-second (ltb (get_or l i 0) (count b)) (not_first _ (ap not (among-at true t))))

      -- the positive atoms have places in the table of heads
      module _ (small : (a : AtomNo) → Memᴰ a (rule b (rule_no (get_or l i 0))).pos → a.0 < 255) where
        heads-at : (v : Bool) → every (atoms_in headed) (rule b (rule_no (get_or l i 0))).pos ≡ v
            → every (heads b (among o.before)) (rule b (rule_no (get_or l i 0))).pos ≡ v
        heads-at v t = sym (every-table _ _ small) ∙ rw (← o.table_is) t

        pub stops-positive : every (atoms_in headed) (rule b (rule_no (get_or l i 0))).pos ≡ false → order_of b at [] l ≡ wrong (at + i)
        unfolding follows
        stops-positive t =
            stops (not-second (ltb (get_or l i 0) (count b)) (not-second (not (among o.before (rule_no (get_or l i 0)))) (heads-at false t)))

        pub ordered-next : get_or l i 0 < count b → count b ≤ 255 → of listed (rule_no (get_or l i 0)) ≡ false
            → every (atoms_in headed) (rule b (rule_no (get_or l i 0))).pos ≡ true → (now : List Bool) → now ≡ set listed (get_or l i 0) true → (m : ℕ) (a : AtomNo)
            → m ≡ a.0 → a ≡ (rule b (rule_no (get_or l i 0))).head → a.0 < 255 → Ordered b at l (i + 1) now (set headed m true)
        unfolding follows
        ordered-next g few t u now f m a q p s = record {
          before = rule_no (get_or l i 0) ∷ o.before;
          short = omega arith;
          rest = turn ∙ b-yes _ _ _ (both (lt-ltb _ _ g) (both (ap not (among-at false t)) (heads-at true u))) ∙ rw (add_assoc at i 1);
          long = ap length f ∙ length-set listed (get_or l i 0) true ∙ o.long;
          set_is = rw f (among-more listed (rule_no (get_or l i 0)) o.before (omega (arith, o.long)) o.set_is);
          table_is = heads-more b (rule_no (get_or l i 0)) g o.before headed m a o.table_is q p s;
        }

-- a list whose order is right has rules of the book only
module _ (b : Book) where
  order-first : (at : ℕ) (before : List RuleNo) (n : ℕ) (l : List ℕ) → order_of b at before (n ∷ l) ≡ fine
      → (n < count b) × (order_of b (at + 1) (rule_no n ∷ before) l ≡ fine)
  unfolding order_of follows
  order-first at before n l =
      b-either (λ c. c ≡ fine → (n < count b) × (order_of b (at + 1) (rule_no n ∷ before) l ≡ fine)) (follows b before n) _ _
      (λ t e. (ltb-true _ _ (and_left (ltb n (count b)) _ t), e)) (λ t e. let z : ◌≡◌ {A = ℕ} 0 1 = cc in absurd (omega arith))

  order-at : (at : ℕ) (before : List RuleNo) (l : List ℕ) → order_of b at before l ≡ fine → (i : ℕ) → i < length l → get_or l i 0 < count b
  order-at at before [] e i h = absurd (not-suc-le-zero h)
  order-at at before (n ∷ l) e zero h = (order-first at before n l e).0
  order-at at before (n ∷ l) e (suc i) h = order-at (at + 1) (rule_no n ∷ before) l (order-first at before n l e).1 i (le_of_suc-le-suc h)

  pub order_below : (at : ℕ) (l : List ℕ) → order_of b at [] l ≡ fine → Below (count b) l
  order_below at l e = record { at = order-at at [] l e }

  pub witness-below : (s : List ℕ) (from w : ℕ) → witness_verdict b s from w ≡ fine → Below (count b) (take w (drop from s))
  unfolding witness_verdict list_of
  witness-below s from w e = order_below from _ (then-both _ _ e).0

-- ---- negative atoms

module _ (b : Book) (l : List ℕ) (at i : ℕ) (x : Atoms) where
  pub blocked-end : length l ≤ i → blocked_of b x (at + i) (drop i l) ≡ fine
  unfolding blocked_of
  blocked-end h = rw (drop_of_length-le l h)

  blocked-turn : i < length l → blocked_of b x (at + i) (drop i l)
      ≡ ifb (some x (rule b (rule_no (get_or l i 0))).neg) (wrong (at + i)) (blocked_of b x (at + i + 1) (drop (i + 1) l))
  unfolding blocked_of
  blocked-turn h = rw (add-one i, drop-cons l i 0 h)

  pub blocked-stops : i < length l → some x (rule b (rule_no (get_or l i 0))).neg ≡ true → blocked_of b x (at + i) (drop i l) ≡ wrong (at + i)
  blocked-stops h e = blocked-turn h ∙ b-yes _ _ _ e

  pub blocked-next : i < length l → some x (rule b (rule_no (get_or l i 0))).neg ≡ false
      → blocked_of b x (at + i) (drop i l) ≡ blocked_of b x (at + (i + 1)) (drop (i + 1) l)
  blocked-next h e = blocked-turn h ∙ b-no _ _ _ e ∙ rw (add_assoc at i 1)

-- two sets that agree on the negative atoms of the rules below n
blocked-same : (b : Book) (n : ℕ) (x y : Atoms) → ((r : RuleNo) → r.0 < n → some x (rule b r).neg ≡ some y (rule b r).neg)
    → (at : ℕ) (l : List ℕ) → Below n l → blocked_of b x at l ≡ blocked_of b y at l
unfolding blocked_of
blocked-same b n x y f at [] h = refl
blocked-same b n x y f at (r ∷ l) h =
    rw (f (rule_no r) (h.at 0 (omega arith)), blocked-same b n x y f (at + 1) l (below_rest h))

-- ---- the rules that are not listed

module _ (x : Atoms) (r : Rule) where
  pub fails-positive : every x r.pos ≡ false → fails x r ≡ true
  unfolding fails
  fails-positive e = or_left _ (some-of-not-every (λ a n. ap not n) r.pos e)

  pub fails-negative : every x r.pos ≡ true → fails x r ≡ some x r.neg
  unfolding fails
  fails-negative e = rw (none-of-every (λ a m. ap not m) r.pos e)

fails-same : (x y : Atoms) (r : Rule) → every x r.pos ≡ every y r.pos → some x r.neg ≡ some y r.neg → fails x r ≡ fails y r
fails-same x y r p q = ⊎_elim (λ t. fails-negative x r (p ∙ t) ∙ q ∙ sym (fails-negative y r t))
    (λ t. fails-positive x r (p ∙ t) ∙ sym (fails-positive y r t)) (decided (every y r.pos))

module _ (b : Book) (s : Rules) where
  pub rest-stops : (r : RuleNo) → InBook b r → s r ≡ false → every_rule b s ≡ false
  rest-stops r h n = refuted (λ e. false≢true (sym n ∙ every-rule-at b s e r h))

  pub rest_end : (n : ℕ) → n ≡ count b → every_below n (λ i. s (rule_no i)) ≡ true → every_rule b s ≡ true
  unfolding every_rule
  rest_end n e t = rw (← e) t

  rest-same : (t : Rules) → ((r : RuleNo) → InBook b r → s r ≡ t r) → every_rule b s ≡ every_rule b t
  rest-same t f = same _ _ (λ e. every-rule-all b t (λ r h. sym (f r h) ∙ every-rule-at b s e r h))
      (λ e. every-rule-all b s (λ r h. f r h ∙ every-rule-at b t e r h))

-- ---- the whole witness

-- l is the witness as the code has it, a part of the paper
module _ (b : Book) (s : List ℕ) (from w : ℕ) (l : List ℕ) (part : l ≡ take (from + w - from) (drop from s)) where
  listed-part : witness_verdict b s from w ≡ list_of b from (length s - 6) l
  unfolding witness_verdict
  listed-part = rw (part, part-is s from w)

  pub finds-order : {at : ℕ} → wrong at ≡ order_of b from [] l → wrong at ≡ witness_verdict b s from w
  unfolding list_of and_then
  finds-order o = sym (listed-part ∙ rw (← o))

-- the witness whose order is right, and the tables that the code makes then: of the listed rules, and of their heads
pub record Tabled (s : List ℕ) (h : Shape) (paper : List ℕ) (from w : ℕ) (l : List ℕ) (listed headed : List Bool) : Type 0 where
  pub read : ReadAs s h
  pub small : h.atoms < 256
  pub part : l ≡ take (from + w - from) (drop from paper)
  pub order : order_of (book_in s) from [] l ≡ fine
  pub none : List Bool
  pub empty : none ≡ replicate 256 false
  pub rules : of listed ≡ plus (of none) (map rule_no l)
  pub table : headed ≡ atom_table (heads (book_in s) (of listed))

module _ {s : List ℕ} {h : Shape} {paper : List ℕ} {from w : ℕ} {l : List ℕ} {listed headed : List Bool}
    (t : Tabled s h paper from w l listed headed) where
  listed-is : of listed ≡ among (map rule_no l)
  listed-is = t.rules ∙ ap (λ (k : List Bool). plus (of k) (map rule_no l)) t.empty ∙ fun_ext (λ r. ap (λ x. x || among (map rule_no l) r) (of_none 256 r))

  headed-is : headed ≡ atom_table (heads (book_in s) (among (map rule_no l)))
  headed-is = t.table ∙ ap (λ (x : Rules). atom_table (heads (book_in s) x)) listed-is

  blocked-is : blocked_of (book_in s) (atoms_in headed) from l ≡ blocked_of (book_in s) (heads (book_in s) (among (map rule_no l))) from l
  blocked-is = blocked-same (book_in s) (count (book_in s)) _ _
      (λ r g. negative-some s h t.read t.small r (in-shape s h t.read r g) _ headed headed-is) from l
      (order_below (book_in s) from l t.order)

  rest-is : every_rule (book_in s) (λ r. of listed r || fails (atoms_in headed) (rule (book_in s) r))
      ≡ rest_fails (book_in s) (heads (book_in s) (among (map rule_no l))) (map rule_no l)
  unfolding rest_fails
  rest-is = rest-same (book_in s) _ _ (λ r g. let k = in-shape s h t.read r g in
      ap (λ (x : Rules). x r || fails (atoms_in headed) (rule (book_in s) r)) listed-is
      ∙ ap (λ x. among (map rule_no l) r || x) (fails-same _ _ _ (positive-every s h t.read t.small r k _ headed headed-is)
      (negative-some s h t.read t.small r k _ headed headed-is)))

  -- the two passes that are left, by the tables
  passes : witness_verdict (book_in s) paper from w ≡ and_then (blocked_of (book_in s) (atoms_in headed) from l)
      (ifb (every_rule (book_in s) (λ r. of listed r || fails (atoms_in headed) (rule (book_in s) r))) fine (wrong (length paper - 6)))
  unfolding list_of and_then
  passes = listed-part _ _ _ _ _ t.part ∙ rw (t.order, blocked-is, rest-is)

  pub finds-blocked : {at : ℕ} → wrong at ≡ blocked_of (book_in s) (atoms_in headed) from l
      → wrong at ≡ witness_verdict (book_in s) paper from w
  unfolding and_then
  finds-blocked p = sym (passes ∙ rw (← p))

  module _ (p : fine ≡ blocked_of (book_in s) (atoms_in headed) from l) (f : Bool)
      (q : f ≡ every_rule (book_in s) (λ r. of listed r || fails (atoms_in headed) (rule (book_in s) r))) where
    pub finds-rest : f ≡ false → wrong (length paper - 6) ≡ witness_verdict (book_in s) paper from w
    unfolding and_then
    finds-rest z = sym (passes ∙ rw (← p) (b-no _ _ _ (sym q ∙ z)))

    pub finds-right : f ≡ true → fine ≡ witness_verdict (book_in s) paper from w
    unfolding and_then
    finds-right z = sym (passes ∙ rw (← p) (b-yes _ _ _ (sym q ∙ z)))
