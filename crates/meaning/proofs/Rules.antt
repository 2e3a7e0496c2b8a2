-- Laws of the rules of a book, of heads and of pairs of sets of rules: what each test says of the rules, and back, and that the
-- conditions only grow with the pair (blueprint, C1).
use mathlib.Core.Path.{◌≡◌, refl, sym, ap}
use mathlib.Core.Logic.{◌⊎◌, ⊎_elim, ⊎_map}
use mathlib.Core.Bool.{true, false, not, false≢true}
use mathlib.Core.List.{List, [], ◌∷◌, Memᴰ}
use Prim.Native.Nat.{ℕ, zero, suc, ◌≤◌, ◌<◌, suc-le-suc}
use native.Mathlib.Nat.{le_of_suc-le-suc}
use native.Mathlib.Omega.{arith}
use lib.ListN.{length, get_or}
use borrow.Author.Tests.{eqb-true, eq-eqb, not-true, not-false}
use Rattle.meaning.specs.declared.AtomNo.{AtomNo}
use Rattle.meaning.specs.declared.RuleNo.{RuleNo}
use Rattle.meaning.specs.Sets.{◌∈◌, ◌∉◌, ◌⊆◌, every, some}
use Rattle.meaning.specs.Books.{Rules, same_atom, same_rule, rule_no, among, Rule, Book, count, rule, InBook, every_rule, some_rule}
use Rattle.meaning.specs.Colours.{Pair, Side, on_side, off_side, side, put, heads, all_in, may_on, blocked, starved, Under, Within}
use Rattle.meaning.specs.Colours.{clashing, Consistent, uncoloured}
use Rattle.meaning.proofs.Tests.{both, and_left, and_right, either, or_left, or_right, implied, implies, true-and-false, refuted, proved, same, lt-or-le}
use Rattle.meaning.proofs.Sets.{every-mono, some_mono, below_at, below_all, below-some, below_one}

-- ---- numbers of one kind

pub same-atom : {a c : AtomNo} → same_atom a c ≡ true → a ≡ c
unfolding same_atom
same-atom e = let p = eqb-true _ _ e in λ i. record { 0 = p i }

pub atom-same : {a c : AtomNo} → a ≡ c → same_atom a c ≡ true
unfolding same_atom
atom-same p = eq-eqb _ _ (λ i. (p i).0)

pub same-rule : {r q : RuleNo} → same_rule r q ≡ true → r ≡ q
unfolding same_rule
same-rule e = let p = eqb-true _ _ e in λ i. record { 0 = p i }

pub rule-same : {r q : RuleNo} → r ≡ q → same_rule r q ≡ true
unfolding same_rule
rule-same p = eq-eqb _ _ (λ i. (p i).0)

-- ---- the rules of a list

pub among-member : (l : List RuleNo) (r : RuleNo) → r ∈ among l → Memᴰ r l
unfolding some
among-member [] r m = absurd (false≢true m)
among-member (q ∷ l) r m =
    ⊎_elim (λ e. Memᴰ.head (same-rule e)) (λ p. Memᴰ.tail (among-member l r p)) (either (same_rule r q) _ m)

pub member-among : (l : List RuleNo) (r : RuleNo) → Memᴰ r l → r ∈ among l
unfolding some
member-among [] r h = elim h [ ]
member-among (q ∷ l) r (Memᴰ.head p) = or_left _ (rule-same p)
member-among (q ∷ l) r (Memᴰ.tail m) = or_right (same_rule r q) (member-among l r m)

-- one rule more in front
module _ (r : RuleNo) (l : List RuleNo) where
  pub among-here : r ∈ among (r ∷ l)
  unfolding some
  among-here = or_left _ (rule-same {q = r} refl)

  pub among_there : (q : RuleNo) → q ∈ among l → q ∈ among (r ∷ l)
  unfolding some
  among_there q m = or_right (same_rule q r) m

  pub among-front : (q : RuleNo) → q ∈ among (r ∷ l) → (q ≡ r) ⊎ (q ∈ among l)
  unfolding some
  among-front q m = ⊎_map same-rule (λ k. k) (either (same_rule q r) _ m)

-- the set of one rule
pub among_one : {r q : RuleNo} → q ∈ among (r ∷ []) → q ≡ r
unfolding some
among_one {r} {q} m = ⊎_elim (λ e. same-rule e) (λ e. absurd (false≢true e)) (either (same_rule q r) false m)

pub one-among : (r : RuleNo) → r ∈ among (r ∷ [])
one-among r = member-among _ r (Memᴰ.head refl)

-- ---- the places of a list and its members

place-member : {A : Type 0} (l : List A) (i : ℕ) (d : A) → i < length l → Memᴰ (get_or l i d) l
place-member [] i d h = absurd (omega arith)
place-member (x ∷ l) zero d h = Memᴰ.head refl
place-member (x ∷ l) (suc i) d h = Memᴰ.tail (place-member l i d (le_of_suc-le-suc h))

member-place : {A : Type 0} (l : List A) (a d : A) → Memᴰ a l → (i : ℕ) × (i < length l) × (get_or l i d ≡ a)
member-place {A = A} [] a d h = elim h [ ]
member-place (x ∷ l) a d (Memᴰ.head p) = (0, omega arith, sym p)
member-place (x ∷ l) a d (Memᴰ.tail m) = let (i, h, e) = member-place l a d m in (suc i, suc-le-suc h, e)

module _ (b : Book) where
  -- ---- the rules of the book

  pub in-book-or-not : (r : RuleNo) → InBook b r ⊎ (count b ≤ r.0)
  in-book-or-not r = lt-or-le r.0 (count b)

  pub rule-member : (r : RuleNo) → InBook b r → Memᴰ (rule b r) b.rules
  unfolding rule count
  rule-member r h = place-member b.rules r.0 _ h

  pub member-rule : (q : Rule) → Memᴰ q b.rules → (r : RuleNo) × InBook b r × (rule b r ≡ q)
  unfolding rule count
  member-rule q m = let (n, h, e) = member-place b.rules q _ m in (rule_no n, h, e)

  pub every-rule-at : (s : Rules) → every_rule b s ≡ true → (r : RuleNo) → InBook b r → r ∈ s
  unfolding every_rule
  every-rule-at s e r h = below_at (count b) (λ n. s (rule_no n)) e r.0 h

  pub every-rule-all : (s : Rules) → ((r : RuleNo) → InBook b r → r ∈ s) → every_rule b s ≡ true
  unfolding every_rule
  every-rule-all s f = below_all (count b) (λ n. s (rule_no n)) (λ n h. f (rule_no n) h)

  pub some-rule-by : (s : Rules) → some_rule b s ≡ true → (r : RuleNo) × InBook b r × (r ∈ s)
  unfolding some_rule
  some-rule-by s e = let (n, h, m) = below-some (count b) (λ n. s (rule_no n)) e in (rule_no n, h, m)

  pub some-rule-one : (s : Rules) (r : RuleNo) → InBook b r → r ∈ s → some_rule b s ≡ true
  unfolding some_rule
  some-rule-one s r h m = below_one (count b) (λ n. s (rule_no n)) r.0 h m

  -- ---- heads, and atoms all of whose rules are in a set

  pub heads-of : (s : Rules) (r : RuleNo) → InBook b r → r ∈ s → (rule b r).head ∈ heads b s
  unfolding heads
  heads-of s r h m = some-rule-one _ r h (both m (atom-same refl))

  pub heads-by : (s : Rules) (a : AtomNo) → a ∈ heads b s → (r : RuleNo) × InBook b r × (r ∈ s) × ((rule b r).head ≡ a)
  unfolding heads
  heads-by s a e = let (r, h, m) = some-rule-by _ e in (r, h, and_left (s r) _ m, same-atom (and_right (s r) _ m))

  pub all_in-at : (s : Rules) (a : AtomNo) → a ∈ all_in b s → (r : RuleNo) → InBook b r → (rule b r).head ≡ a → r ∈ s
  unfolding all_in
  all_in-at s a e r h q = implies (same_atom (rule b r).head a) _ (every-rule-at _ e r h) (atom-same q)

  pub all_in-all : (s : Rules) (a : AtomNo) → ((r : RuleNo) → InBook b r → (rule b r).head ≡ a → r ∈ s) → a ∈ all_in b s
  unfolding all_in
  all_in-all s a f = every-rule-all _ (λ r h. implied (same_atom (rule b r).head a) _ (λ q. f r h (same-atom q)))

  pub heads-mono : {s t : Rules} → Under b s t → heads b s ⊆ heads b t
  heads-mono {s} {t} f a e = let (r, h, m, q) = heads-by s a e in rw (← q) (heads-of t r h (f r h m))

  -- all rules of an atom are in a set just where none of them is outside it
  pub all-in-not-heads : (s : Rules) (a : AtomNo) → all_in b s a ≡ not (heads b (λ r. not (s r)) a)
  all-in-not-heads s a = same _ _
      (λ e. ap not (refuted (λ z. let (r, h, m, q) = heads-by (λ r. not (s r)) a z in true-and-false (all_in-at s a e r h q) (not-true _ m))))
      (λ n. all_in-all s a (λ r h q. proved (λ m. true-and-false (rw q at (heads-of (λ r. not (s r)) r h (ap not m))) (not-true _ n))))

  pub all_in-mono : {s t : Rules} → Under b s t → all_in b s ⊆ all_in b t
  all_in-mono {s} {t} f a e = all_in-all t a (λ r h q. f r h (all_in-at s a e r h q))

  -- ---- pairs

  pub within_on : {c d : Pair} → Within b c d → Under b c.on d.on
  unfolding side
  within_on w = w.each on_side

  pub within-off : {c d : Pair} → Within b c d → Under b c.off d.off
  unfolding side
  within-off w = w.each off_side

  pub within_both : {c d : Pair} → Under b c.on d.on → Under b c.off d.off → Within b c d
  unfolding side
  within_both {c} {d} f g = record { each = sides }
    where
      sides : (x : Side) → Under b (side x c) (side x d)
      sides on_side = f
      sides off_side = g

  pub within-refl : (c : Pair) → Within b c c
  within-refl c = record { each = λ x r h m. m }

  pub within-trans : {c d e : Pair} → Within b c d → Within b d e → Within b c e
  within-trans v w = record { each = λ x r h m. w.each x r h (v.each x r h m) }

  pub may_on-mono : {c d : Pair} → Within b c d → may_on b c ⊆ may_on b d
  unfolding may_on
  may_on-mono {c} w r m = both
      (every-mono (heads-mono (within_on w)) _ (and_left (every (heads b c.on) _) _ m))
      (every-mono (all_in-mono (within-off w)) _ (and_right (every (heads b c.on) _) _ m))

  pub blocked-mono : {c d : Pair} → Within b c d → blocked b c ⊆ blocked b d
  unfolding blocked
  blocked-mono w r m = some_mono (heads-mono (within_on w)) _ m

  pub starved-mono : {c d : Pair} → Within b c d → starved b c ⊆ starved b d
  unfolding starved
  starved-mono w r m = some_mono (all_in-mono (within-off w)) _ m

  -- ---- additions

  pub one-under : (s : Rules) (r : RuleNo) → r ∈ s → Under b (among (r ∷ [])) s
  one-under s r m q h e = rw (among_one {r = r} e) m

  pub put-above : (x : Side) (l : List RuleNo) (c : Pair) → Within b c (put x l c)
  unfolding put
  put-above on_side l c = within_both (λ r h m. or_left _ m) (λ r h m. m)
  put-above off_side l c = within_both (λ r h m. m) (λ r h m. or_left _ m)

  pub put-within : (x : Side) (l : List RuleNo) {c d : Pair} → Within b c d → Under b (among l) (side x d) → Within b (put x l c) d
  unfolding put side
  put-within on_side l {c} w f = within_both (λ r h m. ⊎_elim (within_on w r h) (f r h) (either (c.on r) _ m)) (within-off w)
  put-within off_side l {c} w f = within_both (within_on w) (λ r h m. ⊎_elim (within-off w r h) (f r h) (either (c.off r) _ m))

  -- ---- contradiction, and rules without a colour

  pub clashing-by : (c : Pair) → clashing b c ≡ true → (r : RuleNo) × InBook b r × (r ∈ c.on) × (r ∈ c.off)
  unfolding clashing
  clashing-by c e = let (r, h, m) = some-rule-by _ e in (r, h, and_left (c.on r) _ m, and_right (c.on r) _ m)

  pub clashing-one : (c : Pair) (r : RuleNo) → InBook b r → r ∈ c.on → r ∈ c.off → clashing b c ≡ true
  unfolding clashing
  clashing-one c r h m n = some-rule-one _ r h (both m n)

  pub clashing-mono : {c d : Pair} → Within b c d → clashing b c ≡ true → clashing b d ≡ true
  clashing-mono {c} {d} w e =
      let (r, h, m, n) = clashing-by c e in clashing-one d r h (within_on w r h m) (within-off w r h n)

  pub clashing-no : (c : Pair) → clashing b c ≡ false → Consistent b c
  clashing-no c e r h m n = true-and-false (clashing-one c r h m n) e

  pub consistent-clashing : (c : Pair) → Consistent b c → clashing b c ≡ false
  consistent-clashing c f = refuted (λ e. let (r, h, m, n) = clashing-by c e in f r h m n)

  pub uncoloured-no : (c : Pair) (r : RuleNo) → r ∉ uncoloured c → (r ∈ c.on) ⊎ (r ∈ c.off)
  unfolding uncoloured
  uncoloured-no c r e = either (c.on r) _ (not-false _ e)
