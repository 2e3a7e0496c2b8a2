-- Lists of rules as the loops make them: one rule more at the end of a list, the rules of a set that stand before a number, and what the
-- loops over the rules keep for 55: the rules that are put in off and written, and the rules that are found to be outside support.
use mathlib.Core.Path.{◌≡◌, refl, sym, ◌∙◌, ap, fun_ext}
use mathlib.Core.Bool.{Bool, true, false, not, ◌||◌, or_assoc, or-false}
use mathlib.Core.List.{List, [], ◌∷◌, ◌++◌, append-nil}
use Prim.Native.Nat.{ℕ, zero, suc, ◌+◌, ◌≤◌, ◌<◌}
use native.Mathlib.Nat.{add-zero, zero-add, add-suc, suc-add}
use native.Mathlib.Numerals.{add-one}
use native.Mathlib.Omega.{arith}
use lib.ListN.{length, set, replicate, length-append, length-replicate, length-set}
use Rattle.meaning.specs.declared.RuleNo.{RuleNo}
use Rattle.meaning.specs.Sets.{some}
use Rattle.meaning.specs.Books.{Rules, rule_no, among, Book, count, same_rule}
use Rattle.meaning.specs.Colours.{plus}
use Rattle.meaning.specs.Paper.{numbers}
use Rattle.meaning.specs.Written.{of, lent}
use Rattle.meaning.specs.Computed.{support}
use Rattle.meaning.specs.Engine.{unsupported}
use Rattle.meaning.specs.Lowest.{listed_if, rules_from, rules_in}
use Rattle.meaning.proofs.Sets.{some-append}
use Rattle.meaning.proofs.Tests.{both, not_first, not-second, same}
use Rattle.meaning.proofs.RulesIn.{rules-in, in-rules}
use Rattle.meaning.proofs.Written.{of-set, of_none}
use Rattle.writer.specs.Draft.{Writes}
use Rattle.writer.specs.Steps.{outside, Listed}
use Rattle.writer.proofs.Drafts.{writes-nil, writes_then}

-- ---- one rule more at the end

pub numbers-append : (l m : List RuleNo) → numbers (l ++ m) ≡ numbers l ++ numbers m
numbers-append [] m = refl
numbers-append (r ∷ l) m = ap (λ (k : List ℕ). r.0 ∷ k) (numbers-append l m)

plus-end : (s : Rules) (l : List RuleNo) (r : RuleNo) → plus (plus s l) (r ∷ []) ≡ plus s (l ++ (r ∷ []))
plus-end s l r = fun_ext (λ q.
    or_assoc (s q) (among l q) (among (r ∷ []) q) ∙ ap (λ t. s q || t) (sym (some-append (same_rule q) l (r ∷ []))))

-- an array that holds s and the rules of a list holds, with one rule more, s and the list with that rule at its end
pub put-end : (s : Rules) (w : List RuleNo) (l : List Bool) {i : ℕ} (r : RuleNo) → i ≡ r.0 → r.0 < length l → of l ≡ plus s w
    → of (set l i true) ≡ plus s (w ++ (r ∷ []))
put-end s w l r e h f = rw e (of-set l r h) ∙ ap (λ q. plus q (r ∷ [])) f ∙ plus-end s w r

-- ---- the rules of a set, number by number

rules-end : (i n : ℕ) (s : Rules) → rules_from i (suc n) s ≡ rules_from i n s ++ listed_if (s (rule_no (i + n))) (rule_no (i + n)) []
unfolding rules_from listed_if
rules-end i zero s = rw add-zero
rules-end i (suc n) s =
    rw (add-suc i n, ← suc-add i n) (ap (listed_if (s (rule_no i)) (rule_no i)) (rules-end (suc i) n s) ∙ in-front (s (rule_no i)) _ _)
  where
    in-front : (t : Bool) (l m : List RuleNo) → listed_if t (rule_no i) (l ++ m) ≡ listed_if t (rule_no i) l ++ m
    in-front true l m = refl
    in-front false l m = refl

-- the rules of s below n
abbrev pub below : ℕ → Rules → List RuleNo
below n s = rules_from 0 n s

module _ (n : ℕ) (s : Rules) where
  pub below_in : s (rule_no n) ≡ true → below (n + 1) s ≡ below n s ++ (rule_no n ∷ [])
  unfolding listed_if
  below_in e = rw add-one (rw (zero-add, e) at (rules-end 0 n s))

  pub below_out : s (rule_no n) ≡ false → below (n + 1) s ≡ below n s
  unfolding listed_if
  below_out e = rw add-one (rw (zero-add, e, append-nil) at (rules-end 0 n s))

below_all : (b : Book) (s : Rules) {n : ℕ} → count b ≡ n → below n s ≡ rules_in b s
unfolding rules_in
below_all b s e = rw e

-- sets that agree on the rules tried have the same of them
rules-same : (i n : ℕ) (s t : Rules) → ((j : ℕ) → i ≤ j → j < i + n → s (rule_no j) ≡ t (rule_no j)) → rules_from i n s ≡ rules_from i n t
unfolding rules_from
rules-same i zero s t f = refl
rules-same i (suc n) s t f =
    rw (f i (omega arith) (omega arith), rules-same (suc i) n s t (λ j h g. f j (omega arith) (omega arith)))

rules-again : (b : Book) (s : Rules) → rules_in b (among (rules_in b s)) ≡ rules_in b s
unfolding rules_in
rules-again b s = rules-same 0 (count b) _ _ (λ j h g. let k : j < count b = omega arith in
    same _ _ (λ m. (rules-in b s (rule_no j) m).1) (in-rules b s (rule_no j) k))

-- ---- the rules that are put in off and written

module _ (s : Rules) (off : List Bool) (at : ℕ) (out : List ℕ) where
  -- those below r have been
  pub record Dropped (r : ℕ) (gone : List Bool) (n : ℕ) (written : List ℕ) : Type 0 where
    pub long : length gone ≡ 256
    pub colours : of gone ≡ plus (of off) (below r s)
    pub bytes : Writes (numbers (below r s)) at out n written

  pub dropped-none : length off ≡ 256 → Dropped 0 off at out
  unfolding rules_from some
  dropped-none e = record { long = e; colours = fun_ext (λ q. sym (or-false _)); bytes = writes-nil at out }

  module _ {r : ℕ} {gone : List Bool} {n : ℕ} {written : List ℕ} (d : Dropped r gone n written) where
    pub dropped-more : {m k : ℕ} {off' : List Bool} {more out' : List ℕ} → r < 256 → s (rule_no r) ≡ true
        → Writes (r ∷ []) n written m more → off' ≡ set gone r true → out' ≡ more → k ≡ m → Dropped (r + 1) off' k out'
    dropped-more {off' = off'} h t w f g k = record {
      long = ap length f ∙ length-set gone _ true ∙ d.long;
      colours = rw (f, below_in r s t) (put-end (of off) (below r s) gone (rule_no r) refl (rw d.long h) d.colours);
      bytes = rw (g, k, below_in r s t, numbers-append) (writes_then d.bytes w);
    }

    pub dropped-same : {k : ℕ} {off' : List Bool} {out' : List ℕ} → s (rule_no r) ≡ false → off' ≡ gone → out' ≡ written → k ≡ n
        → Dropped (r + 1) off' k out'
    dropped-same t f g k = rw (f, g, k)
        record { long = d.long; colours = rw (below_out r s t) d.colours; bytes = rw (below_out r s t) d.bytes }

  pub dropped-all : {r n : ℕ} {gone : List Bool} {written : List ℕ} → Dropped r gone n written → (b : Book) → count b ≡ r
      → (of gone ≡ plus (of off) (rules_in b s)) × Writes (numbers (rules_in b s)) at out n written
  dropped-all d b e = rw (← below_all b s e) (d.colours, d.bytes)

-- ---- the rules that are found

-- the array holds the rules of s below r, of which there are m
pub record Found (s : Rules) (r : ℕ) (found : List Bool) (m : ℕ) : Type 0 where
  pub long : length found ≡ 256
  pub held : of found ≡ among (below r s)
  pub counted : m ≡ length (below r s)
  pub few : m ≤ r

module _ (s : Rules) where
  pub found_none : (l : List Bool) → l ≡ replicate 256 false → Found s 0 l 0
  unfolding rules_from some
  found_none l e = record { long = rw e (length-replicate 256 false); held = rw e (fun_ext (of_none 256)); counted = refl; few = omega arith }

  module _ {r : ℕ} {found : List Bool} {m : ℕ} (d : Found s r found m) where
    pub found-more : {k : ℕ} {found' : List Bool} → r < 256 → s (rule_no r) ≡ true → found' ≡ set found r true → k ≡ m + 1
        → Found s (r + 1) found' k
    found-more h t f g = record {
      long = ap length f ∙ length-set found _ true ∙ d.long;
      held = rw (f, below_in r s t) (put-end (λ q. false) (below r s) found (rule_no r) refl (rw d.long h) d.held);
      counted = rw (below_in r s t, length-append) (omega (arith, d.counted));
      few = omega (arith, d.few);
    }

    pub found-same : {k : ℕ} {found' : List Bool} → s (rule_no r) ≡ false → found' ≡ found → k ≡ m → Found s (r + 1) found' k
    found-same t f g = rw (f, g) record {
      long = d.long;
      held = rw (below_out r s t) d.held;
      counted = rw (below_out r s t) d.counted;
      few = omega (arith, d.few);
    }

  pub found_all : {found : List Bool} {m r : ℕ} → Found s r found m → (b : Book) → count b ≡ r → Listed b m found (rules_in b s)
  found_all {found} d b e = record {
    counted = d.counted ∙ ap length (below_all b s e);
    listed = ap (rules_in b) (d.held ∙ ap among (below_all b s e)) ∙ rules-again b s;
  }

module _ (marks off : List Bool) (r : ℕ) where
  pub outside-yes : of marks (rule_no r) ≡ false → of off (rule_no r) ≡ false → outside marks off (rule_no r) ≡ true
  unfolding outside
  outside-yes m n = both (ap not m) (ap not n)

  pub outside-marked : of marks (rule_no r) ≡ true → outside marks off (rule_no r) ≡ false
  unfolding outside
  outside-marked m = not_first _ (ap not m)

  pub outside-off : of off (rule_no r) ≡ true → outside marks off (rule_no r) ≡ false
  unfolding outside
  outside-off m = not-second (not (of marks (rule_no r))) (ap not m)

-- the rules outside V that aren't off, where the marks are V
pub outside-unsupported : (b : Book) (marks on off : List Bool) → marks ≡ support b (of off)
    → outside marks off ≡ unsupported b (lent on off)
unfolding outside unsupported
outside-unsupported b marks on off e = rw e
