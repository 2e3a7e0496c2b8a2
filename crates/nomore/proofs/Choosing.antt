-- The search of src/choose.rt for a rule to choose: it goes over the rules without a colour by the next one, and what is kept is that no
-- rule before is supported. And what it puts off where there is none: the off rules with all rules that are not on put in are the off
-- rules with the rest put in.
use mathlib.Core.Path.{◌≡◌, refl, sym, ◌∙◌, ap, ap₂}
use mathlib.Core.Logic.{⊎_elim}
use mathlib.Core.Bool.{Bool, true, false, not, ◌&&◌, ◌||◌, or-false}
use mathlib.Core.List.{List}
use Prim.Native.Nat.{ℕ, ◌≤◌, ◌<◌}
use native.Mathlib.Omega.{arith}
use lib.Dec.{ltb}
use borrow.Author.Tests.{lt-ltb, le-ltb, ltb-true}
use Rattle.meaning.specs.declared.RuleNo.{RuleNo}
use Rattle.meaning.specs.Sets.{Set, ◌∈◌, ◌∉◌, every}
use Rattle.meaning.specs.Books.{Rules, rule_no, Book, count, rule}
use Rattle.meaning.specs.Bits.{below, plus, less, members, listed}
use Rattle.meaning.specs.Colours.{Pair, heads, uncoloured}
use Rattle.meaning.specs.Written.{of, added, lent}
use Rattle.meaning.specs.Lowest.{none, one, lowest_from}
use Rattle.meaning.proofs.Tests.{both, and_left, not_first, not-second, decided}
use Rattle.meaning.proofs.Rules.{in-book-or-not}
use Rattle.meaning.proofs.Lowest.{none_from, one_from}
use Rattle.meaning.proofs.Written.{length-added, of-added, of-added-outside}
use Rattle.meaning.proofs.Listed.{listed-long, of-listed, listed-is}
use Rattle.nomore.specs.Own.{supported}

-- ---- the search among the rules of a set

module _ (b : Book) (free on : List ℕ) where
  -- all positive atoms of the rule are heads of on rules
  abbrev held : Rules
  held q = every (heads b (of (listed on))) (rule b q).pos

  -- the search has come to r: it is in the set, or past the last; and no rule of the set before it is held
  pub record Come (r : ℕ) : Type 0 where
    pub bound : r ≤ 256
    pub within : r < 256 → r ∈ members free
    pub none_before : (q : RuleNo) → q.0 < r → q.0 ∈ members free → q ∉ held

  -- ---- among those of the first n rules that have no colour

  module _ (n : ℕ) (all v off : List ℕ) (e : members all ≡ below n) (f : members v ≡ plus (members on) (members off))
      (g : members free ≡ less (members all) (members v)) where
    abbrev colours : Pair
    colours = lent (listed on) (listed off)

    free-is : (r : RuleNo) → members free r.0 ≡ (ltb r.0 n && uncoloured colours r)
    unfolding uncoloured
    free-is r =
        ap (λ (s : Set ℕ). s r.0) g ∙ ap₂ (λ (s t : Set ℕ). s r.0 && not (t r.0)) e f
        ∙ sym (ap₂ (λ (s t : Rules). ltb r.0 n && not (s r || t r)) (of-listed on) (of-listed off))

    free_in : (r : RuleNo) → r.0 < n → members free r.0 ≡ uncoloured colours r
    free_in r h = free-is r ∙ rw (lt-ltb r.0 n h)

    not-supported : (r : ℕ) → Come r → (q : RuleNo) → q.0 < r → q.0 < n → q ∉ supported b colours
    unfolding supported
    not-supported r k q h l = ⊎_elim
        (λ m. not-second (uncoloured colours q) (k.none_before q h (free_in q l ∙ m))) (λ m. not_first _ m) (decided (uncoloured colours q))

    pub come-low : (r : ℕ) → Come r → r < 256 → r < n
    come-low r k h = ltb-true r n (and_left (ltb r n) _ (sym (free-is (rule_no r)) ∙ k.within h))

    pub come-found : (r : ℕ) → Come r → r < 256 → {t : Bool} → t ≡ held (rule_no r) → t ≡ true
        → one (rule_no r) ≡ lowest_from 0 n (supported b colours)
    unfolding supported
    come-found r k h z w =
        let l = come-low r k h in
        sym (one_from n (supported b colours) (rule_no r) l (both (sym (free_in (rule_no r) l) ∙ k.within h) (sym z ∙ w))
        (λ q g. not-supported r k q g (omega arith)))

    pub come-none : (r : ℕ) → Come r → 256 ≤ r → n ≤ 256 → none ≡ lowest_from 0 n (supported b colours)
    come-none r k h l = sym (none_from n (supported b colours) (λ q g. not-supported r k q (omega arith) g))

-- ---- the rest put off

pub rest-listed : (b : Book) {n : ℕ} → count b ≡ n → n ≤ 256 → (w on off : List ℕ)
    → members w ≡ plus (members off) (less (below n) (members on))
    → listed w ≡ added b (uncoloured (lent (listed on) (listed off))) (listed off)
unfolding uncoloured
rest-listed b {n} e few w on off f = listed-is w _ (length-added b _ (listed off) ∙ listed-long off) (λ r. ap (λ (s : Rules). s r) (of-listed w)
    ∙ ap (λ (s : Set ℕ). s r.0) f ∙ ⊎_elim
    (λ h. rw (lt-ltb r.0 n (omega (arith, e))) (absorbed (members on r.0) (members off r.0))
    ∙ sym (of-added b _ (listed off) (omega (arith, e, listed-long off)) r h
    ∙ ap₂ (λ (s t : Rules). t r || not (s r || t r)) (of-listed on) (of-listed off)))
    (λ h. rw (le-ltb r.0 n (omega (arith, e))) (or-false (members off r.0))
    ∙ sym (of-added-outside b _ (listed off) r h ∙ ap (λ (s : Rules). s r) (of-listed off)))
    (in-book-or-not b r))
  where
    absorbed : (p q : Bool) → (q || not p) ≡ (q || not (p || q))
    absorbed true true = refl
    absorbed true false = refl
    absorbed false true = refl
    absorbed false false = refl
