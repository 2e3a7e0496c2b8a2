-- Lists of rules, one byte each, as a loop goes through them: that a list ascends, said of what is left of it; the rules of a list that
-- is one longer; and a test of every rule of a list. Document 01, "The paper", 55 and the witness.
use mathlib.Core.Path.{◌≡◌, refl, sym, ◌∙◌, ap, fun_ext}
use mathlib.Core.Logic.{⊎_elim}
use mathlib.Core.Bool.{Bool, true, false, ◌&&◌, ◌||◌, or_assoc, or-false}
use mathlib.Core.List.{List, [], ◌∷◌, map, map-append}
use Prim.Native.Nat.{ℕ, suc, ◌+◌, ◌-◌, ◌≤◌, ◌<◌, suc-le-suc}
use native.Mathlib.Numerals.{add-one}
use native.Mathlib.Omega.{arith}
use lib.Dec.{ltb, leb}
use lib.ListN.{length, get_or, set, take, drop, drop_of_length-le}
use lib.Seq.{take-suc, drop-cons}
use borrow.Author.Tests.{ltb-true, lt-ltb, le-ltb, le-leb, lt-leb}
use Rattle.meaning.specs.declared.RuleNo.{RuleNo}
use Rattle.meaning.specs.Sets.{Set, every, some, ascending}
use Rattle.meaning.specs.Books.{Rules, rule_no, same_rule, among, Book, count}
use Rattle.meaning.specs.Colours.{plus}
use Rattle.meaning.specs.Written.{of}
use Rattle.meaning.proofs.Tests.{both, and_right, not_first, not-second, decided, true-and-false}
use Rattle.meaning.proofs.Sets.{some-append, every_here, every-all-next, every-all-end}
use Rattle.meaning.proofs.Written.{of-set}
use Rattle.book.specs.Tables.{Below}
use Rattle.checker.specs.Steps.{proper_list}

-- a part of the paper, with the sum of its places done
pub part-is : (s : List ℕ) (i m : ℕ) → take (i + m - i) (drop i s) ≡ take m (drop i s)
part-is s i m = let e : i + m - i ≡ m = omega arith in rw e

-- ---- ascending

-- the list ascends and its first number is at least `least`
unfoldable pub rising : ℕ → List ℕ → Bool
rising least [] = true
rising least (x ∷ l) = leb least x && rising (x + 1) l

rising-rest : (x : ℕ) (l : List ℕ) → ascending (x ∷ l) ≡ rising (x + 1) l
unfolding ascending rising
rising-rest x [] = refl
rising-rest x (y ∷ l) = rw (rising-rest y l, add-one x)

pub rising-all : (l : List ℕ) → ascending l ≡ rising 0 l
unfolding ascending rising
rising-all [] = refl
rising-all (x ∷ l) = rw (le-leb 0 x (omega arith)) (rising-rest x l)

module _ (l : List ℕ) (least i : ℕ) where
  rising-end : length l ≤ i → rising least (drop i l) ≡ true
  unfolding rising
  rising-end h = rw (drop_of_length-le l h)

  turn : i < length l → rising least (drop i l) ≡ (leb least (get_or l i 0) && rising (get_or l i 0 + 1) (drop (i + 1) l))
  unfolding rising
  turn h = rw (add-one i, drop-cons l i 0 h)

  pub rising-next : i < length l → least ≤ get_or l i 0 → rising least (drop i l) ≡ rising (get_or l i 0 + 1) (drop (i + 1) l)
  rising-next h g = turn h ∙ rw (le-leb _ _ g)

  rising-stops : i < length l → get_or l i 0 < least → rising least (drop i l) ≡ false
  rising-stops h g = turn h ∙ not_first _ (lt-leb _ _ g)

  -- the test as the loop makes it: each number below n, each at least one more than the one before
  module _ (n : ℕ) (r : ascending l ≡ rising least (drop i l)) where
    pub proper-stops : i < length l → get_or l i 0 < least → (ascending l && every (λ x. ltb x n) l) ≡ false
    proper-stops h g = not_first _ (r ∙ rising-stops h g)

    pub proper-end : length l ≤ i → every (λ x. ltb x n) (take i l) ≡ true → (ascending l && every (λ x. ltb x n) l) ≡ true
    proper-end h e = both (r ∙ rising-end h) (every-all-end _ l i h e)

pub proper-out : (l : List ℕ) (i n : ℕ) → i < length l → n ≤ get_or l i 0 → (ascending l && every (λ x. ltb x n) l) ≡ false
proper-out l i n h g = not-second (ascending l) (every_here _ l i 0 h (le-ltb _ _ g))

pub proper-next : (l : List ℕ) (i n : ℕ) → i < length l → get_or l i 0 < n → every (λ x. ltb x n) (take i l) ≡ true
    → every (λ x. ltb x n) (take (i + 1) l) ≡ true
proper-next l i n h g e = every-all-next _ l i 0 h (lt-ltb _ _ g) e

pub proper-below : (l : List ℕ) (n : ℕ) → (ascending l && every (λ x. ltb x n) l) ≡ true → Below n l
proper-below l n e = record {
  at = λ i h. ltb-true _ n (⊎_elim (λ p. p)
      (λ p. true-and-false (and_right (ascending l) _ e) (every_here _ l i 0 h p)) (decided (ltb (get_or l i 0) n)));
}

-- the test as the code makes it, with the number of rules that it has read
pub proper-is : (b : Book) (l : List ℕ) (n : ℕ) → count b ≡ n → (ascending l && every (λ x. ltb x n) l) ≡ proper_list b l
unfolding proper_list
proper-is b l n e = rw e

pub proper-in-book : (b : Book) (l : List ℕ) → proper_list b l ≡ true → Below (count b) l
unfolding proper_list
proper-in-book b l e = proper-below l (count b) e

-- ---- the rules of a list

plus-next : (s : Rules) (l : List ℕ) (i : ℕ) → i < length l
    → plus (plus s (map rule_no (take i l))) (rule_no (get_or l i 0) ∷ []) ≡ plus s (map rule_no (take (i + 1) l))
plus-next s l i h = fun_ext (λ r. or_assoc (s r) _ _ ∙ ap (λ t. s r || t) (sym (longer r)))
  where
    longer : (r : RuleNo) → among (map rule_no (take (i + 1) l)) r
        ≡ (among (map rule_no (take i l)) r || among (rule_no (get_or l i 0) ∷ []) r)
    longer r = rw (add-one i, take-suc l i 0 h, map-append) (some-append (same_rule r) _ _)

pub add_none : (s : Rules) → s ≡ plus s []
unfolding some
add_none s = fun_ext (λ r. sym (or-false (s r)))

-- the table t holds the first i rules of the list and those of s; then the next one is put in, too
pub add-next : (s : Rules) (t : List Bool) (l : List ℕ) (i n : ℕ) → i < length l → n ≡ get_or l i 0 → n < length t
    → of t ≡ plus s (map rule_no (take i l)) → of (set t n true) ≡ plus s (map rule_no (take (i + 1) l))
add-next s t l i n h e g p = of-set t (rule_no n) g ∙ rw (p, e) (plus-next s l i h)

-- as the code puts it in
pub add-put : (s : Rules) (t u : List Bool) (l : List ℕ) (i : ℕ) → i < length l → get_or l i 0 < length t → u ≡ set t (get_or l i 0) true
    → of t ≡ plus s (map rule_no (take i l)) → of u ≡ plus s (map rule_no (take (i + 1) l))
add-put s t u l i h g e p = rw e (add-next s t l i _ h refl g p)

-- ---- a test of every rule of a list

pub every_map : {A B : Type 0} (s : Set B) (f : A → B) (l : List A) → every s (map f l) ≡ every (λ a. s (f a)) l
unfolding every
every_map s f [] = refl
every_map s f (x ∷ l) = ap (λ t. s (f x) && t) (every_map s f l)

pub below_more : {m n : ℕ} {l : List ℕ} → m ≤ n → Below m l → Below n l
below_more h b = record { at = λ i g. let z = b.at i g in omega arith }

pub below_rest : {n x : ℕ} {l : List ℕ} → Below n (x ∷ l) → Below n l
below_rest h = record { at = λ i g. h.at (suc i) (suc-le-suc g) }
