-- What is asked by the table of rows (specs/RuleRows): an atom is the head of a rule of a set just if its row meets the set, and all its
-- rules are in the set just if its row lies within it.
use mathlib.Core.Path.{◌≡◌, refl, sym, ap, ap₂, ◌∙◌}
use mathlib.Core.Bool.{Bool, true, ◌&&◌}
use mathlib.Core.List.{List, [], ◌∷◌, Memᴰ}
use Prim.Native.Nat.{ℕ, ◌<◌}
use native.Mathlib.Omega.{arith}
use lib.Dec.{ltb}
use borrow.Author.Tests.{ltb-true, lt-ltb}
use Rattle.meaning.specs.declared.AtomNo.{AtomNo}
use Rattle.meaning.specs.Sets.{Set, ◌∈◌, every, every_below, some_below}
use Rattle.meaning.specs.Books.{Rules, Book, rule_no, same_atom, rule, count, every_rule, some_rule}
use Rattle.meaning.specs.Colours.{heads, all_in}
use Rattle.meaning.specs.Bits.{members, listed}
use Rattle.meaning.specs.Bits.{both as both-in, implied as implied-in}
use Rattle.meaning.specs.Written.{of}
use Rattle.meaning.proofs.Tests.{both, and_left, and_right, same, implied, implies}
use Rattle.meaning.proofs.Sets.{below_at, below_all, below-some, below_one}
use Rattle.meaning.proofs.Four.{members-small}
use Rattle.meaning.proofs.Listed.{of-listed}
use Rattle.book.specs.RuleRows.{row, sets, headed_by, lost_by, RuleRows}

module _ (b : Book) (t : List ℕ) (k : RuleRows b t) (a : AtomNo) (low : a.0 < 256) (s : List ℕ) where
  -- a rule of the atom's row, and a rule of the book with that head
  of_row : (i : ℕ) → i ∈ sets t a.0 → (i < count b) × (same_atom (rule b (rule_no i)).head a ≡ true)
  of_row i m =
      let e = ap (λ (u : Set ℕ). u i) (sym (k.head a.0 low)) ∙ m in
      (ltb-true i (count b) (and_left (ltb i (count b)) _ e), and_right (ltb i (count b)) _ e)

  in_row : (i : ℕ) → i < count b → same_atom (rule b (rule_no i)).head a ≡ true → i ∈ sets t a.0
  in_row i l m = ap (λ (u : Set ℕ). u i) (k.head a.0 low) ∙ both (lt-ltb i (count b) l) m

  small : (i : ℕ) → i ∈ sets t a.0 → i < 256
  unfolding sets
  small i m = members-small (row t a.0) i m

  asked : (i : ℕ) → of (listed s) (rule_no i) ≡ members s i
  asked i = ap (λ (u : Rules). u (rule_no i)) (of-listed s)

  pub row-heads : some_below 256 (both-in (sets t a.0) (members s)) ≡ heads b (of (listed s)) a
  unfolding heads some_rule
  row-heads = same _ _
      (λ e. let (i, l, m) = below-some 256 _ e in
      let (h, q) = of_row i (and_left (sets t a.0 i) _ m) in
      below_one (count b) _ i h (both (asked i ∙ and_right (sets t a.0 i) _ m) q))
      (λ e. let (i, l, m) = below-some (count b) _ e in
      let n = in_row i l (and_right (of (listed s) (rule_no i)) _ m) in
      below_one 256 _ i (small i n) (both n (sym (asked i) ∙ and_left (of (listed s) (rule_no i)) _ m)))

  pub row-lost : every_below 256 (implied-in (sets t a.0) (members s)) ≡ all_in b (of (listed s)) a
  unfolding all_in every_rule
  row-lost = same _ _
      (λ e. below_all (count b) _ (λ i l. implied (same_atom (rule b (rule_no i)).head a) (of (listed s) (rule_no i)) (λ q.
      let n = in_row i l q in
      asked i ∙ implies (sets t a.0 i) (members s i) (below_at 256 _ e i (small i n)) n)))
      (λ e. below_all 256 _ (λ i l. implied (sets t a.0 i) (members s i) (λ n.
      let (h, q) = of_row i n in
      sym (asked i) ∙ implies (same_atom (rule b (rule_no i)).head a) (of (listed s) (rule_no i)) (below_at (count b) _ e i h) q)))

-- a list of atoms that are bytes, asked by the rows
module _ (b : Book) (t : List ℕ) (k : RuleRows b t) (s : List ℕ) where
  pub headed-by : (a : AtomNo) → a.0 < 256 → headed_by t s a ≡ heads b (of (listed s)) a
  unfolding headed_by
  headed-by a low = row-heads b t k a low s

  pub lost-by : (a : AtomNo) → a.0 < 256 → lost_by t s a ≡ all_in b (of (listed s)) a
  unfolding lost_by
  lost-by a low = row-lost b t k a low s

  pub every-headed : (l : List AtomNo) → ((a : AtomNo) → Memᴰ a l → a.0 < 255)
      → every (headed_by t s) l ≡ every (heads b (of (listed s))) l
  unfolding every
  every-headed [] f = refl
  every-headed (a ∷ l) f =
      ap₂ ◌&&◌ (headed-by a (omega (arith, f a (Memᴰ.head refl)))) (every-headed l (λ c m. f c (Memᴰ.tail m)))

  pub every-lost : (l : List AtomNo) → ((a : AtomNo) → Memᴰ a l → a.0 < 255)
      → every (lost_by t s) l ≡ every (all_in b (of (listed s))) l
  unfolding every
  every-lost [] f = refl
  every-lost (a ∷ l) f =
      ap₂ ◌&&◌ (lost-by a (omega (arith, f a (Memᴰ.head refl)))) (every-lost l (λ c m. f c (Memᴰ.tail m)))

-- as the code asks: the row by value
module _ {x : Bool} (t s w : List ℕ) (a : AtomNo) (f : w ≡ row t a.0) where
  pub headed-asked : x ≡ some_below 256 (both-in (members w) (members s)) → x ≡ headed_by t s a
  unfolding sets headed_by
  headed-asked e = e ∙ ap (λ (p : List ℕ). some_below 256 (both-in (members p) (members s))) f

  pub lost-asked : x ≡ every_below 256 (implied-in (members w) (members s)) → x ≡ lost_by t s a
  unfolding sets lost_by
  lost-asked e = e ∙ ap (λ (p : List ℕ). every_below 256 (implied-in (members p) (members s))) f
