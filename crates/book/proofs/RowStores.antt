-- How the table of rows is filled: what one store does to the rows, what entering a rule in more rows comes to, and that the rows of all
-- rules of the book, entered one after another, are the table of the book.
use mathlib.Core.Path.{◌≡◌, refl, sym, ap, ◌∙◌, fun_ext}
use mathlib.Core.Bool.{Bool, true, false, ◌||◌, ◌&&◌, or-false, or_assoc}
use mathlib.Core.List.{List, [], ◌∷◌, Memᴰ}
use Prim.Native.Nat.{ℕ, zero, suc, ◌<◌, ◌≤◌, ◌+◌, ◌*◌, ◌/◌, ◌%◌, ◌^◌}
use native.Mathlib.Decide.{ℕ_discrete, dec_lt}
use native.Mathlib.Numerals.{add-one}
use native.Mathlib.Omega.{arith}
use lib.Dec.{eqb, ltb}
use lib.Bits.{bit_or}
use lib.ListN.{length, get_or, set, drop, replicate, length-set, drop_of_length-le}
use lib.Seq.{ext_get_or, drop-cons, get_or-set_same, get_or-set_other}
use borrow.Author.Tests.{eq-eqb, ne_eqb, eqb-true, ltb-true, lt-ltb, le-ltb}
use Rattle.meaning.specs.declared.AtomNo.{AtomNo}
use Rattle.meaning.specs.Sets.{Set, some}
use Rattle.meaning.specs.Books.{Rule, Book, atom_no, rule_no, same_atom, rule, count}
use Rattle.meaning.specs.Bits.{one, plus, members}
use Rattle.meaning.proofs.Tests.{same, neither}
use Rattle.meaning.proofs.Words.{shl_one}
use Rattle.meaning.proofs.Four.{four, stored, members-put, members-nothing}
use Rattle.book.specs.declared.reader.Shape.{Shape}
use Rattle.book.specs.Format.{book_in, ReadAs}
use Rattle.book.specs.Writing.{atom_bytes, RuleFits}
use Rattle.book.specs.RuleRows.{row, sets, in_part, in_rows, entered, RuleRows}
use Rattle.book.proofs.Places.{shape-count, rule-keeps}

-- ---- one row

row-long : (t : List ℕ) (k : ℕ) → length (row t k) ≡ 4
unfolding row
row-long t k = refl

row_at : (t : List ℕ) (k m : ℕ) → m < 4 → get_or (row t k) m 0 ≡ get_or t (k * 4 + m) 0
unfolding row
row_at t k =
    four (λ m. m < 4 → get_or (row t k) m 0 ≡ get_or t (k * 4 + m) 0) (λ l. ap (λ (n : ℕ). get_or t n 0) (omega arith)) (λ l. refl) (λ l. refl) (λ l. refl)
    (λ m g l. absurd (omega arith))

-- ---- one store

-- rule r stored in row k
pub stored-in : List ℕ → ℕ → ℕ → List ℕ
stored-in t k r = set t (k * 4 + r / 64) (bit_or (get_or t (k * 4 + r / 64) 0) (2 ^ (r % 64)))

module _ (t : List ℕ) (k r : ℕ) (long : length t ≡ 3072) (low : k < 768) (few : r < 256) where
  row_same : row (stored-in t k r) k ≡ stored (row t k) r
  unfolding row stored stored-in
  row_same = ext_get_or 0 (row (stored-in t k r) k) (stored (row t k) r) (sym (length-set (row t k) (r / 64) _)) (λ m l.
      row_at (stored-in t k r) k m l ∙ elim (ℕ_discrete m (r / 64)) [
        | yes e ↦
            ap (λ (n : ℕ). get_or (stored-in t k r) (k * 4 + n) 0) e
            ∙ get_or-set_same t (k * 4 + r / 64) _ 0 (omega arith)
            ∙ ap (λ (x : ℕ). bit_or x (2 ^ (r % 64))) (sym (row_at t k (r / 64) (omega arith)))
            ∙ sym (get_or-set_same (row t k) (r / 64) _ 0 (omega arith))
            ∙ ap (λ (n : ℕ). get_or (stored (row t k) r) n 0) (sym e)
        | no n ↦
            get_or-set_other t (k * 4 + r / 64) (k * 4 + m) _ 0 (λ q. n (omega arith))
            ∙ sym (row_at t k m l) ∙ sym (get_or-set_other (row t k) (r / 64) m _ 0 n)
      ])

  row_other : (c : ℕ) → (c ≡ k → ⊥) → row (stored-in t k r) c ≡ row t c
  unfolding row stored-in
  row_other c n = ext_get_or 0 (row (stored-in t k r) c) (row t c) refl (λ m l.
      row_at (stored-in t k r) c m l ∙ get_or-set_other t (k * 4 + r / 64) (c * 4 + m) _ 0 (λ q. n (omega arith)) ∙ sym (row_at t c m l))

  store-enters : sets (stored-in t k r) ≡ entered r (one k) (sets t)
  unfolding sets entered
  store-enters = fun_ext (λ c. elim (ℕ_discrete c k) [
    | yes q ↦
        ap (λ (n : ℕ). members (row (stored-in t k r) n)) q ∙ ap members row_same ∙ members-put (row t k) r (row-long t k) few
        ∙ fun_ext (λ i. let z = eq-eqb c k q in rw z (ap (λ (n : ℕ). members (row t n) i || eqb i r) (sym q)))
    | no q ↦
        ap members (row_other c q)
        ∙ fun_ext (λ i. let z = ne_eqb c k q in rw z (sym (or-false (members (row t c) i))))
  ])

-- as the code stores
pub store-entered : (t : List ℕ) (k r n : ℕ) → n ≡ r → length t ≡ 3072 → k < 768 → r < 256
    → (sets (set t (k * 4 + n / 64) (bit_or (get_or t (k * 4 + n / 64) 0) ((1 * 2 ^ (n % 64)) % 2 ^ 64))) ≡ entered r (one k) (sets t))
    × (length (set t (k * 4 + n / 64) (bit_or (get_or t (k * 4 + n / 64) 0) ((1 * 2 ^ (n % 64)) % 2 ^ 64))) ≡ 3072)
unfolding stored-in
store-entered t k r n e long low few =
    rw (e, shl_one (r % 64) (omega arith)) (store-enters t k r long low few, length-set t (k * 4 + r / 64) _ ∙ long)

-- ---- a rule entered in more rows

module _ (r : ℕ) (s : ℕ → Set ℕ) where
  pub entered-none : (ks : Set ℕ) → ((k : ℕ) → ks k ≡ false) → entered r ks s ≡ s
  unfolding entered
  entered-none ks f = fun_ext (λ k. fun_ext (λ i. rw (f k) (or-false (s k i))))

  pub entered-both : (u v : Set ℕ) → entered r v (entered r u s) ≡ entered r (plus u v) s
  unfolding entered
  entered-both u v = fun_ext (λ k. fun_ext (λ i. shared (s k i) (u k) (v k) (eqb i r)))
    where
      shared : (p a b c : Bool) → ((p || (a && c)) || (b && c)) ≡ (p || ((a || b) && c))
      shared true a b c = refl
      shared false true b true = refl
      shared false true true false = refl
      shared false true false false = refl
      shared false false b c = refl

-- a part, entered byte by byte: what is there and the bytes from i on come to the whole
module _ (r from : ℕ) (l : List ℕ) (i : ℕ) (s all : ℕ → Set ℕ) (e : all ≡ entered r (in_part from (drop i l)) s) where
  pub part-again : (n : ℕ) (u : ℕ → Set ℕ) → i < length l → n ≡ get_or l i 0 → u ≡ entered r (one (from + n)) s
      → all ≡ entered r (in_part from (drop (i + 1) l)) u
  unfolding in_part some
  part-again n u h f g =
      e ∙ ap (λ (ks : Set ℕ). entered r ks s) turn ∙ sym (ap (entered r (in_part from (drop (i + 1) l))) g ∙ entered-both r s _ _)
    where
      turn : in_part from (drop i l) ≡ plus (one (from + n)) (in_part from (drop (i + 1) l))
      turn = fun_ext (λ k. rw (f, add-one i, drop-cons l i 0 h))

  pub part-done : length l ≤ i → s ≡ all
  unfolding in_part some
  part-done h = sym (e ∙ entered-none r s _ none_left)
    where
      none_left : (k : ℕ) → in_part from (drop i l) k ≡ false
      none_left k = rw (drop_of_length-le l h)

-- a rule: its head, and its two parts
pub rule-entered : (r : ℕ) (p : Rule) (s s₁ s₂ s₃ : ℕ → Set ℕ) (k : ℕ) (l m : List ℕ) → k ≡ p.head.0 → l ≡ atom_bytes p.pos → m ≡ atom_bytes p.neg
    → s₁ ≡ entered r (one k) s → s₂ ≡ entered r (in_part 256 l) s₁ → s₃ ≡ entered r (in_part 512 m) s₂ → s₃ ≡ entered r (in_rows p) s
unfolding in_rows
rule-entered r p s s₁ s₂ s₃ k l m e f g x y z =
    let c : Set ℕ = in_part 512 m in
    z ∙ ap (entered r c) (y ∙ ap (entered r (in_part 256 l)) x ∙ entered-both r s (one k) (in_part 256 l))
    ∙ entered-both r s (plus (one k) (in_part 256 l)) c
    ∙ ap (λ (u : Set ℕ). entered r u s) (fun_ext (λ j. rw (e, f, g) (or_assoc (eqb j p.head.0) (in_part 256 (atom_bytes p.pos) j) (in_part 512 (atom_bytes p.neg) j))))

-- ---- the rules below n

unfoldable pub rows_to : Book → ℕ → ℕ → Set ℕ
rows_to b n k i = ltb i n && in_rows (rule b (rule_no i)) k

module _ (b : Book) where
  pub rows_none : sets (replicate 3072 0) ≡ rows_to b 0
  unfolding sets rows_to
  rows_none = fun_ext (λ k.
      ap members (ext_get_or 0 (row (replicate 3072 0) k) (replicate 4 0) (row-long (replicate 3072 0) k) (λ m l.
      row_at (replicate 3072 0) k m (rw (row-long (replicate 3072 0) k) at l) ∙ noughts 3072 (k * 4 + m) ∙ sym (noughts 4 m)))
      ∙ members-nothing ∙ fun_ext (λ i. let z = le-ltb i 0 (omega arith) in rw z))
    where
      noughts : (n i : ℕ) → ◌≡◌ {A = ℕ} (get_or (replicate n 0) i 0) 0
      noughts zero i = refl
      noughts (suc n) zero = refl
      noughts (suc n) (suc i) = noughts n i

  rows-turn : (n : ℕ) → entered n (in_rows (rule b (rule_no n))) (rows_to b n) ≡ rows_to b (n + 1)
  unfolding entered rows_to
  rows-turn n = fun_ext (λ k. fun_ext (λ i. elim (ℕ_discrete i n) [
    | yes e ↦
        let p = le-ltb i n (omega arith) in
        let q = lt-ltb i (n + 1) (omega arith) in
        let z = eq-eqb i n e in
        rw (p, q, z, e) (and-true (in_rows (rule b (rule_no n)) k))
    | no d ↦
        let z = ne_eqb i n d in
        rw z (ap (λ (t : Bool). (ltb i n && in_rows (rule b (rule_no i)) k) || t) (and-false (in_rows (rule b (rule_no n)) k))
        ∙ or-false (ltb i n && in_rows (rule b (rule_no i)) k)
        ∙ ap (λ (t : Bool). t && in_rows (rule b (rule_no i)) k) (same (ltb i n) (ltb i (n + 1))
        (λ t. lt-ltb i (n + 1) (omega (arith, ltb-true i n t)))
        (λ t. lt-ltb i n (below i n d (ltb-true i (n + 1) t)))))
  ]))
    where
      and-true : (x : Bool) → (x && true) ≡ x
      and-true true = refl
      and-true false = refl

      and-false : (x : Bool) → (x && false) ≡ false
      and-false true = refl
      and-false false = refl

      below : (i n : ℕ) → (i ≡ n → ⊥) → i < n + 1 → i < n
      below i n d h = elim (dec_lt i n) [ yes l ↦ l | no l ↦ absurd (d (omega arith)) ]

  -- one rule more
  pub rows_more : (n : ℕ) (s u : ℕ → Set ℕ) → s ≡ rows_to b n → u ≡ entered n (in_rows (rule b (rule_no n))) s → u ≡ rows_to b (n + 1)
  rows_more n s u e f = f ∙ ap (entered n (in_rows (rule b (rule_no n)))) e ∙ rows-turn n

-- ---- the table of the book

-- no atom of a part stands in row k, and which do in row `from` + a
part_none : (from : ℕ) (l : List AtomNo) (k : ℕ) → ((c : AtomNo) → Memᴰ c l → k ≡ from + c.0 → ⊥) → in_part from (atom_bytes l) k ≡ false
unfolding in_part some
part_none from [] k f = refl
part_none from (c ∷ l) k f =
    neither (ne_eqb k (from + c.0) (f c (Memᴰ.head refl))) (part_none from l k (λ d m. f d (Memᴰ.tail m)))

part-some : (from : ℕ) (l : List AtomNo) (a : ℕ) → in_part from (atom_bytes l) (from + a) ≡ some (same_atom (atom_no a)) l
unfolding in_part some same_atom
part-some from [] a = refl
part-some from (c ∷ l) a = rw (shift c.0) (ap (λ (t : Bool). eqb a c.0 || t) (part-some from l a))
  where
    shift : (n : ℕ) → eqb (from + a) (from + n) ≡ eqb a n
    shift n = same (eqb (from + a) (from + n)) (eqb a n)
        (λ t. eq-eqb a n (omega (arith, eqb-true (from + a) (from + n) t)))
        (λ t. eq-eqb (from + a) (from + n) (omega (arith, eqb-true a n t)))

module _ (p : Rule) (a : ℕ) (low : a < 256) where
  head-stands : in_rows p a ≡ same_atom p.head (atom_no a)
  unfolding in_rows same_atom
  head-stands =
      rw (part_none 256 p.pos a (λ c m e. absurd (omega arith)), part_none 512 p.neg a (λ c m e. absurd (omega arith)))
      (or-false (eqb a p.head.0) ∙ same (eqb a p.head.0) (eqb p.head.0 a)
      (λ t. eq-eqb p.head.0 a (sym (eqb-true a p.head.0 t))) (λ t. eq-eqb a p.head.0 (sym (eqb-true p.head.0 a t))))

  module _ (h : p.head.0 < 256) where
    pos-stands : in_rows p (256 + a) ≡ some (same_atom (atom_no a)) p.pos
    unfolding in_rows
    pos-stands =
        let z = ne_eqb (256 + a) p.head.0 (λ e. absurd (omega arith)) in
        rw (z, part_none 512 p.neg (256 + a) (λ c m e. absurd (omega arith)), part-some 256 p.pos a) (or-false _)

    neg-stands : ((c : AtomNo) → Memᴰ c p.pos → c.0 < 256) → in_rows p (512 + a) ≡ some (same_atom (atom_no a)) p.neg
    unfolding in_rows
    neg-stands f =
        let z = ne_eqb (512 + a) p.head.0 (λ e. absurd (omega arith)) in
        rw (z, part_none 256 p.pos (512 + a) (λ c m e. absurd (omega (arith, f c m))), part-some 512 p.neg a)

-- what is said of the rules below n, where two tests agree on them
on-rules : (n : ℕ) (s t : Set ℕ) → ((i : ℕ) → i < n → s i ≡ t i) → ◌≡◌ {A = Set ℕ} (λ i. ltb i n && s i) (λ i. ltb i n && t i)
on-rules n s t f = fun_ext (λ i. elim (dec_lt i n) [
  | yes l ↦ ap (λ (x : Bool). ltb i n && x) (f i l)
  | no l ↦ let z = le-ltb i n (omega arith) in rw z
])

module _ (s : List ℕ) (h : Shape) (e : ReadAs s h) (few : h.atoms < 256) where
  pub rows_end : (n : ℕ) (t : List ℕ) → n ≡ h.rules → length t ≡ 3072 → sets t ≡ rows_to (book_in s) n → RuleRows (book_in s) t
  unfolding rows_to
  rows_end n t q long f =
      let b = book_in s in
      let z : n ≡ count b = q ∙ sym (shape-count s h e) in
      let all = f ∙ ap (rows_to b) z in
      let keeps : (i : ℕ) → i < count b → RuleFits h.atoms (rule b (rule_no i)) = λ i l. rule-keeps s h e (rule_no i) (rw (shape-count s h e) at l) in record {
        long = long;
        head = λ a low. ap (λ (u : ℕ → Set ℕ). u a) all ∙ on-rules (count b) _ _ (λ i l. head-stands (rule b (rule_no i)) a low);
        pos = λ a low. ap (λ (u : ℕ → Set ℕ). u (256 + a)) all ∙ on-rules (count b) _ _ (λ i l.
            pos-stands (rule b (rule_no i)) a low (omega (arith, (keeps i l).head)));
        neg = λ a low. ap (λ (u : ℕ → Set ℕ). u (512 + a)) all ∙ on-rules (count b) _ _ (λ i l.
            neg-stands (rule b (rule_no i)) a low (omega (arith, (keeps i l).head)) (λ c m. omega (arith, (keeps i l).pos.below c m)));
      }
