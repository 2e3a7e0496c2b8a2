-- Laws of four words as a set: what an operation on each word and a store of one bit come to; that an or of all four is 0 just if the set
-- is empty; and that the words are what the set says.
use mathlib.Core.Path.{◌≡◌, refl, sym, ap, ap₂, ◌∙◌, fun_ext}
use mathlib.Core.Logic.{⊎_elim}
use mathlib.Core.Bool.{Bool, true, false, not, ◌||◌, ◌&&◌, or-false}
use mathlib.Core.List.{List, [], ◌∷◌}
use Prim.Native.Nat.{ℕ, zero, suc, ◌<◌, ◌≤◌, ◌+◌, ◌-◌, ◌*◌, ◌/◌, ◌%◌, ◌^◌}
use native.Mathlib.Nat.{le_of_suc-le-suc, lt_of_le_of_lt}
use native.Mathlib.Decide.{ℕ_discrete, dec_lt}
use native.Mathlib.Omega.{arith}
use lib.Dec.{eqb, ltb}
use mir.Syntax.{w64}
use mir.Val.{Fits}
use lib.Bits.{bit_and, bit_or, and_le_l}
use lib.ListN.{length, get_or, set, replicate}
use lib.Seq.{ext_get_or, get_or-set_same, get_or-set_other}
use borrow.Author.Tests.{eq-eqb, ne_eqb, eqb-true, eqb-false, ltb-true, lt-ltb, le-ltb}
use Rattle.meaning.specs.Sets.{Set, ◌∈◌, ◌∉◌, every_below, some_below}
use Rattle.meaning.proofs.Tests.{same, true-and-false, decided, refuted, proved, and_left, neither, not-second}
use Rattle.meaning.proofs.Sets.{below-some, below_one}
use Rattle.meaning.specs.Bits.{none, one, below, plus, less, both, implied, bit, members, OnesBelow}
use Rattle.meaning.proofs.Words.{bit-none, bit-or, bit-and, bit_not, bit-pow, no_bits, same_bits, or-none}

-- four numbers of 64 bits
pub record Words (w : List ℕ) : Type 0 where
  pub long : length w ≡ 4
  pub small : (n : ℕ) → get_or w n 0 < 2 ^ 64

-- what holds at 0, 1, 2, 3 and from 4 on
pub four : (P : ℕ → Type 0) → P 0 → P 1 → P 2 → P 3 → ((n : ℕ) → 4 ≤ n → P n) → (n : ℕ) → P n
four P a b c d e zero = a
four P a b c d e (suc zero) = b
four P a b c d e (suc (suc zero)) = c
four P a b c d e (suc (suc (suc zero))) = d
four P a b c d e (suc (suc (suc (suc n)))) = e (suc (suc (suc (suc n)))) (omega arith)

pub get_d-out : (l : List ℕ) (n : ℕ) → length l ≤ n → get_or l n 0 ≡ 0
get_d-out [] n h = refl
get_d-out (x ∷ l) zero h = absurd (omega arith)
get_d-out (x ∷ l) (suc n) h = get_d-out l n (le_of_suc-le-suc h)

pub words : (w : List ℕ) → length w ≡ 4 → ((n : ℕ) → n < length w → Fits w64 (get_or w n 0)) → Words w
words w e f = record {
  long = e;
  small = λ n. elim (dec_lt n (length w)) [ yes l ↦ (f n l).fits | no l ↦ let z = get_d-out w n (omega arith) in rw z (omega arith) ];
}

-- ---- what is in the set

pub members-bit : (w : List ℕ) (i : ℕ) → i < 256 → members w i ≡ bit (get_or w (i / 64) 0) (i % 64)
unfolding members
members-bit w i h = let z = lt-ltb i 256 h in rw z

pub members-out : (w : List ℕ) (i : ℕ) → 256 ≤ i → i ∉ members w
unfolding members
members-out w i h = let z = le-ltb i 256 h in rw z

pub members-small : (w : List ℕ) (i : ℕ) → i ∈ members w → i < 256
unfolding members
members-small w i m = ltb-true i 256 (and_left (ltb i 256) _ m)

-- bit k of word n
word-bit : (w : List ℕ) (n k : ℕ) → n < 4 → k < 64 → members w (n * 64 + k) ≡ bit (get_or w n 0) k
word-bit w n k l h =
    let p : (n * 64 + k) / 64 ≡ n = omega arith in
    let q : (n * 64 + k) % 64 ≡ k = omega arith in
    members-bit w (n * 64 + k) (omega arith) ∙ ap₂ (λ (m j : ℕ). bit (get_or w m 0) j) p q

-- the words are what the set says
pub words-one : (w v : List ℕ) → Words w → Words v → members w ≡ members v → w ≡ v
words-one w v a b e = ext_get_or 0 w v (a.long ∙ sym b.long) (λ n l.
    let h : n < 4 = omega (arith, a.long) in
    same_bits 64 (get_or w n 0) (get_or v n 0) (a.small n) (b.small n)
    (λ k g. sym (word-bit w n k h g) ∙ ap (λ (s : Set ℕ). s (n * 64 + k)) e ∙ word-bit v n k h g))

-- ---- an operation on each word

unfoldable pub each : (ℕ → ℕ → ℕ) → List ℕ → List ℕ → List ℕ
each f a b = f (get_or a 0 0) (get_or b 0 0) ∷ f (get_or a 1 0) (get_or b 1 0) ∷ f (get_or a 2 0) (get_or b 2 0) ∷ f (get_or a 3 0) (get_or b 3 0) ∷ []

module _ (f : ℕ → ℕ → ℕ) (op : Bool → Bool → Bool)
    (law : (x y k : ℕ) → x < 2 ^ 64 → y < 2 ^ 64 → k < 64 → bit (f x y) k ≡ op (bit x k) (bit y k)) (nought : op false false ≡ false) where
  each_at : (a b : List ℕ) → Words a → Words b → (k : ℕ) → k < 64 → (n : ℕ)
      → bit (get_or (each f a b) n 0) k ≡ op (bit (get_or a n 0) k) (bit (get_or b n 0) k)
  unfolding each
  each_at a b u v k l = four (λ n. bit (get_or (each f a b) n 0) k ≡ op (bit (get_or a n 0) k) (bit (get_or b n 0) k))
      (law _ _ k (u.small 0) (v.small 0) l) (law _ _ k (u.small 1) (v.small 1) l)
      (law _ _ k (u.small 2) (v.small 2) l) (law _ _ k (u.small 3) (v.small 3) l)
      (λ n h. rw (get_d-out (each f a b) n h, get_d-out a n (omega (arith, u.long)), get_d-out b n (omega (arith, v.long)), bit-none k) (sym nought))

  pub members-each : (a b : List ℕ) → Words a → Words b → members (each f a b) ≡ (λ i. op (members a i) (members b i))
  unfolding members
  members-each a b u v = fun_ext (λ i. ap (λ (t : Bool). ltb i 256 && t) (each_at a b u v (i % 64) (omega arith) (i / 64)) ∙ inside (ltb i 256) _ _)
    where
      inside : (g p q : Bool) → (g && op p q) ≡ op (g && p) (g && q)
      inside true p q = refl
      inside false p q = sym nought

abbrev pub and_not : ℕ → ℕ → ℕ
and_not x y = bit_and x ((2 ^ 64 - 1) - y)

module _ (a b : List ℕ) (u : Words a) (v : Words b) where
  pub members-union : members (each bit_or a b) ≡ plus (members a) (members b)
  members-union = members-each bit_or ◌||◌ (λ x y k g h l. bit-or x y k) refl a b u v

  pub members-and : members (each bit_and a b) ≡ both (members a) (members b)
  members-and = members-each bit_and ◌&&◌ (λ x y k g h l. bit-and x y k) refl a b u v

  pub members-less : members (each and_not a b) ≡ less (members a) (members b)
  members-less =
      members-each and_not (λ p q. p && not q) (λ x y k g h l. bit-and x ((2 ^ 64 - 1) - y) k ∙ ap (λ t. bit x k && t) (bit_not 64 y k h l)) refl a b u v

-- ---- one bit stored

unfoldable pub stored : (w : List ℕ) (i : ℕ) → List ℕ
stored w i = set w (i / 64) (bit_or (get_or w (i / 64) 0) (2 ^ (i % 64)))

module _ (w : List ℕ) (i : ℕ) (e : length w ≡ 4) (h : i < 256) where
  stored_at : (j : ℕ) → bit (get_or (stored w i) (j / 64) 0) (j % 64) ≡ (bit (get_or w (j / 64) 0) (j % 64) || eqb j i)
  unfolding stored
  stored_at j = elim (ℕ_discrete (j / 64) (i / 64)) [
    | yes q ↦
        ap (λ (n : ℕ). bit (get_or (set w (i / 64) (bit_or (get_or w (i / 64) 0) (2 ^ (i % 64)))) n 0) (j % 64)) q
        ∙ ap (λ (x : ℕ). bit x (j % 64)) (get_or-set_same w (i / 64) (bit_or (get_or w (i / 64) 0) (2 ^ (i % 64))) 0 (omega arith))
        ∙ bit-or (get_or w (i / 64) 0) (2 ^ (i % 64)) (j % 64)
        ∙ ap₂ ◌||◌ (ap (λ (n : ℕ). bit (get_or w n 0) (j % 64)) (sym q)) (bit-pow (i % 64) (j % 64) ∙ here q)
    | no n ↦
        ap (λ (x : ℕ). bit x (j % 64)) (get_or-set_other w (i / 64) (j / 64) _ 0 n)
        ∙ sym (or-false (bit (get_or w (j / 64) 0) (j % 64)))
        ∙ ap (λ (t : Bool). bit (get_or w (j / 64) 0) (j % 64) || t) (sym (ne_eqb j i (λ p. n (ap (λ (m : ℕ). m / 64) p))))
  ]
    where
      here : j / 64 ≡ i / 64 → eqb (j % 64) (i % 64) ≡ eqb j i
      here q = same (eqb (j % 64) (i % 64)) (eqb j i)
          (λ t. eq-eqb j i (omega (arith, q, eqb-true (j % 64) (i % 64) t)))
          (λ t. eq-eqb (j % 64) (i % 64) (omega (arith, eqb-true j i t)))

  pub members-put : members (stored w i) ≡ plus (members w) (one i)
  members-put = fun_ext (λ j. elim (dec_lt j 256) [
    | yes l ↦ members-bit (stored w i) j l ∙ stored_at j ∙ ap (λ (t : Bool). t || eqb j i) (sym (members-bit w j l))
    | no l ↦
        members-out (stored w i) j (omega arith)
        ∙ sym (neither (members-out w j (omega arith)) (ne_eqb j i (λ q. absurd (omega arith))))
  ])

-- ---- nothing at all

clear : (w : List ℕ) → ((n : ℕ) → get_or w n 0 ≡ 0) → (i : ℕ) → i ∉ members w
unfolding members
clear w z i = not-second (ltb i 256) (rw (z (i / 64)) (bit-none (i % 64)))

pub members-nothing : members (replicate 4 0) ≡ none
members-nothing = fun_ext (clear (replicate 4 0) (four (λ n. get_or (replicate 4 0) n 0 ≡ 0) refl refl refl refl (get_d-out (replicate 4 0))))

abbrev pub all : List ℕ → ℕ
all w = bit_or (bit_or (bit_or (get_or w 0 0) (get_or w 1 0)) (get_or w 2 0)) (get_or w 3 0)

module _ (w : List ℕ) (u : Words w) where
  -- all words are 0, or no number is in the set
  zeros : all w ≡ 0 → (n : ℕ) → get_or w n 0 ≡ 0
  zeros e =
      let (abc, d) = or-none _ _ e in
      let (ab, c) = or-none _ _ abc in
      let (a, b) = or-none _ _ ab in
      four (λ n. get_or w n 0 ≡ 0) a b c d (λ n l. get_d-out w n (omega (arith, u.long)))

  clear-word : ((i : ℕ) → i < 256 → i ∉ members w) → (n : ℕ) → n < 4 → get_or w n 0 ≡ 0
  clear-word h n l =
      no_bits 64 (get_or w n 0) (u.small n) (λ k m. sym (word-bit w n k l m) ∙ h (n * 64 + k) (omega arith))

  pub any-member : not (eqb (all w) 0) ≡ some_below 256 (members w)
  any-member = ⊎_elim
      (λ (e : eqb (all w) 0 ≡ true). rw e (sym (refuted (λ t. let (i, l, m) = below-some 256 (members w) t in
      true-and-false m (clear w (zeros (eqb-true (all w) 0 e)) i)))))
      (λ (e : eqb (all w) 0 ≡ false). rw e (sym (proved (λ f. eqb-false (all w) 0 e
      (let z = clear-word (λ i l. refuted (λ m. true-and-false (below_one 256 (members w) i l m) f)) in
      rw (z 0 (omega arith), z 1 (omega arith), z 2 (omega arith), z 3 (omega arith)))))))
      (decided (eqb (all w) 0))

over-four : (w : List ℕ) → length w ≡ 4 → (n : ℕ) → 4 ≤ n → get_or w n 0 < 2 ^ 64
over-four w e n l = let z = get_d-out w n (omega arith) in rw z (omega arith)

-- not some is every not
pub not-not : (t : Bool) → not (not t) ≡ t
not-not true = refl
not-not false = refl

turn : (p q : Bool) → not (p && not q) ≡ (not p || q)
turn true true = refl
turn true false = refl
turn false q = refl

over : (p q : Bool) → not (p || q) ≡ (not p && not q)
over true q = refl
over false q = refl

pub not_some : (n : ℕ) (s t : Set ℕ) → not (some_below n (less s t)) ≡ every_below n (implied s t)
unfolding some_below every_below
not_some zero s t = refl
not_some (suc n) s t = over (s n && not (t n)) (some_below n (less s t)) ∙ ap₂ ◌&&◌ (turn (s n) (t n)) (not_some n s t)

module _ (a b : List ℕ) (u : Words a) (v : Words b) where
  -- the words that `each` gives are of 64 bits
  pub words-and : Words (each bit_and a b)
  unfolding each
  words-and = record { long = refl; small = four (λ n. get_or (each bit_and a b) n 0 < 2 ^ 64) (small 0) (small 1) (small 2) (small 3) (over-four (each bit_and a b) refl) }
    where
      small : (n : ℕ) → bit_and (get_or a n 0) (get_or b n 0) < 2 ^ 64
      small n = lt_of_le_of_lt (and_le_l (get_or a n 0) (get_or b n 0)) (u.small n)

  pub words-and-not : Words (each and_not a b)
  unfolding each
  words-and-not = record { long = refl; small = four (λ n. get_or (each and_not a b) n 0 < 2 ^ 64) (small 0) (small 1) (small 2) (small 3) (over-four (each and_not a b) refl) }
    where
      small : (n : ℕ) → and_not (get_or a n 0) (get_or b n 0) < 2 ^ 64
      small n = lt_of_le_of_lt (and_le_l (get_or a n 0) ((2 ^ 64 - 1) - get_or b n 0)) (u.small n)

  pub meets-some : not (eqb (all (each bit_and a b)) 0) ≡ some_below 256 (both (members a) (members b))
  meets-some = any-member (each bit_and a b) words-and ∙ ap (some_below 256) (members-and a b u v)

  pub within-every : eqb (all (each and_not a b)) 0 ≡ every_below 256 (implied (members a) (members b))
  within-every =
      sym (not-not (eqb (all (each and_not a b)) 0)) ∙ ap not (any-member (each and_not a b) words-and-not ∙ ap (some_below 256) (members-less a b u v))
      ∙ not_some 256 (members a) (members b)

-- ---- the numbers below n

pub members-below : (n a b c d : ℕ) → n < 256 → OnesBelow n 0 a → OnesBelow n 64 b → OnesBelow n 128 c → OnesBelow n 192 d
    → members (a ∷ b ∷ c ∷ d ∷ []) ≡ below n
members-below n a b c d h p q r s = fun_ext (λ i. elim (dec_lt i 256) [
  | yes l ↦ members-bit (a ∷ b ∷ c ∷ d ∷ []) i l ∙ word i l
  | no l ↦ members-out (a ∷ b ∷ c ∷ d ∷ []) i (omega arith) ∙ sym (le-ltb i n (omega arith))
])
  where
    at : {x : Bool} (i from : ℕ) → i ≡ from + i % 64 → x ≡ ltb (from + i % 64) n → x ≡ ltb i n
    at i from e p = p ∙ ap (λ (m : ℕ). ltb m n) (sym e)

    word : (i : ℕ) → i < 256 → bit (get_or (a ∷ b ∷ c ∷ d ∷ []) (i / 64) 0) (i % 64) ≡ ltb i n
    word i l = four (λ m. m ≡ i / 64 → bit (get_or (a ∷ b ∷ c ∷ d ∷ []) m 0) (i % 64) ≡ ltb i n)
        (λ e. at i 0 (omega arith) (p.each (i % 64) (omega arith)))
        (λ e. at i 64 (omega arith) (q.each (i % 64) (omega arith)))
        (λ e. at i 128 (omega arith) (r.each (i % 64) (omega arith)))
        (λ e. at i 192 (omega arith) (s.each (i % 64) (omega arith)))
        (λ m k e. absurd (omega arith)) (i / 64) refl
