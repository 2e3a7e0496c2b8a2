-- Laws of a set of 256 bits written out: what is read of the list is what the set says, the list says every bit of the words, and one
-- member more is one store.
use mathlib.Core.Path.{◌≡◌, refl, sym, ap, ◌∙◌, fun_ext}
use mathlib.Core.Bool.{Bool, true, false, ◌||◌, or-false}
use mathlib.Core.List.{List}
use Prim.Native.Nat.{ℕ, zero, suc, ◌<◌, ◌+◌}
use native.Mathlib.Nat.{not-suc-le-zero, le_of_suc-le-suc, add-zero, add-suc, suc-add, zero-add}
use native.Mathlib.Decide.{ℕ_discrete, dec_lt}
use native.Mathlib.Omega.{arith}
use lib.ListN.{length, get_or, set, replicate, length-set, length-replicate}
use lib.Seq.{ext_get_or, get_or-set_same, get_or-set_other}
use borrow.Author.Tests.{eq-eqb, ne_eqb}
use Rattle.meaning.specs.declared.RuleNo.{RuleNo}
use Rattle.meaning.specs.Sets.{Set}
use Rattle.meaning.specs.Books.{Rules, rule_no}
use Rattle.meaning.specs.Bits.{none, one, plus, members, table_from, listed}
use Rattle.meaning.specs.declared.colouring.Colouring.{Colouring}
use Rattle.meaning.specs.Written.{of, written}
use Rattle.meaning.proofs.Tests.{or_right}
use Rattle.meaning.proofs.Four.{Words, members-out, words-one}
use Rattle.meaning.proofs.Written.{of_none, Sized}

-- ---- tests written out

pub table-long : (i n : ℕ) (s : Set ℕ) → length (table_from i n s) ≡ n
unfolding table_from
table-long i zero s = refl
table-long i (suc n) s = ap suc (table-long (suc i) n s)

pub table_at : (i n : ℕ) (s : Set ℕ) (j : ℕ) → j < n → get_or (table_from i n s) j false ≡ s (i + j)
unfolding table_from
table_at i zero s j h = absurd (not-suc-le-zero h)
table_at i (suc n) s zero h = rw add-zero
table_at i (suc n) s (suc j) h = rw (add-suc, ← suc-add i j) (table_at (suc i) n s j (le_of_suc-le-suc h))

table-out : (i n : ℕ) (s : Set ℕ) (j : ℕ) → (j < n → ⊥) → get_or (table_from i n s) j false ≡ false
unfolding table_from
table-out i zero s j h = refl
table-out i (suc n) s zero h = absurd (h (omega arith))
table-out i (suc n) s (suc j) h = table-out (suc i) n s j (λ l. h (omega arith))

-- ---- the list of 256

pub listed-long : (w : List ℕ) → length (listed w) ≡ 256
unfolding listed
listed-long w = table-long 0 256 (members w)

listed_at : (w : List ℕ) (i : ℕ) → get_or (listed w) i false ≡ members w i
unfolding listed
listed_at w i = elim (dec_lt i 256) [
  | yes l ↦ table_at 0 256 (members w) i l ∙ ap (members w) (zero-add i)
  | no l ↦ table-out 0 256 (members w) i l ∙ sym (members-out w i (omega arith))
]

pub of-listed : (w : List ℕ) → of (listed w) ≡ (λ r. members w r.0)
unfolding of
of-listed w = fun_ext (λ r. listed_at w r.0)

pub listed-members : (w : List ℕ) → ◌≡◌ {A = Set ℕ} (λ i. of (listed w) (rule_no i)) (members w)
unfolding of
listed-members w = fun_ext (listed_at w)

-- a list of 256 places that says what the set says
pub listed-is : (w : List ℕ) (l : List Bool) → length l ≡ 256 → ((r : RuleNo) → of (listed w) r ≡ of l r) → listed w ≡ l
unfolding of
listed-is w l e f = ext_get_or false (listed w) l (listed-long w ∙ sym e) (λ i h. f (rule_no i))

-- lists of words that are written out alike are equal
pub listed-one : (w v : List ℕ) → Words w → Words v → listed w ≡ listed v → w ≡ v
listed-one w v a b e =
    words-one w v a b (fun_ext (λ i. sym (listed_at w i) ∙ ap (λ (l : List Bool). get_or l i false) e ∙ listed_at v i))

-- ---- the operations

pub listed-empty : (w : List ℕ) → members w ≡ none → listed w ≡ replicate 256 false
listed-empty w e =
    listed-is w (replicate 256 false) (length-replicate 256 false)
    (λ r. ap (λ (s : Rules). s r) (of-listed w) ∙ ap (λ (s : Set ℕ). s r.0) e ∙ sym (of_none 256 r))

-- tables of a colouring have their length
pub sized-written : (c : Colouring) → length c.levels ≡ 255 → Sized (written c)
sized-written c e =
    record { on = listed-long c.on.w; off = listed-long c.off.w; marks = listed-long c.marks.w; levels = e }

pub listed-put : (w v : List ℕ) (i : ℕ) → i < 256 → members w ≡ plus (members v) (one i) → listed w ≡ set (listed v) i true
listed-put w v i h e = ext_get_or false (listed w) (set (listed v) i true) (listed-long w ∙ sym (length-set (listed v) i true ∙ listed-long v)) (λ j l.
    listed_at w j ∙ ap (λ (s : Set ℕ). s j) e ∙ elim (ℕ_discrete j i) [
      | yes q ↦ or_right (members v j) (eq-eqb j i q) ∙ sym (ap (λ (n : ℕ). get_or (set (listed v) i true) n false) q ∙ get_or-set_same (listed v) i true false (omega (arith, listed-long v)))
      | no n ↦
          ap (λ (t : Bool). members v j || t) (ne_eqb j i n) ∙ or-false (members v j) ∙ sym (listed_at v j)
          ∙ sym (get_or-set_other (listed v) i j true false n)
    ])
