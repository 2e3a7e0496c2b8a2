-- A search among the first rules by the next member of a set, and the sets that closing asks of. What is found among so many rules is found
-- in a book of so many.
use mathlib.Core.Path.{◌≡◌, refl, sym, ◌∙◌, ap, ap₂, fun_ext, subst}
use mathlib.Core.Bool.{Bool, true, false, not, ◌&&◌, ◌||◌}
use mathlib.Core.List.{List}
use Prim.Native.Nat.{ℕ, ◌≤◌, ◌<◌}
use native.Mathlib.Omega.{arith}
use Rattle.meaning.specs.declared.RuleNo.{RuleNo}
use Rattle.meaning.specs.Sets.{Set}
use Rattle.meaning.specs.Books.{Rules, rule_no, Book, count}
use Rattle.meaning.specs.Bits.{below, plus, less, both, members, table_from, listed, NextIn}
use Rattle.meaning.specs.Colours.{uncoloured}
use Rattle.meaning.specs.Written.{of, lent}
use Rattle.meaning.specs.Computed.{newly}
use Rattle.meaning.specs.Lowest.{Pick, none, one, lowest_from, lowest, in_both}
use Rattle.meaning.proofs.Next.{next-lowest, next-lowest-none}
use Rattle.meaning.proofs.Listed.{of-listed, listed-members}

pub lowest-in : (b : Book) {n : ℕ} → count b ≡ n → (s : Rules) {p : Pick} → p ≡ lowest_from 0 n s → p ≡ lowest b s
unfolding lowest
lowest-in b e s f = rw e f

-- ---- a search by the next member

module _ (n r : ℕ) (w : List ℕ) (next : NextIn (members w) 0 r) (few : n < 256) where
  next_of : NextIn (λ i. of (listed w) (rule_no i)) 0 r
  next_of = subst (λ (s : Set ℕ). NextIn s 0 r) (sym (listed-members w)) next

  pub next-found : r < n → one (rule_no r) ≡ lowest_from 0 n (of (listed w))
  next-found h = sym (next-lowest (of (listed w)) r n next_of (omega arith) h)

  pub next-nothing : n ≤ r → none ≡ lowest_from 0 n (of (listed w))
  next-nothing h = sym (next-lowest-none (of (listed w)) r n next_of (omega arith) h)

-- ---- the rules in both sets, and those that have a colour now and had none

pub both-listed : (w on off : List ℕ) → members w ≡ both (members on) (members off) → of (listed w) ≡ in_both (lent (listed on) (listed off))
both-listed w on off e =
    of-listed w ∙ fun_ext (λ r. ap (λ (s : Set ℕ). s r.0) e ∙ sym (ap₂ (λ (s t : Rules). s r && t r) (of-listed on) (of-listed off)))

pub newly-listed : (w v u on off was-on was-off : List ℕ) → members v ≡ plus (members on) (members off) → members u ≡ plus (members was-on) (members was-off)
    → members w ≡ less (members v) (members u)
    → of (listed w) ≡ newly (lent (listed was-on) (listed was-off)) (lent (listed on) (listed off))
unfolding newly uncoloured
newly-listed w v u on off was-on was-off f g e = of-listed w ∙ fun_ext (λ r.
    ap (λ (s : Set ℕ). s r.0) e ∙ ap₂ (λ (s t : Set ℕ). s r.0 && not (t r.0)) f g
    ∙ turned (members on r.0 || members off r.0) (members was-on r.0 || members was-off r.0)
    ∙ sym (ap₂ ◌&&◌ (coloured was-on was-off r) (ap not (coloured on off r))))
  where
    turned : (p q : Bool) → (p && not q) ≡ (not q && not (not p))
    turned true true = refl
    turned true false = refl
    turned false true = refl
    turned false false = refl

    coloured : (s t : List ℕ) (r : RuleNo) → not (of (listed s) r || of (listed t) r) ≡ not (members s r.0 || members t r.0)
    coloured s t r = ap₂ (λ (p q : Rules). not (p r || q r)) (of-listed s) (of-listed t)

-- the rules that are not off
pub marks-listed : (d all off : List ℕ) (n : ℕ) → members d ≡ less (members all) (members off) → members all ≡ below n
    → listed d ≡ table_from 0 256 (less (below n) (λ i. of (listed off) (rule_no i)))
unfolding listed
marks-listed d all off n e f =
    ap (table_from 0 256) (e ∙ ap₂ (λ (s t : Set ℕ). less s t) f (sym (listed-members off)))
