-- The reduct by its members, and a set closed under it said by rule numbers: it holds the head of each rule of the book that has no
-- negative atom in x and all of whose positive atoms it holds (blueprint, section 1). Everything else uses this, not the list.
use mathlib.Core.Path.{◌≡◌, refl, subst}
use mathlib.Core.Logic.{◌⊎◌, inr, ⊎_elim, ⊎_map}
use mathlib.Core.Bool.{Bool, true, false, true≢false}
use mathlib.Core.List.Memᴰ
use mathlib.Core.List.{List, [], ◌∷◌, Memᴰ}
use Rattle.meaning.specs.declared.RuleNo.{RuleNo}
use Rattle.meaning.specs.Sets.{◌∈◌, every, some}
use Rattle.meaning.specs.Books.{Atoms, Rule, Book, rule, InBook}
use Rattle.meaning.specs.AnswerSet.{keep_unless, reduct, obeys, ClosedUnder}
use Rattle.meaning.proofs.Tests.{implied, implies}
use Rattle.meaning.proofs.Sets.{every-at, every-all}
use Rattle.meaning.proofs.Rules.{rule-member, member-rule}

-- the rule without its negative part
abbrev pub bare : Rule → Rule
bare r = record { head = r.head; pos = r.pos; neg = [] }

keep-here : (t : Bool) (r : Rule) (l : List Rule) → t ≡ false → Memᴰ (bare r) (keep_unless t r l)
unfolding keep_unless
keep-here true r l e = absurd (true≢false e)
keep-here false r l e = Memᴰ.head refl

keep-there : (t : Bool) (r : Rule) {q : Rule} {l : List Rule} → Memᴰ q l → Memᴰ q (keep_unless t r l)
unfolding keep_unless
keep-there true r m = m
keep-there false r m = Memᴰ.tail m

keep-by : (t : Bool) (r q : Rule) (l : List Rule) → Memᴰ q (keep_unless t r l) → ((t ≡ false) × (q ≡ bare r)) ⊎ Memᴰ q l
unfolding keep_unless
keep-by true r q l m = inr m
keep-by false r q l m = ⊎_map (λ e. (refl, e)) (λ k. k) (Memᴰ.cases_cons m)

-- only rules without a negative atom in x are kept
pub reduct-by : (x : Atoms) (l : List Rule) (q : Rule) → Memᴰ q (reduct x l)
    → (r : Rule) × Memᴰ r l × (some x r.neg ≡ false) × (q ≡ bare r)
unfolding reduct
reduct-by x [] q m = absurd (Memᴰ.not-nil m)
reduct-by x (p ∷ l) q m =
    ⊎_elim (λ (n, e). (p, Memᴰ.head refl, n, e)) (λ k. let (r, j, n, e) = reduct-by x l q k in (r, Memᴰ.tail j, n, e))
    (keep-by _ p q (reduct x l) m)

-- and each of them is
pub reduct-of : (x : Atoms) (l : List Rule) (r : Rule) → Memᴰ r l → some x r.neg ≡ false → Memᴰ (bare r) (reduct x l)
unfolding reduct
reduct-of x [] r h n = elim h [ ]
reduct-of x (q ∷ l) r (Memᴰ.head p) n =
    Memᴰ.cast (λ i. bare (p i)) (keep-here (some x q.neg) q (reduct x l) (rw p at n))
reduct-of x (q ∷ l) r (Memᴰ.tail m) n = keep-there (some x q.neg) q (reduct-of x l r m n)

module _ (b : Book) (x y : Atoms) where
  abbrev pub ClosedBy : Type 0
  ClosedBy = (r : RuleNo) → InBook b r → some x (rule b r).neg ≡ false → every y (rule b r).pos ≡ true → (rule b r).head ∈ y

  pub closed→by : ClosedUnder (reduct x b.rules) y → ClosedBy
  unfolding obeys
  closed→by e r h n p =
      implies (every y (rule b r).pos) _ (every-at (obeys y) _ e _ (reduct-of x _ (rule b r) (rule-member b r h) n)) p

  pub by→closed : ClosedBy → ClosedUnder (reduct x b.rules) y
  unfolding obeys
  by→closed f = every-all (obeys y) _ (λ q m.
      let (p, k, n, e) = reduct-by x _ q m in let (r, h, g) = member-rule b p k in
      rw e (implied (every y p.pos) _
      (subst (λ (u : Rule). some x u.neg ≡ false → every y u.pos ≡ true → u.head ∈ y) g (f r h) n)))
