-- Two books that hold the same rules have the same answer sets, and the same holds throughout them (blueprint M3). So neither sorting
-- the book nor repeating a rule can change a name: only membership in the list counts in the reduct.
use mathlib.Core.Path.{◌∙◌}
use mathlib.Core.List.Memᴰ
use mathlib.Core.List.{List, ◌∷◌, Memᴰ}
use mathlib.Core.List.Permᴰ
use mathlib.Core.List.{Permᴰ}
use mathlib.Core.Logic.{◌↔◌}
use Rattle.meaning.specs.declared.AtomNo.{AtomNo}
use Rattle.meaning.specs.Sets.{Set}
use Rattle.meaning.specs.Books.{Atoms, Rule, Book}
use Rattle.meaning.specs.AnswerSet.{reduct, obeys, ClosedUnder, AnswerSet, Throughout, Certain}
use Rattle.meaning.proofs.Sets.{every-at, every-all}
use Rattle.meaning.proofs.Least.{smallest-same}
use Rattle.meaning.proofs.Reduct.{reduct-of, reduct-by}

-- every rule of one book stands in the other
pub record SameRules (b d : Book) : Type 0 where
  pub to : (r : Rule) → Memᴰ r b.rules → Memᴰ r d.rules
  pub from : (r : Rule) → Memᴰ r d.rules → Memᴰ r b.rules

pub same-rules-sym : {b d : Book} → SameRules b d → SameRules d b
same-rules-sym s = record { to = s.from; from = s.to }

-- what is closed under the reduct of a list is closed under that of a list with fewer rules
closed-fewer : (x y : Atoms) (l m : List Rule) → ((r : Rule) → Memᴰ r l → Memᴰ r m)
    → ClosedUnder (reduct x m) y → ClosedUnder (reduct x l) y
closed-fewer x y l m f k = every-all (obeys y) _ (λ q j.
    let (r, g, n, e) = reduct-by x l q j in every-at (obeys y) _ k q (Memᴰ.cast e (reduct-of x m r (f r g) n)))

pub answer-same : {b d : Book} → SameRules b d → (x : Atoms) → AnswerSet b x → AnswerSet d x
answer-same s x = smallest-same (λ y k. closed-fewer x y _ _ s.from k) (λ y k. closed-fewer x y _ _ s.to k)

pub throughout-same : {b d : Book} → SameRules b d → (fact : Set Atoms) → Throughout b fact → Throughout d fact
throughout-same s fact t = record {
  one = let (x, answer) = t.one in (x, answer-same s x answer);
  each = λ x answer. t.each x (answer-same (same-rules-sym s) x answer);
}

pub certain-same : {b d : Book} → SameRules b d → (a : AtomNo) → Certain b a ↔ Certain d a
certain-same s a = (throughout-same s _, throughout-same (same-rules-sym s) _)

-- ---- permuting the rules, and repeating one

permuted-member : {l m : List Rule} → Permᴰ l m → (r : Rule) → Memᴰ r l → Memᴰ r m
permuted-member Permᴰ.nil r k = k
permuted-member (Permᴰ.cons e p) r (Memᴰ.head g) = Memᴰ.head (g ∙ e)
permuted-member (Permᴰ.cons e p) r (Memᴰ.tail k) = Memᴰ.tail (permuted-member p r k)
permuted-member (Permᴰ.swap e f) r (Memᴰ.head g) = Memᴰ.tail (Memᴰ.head (g ∙ e))
permuted-member (Permᴰ.swap e f) r (Memᴰ.tail (Memᴰ.head g)) = Memᴰ.head (g ∙ f)
permuted-member (Permᴰ.swap e f) r (Memᴰ.tail (Memᴰ.tail k)) = Memᴰ.tail (Memᴰ.tail k)
permuted-member (Permᴰ.trans p q) r k = permuted-member q r (permuted-member p r k)

pub permuted : (b d : Book) → Permᴰ b.rules d.rules → SameRules b d
permuted b d p = record { to = permuted-member p; from = permuted-member (Permᴰ.symm p) }

pub repeated : (b : Book) (r : Rule) → Memᴰ r b.rules → SameRules b (record { atoms = b.atoms; rules = r ∷ b.rules })
repeated b r m = record { to = λ q k. Memᴰ.tail k; from = back }
  where
    back : (q : Rule) → Memᴰ q (r ∷ b.rules) → Memᴰ q b.rules
    back q (Memᴰ.head e) = Memᴰ.cast e m
    back q (Memᴰ.tail k) = k

pub certain-permuted : (b d : Book) (a : AtomNo) → Permᴰ b.rules d.rules → Certain b a ↔ Certain d a
certain-permuted b d a p = certain-same (permuted b d p) a

pub certain-repeated : (b : Book) (r : Rule) (a : AtomNo) → Memᴰ r b.rules
    → Certain b a ↔ Certain (record { atoms = b.atoms; rules = r ∷ b.rules }) a
certain-repeated b r a m = certain-same (repeated b r m) a
