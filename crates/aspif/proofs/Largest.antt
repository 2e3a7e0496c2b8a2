-- The largest number of a rule and of the rules (specs/Reading): every atom is below it, and it is the least such.
use mathlib.Core.Path.{refl}
use mathlib.Core.List.{List, [], ◌∷◌, Memᴰ}
use Prim.Native.Nat.{ℕ, ◌≤◌, ◌<◌}
use native.Mathlib.Omega.{arith}
use Rattle.meaning.specs.declared.AtomNo.{AtomNo}
use Rattle.meaning.specs.Books.{Rule}
use Rattle.aspif.specs.Reading.{top_atom, top_rule, top_rules}

pub atom-below : (l : List AtomNo) (a : AtomNo) → Memᴰ a l → a.0 < top_atom l
unfolding top_atom
atom-below [] a h = elim h [ ]
atom-below (b ∷ l) a (Memᴰ.head p) = rw p (omega arith)
atom-below (b ∷ l) a (Memᴰ.tail m) = omega (arith, atom-below l a m)

pub atoms-top : (n : ℕ) (l : List AtomNo) → ((a : AtomNo) → Memᴰ a l → a.0 < n) → top_atom l ≤ n
unfolding top_atom
atoms-top n [] f = omega arith
atoms-top n (a ∷ l) f = omega (arith, f a (Memᴰ.head refl), atoms-top n l (λ c m. f c (Memᴰ.tail m)))

pub rule-below : (l : List Rule) (r : Rule) → Memᴰ r l → top_rule r ≤ top_rules l
unfolding top_rules
rule-below [] r h = elim h [ ]
rule-below (q ∷ l) r (Memᴰ.head p) = rw p (omega arith)
rule-below (q ∷ l) r (Memᴰ.tail m) = omega (arith, rule-below l r m)

pub rules-top : (n : ℕ) (l : List Rule) → ((r : Rule) → Memᴰ r l → top_rule r ≤ n) → top_rules l ≤ n
unfolding top_rules
rules-top n [] f = omega arith
rules-top n (r ∷ l) f = omega (arith, f r (Memᴰ.head refl), rules-top n l (λ q m. f q (Memᴰ.tail m)))
