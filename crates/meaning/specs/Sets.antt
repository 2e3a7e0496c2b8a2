-- Sets as tests, and the smallest one of a kind. Document 01 speaks of sets throughout; nothing here is particular to books.
--
--   i ∈ s, i ∉ s     the test s says yes to i, says no to i
--   s ⊆ t            what is in s is in t
--   every s l        every member of the list l is in s
--   some s l         some member of the list l is in s
--   every_below n s   every number below n is in s
--   some_below n s    some number below n is in s
--   ascending l      each number of the list is greater than the one before it
--   Smallest W G s   s is G, and within (in the sense W) all that are G
use Rattle.std.specs.Prelude.{◌≡◌, Bool, true, false, ◌&&◌, ◌||◌, List, [], ◌∷◌, ℕ, zero, suc, ltb}

abbrev pub Set : Type 0 → Type 0
Set A = A → Bool

infix 40 ◌∈◌
abbrev pub ◌∈◌ : {A : Type 0} → A → Set A → Type 0
i ∈ s = s i ≡ true

infix 40 ◌∉◌
abbrev pub ◌∉◌ : {A : Type 0} → A → Set A → Type 0
i ∉ s = s i ≡ false

infix 40 ◌⊆◌
abbrev pub ◌⊆◌ : {A : Type 0} → Set A → Set A → Type 0
◌⊆◌ {A} s t = (i : A) → i ∈ s → i ∈ t

unfoldable pub every : {A : Type 0} → Set A → List A → Bool
every s [] = true
every s (x ∷ l) = s x && every s l

unfoldable pub some : {A : Type 0} → Set A → List A → Bool
some s [] = false
some s (x ∷ l) = s x || some s l

unfoldable pub every_below : ℕ → Set ℕ → Bool
every_below zero s = true
every_below (suc n) s = s n && every_below n s

unfoldable pub some_below : ℕ → Set ℕ → Bool
some_below zero s = false
some_below (suc n) s = s n || some_below n s

unfoldable pub ascending : List ℕ → Bool
ascending [] = true
ascending (i ∷ []) = true
ascending (i ∷ (j ∷ l)) = ltb i j && ascending (j ∷ l)

pub record Smallest {S : Type 0} (Within : S → S → Type 0) (Good : S → Type 0) (s : S) : Type 0 where
  pub good : Good s
  pub least : (t : S) → Good t → Within s t
