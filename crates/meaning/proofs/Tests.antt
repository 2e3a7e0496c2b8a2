-- The laws of tests that everything else is proved with: what a test by && and || says of its parts, and back.
use mathlib.Core.Path.{◌≡◌, refl, sym, ◌∙◌}
use mathlib.Core.Logic.{◌⊎◌, inl, inr, ⊎_map}
use mathlib.Core.Bool.{Bool, true, false, not, ◌&&◌, ◌||◌, true≢false, false≢true}
use native.Mathlib.Omega.{arith}
use Prim.Native.Nat.{ℕ, ◌≤◌, ◌<◌}
use lib.Dec.{ltb}
use borrow.Author.Tests.{ltb-true, ltb-false}

-- ---- and

pub both : {a b : Bool} → a ≡ true → b ≡ true → (a && b) ≡ true
both p q = rw (p, q)

pub and_left : (a b : Bool) → (a && b) ≡ true → a ≡ true
and_left true b e = refl
and_left false b e = e

pub and_right : (a b : Bool) → (a && b) ≡ true → b ≡ true
and_right true b e = e
and_right false b e = absurd (false≢true e)

pub not_first : {a : Bool} (b : Bool) → a ≡ false → (a && b) ≡ false
not_first b p = rw p

pub not-second : (a : Bool) {b : Bool} → b ≡ false → (a && b) ≡ false
not-second true p = p
not-second false p = refl

-- ---- or

pub either : (a b : Bool) → (a || b) ≡ true → (a ≡ true) ⊎ (b ≡ true)
either true b e = inl refl
either false b e = inr e

pub or_left : {a : Bool} (b : Bool) → a ≡ true → (a || b) ≡ true
or_left b p = rw p

pub or_right : (a : Bool) {b : Bool} → b ≡ true → (a || b) ≡ true
or_right true p = refl
or_right false p = p

pub neither : {a b : Bool} → a ≡ false → b ≡ false → (a || b) ≡ false
neither p q = rw (p, q)

pub neither_left : (a b : Bool) → (a || b) ≡ false → a ≡ false
neither_left true b e = e
neither_left false b e = refl

pub neither_right : (a b : Bool) → (a || b) ≡ false → b ≡ false
neither_right true b e = absurd (true≢false e)
neither_right false b e = e

-- ---- not a || b: a implies b

pub implied : (a b : Bool) → (a ≡ true → b ≡ true) → (not a || b) ≡ true
implied true b f = f refl
implied false b f = refl

pub implies : (a b : Bool) → (not a || b) ≡ true → a ≡ true → b ≡ true
implies true b e p = e
implies false b e p = absurd (false≢true p)

-- ---- a test is its own decision

pub decided : (a : Bool) → (a ≡ true) ⊎ (a ≡ false)
decided true = inl refl
decided false = inr refl

pub true-and-false : {A : Type 0} {a : Bool} → a ≡ true → a ≡ false → A
true-and-false p q = absurd (true≢false (sym p ∙ q))

-- what implies a false test is false
pub absent : {a b : Bool} → (a ≡ true → b ≡ true) → b ≡ false → a ≡ false
absent {a = true} f n = sym (f refl) ∙ n
absent {a = false} f n = refl

pub refuted : {a : Bool} → (a ≡ true → ⊥) → a ≡ false
refuted {a = true} f = absurd (f refl)
refuted {a = false} f = refl

pub proved : {a : Bool} → (a ≡ false → ⊥) → a ≡ true
proved {a = true} f = refl
proved {a = false} f = absurd (f refl)

pub same : (a b : Bool) → (a ≡ true → b ≡ true) → (b ≡ true → a ≡ true) → a ≡ b
same true b f g = sym (f refl)
same false true f g = g refl
same false false f g = refl

-- ---- numbers

pub lt-or-le : (m n : ℕ) → (m < n) ⊎ (n ≤ m)
lt-or-le m n = ⊎_map (ltb-true m n) (ltb-false m n) (decided (ltb m n))

-- two cases of one answer are never equal: cc proves 0 ≡ 1 of them
pub apart : {A : Type 0} → ◌≡◌ {A = ℕ} 0 1 → A
apart e = absurd (omega arith)
