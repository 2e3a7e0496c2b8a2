-- Lists of sets no two of which agree (specs/Own): two lists joined; a list in the order of readings is one; and such a list is no longer
-- than a list that holds a set agreeing with each of its own, since these are at different places there.
use mathlib.Core.Path.{◌≡◌, refl, sym, ◌∙◌, ap, subst, fun_ext}
use mathlib.Core.Logic.{◌⊎◌, inl, inr, ⊎_elim, ⊎_map}
use mathlib.Core.List.Memᴰ
use mathlib.Core.List.{List, [], ◌∷◌, ◌++◌, Memᴰ}
use Prim.Native.Nat.{suc, ◌≤◌}
use native.Mathlib.Omega.{arith}
use lib.ListN.{length}
use Rattle.meaning.specs.Books.{Atoms, Book}
use Rattle.walk.specs.Readings.{Agree, Before, Ordered, no_more as in_order, comes-first}
use Rattle.walk.proofs.Order.{before-irreflexive}
use Rattle.nomore.specs.Own.{Apart, no_more, differs}

pub apart-append : {l k : List Atoms} → Apart l → Apart k
    → ((x : Atoms) → Memᴰ x l → (y : Atoms) → Memᴰ y k → Agree x y → ⊥) → Apart (l ++ k)
apart-append no_more q f = q
apart-append (differs {l = l} g p) q f = differs
    (λ y m. ⊎_elim (g y) (f _ (Memᴰ.head refl) y) (Memᴰ.append_cases l m))
    (apart-append p q (λ x m. f x (Memᴰ.tail m)))

pub ordered-apart : (b : Book) {l : List Atoms} → Ordered b l → Apart l
ordered-apart b in_order = no_more
ordered-apart b (comes-first {x = x} f o) =
    differs (λ y m e. before-irreflexive b x (subst (Before b x) (sym (fun_ext e)) (f y m))) (ordered-apart b o)

-- ---- how long

without : {y : Atoms} (k : List Atoms) → Memᴰ y k → List Atoms
without {y = y} [] m = elim m [ ]
without (x ∷ k) (Memᴰ.head p) = k
without (x ∷ k) (Memᴰ.tail m) = x ∷ without k m

without-length : {y : Atoms} (k : List Atoms) (m : Memᴰ y k) → suc (length (without k m)) ≡ length k
unfolding without
without-length {y = y} [] m = elim m [ ]
without-length (x ∷ k) (Memᴰ.head p) = refl
without-length (x ∷ k) (Memᴰ.tail m) = ap suc (without-length k m)

without_other : {y : Atoms} (k : List Atoms) (m : Memᴰ y k) (z : Atoms) → Memᴰ z k → (z ≡ y) ⊎ Memᴰ z (without k m)
unfolding without
without_other {y = y} [] m z _ = elim m [ ]
without_other (x ∷ k) (Memᴰ.head p) z (Memᴰ.head q) = inl (q ∙ sym p)
without_other (x ∷ k) (Memᴰ.head p) z (Memᴰ.tail n) = inr n
without_other (x ∷ k) (Memᴰ.tail m) z (Memᴰ.head q) = inr (Memᴰ.head q)
without_other (x ∷ k) (Memᴰ.tail m) z (Memᴰ.tail n) = ⊎_map (λ e. e) (λ e. Memᴰ.tail e) (without_other k m z n)

pub at_most : (l k : List Atoms) → Apart l → ((x : Atoms) → Memᴰ x l → (y : Atoms) × Memᴰ y k × Agree x y)
    → length l ≤ length k
at_most [] k p f = omega arith
at_most (x ∷ l) k (differs g p) f = let (y, m, e) = f x (Memᴰ.head refl) in
    omega (
      arith,
      without-length k m,
      at_most l (without k m) p (λ z n. let (u, j, d) = f z (Memᴰ.tail n) in
          ⊎_elim (λ q. absurd (g z n (λ a. e a ∙ ap (λ (w : Atoms). w a) (sym q) ∙ sym (d a)))) (λ i. (u, i, d)) (without_other k m u j)),
    )
