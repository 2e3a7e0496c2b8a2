-- The two parts of a set of atoms at a number n, and their union: what is below n, and what is from n on, by its number less n. A rule
-- whose atoms are all below n sees the first part only, a rule numbered on by n the second only. The joined book is proved with this.
use mathlib.Core.Path.{◌≡◌, refl, sym, ◌∙◌, ap, fun_ext}
use mathlib.Core.Logic.{◌⊎◌, ◌↔◌, inl, inr, ⊎_elim}
use mathlib.Core.Bool.{Bool, true, false}
use mathlib.Core.List.{List, [], ◌∷◌, map}
use Prim.Native.Nat.{ℕ, ◌+◌, ◌-◌, ◌≤◌, ◌<◌}
use native.Mathlib.Omega.{arith}
use lib.Dec.{ltb}
use borrow.Author.Tests.{lt-ltb, le-ltb, ltb-true}
use Rattle.meaning.specs.declared.AtomNo.{AtomNo}
use Rattle.meaning.specs.Sets.{Set, ◌∈◌, ◌∉◌, ◌⊆◌, every, some}
use Rattle.meaning.specs.Books.{Atoms, atom_no, Rule}
use Rattle.meaning.specs.AnswerSet.{keep_unless, reduct, obeys}
use Rattle.meaning.specs.Joined.{up_atom, up_rule, below, own_rule, first_part, second_part, united}
use Rattle.meaning.proofs.Choice.{lt_yes, lt_no}
use Rattle.meaning.proofs.Tests.{both, and_left, and_right, not_first, lt-or-le}
use Rattle.meaning.proofs.Sets.{every-at, every-all, every-mono}
use Rattle.meaning.proofs.Reduct.{bare, reduct-by}

-- ---- lists: what is asked of images, and tests that are alike on the members

module _ {A B : Type 0} (s : Set B) (f : A → B) where
  pub every_map : (l : List A) → every s (map f l) ≡ every (λ a. s (f a)) l
  unfolding every
  every_map [] = refl
  every_map (x ∷ l) = rw (every_map l)

  some-map : (l : List A) → some s (map f l) ≡ some (λ a. s (f a)) l
  unfolding some
  some-map [] = refl
  some-map (x ∷ l) = rw (some-map l)

module _ {A : Type 0} {s t u : Set A} (alike : (i : A) → i ∈ u → s i ≡ t i) where
  pub every-alike : (l : List A) → every u l ≡ true → every s l ≡ every t l
  unfolding every
  every-alike [] e = refl
  every-alike (x ∷ l) e = rw (alike x (and_left (u x) _ e), every-alike l (and_right (u x) _ e))

  some_alike : (l : List A) → every u l ≡ true → some s l ≡ some t l
  unfolding every some
  some_alike [] e = refl
  some_alike (x ∷ l) e = rw (alike x (and_left (u x) _ e), some_alike l (and_right (u x) _ e))

-- ---- the parts of a set, and their union

module _ (n : ℕ) where
  pub first_below : (z : Atoms) (a : AtomNo) → a.0 < n → first_part n z a ≡ z a
  unfolding first_part
  first_below z a h = rw (lt-ltb a.0 n h)

  pub first-beyond : (z : Atoms) (a : AtomNo) → n ≤ a.0 → a ∉ first_part n z
  unfolding first_part
  first-beyond z a h = not_first _ (le-ltb a.0 n h)

  pub first_by : (z : Atoms) (a : AtomNo) → a ∈ first_part n z → (a.0 < n) × (a ∈ z)
  unfolding first_part
  first_by z a m = (ltb-true a.0 n (and_left (ltb a.0 n) _ m), and_right (ltb a.0 n) _ m)

  pub united-below : (x y : Atoms) (a : AtomNo) → a.0 < n → united n x y a ≡ x a
  unfolding united
  united-below x y a h = lt_yes a.0 n _ _ h

  pub united-beyond : (x y : Atoms) (a : AtomNo) → n ≤ a.0 → united n x y a ≡ y (atom_no (a.0 - n))
  unfolding united
  united-beyond x y a h = lt_no a.0 n _ _ h

  -- an atom from n on is one of the second book, numbered on
  up-down : (a : AtomNo) → n ≤ a.0 → up_atom n (atom_no (a.0 - n)) ≡ a
  up-down a h = let e : n + (a.0 - n) ≡ a.0 = omega arith in λ i. record { 0 = e i }

  down-up : (a : AtomNo) → atom_no (n + a.0 - n) ≡ a
  down-up a = let e : n + a.0 - n ≡ a.0 = omega arith in λ i. record { 0 = e i }

  pub first-united : (x y : Atoms) → first_part n (united n x y) ≡ first_part n x
  first-united x y = fun_ext (λ a. ⊎_elim
      (λ h. first_below _ a h ∙ united-below x y a h ∙ sym (first_below x a h))
      (λ h. first-beyond _ a h ∙ sym (first-beyond x a h))
      (lt-or-le a.0 n))

  pub united-second : (x y : Atoms) (a : AtomNo) → united n x y (up_atom n a) ≡ y a
  united-second x y a = united-beyond x y (up_atom n a) (omega arith) ∙ ap y (down-up a)

  pub second-united : (x y : Atoms) → second_part n (united n x y) ≡ y
  unfolding second_part
  second-united x y = fun_ext (united-second x y)

  pub united-parts : (z : Atoms) → united n (first_part n z) (second_part n z) ≡ z
  unfolding second_part
  united-parts z = fun_ext (λ a. ⊎_elim
      (λ h. united-below _ _ a h ∙ first_below z a h)
      (λ h. united-beyond _ _ a h ∙ ap z (up-down a h))
      (lt-or-le a.0 n))

  -- the union of a set below n and of another, numbered on
  pub united-union : (x y : Atoms) → ((a : AtomNo) → a ∈ x → a.0 < n) → (a : AtomNo)
      → (a ∈ united n x y) ↔ ((a ∈ x) ⊎ ((d : AtomNo) × (d ∈ y) × (a ≡ up_atom n d)))
  united-union x y inside a = (
    λ m. ⊎_elim
        (λ h. inl (sym (united-below x y a h) ∙ m))
        (λ h. inr (atom_no (a.0 - n), sym (united-beyond x y a h) ∙ m, sym (up-down a h)))
        (lt-or-le a.0 n),
    ⊎_elim (λ m. united-below x y a (inside a m) ∙ m) (λ (d, m, e). rw e (united-second x y d ∙ m)),
  )

  -- a set within another by its parts
  pub parts_within : (x z : Atoms) → first_part n x ⊆ first_part n z → second_part n x ⊆ second_part n z → x ⊆ z
  unfolding second_part
  parts_within x z f g a m = ⊎_elim
      (λ h. sym (first_below z a h) ∙ f a (first_below x a h ∙ m))
      (λ h. rw (up-down a h) at (g (atom_no (a.0 - n)) (ap x (up-down a h) ∙ m)))
      (lt-or-le a.0 n)

  pub first-within : (z x y : Atoms) → z ⊆ united n x y → first_part n z ⊆ x
  first-within z x y f a m = let (h, k) = first_by z a m in sym (united-below x y a h) ∙ f a k

  pub second-within : (z x y : Atoms) → z ⊆ united n x y → second_part n z ⊆ y
  unfolding second_part
  second-within z x y f a m = sym (united-second x y a) ∙ f (up_atom n a) m

  -- ---- rules whose atoms are all below n see the first part only

  below_alike : (z : Atoms) (a : AtomNo) → a ∈ below n → z a ≡ first_part n z a
  unfolding below
  below_alike z a m = sym (first_below z a (ltb-true a.0 n m))

  own-head : (r : Rule) → r ∈ own_rule n → r.head ∈ below n
  unfolding own_rule
  own-head r m = and_left (below n r.head) _ m

  own-pos : (r : Rule) → r ∈ own_rule n → every (below n) r.pos ≡ true
  unfolding own_rule
  own-pos r m = and_left (every (below n) r.pos) _ (and_right (below n r.head) _ m)

  own-neg : (r : Rule) → r ∈ own_rule n → every (below n) r.neg ≡ true
  unfolding own_rule
  own-neg r m = and_right (every (below n) r.pos) _ (and_right (below n r.head) _ m)

  own_bare : (r : Rule) → r ∈ own_rule n → bare r ∈ own_rule n
  unfolding own_rule every
  own_bare r m = both (own-head r m) (both (own-pos r m) refl)

  pub reduct-own : (x : Atoms) (l : List Rule) → every (own_rule n) l ≡ true → every (own_rule n) (reduct x l) ≡ true
  reduct-own x l own = every-all (own_rule n) _ (λ q m.
      let (r, k, f, e) = reduct-by x l q m in rw e (own_bare r (every-at (own_rule n) l own r k)))

  pub obeys-first : (y : Atoms) (r : Rule) → r ∈ own_rule n → obeys y r ≡ obeys (first_part n y) r
  unfolding obeys
  obeys-first y r m = rw (every-alike (below_alike y) r.pos (own-pos r m), below_alike y r.head (own-head r m))

  pub reduct-first : (z : Atoms) (l : List Rule) → every (own_rule n) l ≡ true → reduct z l ≡ reduct (first_part n z) l
  unfolding reduct every
  reduct-first z [] own = refl
  reduct-first z (r ∷ l) own =
      rw (some_alike (below_alike z) r.neg (own-neg r (and_left (own_rule n r) _ own)), reduct-first z l (and_right (own_rule n r) _ own))

  -- ---- rules numbered on see the second part only

  keep-up : (t : Bool) (r : Rule) (l : List Rule) → keep_unless t (up_rule n r) (map (up_rule n) l) ≡ map (up_rule n) (keep_unless t r l)
  unfolding keep_unless up_rule
  keep-up true r l = refl
  keep-up false r l = refl

  some_up : (z : Atoms) (r : Rule) → some z (up_rule n r).neg ≡ some (second_part n z) r.neg
  unfolding up_rule second_part
  some_up z r = some-map z (up_atom n) r.neg

  pub reduct-up : (z : Atoms) (l : List Rule) → reduct z (map (up_rule n) l) ≡ map (up_rule n) (reduct (second_part n z) l)
  unfolding reduct
  reduct-up z [] = refl
  reduct-up z (r ∷ l) = rw (some_up z r, reduct-up z l) (keep-up _ r _)

  pub obeys-up : (y : Atoms) (r : Rule) → obeys y (up_rule n r) ≡ obeys (second_part n y) r
  unfolding obeys up_rule second_part
  obeys-up y r = rw (every_map y (up_atom n) r.pos)

-- ---- own rules among more atoms, and numbered on

module _ (n m : ℕ) where
  below_more : below n ⊆ below (n + m)
  unfolding below
  below_more a k = lt-ltb a.0 (n + m) (omega (arith, ltb-true a.0 n k))

  below_up : (a : AtomNo) → a ∈ below m → up_atom n a ∈ below (n + m)
  unfolding below
  below_up a k = lt-ltb (n + a.0) (n + m) (omega (arith, ltb-true a.0 m k))

  pub own-more : own_rule n ⊆ own_rule (n + m)
  unfolding own_rule
  own-more r k =
      both (below_more _ (own-head n r k)) (both (every-mono below_more _ (own-pos n r k)) (every-mono below_more _ (own-neg n r k)))

  body_up : (l : List AtomNo) → every (below m) l ≡ true → every (below (n + m)) (map (up_atom n) l) ≡ true
  body_up l k = rw every_map (every-mono below_up l k)

  pub own-up : own_rule m ⊆ (λ r. own_rule (n + m) (up_rule n r))
  unfolding own_rule up_rule
  own-up r k = both (below_up _ (own-head m r k)) (both (body_up _ (own-pos m r k)) (body_up _ (own-neg m r k)))
