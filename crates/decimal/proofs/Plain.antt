-- A word says a number in the fewest digits exactly if it is the number's digits (document 02, request 12: our text has no other).
--
--   plain-decimal        a number's digits say it, where it is within the bound
--   decimal-plain        a word that says a number is the number's digits
use mathlib.Core.Path.{◌≡◌, refl, sym, ◌∙◌, ap}
use mathlib.Core.List.{List, [], ◌∷◌, ◌++◌, append_assoc, append-nil}
use Prim.Native.Nat.{ℕ, ◌+◌, ◌*◌, ◌-◌, ◌/◌, ◌%◌, ◌<◌, ◌≤◌}
use native.Mathlib.Omega.{arith}
use Rattle.meaning.proofs.Choice.{lt_no, eq_yes, eq_no, lt-either, eq-either}
use Rattle.std.specs.Prelude.{Option, Some, None}
use Rattle.decimal.specs.Digits.{value_from, plain_of}
use Rattle.decimal.specs.Fewest.{decimal}
use Rattle.decimal.proofs.Fewest.{decimal-small, decimal-large, decimal_step, by_digits, decimal-some, decimal-two, decimal-starts}
use Rattle.decimal.proofs.Bounds.{value-one}

-- the digits behind v say u, and the first of them is x
record First (most v x u : ℕ) (l : List ℕ) : Type 0 where
  low : 48 ≤ x
  high : x ≤ 57
  few : 10 * v + (x - 48) ≤ most
  rest : value_from most (10 * v + (x - 48)) l ≡ Some u

module _ (most : ℕ) where
  not-a-value : {u : ℕ} {A : Type 0} → None ≡ Some u → A
  not-a-value e = let z : ◌≡◌ {A = ℕ} 0 1 = cc in absurd (omega arith)

  value-first : (v x u : ℕ) (l : List ℕ) → value_from most v (x ∷ l) ≡ Some u → First most v x u l
  unfolding value_from
  value-first v x u l =
      let P : Option ℕ → Type 0 = λ r. r ≡ Some u → First most v x u l in
      lt-either P x 48 _ _ (λ h. not-a-value) (λ h.
      lt-either P 57 x _ _ (λ g. not-a-value) (λ g.
      lt-either P most _ _ _ (λ k. not-a-value) (λ k e. record { low = h; high = g; few = k; rest = e })))

  value-next : (v x : ℕ) (l : List ℕ) → 48 ≤ x → x ≤ 57 → 10 * v + (x - 48) ≤ most
      → value_from most v (x ∷ l) ≡ value_from most (10 * v + (x - 48)) l
  unfolding value_from
  value-next v x l h g k = lt_no _ _ _ _ h ∙ lt_no _ _ _ _ g ∙ lt_no _ _ _ _ k

  value-digit : (v d : ℕ) (l : List ℕ) → d < 10 → 10 * v + d ≤ most → value_from most v ((48 + d) ∷ l) ≡ value_from most (10 * v + d) l
  value-digit v d l h g =
      let e : 48 + d - 48 ≡ d = omega arith in
      rw e at (value-next v (48 + d) l (omega arith) (omega arith) (rw e g))

  value-whole : (v : ℕ) → value_from most v [] ≡ Some v
  unfolding value_from
  value-whole v = refl

  -- one digit more at the end
  value-end : (l : List ℕ) (v u d : ℕ) → value_from most v l ≡ Some u → d < 10 → 10 * u + d ≤ most
      → value_from most v (l ++ ((48 + d) ∷ [])) ≡ Some (10 * u + d)
  value-end [] v u d e h g =
      let f : v ≡ u = value-one v u (sym (value-whole v) ∙ e) in rw f (value-digit u d [] h g ∙ value-whole (10 * u + d))
  value-end (x ∷ l) v u d e h g =
      let f = value-first v x u l e in
      value-next v x _ f.low f.high f.few ∙ value-end l (10 * v + (x - 48)) u d f.rest h g

  value-decimal : (n : ℕ) → n ≤ most → value_from most 0 (decimal n) ≡ Some n
  value-decimal = by_digits (λ n. n ≤ most → value_from most 0 (decimal n) ≡ Some n) one more
    where
      one : (n : ℕ) → n < 10 → n ≤ most → value_from most 0 (decimal n) ≡ Some n
      one n h g =
          let z : 10 * 0 + n ≡ n = omega arith in
          rw (decimal-small n h) (value-digit 0 n [] h (omega arith) ∙ value-whole (10 * 0 + n) ∙ ap Some z)

      more : (n : ℕ) → 10 ≤ n → (n / 10 ≤ most → value_from most 0 (decimal (n / 10)) ≡ Some (n / 10)) → n ≤ most
          → value_from most 0 (decimal n) ≡ Some n
      more n h f g =
          let e : 10 * (n / 10) + n % 10 ≡ n = omega arith in
          rw (decimal-large n h) (value-end _ 0 (n / 10) (n % 10) (f (omega arith)) (omega arith) (omega arith) ∙ ap Some e)

  -- the digits of a number that is not 0 go on as the text does
  decimal-value : (l : List ℕ) (u v : ℕ) → 0 < u → value_from most u l ≡ Some v → decimal v ≡ decimal u ++ l
  decimal-value [] u v h e = rw (append-nil, value-one u v (sym (value-whole u) ∙ e))
  decimal-value (x ∷ l) u v h e =
      let f = value-first u x v l e in
      let g : 48 + (x - 48) ≡ x = omega (arith, f.low) in
      decimal-value l (10 * u + (x - 48)) v (omega arith) f.rest
      ∙ ap (λ m. m ++ l) (decimal_step u (x - 48) h (omega (arith, f.low, f.high)))
      ∙ rw (append_assoc, g)

  pub plain-decimal : (n : ℕ) → n ≤ most → plain_of most (decimal n) ≡ Some n
  unfolding plain_of
  plain-decimal n h =
      lt-either {A = ℕ} (λ _. plain_of most (decimal n) ≡ Some n) n 10 0 0
      (λ g. eq_no _ _ _ _ (λ e. omega (arith, decimal-some n)) ∙ eq_yes _ _ _ _ (rw (decimal-small n g)) ∙ value-decimal n h)
      (λ g. eq_no _ _ _ _ (λ e. omega (arith, decimal-some n)) ∙ eq_no _ _ _ _ (λ e. omega (arith, decimal-two n g))
      ∙ eq_no _ _ _ _ (decimal-starts n (omega arith)) ∙ value-decimal n h)

  pub decimal-plain : (l : List ℕ) (n : ℕ) → plain_of most l ≡ Some n → l ≡ decimal n
  unfolding plain_of
  decimal-plain [] n e = not-a-value (sym (eq_yes _ _ _ _ refl) ∙ e)
  decimal-plain (x ∷ []) n e =
      let f = value-first 0 x n [] (sym (eq_no _ _ _ _ (λ e. omega arith) ∙ eq_yes _ _ _ _ refl) ∙ e) in
      let g : 48 + (x - 48) ≡ x = omega (arith, f.low) in
      let h : 10 * 0 + (x - 48) ≡ n = value-one _ n (sym (value-whole (10 * 0 + (x - 48))) ∙ f.rest) in
      let k : x - 48 ≡ n = omega arith in
      sym (rw (← k) (decimal-small (x - 48) (omega (arith, f.low, f.high)) ∙ rw g))
  decimal-plain (x ∷ (y ∷ l)) n e = eq-either (λ r. r ≡ Some n → (x ∷ (y ∷ l)) ≡ decimal n) x 48 None (value_from most 0 (x ∷ (y ∷ l)))
      (λ h. not-a-value) (λ h e. longer h (value-first 0 x n (y ∷ l) e)) (sym (eq_no _ _ _ _ (λ e. omega arith) ∙ eq_no _ _ _ _ (λ e. omega arith)) ∙ e)
    where
      longer : (x ≡ 48 → ⊥) → First most 0 x n (y ∷ l) → (x ∷ (y ∷ l)) ≡ decimal n
      longer h f =
          let g : 48 + (x - 48) ≡ x = omega (arith, f.low) in
          let k : 10 * 0 + (x - 48) ≡ x - 48 = omega arith in
          sym (decimal-value (y ∷ l) (x - 48) n (omega (arith, f.low)) (rw k at f.rest)
          ∙ ap (λ m. m ++ (y ∷ l)) (decimal-small (x - 48) (omega (arith, f.low, f.high))) ∙ rw g)
