-- The pieces of a text, written and then read, and read and then written: bytes, a number, the two behind one another. A number ends where no
-- digit follows.
--
--   x-there          what is written is read
--   x-back           what is read was written
use mathlib.Core.Path.{◌≡◌, refl, sym, ◌∙◌, ap}
use mathlib.Core.List.{List, [], ◌∷◌, ◌++◌}
use Prim.Native.Nat.{ℕ, suc, ◌<◌, ◌≤◌}
use Prim.{Unit, tt}
use native.Mathlib.Omega.{arith}
use lib.ListN.{length, take, drop, take-append-drop}
use lib.Seq.{take-append_seam, drop-append_seam}
use Rattle.meaning.specs.Choice.{if_lt}
use Rattle.meaning.proofs.Choice.{lt_yes, lt_no, eq_yes, eq_no, eq-either, lt-either}
use Rattle.std.specs.Prelude.{Option, Some, None}
use Rattle.decimal.specs.Digits.{plain_of}
use Rattle.decimal.specs.Fewest.{decimal}
use Rattle.decimal.proofs.Fewest.{AllDigits, none, more, decimal-digits}
use Rattle.decimal.proofs.Plain.{plain-decimal, decimal-plain}
use Rattle.aspif.specs.Reading.{Got, got, outside, on_got, skip, digit_count, numbered, number_in, item_in}

pub not-got : {A : Type 0} {a : A} {l : List ℕ} {B : Type 0} → outside ≡ got a l → B
not-got e = let z : ◌≡◌ {A = ℕ} 0 1 = cc in absurd (omega arith)

-- what was read first, where reading went on
pub record Then {A B : Type 0} (x : Got A) (go : A → List ℕ → Got B) (b : B) (r : List ℕ) : Type 0 where
  pub value : A
  pub rest : List ℕ
  pub first : x ≡ got value rest
  pub then : go value rest ≡ got b r

module _ {A B : Type 0} (stop : Got B) (go : A → List ℕ → Got B) where
  pub on-got : {x : Got A} {a : A} {l : List ℕ} → x ≡ got a l → on_got x stop go ≡ go a l
  unfolding on_got
  on-got e = rw e

  pub on-outside : {x : Got A} → x ≡ outside → on_got x stop go ≡ stop
  unfolding on_got
  on-outside e = rw e

pub then-got : {A B : Type 0} (x : Got A) (go : A → List ℕ → Got B) {b : B} {r : List ℕ} → on_got x outside go ≡ got b r → Then x go b r
unfolding on_got
then-got (got a l) go e = record { value = a; rest = l; first = refl; then = e }
then-got outside go e = not-got e

-- ---- bytes

pub skip-there : (m l : List ℕ) → skip m (m ++ l) ≡ got tt l
unfolding skip
skip-there [] l = refl
skip-there (x ∷ m) l = eq_yes _ _ _ _ refl ∙ skip-there m l

pub skip-back : (m l r : List ℕ) (u : Unit {0}) → skip m l ≡ got u r → l ≡ m ++ r
unfolding skip
skip-back [] l r u e = cc
skip-back (x ∷ m) [] r u e = not-got e
skip-back (x ∷ m) (y ∷ l) r u e =
    eq-either (λ z. z ≡ got u r → (y ∷ l) ≡ x ∷ (m ++ r)) x y (skip m l) outside
    (λ h f. rw h (ap (λ k. y ∷ k) (skip-back m l r u f))) (λ h. not-got) e

pub skip-other : (x : ℕ) (m : List ℕ) (y : ℕ) (l : List ℕ) → (x ≡ y → ⊥) → skip (x ∷ m) (y ∷ l) ≡ outside
unfolding skip
skip-other x m y l h = eq_no _ _ _ _ h

-- ---- a number

pub no_digit : (x : ℕ) (l : List ℕ) → x < 48 → digit_count (x ∷ l) ≡ 0
unfolding digit_count
no_digit x l h = lt_yes _ _ _ _ h

count-digits : {w : List ℕ} → AllDigits w → (r : List ℕ) → digit_count r ≡ 0 → digit_count (w ++ r) ≡ length w
unfolding digit_count
count-digits none r e = e
count-digits (more h g d) r e = lt_no _ _ _ _ h ∙ lt_no _ _ _ _ g ∙ ap suc (count-digits d r e)

module _ (most : ℕ) where
  pub number-there : (n : ℕ) (r : List ℕ) → n ≤ most → digit_count r ≡ 0 → number_in most (decimal n ++ r) ≡ got n r
  unfolding number_in numbered
  number-there n r h e =
      rw (count-digits (decimal-digits n) r e, take-append_seam, drop-append_seam, plain-decimal most n h)

  number-value : (d : Option ℕ) (l r : List ℕ) (v : ℕ) → numbered d l ≡ got v r → (d ≡ Some v) × (l ≡ r)
  unfolding numbered
  number-value (Some u) l r v e = (cc, cc)
  number-value None l r v e = not-got e

  pub number-back : (l r : List ℕ) (v : ℕ) → number_in most l ≡ got v r → l ≡ decimal v ++ r
  unfolding number_in
  number-back l r v e =
      let (f, g) = number-value (plain_of most (take (digit_count l) l)) (drop (digit_count l) l) r v e in
      rw (← decimal-plain most (take (digit_count l) l) v f, ← g) (sym (take-append-drop (digit_count l) l))

  -- no digit, no number
  pub number-none : (l : List ℕ) → digit_count l ≡ 0 → number_in most l ≡ outside
  unfolding number_in numbered plain_of
  number-none l e = rw e (ap (λ d. numbered d l) (eq_yes 0 0 _ _ refl))

  -- ---- the two behind one another

  pub item-there : (m : List ℕ) (least v : ℕ) (r : List ℕ) → least ≤ v → v ≤ most → digit_count r ≡ 0
      → item_in most m least (m ++ (decimal v ++ r)) ≡ got v r
  unfolding item_in
  item-there m least v r h g e =
      on-got _ _ (skip-there m (decimal v ++ r)) ∙ on-got _ _ (number-there v r g e) ∙ lt_no _ _ _ _ h

  pub item_back : (m : List ℕ) (least : ℕ) (l r : List ℕ) (v : ℕ) → item_in most m least l ≡ got v r
      → (l ≡ m ++ (decimal v ++ r)) × (least ≤ v)
  unfolding item_in
  item_back m least l r v e =
      let s = then-got _ _ e in
      let n = then-got _ _ s.then in
      let (f, h) = rose n.value n.rest n.then in
      (skip-back m l s.rest s.value s.first ∙ ap (λ k. m ++ k) (number-back s.rest r v (n.first ∙ f)), h)
    where
      rose : (u : ℕ) (k : List ℕ) → if_lt u least outside (got u k) ≡ got v r → (got u k ≡ got v r) × (least ≤ v)
      rose u k = lt-either (λ z. z ≡ got v r → (got u k ≡ got v r) × (least ≤ v)) u least outside (got u k)
          (λ h. not-got) (λ h e. let f : u ≡ v = cc in (e, rw (← f) h))

  pub item-none : (m : List ℕ) (least : ℕ) (l r : List ℕ) (u : Unit {0}) → skip m l ≡ got u r → digit_count r ≡ 0
      → item_in most m least l ≡ outside
  unfolding item_in
  item-none m least l r u e d = on-got _ _ e ∙ on-outside _ _ (number-none r d)

  pub item-other : (m : List ℕ) (least : ℕ) (l : List ℕ) → skip m l ≡ outside → item_in most m least l ≡ outside
  unfolding item_in
  item-other m least l e = on-outside _ _ e
