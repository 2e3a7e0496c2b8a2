-- What the functions that read pieces find on each way through them is what specs/Reading says.
use mathlib.Core.Path.{◌≡◌, refl, sym, ◌∙◌, ap}
use mathlib.Core.List.{List}
use Prim.Native.Nat.{ℕ, ◌+◌, ◌-◌, ◌<◌, ◌≤◌}
use native.Mathlib.Omega.{arith}
use lib.ListN.{length, take, drop}
use lib.Seq.{drop-drop}
use Rattle.meaning.proofs.Choice.{lt_yes, lt_no, eq_yes, eq-either}
use Rattle.std.specs.Prelude.{Option, Some, None}
use Rattle.decimal.specs.Digits.{plain_of}
use Rattle.decimal.proofs.Bounds.{plain-bound, up_to}
use Rattle.aspif.specs.Reading.{skip, digit_count, numbered, number_in, item_in}
use Rattle.aspif.specs.Scanning.{went, seen, Reaches, reached, nowhere, Behind, value, nothing}
use Rattle.aspif.proofs.Pieces.{on-got, on-outside}

-- ---- a number

module _ (s : List ℕ) (at end : ℕ) (e : end ≡ at + digit_count (drop at s)) (d : Option ℕ)
    (f : d ≡ plain_of (length s) (take (end - at) (drop at s))) where
  number_read : numbered d (drop end s) ≡ number_in (length s) (drop at s)
  unfolding number_in
  number_read =
      let g : end - at ≡ digit_count (drop at s) = omega arith in
      rw (drop-drop, ← e, ← g, ← f)

  -- a number has a digit
  some-digit : (v : ℕ) → plain_of (length s) (take (end - at) (drop at s)) ≡ Some v → at < end
  unfolding plain_of
  some-digit v g =
      eq-either {A = ℕ} (λ _. at < end) (digit_count (drop at s)) 0 0 0
      (λ h. let k : end - at ≡ 0 = omega arith in
      let z : None ≡ Some v = sym (eq_yes 0 0 _ _ refl) ∙ rw k at g in
      let y : ◌≡◌ {A = ℕ} 0 1 = cc in absurd (omega arith))
      (λ h. omega arith)

  pub number-value : (v : ℕ) → d ≡ Some v → end ≤ length s
      → (seen s (Some (v, end)) ≡ number_in (length s) (drop at s)) × Behind at (length s) (Some (v, end))
  unfolding seen numbered
  number-value v g h = (
    ap (λ x. numbered x (drop end s)) (sym g) ∙ number_read,
    value (up_to (plain-bound (length s) (take (end - at) (drop at s))) (sym f ∙ g)) (some-digit v (sym f ∙ g)) h,
  )

  pub number-nothing : d ≡ None → (seen s None ≡ number_in (length s) (drop at s)) × Behind at (length s) None
  unfolding seen numbered
  number-nothing g = (ap (λ x. numbered x (drop end s)) (sym g) ∙ number_read, nothing)

-- ---- a word and a number behind it

pub reaches : {least most n : ℕ} {x : Option ℕ} → Reaches least most x → x ≡ Some n → (least ≤ n) × (n ≤ most)
reaches {n} (reached {n = m} h g) e = let f : m ≡ n = cc in (omega arith, omega arith)
reaches {n} nowhere e = let z : ◌≡◌ {A = ℕ} 0 1 = cc in absurd (omega arith)

pub behind : {at most v n : ℕ} {y : Option (ℕ × ℕ)} → Behind at most y → y ≡ Some (v, n) → (v ≤ most) × (at < n) × (n ≤ most)
behind {v} {n} (value {v = u} {n = m} h g k) e =
    let p : ◌≡◌ {A = ℕ × ℕ} (u, m) (v, n) = cc in
    let f : m ≡ n = ap (λ (x : ℕ × ℕ). x.1) p in
    let d : u ≡ v = ap (λ (x : ℕ × ℕ). x.0) p in (omega arith, omega arith, omega arith)
behind {n} nothing e = let z : ◌≡◌ {A = ℕ} 0 1 = cc in absurd (omega arith)

module _ (s : List ℕ) (at : ℕ) (w : List ℕ) (least : ℕ) {x : Option ℕ} (e : went s x ≡ skip w (drop at s)) where
  pub item-no-word : x ≡ None → (seen s None ≡ item_in (length s) w least (drop at s)) × Behind at (length s) None
  unfolding seen went item_in
  item-no-word f = (sym (on-outside _ _ (sym e ∙ ap (went s) f)), nothing)

  module _ {n : ℕ} (f : x ≡ Some n) {y : Option (ℕ × ℕ)} (g : seen s y ≡ number_in (length s) (drop n s)) where
    pub item-no-number : y ≡ None → (seen s None ≡ item_in (length s) w least (drop at s)) × Behind at (length s) None
    unfolding seen went item_in
    item-no-number h = (sym (on-got _ _ (sym e ∙ ap (went s) f) ∙ on-outside _ _ (sym g ∙ ap (seen s) h)), nothing)

    module _ {v end : ℕ} (h : y ≡ Some (v, end)) where
      pub item-low : v < least → (seen s None ≡ item_in (length s) w least (drop at s)) × Behind at (length s) None
      unfolding seen went item_in
      item-low k =
          (sym (on-got _ _ (sym e ∙ ap (went s) f) ∙ on-got _ _ (sym g ∙ ap (seen s) h) ∙ lt_yes _ _ _ _ k), nothing)

      pub item-read : least ≤ v → at ≤ n → Behind n (length s) y
          → (seen s (Some (v, end)) ≡ item_in (length s) w least (drop at s)) × Behind at (length s) (Some (v, end))
      unfolding seen went item_in
      item-read k l b = (
        sym (on-got _ _ (sym e ∙ ap (went s) f) ∙ on-got _ _ (sym g ∙ ap (seen s) h) ∙ lt_no _ _ _ _ k),
        let (p, q, r) = behind b h in value {v = v} {n = end} p (omega arith) r,
      )
