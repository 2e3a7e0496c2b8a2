-- The words of a text and its lines' ends, one by one: the two searches that find a word's ends, and that the pieces from a place on are the
-- first of them and the pieces behind it.
use mathlib.Core.Path.{◌≡◌, refl, ap, sym, ◌∙◌}
use mathlib.Core.Bool.{true, false}
use mathlib.Core.List.{List, [], ◌∷◌}
use Prim.Native.Nat.{ℕ, zero, suc, ◌+◌, ◌-◌, ◌<◌, ◌≤◌}
use native.Mathlib.Nat.{add-zero}
use native.Mathlib.Numerals.{add-one}
use native.Mathlib.Omega.{arith}
use lib.ListN.{length, get_or, take, drop, length-drop}
use lib.Seq.{get_or-drop, take_all}
use borrow.Author.Tests.{ne_eqb}
use Rattle.std.specs.Prelude.{Option, MatchOption, unwrap_or}
use Rattle.std.specs.List.{HoldsAt, AllWithin}
use Rattle.std.proofs.lemmas.Iterator.{index_from_first}
use Rattle.meaning.specs.Choice.{ifb}
use Rattle.meaning.proofs.Choice.{b-yes, b-no, b-either, lt_yes, lt_no, lt-either, eq_yes, eq_no, eq-either}
use Rattle.words.specs.declared.token.Token.TheVariants.{Word as AWord, Line, End}
use Rattle.words.specs.Words.{blank, parting, blanks, span, start_of, end_of, word_at, token_at, word, line, pieces_from, pieces_at}

-- ---- the two searches

-- what a search tells of the first that has P, where the others have Q
abbrev pub First : (P Q : ℕ → Type 0) → List ℕ → Option ℕ → Type 0
First P Q l r = MatchOption r (AllWithin Q l 0 (length l)) (λ i. (i < length l) × HoldsAt P l i × AllWithin Q l 0 i)

-- the bytes from a place on, as a part of the text
abbrev pub rest : List ℕ → ℕ → List ℕ
rest s at = take (length s - at) (drop at s)

rest-whole : (s : List ℕ) (at : ℕ) → rest s at ≡ drop at s
rest-whole s at = take_all (length s - at) (drop at s) (omega (arith, length-drop at s))

module _ (s : List ℕ) (at : ℕ) (r : Option ℕ) where
  pub start-found : First (λ x. blank x ≡ false) (λ x. blank x ≡ true) (rest s at) r → at + unwrap_or r (length (rest s at)) ≡ start_of s at
  unfolding start_of blanks
  start-found h =
      ap (λ n. at + n) (sym (index_from_first blanks (λ x. blank x ≡ false) (λ x. blank x ≡ true) refl (λ x xs e. b-no _ _ _ e)
      (λ x xs e. b-yes _ _ _ e ∙ sym (add-one _)) (rest s at) r h))
      ∙ ap (λ k. at + blanks k) (rest-whole s at)

  pub end-found : First (λ x. parting x ≡ true) (λ x. parting x ≡ false) (rest s at) r → at + unwrap_or r (length (rest s at)) ≡ end_of s at
  unfolding end_of span
  end-found h =
      ap (λ n. at + n) (sym (index_from_first span (λ x. parting x ≡ true) (λ x. parting x ≡ false) refl (λ x xs e. b-yes _ _ _ e)
      (λ x xs e. b-no _ _ _ e ∙ sym (add-one _)) (rest s at) r h))
      ∙ ap (λ k. at + span k) (rest-whole s at)

-- ---- one piece

-- what is found behind the blanks is none
start-stops : (l : List ℕ) → blanks l < length l → blank (get_or l (blanks l) 0) ≡ false
unfolding blanks
start-stops [] = λ h. absurd (omega arith)
start-stops (x ∷ l) =
    b-either (λ n. n < suc (length l) → blank (get_or (x ∷ l) n 0) ≡ false) (blank x) (suc (blanks l)) 0
    (λ e h. start-stops l (omega arith)) (λ e h. e)

-- a byte that is no blank and ends no line belongs to a word
pub no_part : (x : ℕ) → blank x ≡ false → (x ≡ 10 → ⊥) → parting x ≡ false
unfolding parting
no_part x e n = b-no _ _ _ e ∙ ne_eqb x 10 n

span-some : (l : List ℕ) → 0 < length l → parting (get_or l 0 0) ≡ false → 0 < span l
unfolding span ifb
span-some [] h e = absurd (omega arith)
span-some (x ∷ l) h e = rw e (omega arith)

span-within : (l : List ℕ) → span l ≤ length l
unfolding span
span-within [] = omega arith
span-within (x ∷ l) =
    b-either (λ n. n ≤ suc (length l)) (parting x) 0 (suc (span l)) (λ e. omega arith) (λ e. omega (arith, span-within l))

pub end-within : (s : List ℕ) (start : ℕ) → start ≤ length s → end_of s start ≤ length s
unfolding end_of
end-within s start h = omega (arith, span-within (drop start s), length-drop start s)

module _ (s : List ℕ) (at : ℕ) where
  pub start-late : at ≤ start_of s at
  unfolding start_of
  start-late = omega arith

  pub word-grows : start_of s at < length s → (get_or s (start_of s at) 0 ≡ 10 → ⊥) → start_of s at < end_of s (start_of s at)
  unfolding start_of end_of
  word-grows h n =
      let b = blanks (drop at s) in
      let m = length-drop at s in
      let k = length-drop (at + b) s in
      let here : get_or (drop at s) b 0 ≡ get_or s (at + b) 0 = get_or-drop at s b 0 in
      let first : get_or (drop (at + b) s) 0 0 ≡ get_or s (at + b) 0 = get_or-drop (at + b) s 0 0 ∙ ap (λ j. get_or s j 0) (add-zero (at + b)) in
      let stops = start-stops (drop at s) (omega arith) in
      let some = span-some (drop (at + b) s) (omega arith) (ap parting first ∙ no_part _ (ap blank (sym here) ∙ stops) n) in
      omega arith

  -- what the code finds
  module _ (i : ℕ) (e : i ≡ start_of s at) where
    pub token_end : length s ≤ i → End ≡ token_at s at
    unfolding token_at
    token_end h = sym (lt_no _ _ _ _ (omega arith))

    pub token-line : i < length s → get_or s i 0 ≡ 10 → Line i ≡ token_at s at
    unfolding token_at
    token-line h g = ap Line e ∙ sym (lt_yes _ _ _ _ (omega arith) ∙ eq_yes _ _ _ _ (rw e at g))

    pub token-word : i < length s → (get_or s i 0 ≡ 10 → ⊥) → (j : ℕ) → j ≡ end_of s i → AWord i j ≡ token_at s at
    unfolding token_at
    token-word h g j f =
        let n : get_or s (start_of s at) 0 ≡ 10 → ⊥ = rw e at g in
        rw (f, e) (sym (lt_yes _ _ _ _ (omega arith) ∙ eq_no _ _ _ _ n))

-- ---- the pieces from a place on

-- so many pieces or more, where each takes a byte: the number does not matter
pieces-enough : (s : List ℕ) (n m at : ℕ) → length s - at ≤ n → length s - at ≤ m → pieces_from n s at ≡ pieces_from m s at
unfolding pieces_from
pieces-enough s zero zero at p q = refl
pieces-enough s zero (suc m) at p q = sym (lt_no _ _ _ _ (omega (arith, start-late s at)))
pieces-enough s (suc n) zero at p q = lt_no _ _ _ _ (omega (arith, start-late s at))
pieces-enough s (suc n) (suc m) at p q =
    let i = start_of s at in
    lt-either (λ l. l ≡ pieces_from (suc m) s at) i (length s) _ _
    (λ h. eq-either (λ l. l ≡ pieces_from (suc m) s at) (get_or s i 0) 10 _ _
    (λ e. ap (λ l. line i ∷ l) (pieces-enough s n m (i + 1) (omega (arith, start-late s at)) (omega (arith, start-late s at)))
    ∙ sym (lt_yes _ _ _ _ h ∙ eq_yes _ _ _ _ e))
    (λ f. ap (λ l. word (word_at s i) ∷ l)
    (pieces-enough s n m (end_of s i) (omega (arith, start-late s at, word-grows s at h f)) (omega (arith, start-late s at, word-grows s at h f)))
    ∙ sym (lt_yes _ _ _ _ h ∙ eq_no _ _ _ _ f)))
    (λ h. sym (lt_no _ _ _ _ h))

module _ (s : List ℕ) (at : ℕ) where
  pieces-turn : pieces_at s at ≡ pieces_from (suc (length s - at)) s at
  unfolding pieces_at
  pieces-turn = pieces-enough s _ _ at (omega arith) (omega arith)

  pub pieces_end : length s ≤ start_of s at → pieces_at s at ≡ line (length s) ∷ []
  unfolding pieces_from
  pieces_end h = pieces-turn ∙ lt_no _ _ _ _ h

  pub pieces-line : start_of s at < length s → get_or s (start_of s at) 0 ≡ 10
      → pieces_at s at ≡ line (start_of s at) ∷ pieces_at s (start_of s at + 1)
  unfolding pieces_from pieces_at
  pieces-line h e =
      pieces-turn ∙ lt_yes _ _ _ _ h ∙ eq_yes _ _ _ _ e
      ∙ ap (λ l. line (start_of s at) ∷ l)
      (pieces-enough s (length s - at) (length s - (start_of s at + 1)) (start_of s at + 1) (omega (arith, start-late s at)) (omega arith))

  pub pieces-word : start_of s at < length s → (get_or s (start_of s at) 0 ≡ 10 → ⊥)
      → pieces_at s at ≡ word (word_at s (start_of s at)) ∷ pieces_at s (end_of s (start_of s at))
  unfolding pieces_from pieces_at
  pieces-word h n =
      pieces-turn ∙ lt_yes _ _ _ _ h ∙ eq_no _ _ _ _ n
      ∙ ap (λ l. word (word_at s (start_of s at)) ∷ l)
      (pieces-enough s (length s - at) (length s - end_of s (start_of s at)) (end_of s (start_of s at))
      (omega (arith, start-late s at, word-grows s at h n)) (omega arith))
