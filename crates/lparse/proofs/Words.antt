-- The words of a text, one by one: the search and the loop that find a word's ends, and that the words from a place on are the first of them
-- and the words from its end on.
use mathlib.Core.Path.{◌≡◌, refl, ap, sym, ◌∙◌}
use mathlib.Core.Bool.{true, false}
use mathlib.Core.List.{List, [], ◌∷◌}
use Prim.Native.Nat.{ℕ, zero, suc, ◌+◌, ◌-◌, ◌<◌, ◌≤◌}
use native.Mathlib.Nat.{add-zero}
use native.Mathlib.Numerals.{add-one}
use native.Mathlib.Omega.{arith}
use lib.ListN.{length, get_or, take, drop, length-drop, drop_of_length-le}
use lib.Seq.{drop-cons, get_or-drop, take_all}
use Rattle.std.specs.Prelude.{Option, MatchOption, unwrap_or}
use Rattle.std.specs.List.{HoldsAt, AllWithin}
use Rattle.std.proofs.lemmas.Iterator.{index_from_first}
use Rattle.meaning.specs.Choice.{ifb}
use Rattle.meaning.proofs.Choice.{b-yes, b-no, b-either, lt_yes, lt_no, lt-either}
use Rattle.lparse.specs.declared.word.Quote.{Quote}
use Rattle.lparse.specs.declared.word.Quote.TheVariants.{Outside}
use Rattle.lparse.specs.Words.{parting, outside, ends, turned, blanks, span, start_of, end_of, word_at, words_from, words_at}

-- ---- where a word starts

-- the bytes from a place on, as a part of the text
abbrev pub rest : List ℕ → ℕ → List ℕ
rest s at = take (length s - at) (drop at s)

rest-whole : (s : List ℕ) (at : ℕ) → rest s at ≡ drop at s
rest-whole s at = take_all (length s - at) (drop at s) (omega (arith, length-drop at s))

-- what the search for the first byte that parts nothing tells
pub start-found : (s : List ℕ) (at : ℕ) (r : Option ℕ)
    → MatchOption r (AllWithin (λ x. parting x ≡ true) (rest s at) 0 (length (rest s at)))
    (λ i. (i < length (rest s at)) × HoldsAt (λ x. parting x ≡ false) (rest s at) i × AllWithin (λ x. parting x ≡ true) (rest s at) 0 i)
    → at + unwrap_or r (length (rest s at)) ≡ start_of s at
unfolding start_of blanks
start-found s at r h =
    ap (λ n. at + n) (sym (index_from_first blanks (λ x. parting x ≡ false) (λ x. parting x ≡ true) refl (λ x xs e. b-no _ _ _ e)
    (λ x xs e. b-yes _ _ _ e ∙ sym (add-one _)) (rest s at) r h))
    ∙ ap (λ k. at + blanks k) (rest-whole s at)

-- ---- where it ends

-- the end of a word that goes on with q at i
unfoldable pub end_from : Quote → List ℕ → ℕ → ℕ
end_from q s i = i + span q (drop i s)

pub end-first : (s : List ℕ) (i : ℕ) → end_of s i ≡ end_from Outside s i
unfolding end_of end_from
end-first s i = refl

module _ (s : List ℕ) (q : Quote) (i : ℕ) where
  pub end-end : length s ≤ i → end_from q s i ≡ i
  unfolding end_from span
  end-end h = rw (drop_of_length-le s h) (add-zero i)

  pub end-here : i < length s → ends q (get_or s i 0) ≡ true → end_from q s i ≡ i
  unfolding end_from span ifb
  end-here h e = rw (drop-cons s i 0 h, e) (add-zero i)

  pub end-turn : i < length s → ends q (get_or s i 0) ≡ false → end_from q s i ≡ end_from (turned q (get_or s i 0)) s (i + 1)
  unfolding end_from span ifb
  end-turn h e = rw (add-one i, drop-cons s i 0 h, e) (omega arith)

-- ---- the words from a place on

-- a word starts with a byte that parts nothing, and so has a byte
start-stops : (l : List ℕ) → blanks l < length l → parting (get_or l (blanks l) 0) ≡ false
unfolding blanks
start-stops [] = λ h. absurd (omega arith)
start-stops (x ∷ l) =
    b-either (λ n. n < suc (length l) → parting (get_or (x ∷ l) n 0) ≡ false) (parting x) (suc (blanks l)) 0
    (λ e h. start-stops l (omega arith)) (λ e h. e)

outside-parts : (x : ℕ) → ends Outside x ≡ parting x
unfolding ends outside parting
outside-parts x = refl

span-some : (l : List ℕ) → 0 < length l → parting (get_or l 0 0) ≡ false → 0 < span Outside l
unfolding span ifb
span-some [] h e = absurd (omega arith)
span-some (x ∷ l) h e = rw (outside-parts x ∙ e) (omega arith)

span-within : (q : Quote) (l : List ℕ) → span q l ≤ length l
unfolding span
span-within q [] = omega arith
span-within q (x ∷ l) =
    b-either (λ n. n ≤ suc (length l)) (ends q x) 0 (suc (span (turned q x) l)) (λ e. omega arith)
    (λ e. omega (arith, span-within (turned q x) l))

pub end-within : (s : List ℕ) (start : ℕ) → start ≤ length s → end_of s start ≤ length s
unfolding end_of
end-within s start h = omega (arith, span-within Outside (drop start s), length-drop start s)

module _ (s : List ℕ) (at : ℕ) where
  pub start-late : at ≤ start_of s at
  unfolding start_of
  start-late = omega arith

  pub word-grows : start_of s at < length s → start_of s at < end_of s (start_of s at)
  unfolding start_of end_of
  word-grows h =
      let b = blanks (drop at s) in
      let m = length-drop at s in
      let n = length-drop (at + b) s in
      let stops =
      ap parting (get_or-drop (at + b) s 0 0 ∙ ap (λ k. get_or s k 0) (add-zero (at + b)) ∙ sym (get_or-drop at s b 0))
      ∙ start-stops (drop at s) (omega arith) in
      let some = span-some (drop (at + b) s) (omega arith) stops in
      omega arith

-- the same of a start and an end that were found
pub word-ahead : (s : List ℕ) (at start end : ℕ) → start ≡ start_of s at → start < length s → end ≡ end_of s start → start < end
word-ahead s at start end e h f =
    let g = word-grows s at (rw e at h) in
    rw f (rw e g)

-- so many words or more, where each takes a byte: the number does not matter
words-enough : (s : List ℕ) (n m at : ℕ) → length s - at ≤ n → length s - at ≤ m → words_from n s at ≡ words_from m s at
unfolding words_from
words-enough s zero zero at p q = refl
words-enough s zero (suc m) at p q = sym (lt_no _ _ _ _ (omega (arith, start-late s at)))
words-enough s (suc n) zero at p q = lt_no _ _ _ _ (omega (arith, start-late s at))
words-enough s (suc n) (suc m) at p q =
    lt-either (λ l. l ≡ words_from (suc m) s at) (start_of s at) (length s) _ _
    (λ h. ap (λ l. word_at s (start_of s at) ∷ l)
    (words-enough s n m (end_of s (start_of s at)) (omega (arith, start-late s at, word-grows s at h))
    (omega (arith, start-late s at, word-grows s at h))) ∙ sym (lt_yes _ _ _ _ h))
    (λ h. sym (lt_no _ _ _ _ h))

module _ (s : List ℕ) (at : ℕ) where
  words-turn : words_at s at ≡ words_from (suc (length s - at)) s at
  unfolding words_at
  words-turn = words-enough s _ _ at (omega arith) (omega arith)

  pub words-none : length s ≤ start_of s at → words_at s at ≡ []
  unfolding words_from
  words-none h = words-turn ∙ lt_no _ _ _ _ h

  pub words_more : start_of s at < length s → words_at s at ≡ word_at s (start_of s at) ∷ words_at s (end_of s (start_of s at))
  unfolding words_from words_at
  words_more h =
      words-turn ∙ lt_yes _ _ _ _ h
      ∙ ap (λ l. word_at s (start_of s at) ∷ l)
      (words-enough s (length s - at) (length s - end_of s (start_of s at)) (end_of s (start_of s at))
      (omega (arith, start-late s at, word-grows s at h)) (omega arith))
