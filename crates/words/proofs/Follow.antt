-- The text from a place on, by its next word or line's end: what is found there, and what the rest says behind it.
use mathlib.Core.Path.{◌≡◌, refl}
use mathlib.Core.List.{List, [], ◌∷◌}
use Prim.Native.Nat.{ℕ, ◌+◌, ◌-◌, ◌<◌, ◌≤◌}
use native.Mathlib.Omega.{arith}
use lib.ListN.{length, get_or, drop, length-drop}
use lib.Seq.{length-take-le}
use Rattle.meaning.proofs.Choice.{lt-either, eq-either}
use Rattle.words.specs.declared.token.Token.{Token}
use Rattle.words.specs.declared.token.Token.TheVariants.{Word as AWord, Line, End}
use Rattle.words.specs.Words.{start_of, end_of, between, word_at, token_at, word, line, pieces_at}
use Rattle.words.specs.Reading.{State, Outcome, goes, wrong, on_piece, and_then, follow, follow_at}
use Rattle.words.specs.Progress.{InText}
use Rattle.words.proofs.Words.{start-late, word-grows, end-within, pieces_end, pieces-line, pieces-word}

-- what a token says of the text
unfoldable pub Found : List ℕ → ℕ → Token → Type 0
Found s at End = length s ≤ start_of s at
Found s at (Line i) = (i ≡ start_of s at) × (i < length s) × (get_or s i 0 ≡ 10)
Found s at (AWord i j) = (i ≡ start_of s at) × (j ≡ end_of s i) × (i < length s) × (get_or s i 0 ≡ 10 → ⊥)

token-found : (s : List ℕ) (at : ℕ) → Found s at (token_at s at)
unfolding Found token_at
token-found s at =
    lt-either (Found s at) (start_of s at) (length s) _ _
    (λ h. eq-either (Found s at) (get_or s (start_of s at) 0) 10 _ _ (λ e. (refl, h, e)) (λ n. (refl, refl, h, n))) (λ h. h)

module _ (s : List ℕ) (at : ℕ) (t : Token) (e : t ≡ token_at s at) where
  abbrev found : Found s at t
  found = rw e (token-found s at)

  pub found-end : t ≡ End → length s ≤ start_of s at
  unfolding Found
  found-end f = rw f at found

  pub found-line : (i : ℕ) → t ≡ Line i → (i ≡ start_of s at) × (i < length s) × (get_or s i 0 ≡ 10)
  unfolding Found
  found-line i f = rw f at found

  pub found_word : (i j : ℕ) → t ≡ AWord i j → (i ≡ start_of s at) × (j ≡ end_of s i) × (i < length s) × (get_or s i 0 ≡ 10 → ⊥)
  unfolding Found
  found_word i j f = rw f at found

-- ---- what the rest says

-- nothing comes behind the end of the text
then-follow : (o : Outcome) → and_then o (follow []) ≡ o
unfolding and_then follow
then-follow (goes s) = refl
then-follow (wrong i place) = refl

module _ (s : List ℕ) (at : ℕ) (state : State) where
  pub follow-end : length s ≤ start_of s at → follow_at s at state ≡ on_piece (line (length s)) state
  unfolding follow_at follow
  follow-end h = rw (pieces_end s at h) (then-follow (on_piece (line (length s)) state))

  pub follow-line : (i : ℕ) → (i ≡ start_of s at) × (i < length s) × (get_or s i 0 ≡ 10)
      → follow_at s at state ≡ and_then (on_piece (line i) state) (follow_at s (i + 1))
  unfolding follow_at follow
  follow-line i (e, h, f) =
      let g : pieces_at s at ≡ line i ∷ pieces_at s (i + 1) = rw e (pieces-line s at (rw e at h) (rw e at f)) in rw g refl

  pub follow-word : (i j : ℕ) → (i ≡ start_of s at) × (j ≡ end_of s i) × (i < length s) × (get_or s i 0 ≡ 10 → ⊥)
      → follow_at s at state ≡ and_then (on_piece (word (word_at s i)) state) (follow_at s j)
  unfolding follow_at follow
  follow-word i j (e, k, h, n) =
      let g : pieces_at s at ≡ word (word_at s i) ∷ pieces_at s j = rw (k, e) (pieces-word s at (rw e at h) (rw e at n)) in rw g refl

-- ---- where the word stands

length-between : (s : List ℕ) (i j : ℕ) → j ≤ length s → length (between s i j) ≡ j - i
length-between s i j h = length-take-le (j - i) (drop i s) (omega (arith, length-drop i s))

module _ (s : List ℕ) (at i j : ℕ) (f : (i ≡ start_of s at) × (j ≡ end_of s i) × (i < length s) × (get_or s i 0 ≡ 10 → ⊥)) where
  pub word-ahead : (at ≤ i) × (i < j) × (j ≤ length s)
  word-ahead =
      let (e, k, h, n) = f in
      let g = word-grows s at (rw e at h) (rw e at n) in
      let g' : i < end_of s i = rw e g in
      (omega (arith, start-late s at), omega arith, omega (arith, end-within s i (omega arith)))

  pub word_bytes : (word_at s i).bytes ≡ between s i j
  unfolding word_at
  word_bytes = rw f.1 refl

  pub word-place : (word_at s i).place ≡ i
  unfolding word_at
  word-place = refl

  word-long : length (word_at s i).bytes ≡ j - i
  word-long =
      let (a, b, c) = word-ahead in
      rw word_bytes (length-between s i j c)

  pub word_end : (word_at s i).place + length (word_at s i).bytes ≡ j
  word_end = let (a, b, c) = word-ahead in rw (word-place, word-long) (omega arith)

  pub word_in : InText s (word_at s i)
  word_in = record { inside = rw word_end word-ahead.2; same = rw (word_end, word-place) word_bytes }
