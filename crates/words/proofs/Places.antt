-- The names' places in the two arrays: one name more, and that looking for a word at these places finds the number of its name.
use mathlib.Core.Path.{◌≡◌, refl, ap, sym, ◌∙◌}
use mathlib.Core.List.{List, [], ◌∷◌, ◌++◌, map, map-append, append_assoc}
use Prim.Native.Nat.{ℕ, suc, ◌+◌, ◌-◌, ◌<◌, ◌≤◌}
use native.Mathlib.Omega.{arith}
use lib.ListN.{length, get_or, set, replicate, length-append, length-map, get_or-append, get_or-map}
use lib.Seq.{set-append_seam, get_or-append_seam}
use Rattle.meaning.proofs.Choice.{lt_no}
use Rattle.meaning.proofs.Tests.{lt-or-le}
use mathlib.Core.Logic.{⊎_elim}
use Rattle.words.specs.Words.{Word}
use Rattle.words.specs.Names.{same_bytes, no_word, is_named, is_between, is_spelled, number_in, place_of}
use Rattle.words.specs.Make.{filled, starts_of, ends_of}
use Rattle.words.specs.Progress.{known_of, note_in, InText}
use Rattle.words.proofs.Names.{first-same, first-within}

-- ---- one place more

filled-set : (l : List ℕ) (v n : ℕ) → n ≡ length l → n < 255 → set (filled l) n v ≡ filled (l ++ (v ∷ []))
unfolding filled
filled-set l v n e h =
    let f : 255 - length l ≡ suc (255 - (length l + 1)) = omega arith in
    let k : 255 - length (l ++ (v ∷ [])) ≡ 255 - (length l + 1) = ap (λ (j : ℕ). 255 - j) (length-append l (v ∷ [])) in
    rw (e, f, k)
    (set-append_seam l 0 (replicate (255 - (length l + 1)) 0) v ∙ sym (append_assoc l (v ∷ []) (replicate (255 - (length l + 1)) 0)))

filled_more : (f : Word → ℕ) (l : List Word) (w : Word) → length l < 255
    → set (filled (map f l)) (length l) (f w) ≡ filled (map f (l ++ (w ∷ [])))
filled_more f l w h =
    filled-set (map f l) (f w) (length l) (sym (length-map l f)) h ∙ ap filled (sym (map-append f l (w ∷ [])))

pub known_more : (l : List Word) (w : Word) (from to : ℕ) → from ≡ w.place → to ≡ w.place + length w.bytes → length l < 255
    → note_in (known_of l) from to ≡ known_of (l ++ (w ∷ []))
known_more l w from to e f h =
    let p = filled_more (λ (x : Word). x.place) l w h in
    let q = filled_more (λ (x : Word). x.place + length x.bytes) l w h in
    rw (e, f, p, q, length-append l (w ∷ [])) refl

-- ---- looking for a word

pub filled_at : (f : Word → ℕ) (l : List Word) (i : ℕ) → f no_word ≡ 0 → i < length l → get_or (filled (map f l)) i 0 ≡ f (get_or l i no_word)
unfolding filled
filled_at f l i z h =
    get_or-append (map f l) _ 0 i (rw (length-map l f) h) ∙ ap (λ d. get_or (map f l) i d) (sym z) ∙ get_or-map f l i no_word

between-same : (text : List ℕ) (w : Word) (k : List ℕ) → InText text w
    → is_between text w.place (w.place + length w.bytes) k ≡ same_bytes w.bytes k
unfolding is_between
between-same text w k t =
    lt_no _ _ _ _ t.inside ∙ lt_no _ _ _ _ (omega arith) ∙ ap (λ b. same_bytes b k) (sym t.same)

module _ (text : List ℕ) (l : List Word) (t : (i : ℕ) → i < length l → InText text (get_or l i no_word)) (k : List ℕ) where
  spelled-named : (i : ℕ) → i < length l → is_spelled text (filled (starts_of l)) (filled (ends_of l)) k i ≡ is_named l k i
  spelled-named i h =
      rw (filled_at (λ (x : Word). x.place) l i refl h, filled_at (λ (x : Word). x.place + length x.bytes) l i refl h)
      (between-same text (get_or l i no_word) k (t i h))

  pub place-number : place_of text (length l) (filled (starts_of l)) (filled (ends_of l)) k ≡ number_in l k
  unfolding place_of number_in
  place-number = first-same 0 (length l) _ _ (λ j h g. spelled-named j (omega arith))

pub place-within : (text : List ℕ) (n : ℕ) (from to l : List ℕ) → place_of text n from to l ≤ n
unfolding place_of
place-within text n from to l = omega (arith, first-within 0 n (is_spelled text from to l))

pub number-within : (names : List Word) (l : List ℕ) → number_in names l ≤ length names
unfolding number_in
number-within names l = omega (arith, first-within 0 (length names) (is_named names l))

-- ---- one name more stands in the text

pub spelled-more : (text : List ℕ) (l : List Word) (w : Word) → ((i : ℕ) → i < length l → InText text (get_or l i no_word)) → InText text w
    → (i : ℕ) → i < length (l ++ (w ∷ [])) → InText text (get_or (l ++ (w ∷ [])) i no_word)
spelled-more text l w f t i h = ⊎_elim
    (λ k. rw (get_or-append l (w ∷ []) no_word i k) (f i k))
    (λ k. let e : i ≡ length l = omega (arith, length-append l (w ∷ [])) in rw (e, get_or-append_seam l w [] no_word) t)
    (lt-or-le i (length l))
