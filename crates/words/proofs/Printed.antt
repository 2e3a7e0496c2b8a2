-- A printed line, read: its pieces are its words, each where it was written, and the line's end; behind it stands what was printed next.
--
--   words_from at ws      the words, each with a space in front, from a place on
--   Spaced, Printed      the pieces of such words and of a whole line, and where the line ends
use mathlib.Core.Path.{◌≡◌, refl, ap, sym, ◌∙◌}
use mathlib.Core.List.{List, [], ◌∷◌, ◌++◌, map, append_assoc}
use Prim.Native.Nat.{ℕ, ◌+◌, ◌-◌, ◌<◌}
use native.Mathlib.Nat.{add-zero}
use native.Mathlib.Omega.{arith}
use lib.ListN.{length, get_or, drop, length-append, length-drop}
use lib.Seq.{drop-append_seam, drop-drop, get_or-drop, take_at}
use Rattle.meaning.specs.Choice.{ifb, if_eq}
use Rattle.words.specs.Words.{blank, parting, blanks, span, start_of, end_of, Word, word_at, word, line, pieces_at}
use Rattle.words.specs.Reading.{names_of}
use Rattle.words.specs.Text.{spaced_all, line_of}
use Rattle.words.proofs.Words.{start-late, pieces_end, pieces-line, pieces-word}
use Rattle.words.proofs.Solid.{Solid, All, solid-blanks, solid-ends, solid-span}

-- ---- one piece

-- what stands behind the front of the rest
behind : (s : List ℕ) (at : ℕ) (w rest : List ℕ) → drop at s ≡ w ++ rest → drop (at + length w) s ≡ rest
behind s at w rest d = sym (drop-drop (length w) at s) ∙ ap (drop (length w)) d ∙ drop-append_seam w rest

byte_at : (s : List ℕ) (at : ℕ) (l : List ℕ) → drop at s ≡ l → get_or s at 0 ≡ get_or l 0 0
byte_at s at l d = ap (λ i. get_or s i 0) (sym (add-zero at)) ∙ sym (get_or-drop at s 0 0) ∙ ap (λ k. get_or k 0 0) d

there : (s : List ℕ) (at : ℕ) (l : List ℕ) → drop at s ≡ l → 0 < length l → at < length s
there s at l d h = let e = ap length d in omega (arith, length-drop at s)

module _ (s : List ℕ) (at : ℕ) where
  pub pieces_none : drop at s ≡ [] → pieces_at s at ≡ line (length s) ∷ []
  pieces_none d = pieces_end s at (let e = ap length d in omega (arith, length-drop at s, start-late s at))

  pieces-ended : (rest : List ℕ) → drop at s ≡ 10 ∷ rest → pieces_at s at ≡ line at ∷ pieces_at s (at + 1)
  unfolding start_of blanks blank ifb if_eq
  pieces-ended rest d =
      let e : start_of s at ≡ at = rw d (add-zero at) in
      rw e at (pieces-line s at (rw e (there s at _ d (omega arith))) (rw e (byte_at s at _ d)))

module _ (s : List ℕ) (i : ℕ) (w rest : List ℕ) (d : drop i s ≡ w ++ rest) (k : Solid w) (z : span rest ≡ 0) where
  end-solid : end_of s i ≡ i + length w
  unfolding end_of
  end-solid = rw (d, solid-span w rest k.whole z)

  word-solid : word_at s i ≡ record { place = i; bytes = w }
  unfolding word_at
  word-solid = rw (end-solid, d, take_at w rest (i + length w - i) (omega arith))

  pieces-solid : (at : ℕ) → start_of s at ≡ i → pieces_at s at ≡ word (record { place = i; bytes = w }) ∷ pieces_at s (i + length w)
  pieces-solid at e =
      let m = length-append w rest in
      let h = there s i (w ++ rest) d (omega (arith, k.some)) in
      let n : get_or s i 0 ≡ 10 → ⊥ = λ q. solid-ends w rest k (sym (byte_at s i _ d) ∙ q) in
      let p = rw e at (pieces-word s at (rw e h) (rw e n)) in
      rw (word-solid, end-solid) at p

-- at the front of a line, and behind a space
start-solid : (s : List ℕ) (at : ℕ) (w rest : List ℕ) → drop at s ≡ w ++ rest → Solid w → start_of s at ≡ at
unfolding start_of
start-solid s at w rest d k = rw (d, solid-blanks w rest k) (add-zero at)

start-spaced : (s : List ℕ) (at : ℕ) (w rest : List ℕ) → drop at s ≡ 32 ∷ (w ++ rest) → Solid w → start_of s at ≡ at + 1
unfolding start_of blanks blank ifb if_eq
start-spaced s at w rest d k = rw (d, solid-blanks w rest k)

-- ---- a line

unfoldable pub words_from : ℕ → List (List ℕ) → List Word
words_from at [] = []
words_from at (w ∷ ws) = record { place = at + 1; bytes = w } ∷ words_from (at + 1 + length w) ws

pub names-from : (at : ℕ) (ws : List (List ℕ)) → names_of (words_from at ws) ≡ ws
unfolding words_from
names-from at [] = refl
names-from at (w ∷ ws) = ap (λ l. w ∷ l) (names-from (at + 1 + length w) ws)

record Spaced (s : List ℕ) (at : ℕ) (ws : List (List ℕ)) (rest : List ℕ) : Type 0 where
  end : ℕ
  pieces : pieces_at s at ≡ map word (words_from at ws) ++ (line end ∷ pieces_at s (end + 1))
  next : drop (end + 1) s ≡ rest

-- a word is followed by a space or by the line's end
spaced-parts : (ws : List (List ℕ)) (rest : List ℕ) → span (spaced_all ws ++ (10 ∷ rest)) ≡ 0
unfolding spaced_all span parting blank ifb if_eq
spaced-parts [] rest = refl
spaced-parts (w ∷ ws) rest = refl

spaced-read : (s : List ℕ) (at : ℕ) (ws : List (List ℕ)) (rest : List ℕ) → All Solid ws → drop at s ≡ spaced_all ws ++ (10 ∷ rest)
    → Spaced s at ws rest
unfolding All words_from spaced_all
spaced-read s at [] rest k d =
    record { end = at; pieces = pieces-ended s at rest d; next = behind s at (10 ∷ []) rest d }
spaced-read s at (w ∷ ws) rest (k, ks) d =
    let more = spaced_all ws ++ (10 ∷ rest) in
    let here : drop at s ≡ 32 ∷ (w ++ more) = d ∙ ap (λ l. 32 ∷ l) (append_assoc w (spaced_all ws) (10 ∷ rest)) in
    let there = behind s at (32 ∷ []) (w ++ more) here in
    let first = pieces-solid s (at + 1) w more there k (spaced-parts ws rest) at (start-spaced s at w more here k) in
    let others = spaced-read s (at + 1 + length w) ws rest ks (behind s (at + 1) w more there) in
    record {
      end = others.end;
      pieces = first ∙ ap (λ l. word (record { place = at + 1; bytes = w }) ∷ l) others.pieces;
      next = others.next;
    }

pub record Printed (s : List ℕ) (at : ℕ) (w : List ℕ) (ws : List (List ℕ)) (rest : List ℕ) : Type 0 where
  pub end : ℕ
  pub pieces : pieces_at s at
      ≡ word (record { place = at; bytes = w }) ∷ (map word (words_from (at + length w) ws) ++ (line end ∷ pieces_at s (end + 1)))
  pub next : drop (end + 1) s ≡ rest

pub line_read : (s : List ℕ) (at : ℕ) (w : List ℕ) (ws : List (List ℕ)) (rest : List ℕ) → Solid w → All Solid ws
    → drop at s ≡ line_of w ws ++ rest → Printed s at w ws rest
line_read s at w ws rest k ks d =
    let more = spaced_all ws ++ (10 ∷ rest) in
    let here : drop at s ≡ w ++ more =
    d ∙ append_assoc w (spaced_all ws ++ (10 ∷ [])) rest ∙ ap (λ l. w ++ l) (append_assoc (spaced_all ws) (10 ∷ []) rest) in
    let first = pieces-solid s at w more here k (spaced-parts ws rest) at (start-solid s at w more here k) in
    let others = spaced-read s (at + length w) ws rest ks (behind s at w more here) in
    record {
      end = others.end;
      pieces = first ∙ ap (λ l. word (record { place = at; bytes = w }) ∷ l) others.pieces;
      next = others.next;
    }
