-- The name told of an atom is the text's: the names that `make` gives the places of, put into rows of zeros, are read from there, for every
-- atom; and of any other number no bytes are told.
use mathlib.Core.Path.{◌≡◌, refl, ap, sym, ◌∙◌, subst}
use mathlib.Core.Logic.{inl, inr, ⊎_elim}
use mathlib.Core.Bool.{false}
use mathlib.Core.List.{List, [], ◌++◌, map}
use Prim.Native.Nat.{ℕ, zero, suc, ◌+◌, ◌*◌, ◌-◌, ◌<◌, ◌≤◌}
use native.Mathlib.Omega.{arith}
use lib.ListN.{length, get_or, replicate, length-map, length-replicate, get_or-replicate, get_or-eq_default}
use lib.Seq.{get_or-append-add}
use Rattle.meaning.specs.Choice.{ifb, if_lt, if_eq}
use Rattle.meaning.specs.Told.{success}
use Rattle.meaning.specs.Books.{Rule}
use Rattle.meaning.proofs.Tests.{lt-or-le, true-and-false}
use Rattle.meaning.proofs.Sets.{every_here}
use Rattle.words.specs.declared.term.Term.TheVariants.{Name}
use Rattle.words.specs.Words.{Word}
use Rattle.words.specs.Names.{no_word}
use Rattle.words.specs.Terms.{in_range, name_byte, term_of}
use Rattle.words.specs.Reading.{names_of, says, said, words_in}
use Rattle.words.specs.Make.{filled, starts_of, ends_of, Answer, make_of}
use Rattle.words.specs.Progress.{InText}
use Rattle.words.specs.Text.{GoodNames}
use Rattle.words.proofs.Places.{filled_at}
use Rattle.words.proofs.Reached.{words-fit}
use Rattle.words.proofs.Apart.{name-at, names_apart}
use Rattle.words.proofs.WhoseAtom.{heard-spelled}
use Rattle.words.proofs.Told.{told-made}
use Rattle.words.proofs.Solid.{name-bytes}
use Rattle.talk.specs.Names.{name_in}
use Rattle.talk.proofs.Names.{Holds, Short, row_read, no_row}
use Rattle.calling.specs.Rows.{rowed, part_rowed, rows_of}
use Rattle.calling.proofs.Rows.{rowed-length, rowed-here, rowed-other, part-rowed}

-- ---- a name is short, and has no zero

name-short : (w : List ℕ) → term_of w ≡ Name → Short w
unfolding name_byte in_range ifb if_lt if_eq
name-short w e =
    let (some, few, bytes) = name-bytes w e in
    record {
      room = omega arith;
      whole = λ k h z. let n : name_byte (get_or w k 0) ≡ false = rw z refl in true-and-false bytes (every_here name_byte w k 0 h n);
    }

each-short : (l : List (List ℕ)) → GoodNames l → (i : ℕ) → Short (get_or l i [])
each-short l g i = ⊎_elim (λ h. name-short _ (g.each i h))
    (λ h. rw (get_or-eq_default l [] {n = i} h) (record { room = omega arith; whole = λ k m. absurd (omega arith) })) (lt-or-le i (length l))

-- ---- the rows of a text

zeros-at : (n i : ℕ) → ◌≡◌ {A = ℕ} (get_or (replicate n 0) i 0) 0
zeros-at n i = ⊎_elim (λ h. get_or-replicate n i 0 0 h) (λ h. get_or-eq_default (replicate n 0) 0 (omega (arith, length-replicate {A = ℕ} n 0, h)))
    (lt-or-le i n)

filled-behind : (f : Word → ℕ) (l : List Word) (i : ℕ) → length l ≤ i → get_or (filled (map f l)) i 0 ≡ 0
unfolding filled
filled-behind f l i h =
    let n = 255 - length (map f l) in let k = i - length (map f l) in
    let e : i ≡ length (map f l) + k = omega (arith, length-map l f, h) in
    ap (λ (j : ℕ). get_or (map f l ++ replicate n 0) j 0) e ∙ get_or-append-add (map f l) (replicate n 0) k 0 ∙ zeros-at n k

module _ (text : List ℕ) (names : List Word) (t : (i : ℕ) → i < length names → InText text (get_or names i no_word)) where
  abbrev name_at : ℕ → List ℕ
  name_at i = get_or (names_of names) i []

  -- each part put is the name of its atom
  part-name : (i : ℕ) (rows : List ℕ)
      → part_rowed text (get_or (filled (starts_of names)) i 0) (get_or (filled (ends_of names)) i 0) i rows ≡ rowed (name_at i) i rows
  part-name i rows = ⊎_elim
      (λ h. let s = t i h in
      rw (filled_at (λ (x : Word). x.place) names i refl h, filled_at (λ (x : Word). x.place + length x.bytes) names i refl h)
      (part-rowed _ _ _ _ _ (omega arith) s.inside ∙ ap (λ w. rowed w i rows) (sym s.same ∙ sym (name-at names i))))
      (λ h. let m = length-map names (λ (x : Word). x.bytes) in
      rw (filled-behind (λ (x : Word). x.place) names i h, filled-behind (λ (x : Word). x.place + length x.bytes) names i h)
      (part-rowed _ _ _ _ _ (omega arith) (omega arith)
      ∙ ap (λ w. rowed w i rows) (sym (get_or-eq_default (names_of names) [] (omega (arith, m, h))))))
      (lt-or-le i (length names))

  module _ (short : (i : ℕ) → Short (name_at i)) (room : ℕ) (full : room ≡ 65280) where
    abbrev rows : ℕ → List ℕ
    rows n = rows_of n text (filled (starts_of names)) (filled (ends_of names)) (replicate room 0)

    rows-length : (n : ℕ) → length (rows n) ≡ room
    unfolding rows_of
    rows-length zero = length-replicate {A = ℕ} room 0
    rows-length (suc n) = ap (length {A = ℕ}) (part-name n (rows n)) ∙ rowed-length (name_at n) n (rows n) ∙ rows-length n

    rows-later : (n a : ℕ) → n ≤ a → Holds (rows n) a []
    unfolding rows_of
    rows-later zero a h = λ k l. zeros-at room (a * 256 + k)
    rows-later (suc n) a h =
        subst (λ x. Holds x a []) (sym (part-name n (rows n)))
        (rowed-other (name_at n) n (rows n) a [] (inr (omega arith)) (rows-later n a (omega arith)))

    rows-hold : (n a : ℕ) → n ≤ 255 → a < n → Holds (rows n) a (name_at a)
    unfolding rows_of
    rows-hold zero a m h = absurd (omega arith)
    rows-hold (suc n) a m h = subst (λ x. Holds x a (name_at a)) (sym (part-name n (rows n))) (⊎_elim
        (λ k. rowed-other (name_at n) n (rows n) a (name_at a) (inl k) (rows-hold n a (omega arith) k))
        (λ k. let e : a ≡ n = omega arith in
        rw e (rowed-here (name_at n) n (rows n) (short n).room (omega (arith, rows-length n, full)) (rows-later n n (omega arith))))
        (lt-or-le a n))

    rows-read : (a : ℕ) → length names ≤ 255 → name_in (rows 255) a ≡ name_at a
    rows-read a few = ⊎_elim
        (λ h. row_read (rows 255) a (name_at a) (omega (arith, rows-length 255, full)) (short a) (rows-hold 255 a (omega arith) h))
        (λ h. let m = length-map names (λ (x : Word). x.bytes) in
        no_row (rows 255) a (omega (arith, rows-length 255, full, h)) ∙ sym (get_or-eq_default (names_of names) [] (omega (arith, m, few, h))))
        (lt-or-le a 255)

-- what is put by the places that were told is read as the names that the text says
pub rows_named : (text out from to : List ℕ) (n : ℕ) → (make_of text out from to).told ≡ success n
    → (l : List (List ℕ)) (rs : List Rule) → words_in text ≡ says l rs → (a : ℕ)
    → name_in (rows_of 255 text (make_of text out from to).from (make_of text out from to).to (replicate 65280 0)) a ≡ get_or l a []
unfolding said
rows_named text out from to n told l rs e a =
    let made = told-made text out from to n told in
    let s = made.state in
    let same : says (names_of s.names) s.rules ≡ says l rs = sym (ap said made.read) ∙ e in
    let names : names_of s.names ≡ l = cc in
    rw (ap (λ (x : Answer). x.from) made.given, ap (λ (x : Answer). x.to) made.given)
    (rows-read text s.names (heard-spelled text s made.read) (each-short _ (names_apart text s made.read)) 65280 refl a
    (words-fit text s made.read).atoms ∙ ap (λ (x : List (List ℕ)). get_or x a []) names)
