-- The names of a text's atoms: the turns of the two searches, and that they give the atom with that number and the table's own names.
use mathlib.Core.Path.{◌≡◌, refl, ap, sym, ◌∙◌}
use mathlib.Core.Logic.{⊎_elim}
use mathlib.Core.Bool.{Bool, true, false}
use mathlib.Core.List.Memᴰ
use mathlib.Core.List.{List, [], ◌∷◌, Memᴰ}
use Prim.Native.Nat.{ℕ, suc, ◌+◌, ◌-◌, ◌<◌, ◌≤◌}
use native.Mathlib.Omega.{arith}
use native.Mathlib.Numerals.{add-one}
use lib.ListN.{length, get_or, drop, length-drop, drop_of_length-le}
use lib.Seq.{drop-cons, length-take-le}
use Rattle.std.specs.Prelude.{Option, Some, None, Ok, Err}
use Rattle.meaning.specs.Choice.{ifb, if_eq}
use Rattle.meaning.proofs.Choice.{eq_yes, eq_no, eq-either}
use Rattle.imported.specs.declared.TextAtom.{TextAtom}
use Rattle.imported.specs.Text.{same_text, Text}
use Rattle.imported.specs.Making.{mentioned, distinct, number}
use Rattle.imported.proofs.Numbers.{Mentioned, distinct_of, number-one}
use Rattle.imported.proofs.Lengths.{distinct-by}
use Rattle.lparse.specs.declared.due.Due.{Due}
use Rattle.lparse.specs.declared.due.Standing.{Standing}
use Rattle.lparse.specs.declared.due.Standing.TheVariants.{Head as InHead, Free as InFree, Negative as InNegative, Positive as InPositive, Table as InTable, Plus as InPlus, Minus as InMinus}
use Rattle.lparse.specs.declared.due.Said.{Said}
use Rattle.lparse.specs.declared.due.Said.TheVariants.{Nothing as Silent, Choice as Chooses, Atom}
use Rattle.lparse.specs.declared.step.Taken.{Taken}
use Rattle.lparse.specs.declared.step.Unread.{Unread}
use Rattle.lparse.specs.declared.step.Unread.TheVariants.{Format as WrongFormat, Kind as WrongKind}
use Rattle.lparse.specs.Words.{end_of, Word, word_at}
use Rattle.lparse.specs.Reading.{Step, text_atom, step_at, Entry, Part, with, with_atom, with_choice, Heard, says, wrong, adding, heard_at}
use Rattle.lparse.specs.Collect.{numbers_of}
use Rattle.lparse.specs.Forming.{place_of}
use Rattle.lparse.specs.Names.{whose_in, whose_of, nth_in, name_heard, name_of, in_table, is_named, name_at, name_said}
use Rattle.lparse.specs.Nth.{kth_found, kth_left}
use Rattle.lparse.specs.Says.{Written, Says}
use Rattle.lparse.proofs.SaidText.{says-read}
use Rattle.lparse.proofs.Noting.{numbers-atoms}
use Rattle.lparse.proofs.Reading.{by_step, heard-by, took-ahead, took-end}

-- ---- the atom with a number

module _ (s : List ℕ) (n i : ℕ) (e : whose_of s n ≡ whose_in s (drop i s) n) where
  pub whose-none : length s ≤ i → None ≡ whose_of s n
  unfolding whose_in
  whose-none h = sym (e ∙ ap (λ l. whose_in s l n) (drop_of_length-le s h))

  module _ (h : i < length s) {m : ℕ} (p : m ≡ place_of s (text_atom (get_or s i 0))) where
    next : whose_of s n ≡ if_eq (place_of s (text_atom (get_or s i 0))) n (Some (text_atom (get_or s i 0))) (whose_in s (drop (suc i) s) n)
    unfolding whose_in
    next = e ∙ ap (λ l. whose_in s l n) (drop-cons s i 0 h)

    pub whose-here : m ≡ n → Some (text_atom (get_or s i 0)) ≡ whose_of s n
    whose-here f = sym (next ∙ eq_yes _ _ _ _ (sym p ∙ f))

    pub whose-next : (m ≡ n → ⊥) → whose_of s n ≡ whose_in s (drop (i + 1) s) n
    whose-next f = next ∙ eq_no _ _ _ _ (λ z. f (p ∙ z)) ∙ ap (λ k. whose_in s (drop k s) n) (sym (add-one i))

-- ---- one word more in front

-- a name found, or else the name that the rest has
unfoldable pub or_else : Option (ℕ × ℕ) → Option (ℕ × ℕ) → Option (ℕ × ℕ)
or_else (Some (i, j)) y = Some (i, j)
or_else None y = y

stays : (x : Option (ℕ × ℕ)) → x ≡ or_else x None
unfolding or_else
stays (Some (i, j)) = refl
stays None = refl

-- what the whole search gives, from the name found so far and what is heard of the rest
unfoldable pub named_by : Option (ℕ × ℕ) → ℕ → Heard → TextAtom → Option (ℕ × ℕ)
named_by found left (says p) a = or_else found (nth_in p.table a left)
named_by found left (wrong i at) a = None

pub named_start : (h : Heard) (a : TextAtom) (k : ℕ) → name_heard h a k ≡ named_by None k h a
unfolding name_heard named_by or_else
named_start (says p) a k = refl
named_start (wrong i at) a k = refl

-- the word's end, by its bytes
word_bytes : (s : List ℕ) (from end : ℕ) → end ≡ end_of s from → from < end → end ≤ length s
    → from + length (word_at s from).bytes ≡ end
unfolding word_at
word_bytes s from end e f h =
    let g = length-take-le (end_of s from - from) (drop from s) (omega (arith, length-drop from s)) in omega (arith, g)

-- a word that is no name of the atom changes nothing; one that is takes a turn
turn-none : (found : Option (ℕ × ℕ)) (left from end : ℕ) (y : Option (ℕ × ℕ)) → or_else found y ≡ or_else (kth_found found (name_at false from end) left) y
unfolding or_else kth_found ifb
turn-none (Some (i, j)) left from end y = refl
turn-none None left from end y = eq-either (λ x. y ≡ or_else x y) left 0 _ _ (λ e. refl) (λ e. refl)

module _ (from end : ℕ) (rest : ℕ → Option (ℕ × ℕ)) where
  turn-named : (found : Option (ℕ × ℕ)) (left : ℕ)
      → or_else found (if_eq left 0 (Some (from, end)) (rest (left - 1))) ≡ or_else (kth_found found (name_at true from end) left) (rest (left - 1))
  unfolding or_else kth_found ifb
  turn-named (Some (i, j)) left = refl
  turn-named None left =
      eq-either (λ x. if_eq left 0 (Some (from, end)) (rest (left - 1)) ≡ or_else x (rest (left - 1))) left 0 _ _
      (λ e. eq_yes _ _ _ _ e) (λ e. eq_no _ _ _ _ e)

module _ (w : Word) (a : TextAtom) (from end : ℕ) (place : w.place ≡ from) (long : from + length w.bytes ≡ end) where
  entry-turn : (c : TextAtom) (l : List Entry) (found : Option (ℕ × ℕ)) (left : ℕ) (b : Bool) → same_text a c ≡ b
      → or_else found (nth_in (record { atom = c; name = w } ∷ l) a left) ≡ or_else (kth_found found (name_at b from end) left) (nth_in l a (kth_left left (name_at b from end)))
  unfolding nth_in kth_left ifb
  entry-turn c l found left true e = rw (e, place, long) (turn-named from end (λ k. nth_in l a k) found left)
  entry-turn c l found left false e = rw e (turn-none found left from end (nth_in l a left))

  atom-turn : (c : TextAtom) (standing : Standing) (p : Part) (found : Option (ℕ × ℕ)) (left : ℕ)
      → or_else found (nth_in (with_atom w c standing p).table a left)
      ≡ or_else (kth_found found (name_at (is_named (Atom c standing) a) from end) left) (nth_in p.table a (kth_left left (name_at (is_named (Atom c standing) a) from end)))
  unfolding with_atom is_named in_table kth_left ifb
  atom-turn c InHead p found left = turn-none found left from end _
  atom-turn c InFree p found left = turn-none found left from end _
  atom-turn c InNegative p found left = turn-none found left from end _
  atom-turn c InPositive p found left = turn-none found left from end _
  atom-turn c InTable p found left = entry-turn c p.table found left (same_text a c) refl
  atom-turn c InPlus p found left = turn-none found left from end _
  atom-turn c InMinus p found left = turn-none found left from end _

  named-turn : (said : Said) (h : Heard) (found : Option (ℕ × ℕ)) (left : ℕ)
      → named_by found left (adding w said h) a
      ≡ named_by (kth_found found (name_at (is_named said a) from end) left) (kth_left left (name_at (is_named said a) from end)) h a
  unfolding named_by adding with with_choice is_named kth_left ifb
  named-turn Silent (says p) found left = turn-none found left from end _
  named-turn Chooses (says p) found left = turn-none found left from end _
  named-turn (Atom c standing) (says p) found left = atom-turn c standing p found left
  named-turn Silent (wrong i at) found left = refl
  named-turn Chooses (wrong i at) found left = refl
  named-turn (Atom c standing) (wrong i at) found left = refl

-- ---- the search for a name

module _ (s : List ℕ) (a : TextAtom) (at : ℕ) (due : Due) (found : Option (ℕ × ℕ)) (left : ℕ) {r : Step} (e : r ≡ step_at s at due) where
  pub name-turn : (t : Taken) → r ≡ Ok (Some t)
      → {here : Option (ℕ × ℕ)} → here ≡ name_said t.said a t.from t.end → {f : Option (ℕ × ℕ)} → f ≡ kth_found found here left → {l : ℕ} → l ≡ kth_left left here
      → named_by found left (heard_at s at due) a ≡ named_by f l (heard_at s t.end t.next) a
  unfolding by_step word_at
  name-turn t g n i j =
      let (f, h, k) = took-ahead s at due e t g in
      ap (λ h. named_by found left h a) (heard-by s at due e g)
      ∙ named-turn (word_at s t.from) a t.from t.end refl (word_bytes s t.from t.end (took-end s at due e t g) h k) t.said
      (heard_at s t.end t.next) found left
      ∙ sym (rw (i, j, n))

  pub name-unread : (u : Unread) → r ≡ Err u → None ≡ named_by found left (heard_at s at due) a
  unfolding by_step named_by
  name-unread (WrongFormat place) g = sym (ap (λ h. named_by found left h a) (heard-by s at due e g))
  name-unread (WrongKind place) g = sym (ap (λ h. named_by found left h a) (heard-by s at due e g))

  pub name_done : r ≡ Ok None → found ≡ named_by found left (heard_at s at due) a
  unfolding by_step named_by nth_in
  name_done g = stays found ∙ sym (ap (λ h. named_by found left h a) (heard-by s at due e g))

-- ---- what the two searches give, of a text in the format

module _ (t : Text) where
  abbrev seen : List ℕ
  seen = numbers_of (distinct (mentioned t))

  -- the place among the text's different atoms is the atom's number in the book
  place-number : (a : TextAtom) → place_of seen a ≡ number t a
  unfolding place_of number
  place-number a = rw (numbers-atoms (distinct (mentioned t)))

  whose-among : (l : List TextAtom) (n : ℕ) (a : TextAtom) → ((c : TextAtom) → Memᴰ c l → Mentioned t c) → Memᴰ a l
      → number t a ≡ n → whose_in seen (numbers_of l) n ≡ Some a
  unfolding whose_in numbers_of
  whose-among (c ∷ l) n a f m e =
      eq-either (λ x. x ≡ Some a) (place_of seen c) n _ _
      (λ g. ap Some (number-one t c a (f c (Memᴰ.head refl)) (f a m) (sym (place-number c) ∙ g ∙ sym e)))
      (λ g. ⊎_elim (λ p. absurd (g (ap (place_of seen) (sym p) ∙ place-number a ∙ e)))
      (λ k. whose-among l n a (λ d j. f d (Memᴰ.tail j)) k e) (Memᴰ.cases_cons m))
  whose-among [] n a f m e = absurd (Memᴰ.not-nil m)

  -- the atom of the text that the book calls by its number
  pub atom-at-right : (a : TextAtom) → Mentioned t a → whose_of seen (number t a) ≡ Some a
  atom-at-right a m =
      whose-among (distinct (mentioned t)) (number t a) a
      (λ c k. ⊎_elim (λ z. absurd (Memᴰ.not-nil z)) (λ z. z) (distinct-by (mentioned t) [] c k)) (distinct_of (mentioned t) [] a m) refl

-- the names told of an atom are the table's own, in its order
pub nth-name-right : (s : List ℕ) (w : Written) → Says s w → (a : TextAtom) (k : ℕ) → name_of s a k ≡ nth_in w.table a k
unfolding name_heard
nth-name-right s w h a k = rw (says-read s w h)
