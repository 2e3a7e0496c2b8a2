-- Whose name a word is: the names of a text that is read stand in it at their places, and the atom told of a word is the one with that name.
use mathlib.Core.Path.{◌≡◌, refl, ap, sym, ◌∙◌}
use mathlib.Core.Logic.{⊎_elim}
use mathlib.Core.List.{List, [], ◌∷◌}
use Prim.{tt, Unit}
use Prim.Native.Nat.{ℕ, zero, suc, ◌+◌, ◌-◌, ◌<◌, ◌≤◌}
use native.Mathlib.Omega.{arith}
use lib.ListN.{length, get_or}
use Rattle.std.specs.Prelude.{Option, Some, None, Ok, Err}
use Rattle.meaning.specs.Books.{atom_no}
use Rattle.meaning.specs.declared.AtomNo.{AtomNo}
use Rattle.meaning.proofs.Choice.{lt_yes, lt_no, lt-either, eq-either}
use Rattle.meaning.proofs.Tests.{lt-or-le}
use Rattle.words.specs.declared.due.Ended.{Ended}
use Rattle.words.specs.declared.due.Ended.TheVariants.{Nothing as Blank, Rule as Closes, Missing}
use Rattle.words.specs.declared.decision.Misplaced.TheVariants.{Form, Name, TooMany}
use Rattle.words.specs.Words.{start_of, end_of, Word, Piece, word, line, pieces_from, pieces_at, pieces}
use Rattle.words.specs.Names.{no_word, number_in, whose_of}
use Rattle.words.specs.Moves.{ended_of}
use Rattle.words.specs.Reading.{Decision, State, goes, on_decision, decision_of, on_ended, on_piece, follow, follow_at, heard, start, names_of}
use Rattle.words.specs.Text.{GoodNames}
use Rattle.words.specs.Make.{filled, starts_of, ends_of}
use Rattle.words.specs.Progress.{InText}
use Rattle.words.proofs.Places.{place-number}
use Rattle.words.proofs.Follow.{word_in}
use Rattle.words.proofs.Turns.{spelled-done}
use Rattle.words.proofs.Reached.{Keeps, then_keeps}
use Rattle.words.proofs.Numbers.{number-named, number-of}

unfoldable number_of : Option AtomNo → ℕ
number_of (Some a) = suc a.0
number_of None = 0

module _ (text : List ℕ) (names : List Word) (t : (i : ℕ) → i < length names → InText text (get_or names i no_word)) (g : GoodNames (names_of names))
    (l : List ℕ) where
  abbrev told : Option AtomNo
  told = whose_of text (length names) (filled (starts_of names)) (filled (ends_of names)) l

  told-found : number_in names l < length names → told ≡ Some (atom_no (number_in names l))
  unfolding whose_of
  told-found h = rw (place-number text names t l) (lt_yes _ _ _ _ h)

  told-nothing : length names ≤ number_in names l → told ≡ None
  unfolding whose_of
  told-nothing h = rw (place-number text names t l) (lt_no _ _ _ _ h)

  -- the atom told has the name
  pub whose-named : (a : ℕ) → told ≡ Some (atom_no a) → (a < length names) × (get_or (names_of names) a [] ≡ l)
  unfolding number_of
  whose-named a e = ⊎_elim
      (λ h. let f : suc (number_in names l) ≡ suc a = ap number_of (sym (told-found h) ∙ e) in
      let k : number_in names l ≡ a = omega arith in (rw k at h, rw k at (number-named names l h)))
      (λ h. let f : ◌≡◌ {A = ℕ} 0 (suc a) = ap number_of (sym (told-nothing h) ∙ e) in absurd (omega arith))
      (lt-or-le (number_in names l) (length names))

  -- and the atom with the name is told
  pub named-whose : (a : ℕ) → a < length names → get_or (names_of names) a [] ≡ l → told ≡ Some (atom_no a)
  named-whose a h e =
      let same = number-of names l g a h e in
      told-found (omega (arith, same)) ∙ ap (λ n. Some (atom_no n)) same

-- ---- the names of a text stand in it

unfoldable InPieces : List ℕ → List Piece → Type 0
InPieces text [] = Unit {0}
InPieces text (word w ∷ ps) = InText text w × InPieces text ps
InPieces text (line place ∷ ps) = InPieces text ps

pieces-in : (s : List ℕ) (n at : ℕ) → InPieces s (pieces_from n s at)
unfolding InPieces pieces_from
pieces-in s zero at = tt
pieces-in s (suc n) at =
    let i = start_of s at in
    lt-either (InPieces s) i (length s) _ _
    (λ h. eq-either (InPieces s) (get_or s i 0) 10 _ _ (λ e. pieces-in s n (i + 1))
    (λ f. (word_in s at i (end_of s i) (refl, refl, h, f), pieces-in s n (end_of s i)))) (λ h. tt)

abbrev Spelled : List ℕ → State → Type 0
Spelled text s = (i : ℕ) → i < length s.names → InText text (get_or s.names i no_word)

module _ (text : List ℕ) where
  spelled-decided : (s : State) → Spelled text s → (w : Word) → InText text w → (d : Decision) → Keeps (Spelled text) (on_decision d w s)
  unfolding Keeps on_decision
  spelled-decided s f w t (Ok (due, act)) = spelled-done text s w t f due act
  spelled-decided s f w t (Err Form) = tt
  spelled-decided s f w t (Err Name) = tt
  spelled-decided s f w t (Err TooMany) = tt

  spelled-ended : (s : State) → Spelled text s → (place : ℕ) (e : Ended) → Keeps (Spelled text) (on_ended e place s)
  unfolding Keeps on_ended
  spelled-ended s f place Blank = f
  spelled-ended s f place Closes = f
  spelled-ended s f place Missing = tt

  spelled-follow : (ps : List Piece) (s : State) → InPieces text ps → Spelled text s → Keeps (Spelled text) (follow ps s)
  unfolding Keeps InPieces follow on_piece
  spelled-follow [] s i f = f
  spelled-follow (word w ∷ ps) s i f =
      then_keeps (Spelled text) (on_piece (word w) s) (follow ps) (spelled-decided s f w i.0 (decision_of w.bytes s))
      (λ t k. spelled-follow ps t i.1 k)
  spelled-follow (line place ∷ ps) s i f =
      then_keeps (Spelled text) (on_piece (line place) s) (follow ps) (spelled-ended s f place (ended_of s.due))
      (λ t k. spelled-follow ps t i k)

  pub heard-spelled : (s : State) → heard text ≡ goes s → Spelled text s
  unfolding Keeps follow_at pieces_at
  heard-spelled s e =
      let k : Keeps (Spelled text) (heard text) =
      spelled-follow (pieces text) start (pieces-in text (length text - 0) 0) (λ i h. absurd (omega arith)) in
      rw e at k
