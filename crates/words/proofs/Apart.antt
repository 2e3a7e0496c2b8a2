-- The names of a text that is read are names, and no two atoms have the same one: a name is new only where it is none of those before it.
use mathlib.Core.Path.{◌≡◌, refl, sym, ◌∙◌}
use mathlib.Core.Logic.{◌⊎◌, inl, inr, ⊎_elim}
use mathlib.Core.Bool.{Bool, true, false}
use mathlib.Core.List.{List, [], ◌∷◌, ◌++◌, map-append}
use Prim.{tt}
use Prim.Native.Nat.{ℕ, ◌+◌, ◌<◌, ◌≤◌}
use native.Mathlib.Omega.{arith}
use lib.ListN.{length, get_or, length-append, length-map, get_or-append, get_or-map}
use lib.Seq.{get_or-append_seam}
use Rattle.std.specs.Prelude.{Some, None}
use Rattle.meaning.proofs.Choice.{b-either, lt-either, eq-either}
use Rattle.meaning.proofs.Tests.{lt-or-le, true-and-false}
use Rattle.words.specs.declared.term.Term.{Term}
use Rattle.words.specs.declared.term.Term.TheVariants.{If, And, Not, Unless, Or, Atoms, Remark, Name as AName, Other}
use Rattle.words.specs.declared.due.Due.{Due}
use Rattle.words.specs.declared.due.Due.TheVariants.{Line, Remark as InRemark, Listing, AfterHead, Literal, Negative, AfterAtom, Exception, AfterException}
use Rattle.words.specs.declared.due.Standing.{Standing}
use Rattle.words.specs.declared.due.Said.{Said}
use Rattle.words.specs.declared.due.Said.TheVariants.{Nothing as Silent, Lists, Listed, Atom}
use Rattle.words.specs.declared.due.Ended.{Ended}
use Rattle.words.specs.declared.due.Ended.TheVariants.{Nothing as Blank, Rule as Closes, Missing}
use Rattle.words.specs.Words.{Word, Piece, word, line}
use Rattle.words.specs.Names.{no_word, is_named, number_in}
use Rattle.words.specs.Terms.{term_of}
use Rattle.words.specs.Moves.{Move, is_due, remarked, only_at, on_unless, move_of, ended_of}
use Rattle.words.specs.Reading.{State, full, stands, named, noted, begun, on_said, decided, known, done, goes, on_decision, decision_of, on_ended, on_piece, heard, names_of}
use Rattle.words.specs.Text.{GoodNames}
use Rattle.words.proofs.Names.{bytes-refl, first-none}
use Rattle.words.proofs.Reached.{Keeps, heard-keeps}

-- ---- only a name says an atom

unfoldable says_name : Move → Bool
says_name (Some (next, Silent)) = false
says_name (Some (next, Lists)) = false
says_name (Some (next, Listed)) = true
says_name (Some (next, (Atom standing))) = true
says_name None = false

remarked-silent : (due : Due) → says_name (remarked due) ≡ false
unfolding remarked says_name
remarked-silent due = b-either (λ m. says_name m ≡ false) (is_due due InRemark) _ _ (λ e. refl) (λ e. refl)

only-silent : (due place next : Due) (said : Said) → says_name (Some (next, said)) ≡ false → says_name (only_at due place next said) ≡ false
unfolding only_at
only-silent due place next said h = b-either (λ m. says_name m ≡ false) (is_due due place) _ _ (λ e. h) (λ e. remarked-silent due)

unless-silent : (due : Due) → says_name (on_unless due) ≡ false
unfolding on_unless says_name
unless-silent due =
    b-either (λ m. says_name m ≡ false) (is_due due AfterHead) _ _ (λ e. refl) (λ e. only-silent due AfterAtom Exception Silent refl)

name-says : (due : Due) (t : Term) → says_name (move_of due t) ≡ true → t ≡ AName
unfolding move_of says_name
name-says due If e = true-and-false e (only-silent due AfterHead Literal Silent refl)
name-says due And e = true-and-false e (only-silent due AfterAtom Literal Silent refl)
name-says due Not e = true-and-false e (only-silent due Literal Negative Silent refl)
name-says due Unless e = true-and-false e (unless-silent due)
name-says due Or e = true-and-false e (only-silent due AfterException Exception Silent refl)
name-says due Atoms e = true-and-false e (only-silent due Line Listing Lists refl)
name-says due Remark e = true-and-false e (only-silent due Line InRemark Silent refl)
name-says due AName e = refl
name-says due Other e = true-and-false e (remarked-silent due)

-- ---- one name more

new-name : (l : List (List ℕ)) (x : List ℕ) → ((i : ℕ) → i < length l → get_or l i [] ≡ x → ⊥) → term_of x ≡ AName → GoodNames l
    → GoodNames (l ++ (x ∷ []))
new-name l x f t g = record {
  each = λ i h. ⊎_elim (λ p. rw (old i p) (g.each i p)) (λ p. rw (last i (omega (arith, more))) t) (lt-or-le i (length l));
  apart = λ i j h k e. different i j h k e (lt-or-le i (length l)) (lt-or-le j (length l));
}
  where
    more : length (l ++ (x ∷ [])) ≡ length l + 1
    more = length-append l (x ∷ [])

    old : (i : ℕ) → i < length l → get_or (l ++ (x ∷ [])) i [] ≡ get_or l i []
    old i h = get_or-append l (x ∷ []) [] i h

    last : (i : ℕ) → i ≡ length l → get_or (l ++ (x ∷ [])) i [] ≡ x
    last i e = rw e (get_or-append_seam l x [] [])

    different : (i j : ℕ) → i < length (l ++ (x ∷ [])) → j < length (l ++ (x ∷ [])) → get_or (l ++ (x ∷ [])) i [] ≡ get_or (l ++ (x ∷ [])) j []
        → (i < length l) ⊎ (length l ≤ i) → (j < length l) ⊎ (length l ≤ j) → i ≡ j
    different i j h k e (inl p) (inl q) = g.apart i j p q (sym (old i p) ∙ e ∙ old j q)
    different i j h k e (inl p) (inr q) = absurd (f i p (sym (old i p) ∙ e ∙ last j (omega (arith, more))))
    different i j h k e (inr p) (inl q) = absurd (f j q (sym (old j q) ∙ sym e ∙ last i (omega (arith, more))))
    different i j h k e (inr p) (inr q) = omega (arith, more)

pub names-long : (names : List Word) → length (names_of names) ≡ length names
names-long names = length-map names (λ (w : Word). w.bytes)

-- the i-th name's bytes
pub name-at : (names : List Word) (i : ℕ) → get_or (names_of names) i [] ≡ (get_or names i no_word).bytes
name-at names i = get_or-map (λ (w : Word). w.bytes) names i no_word

pub none_so_far : (names : List Word) (l : List ℕ) → length names ≤ number_in names l → (i : ℕ) → i < length (names_of names)
    → get_or (names_of names) i [] ≡ l → ⊥
unfolding number_in
none_so_far names l h i k e =
    let m = names-long names in
    let n : is_named names l i ≡ false = first-none 0 (length names) (is_named names l) (omega arith) i (omega arith) (omega arith) in
    let b : (get_or names i no_word).bytes ≡ l = sym (name-at names i) ∙ e in
    true-and-false (bytes-refl l) (rw b at n)

module _ (s : State) (g : GoodNames (names_of s.names)) (w : Word) where
  names-new : length s.names ≤ number_in s.names w.bytes → term_of w.bytes ≡ AName → GoodNames (names_of (s.names ++ (w ∷ [])))
  names-new h t =
      let e : names_of (s.names ++ (w ∷ [])) ≡ names_of s.names ++ (w.bytes ∷ []) = map-append (λ (x : Word). x.bytes) s.names (w ∷ []) in
      rw e (new-name (names_of s.names) w.bytes (none_so_far s.names w.bytes h) t g)

  names-known : term_of w.bytes ≡ AName → GoodNames (names_of (known s.names (number_in s.names w.bytes) w))
  unfolding known
  names-known t =
      lt-either (λ (x : List Word). GoodNames (names_of x)) (number_in s.names w.bytes) (length s.names) s.names (s.names ++ (w ∷ []))
      (λ h. g) (λ h. names-new h t)

abbrev Names : State → Type 0
Names s = GoodNames (names_of s.names)

module _ (s : State) (g : Names s) (w : Word) where
  names-stands : (standing : Standing) (due : Due) → term_of w.bytes ≡ AName
      → Keeps Names (on_decision (stands standing due (length s.rules) (number_in s.names w.bytes) s.rule) w s)
  unfolding Keeps on_decision stands done
  names-stands standing due t =
      b-either (λ d. Keeps Names (on_decision d w s)) (full standing (length s.rules) (number_in s.names w.bytes) s.rule) _ _
      (λ e. tt) (λ e. names-known s g w t)

  names-said : (due : Due) (said : Said) → (says_name (Some (due, said)) ≡ true → term_of w.bytes ≡ AName)
      → Keeps Names (on_decision (on_said said due s.fixed (length s.rules) (length s.names) (number_in s.names w.bytes) s.rule) w s)
  unfolding Keeps on_decision on_said begun noted named done says_name
  names-said due Silent t = g
  names-said due Lists t = eq-either (λ d. Keeps Names (on_decision d w s)) (length s.rules) 0 _ _ (λ e. g) (λ e. tt)
  names-said due Listed t =
      lt-either (λ d. Keeps Names (on_decision d w s)) (number_in s.names w.bytes) (length s.names) _ _ (λ h. tt)
      (λ h. lt-either (λ d. Keeps Names (on_decision d w s)) (length s.names) 255 _ _ (λ k. names-new s g w h (t refl)) (λ k. tt))
  names-said due (Atom standing) t =
      lt-either (λ d. Keeps Names (on_decision d w s)) (number_in s.names w.bytes) (length s.names) _ _
      (λ h. names-stands standing due (t refl))
      (λ h. b-either (λ d. Keeps Names (on_decision d w s)) s.fixed _ _ (λ e. tt)
      (λ e. lt-either (λ d. Keeps Names (on_decision d w s)) (length s.names) 255 _ _ (λ k. names-stands standing due (t refl)) (λ k. tt)))

  names-move : (m : Move) → (says_name m ≡ true → term_of w.bytes ≡ AName)
      → Keeps Names (on_decision (decided m s.fixed (length s.rules) (length s.names) (number_in s.names w.bytes) s.rule) w s)
  unfolding Keeps on_decision decided
  names-move (Some (due, said)) t = names-said due said t
  names-move None t = tt

names-ended : (s : State) → Names s → (place : ℕ) (e : Ended) → Keeps Names (on_ended e place s)
unfolding Keeps on_ended
names-ended s g place Blank = g
names-ended s g place Closes = g
names-ended s g place Missing = tt

names-piece : (p : Piece) (s : State) → Names s → Keeps Names (on_piece p s)
unfolding on_piece decision_of
names-piece (word w) s g = names-move s g w (move_of s.due (term_of w.bytes)) (name-says s.due (term_of w.bytes))
names-piece (line place) s g = names-ended s g place (ended_of s.due)

pub names_apart : (text : List ℕ) (s : State) → heard text ≡ goes s → GoodNames (names_of s.names)
names_apart text s e =
    heard-keeps Names names-piece (record { each = λ i h. absurd (omega arith); apart = λ i j h k p. absurd (omega arith) }) text s e
