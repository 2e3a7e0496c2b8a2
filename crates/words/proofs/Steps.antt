-- One word or one line's end, in a text that lists its atoms: what is said behind it in the state that it leads to is said in front of it. A
-- law for each kind: a word that only leads on, a name that is listed, an atom's name, the end of a line.
--
--   fixed_at ..       a state behind an `atoms:` line
--   Ends y ps s      the pieces, from this state on, say y
use mathlib.Core.Path.{◌≡◌, refl, ◌∙◌}
use mathlib.Core.Bool.{true, false}
use mathlib.Core.List.{List, [], ◌∷◌, ◌++◌}
use Prim.Native.Nat.{ℕ, ◌<◌, ◌≤◌}
use lib.ListN.{length}
use Rattle.std.specs.Prelude.{Some, Ok}
use Rattle.meaning.specs.Choice.{ifb, if_eq}
use Rattle.meaning.specs.Books.{Rule}
use Rattle.meaning.proofs.Choice.{b-no, lt_yes, lt_no}
use Rattle.book.specs.Making.{rule_by}
use Rattle.words.specs.declared.term.Term.TheVariants.{Name}
use Rattle.words.specs.declared.due.Due.{Due}
use Rattle.words.specs.declared.due.Due.TheVariants.{Line, Listing, AfterHead, Literal, Negative, AfterAtom}
use Rattle.words.specs.declared.due.Standing.{Standing}
use Rattle.words.specs.declared.due.Said.TheVariants.{Nothing as Silent, Listed, Atom}
use Rattle.words.specs.declared.due.Ended.TheVariants.{Nothing as Blank, Rule as Closes}
use Rattle.words.specs.declared.opened.Open.{Open}
use Rattle.words.specs.declared.decision.Act.{Act}
use Rattle.words.specs.declared.decision.Act.TheVariants.{Nothing, Fix, Note, Stand}
use Rattle.words.specs.Words.{Word, Piece, word, line}
use Rattle.words.specs.Names.{same_bytes, number_in}
use Rattle.words.specs.Terms.{if_word, and_word, not_word, atoms_word, term_of}
use Rattle.words.specs.Moves.{rank, is_due, only_at, on_name, move_of, ended_of}
use Rattle.words.specs.Reading.{State, placed, full, stands, named, noted, begun, on_said, decided, known, done, on_decision, decision_of, on_ended, on_piece, and_then, follow, start, Says, said}

abbrev pub fixed_at : Due → List Word → List Rule → Open → State
fixed_at due names rules o = record { due = due; fixed = true; names = names; rules = rules; rule = o }

abbrev pub Ends : Says → List Piece → State → Type 0
Ends y ps s = said (follow ps s) ≡ y

-- ---- where the words lead

pub if-leads : move_of AfterHead (term_of if_word) ≡ Some (Literal, Silent)
unfolding move_of only_at is_due rank term_of same_bytes ifb
if-leads = refl

pub and-leads : move_of AfterAtom (term_of and_word) ≡ Some (Literal, Silent)
unfolding move_of only_at is_due rank term_of same_bytes ifb
and-leads = refl

pub not-leads : move_of Literal (term_of not_word) ≡ Some (Negative, Silent)
unfolding move_of only_at is_due rank term_of same_bytes ifb
not-leads = refl

pub name-leads : (due : Due) (w : List ℕ) → term_of w ≡ Name → move_of due (term_of w) ≡ on_name due
unfolding move_of
name-leads due w e = rw e refl

pub atoms-begin : decision_of atoms_word start ≡ Ok (Listing, Fix)
unfolding decision_of decided on_said begun move_of only_at is_due rank term_of same_bytes ifb if_eq
atoms-begin = refl

-- ---- a word

module _ (y : Says) (ps : List Piece) where
  pub step-goes : (v : Word) (s : State) (due : Due) (act : Act) → decision_of v.bytes s ≡ Ok (due, act) → Ends y ps (done due act v s)
      → Ends y (word v ∷ ps) s
  unfolding follow and_then on_piece on_decision
  step-goes v s due act e h = rw e h

  module _ (names : List Word) (rules : List Rule) (o : Open) (due next : Due) (v : Word) where
    pub step-silent : move_of due (term_of v.bytes) ≡ Some (next, Silent) → Ends y ps (fixed_at next names rules o)
        → Ends y (word v ∷ ps) (fixed_at due names rules o)
    unfolding decision_of decided on_said done
    step-silent e h = step-goes v (fixed_at due names rules o) next Nothing (rw e refl) h

    pub step-listed : move_of due (term_of v.bytes) ≡ Some (next, Listed) → length names ≤ number_in names v.bytes → length names < 255
        → Ends y ps (fixed_at next (names ++ (v ∷ [])) rules o) → Ends y (word v ∷ ps) (fixed_at due names rules o)
    unfolding decision_of decided on_said noted done
    step-listed e k l h = step-goes v (fixed_at due names rules o) next Note (rw e (lt_no _ _ _ _ k ∙ lt_yes _ _ _ _ l)) h

    -- a name that is known adds none
    known-old : (a : ℕ) → a < length names → known names a v ≡ names
    unfolding known
    known-old a l = lt_yes _ _ _ _ l

    pub step-atom : (standing : Standing) (a : ℕ) → move_of due (term_of v.bytes) ≡ Some (next, (Atom standing))
        → number_in names v.bytes ≡ a → a < length names → full standing (length rules) a o ≡ false
        → Ends y ps (fixed_at next names rules (placed standing a o)) → Ends y (word v ∷ ps) (fixed_at due names rules o)
    unfolding decision_of decided on_said named stands done
    step-atom standing a e n l f h =
        step-goes v (fixed_at due names rules o) next (Stand standing a) (rw (e, n) (lt_yes _ _ _ _ l ∙ b-no _ _ _ f))
        (rw (known-old a l) h)

  -- ---- a line's end

  module _ (names : List Word) (rules : List Rule) (o : Open) (due : Due) (place : ℕ) where
    pub step-blank : ended_of due ≡ Blank → Ends y ps (fixed_at Line names rules o) → Ends y (line place ∷ ps) (fixed_at due names rules o)
    unfolding follow and_then on_piece on_ended
    step-blank e h = rw e h

    pub step-closes : (r : Rule) → ended_of due ≡ Closes → rule_by o.head o.pos o.neg ≡ r
        → Ends y ps (fixed_at Line names (rules ++ (r ∷ [])) o) → Ends y (line place ∷ ps) (fixed_at due names rules o)
    unfolding follow and_then on_piece on_ended
    step-closes r e q h = rw (e, q) h
