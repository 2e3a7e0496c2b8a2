-- Collecting the atoms of a text: the atoms of the whole text are those noted so far and those of the rest, which says what a word says
-- first.
use mathlib.Core.Path.{◌≡◌, refl, ap, sym, ◌∙◌}
use mathlib.Core.List.{List, [], ◌∷◌, ◌++◌, append_assoc}
use Prim.Native.Nat.{ℕ}
use native.Mathlib.Omega.{arith}
use lib.ListN.{length}
use Rattle.std.specs.Prelude.{Option, Some, None, Ok, Err}
use Rattle.meaning.specs.Told.{refused_at, Answered}
use Rattle.meaning.proofs.Choice.{b-either, lt-either, eq-either}
use Rattle.imported.specs.Making.{rule_atoms, rules_atoms, mentioned, distinct_from}
use Rattle.imported.specs.declared.TextAtom.{TextAtom}
use Rattle.lparse.specs.declared.due.Role.{Role}
use Rattle.lparse.specs.declared.due.Role.TheVariants.{Kind, Head, HeadCount, Heads, Literals, Negatives, Negative, Positive, Table, Plus, Minus, Models}
use Rattle.lparse.specs.declared.due.Due.{Due}
use Rattle.lparse.specs.declared.due.Due.TheVariants.{Number, Name, PlusWord, MinusWord, End}
use Rattle.lparse.specs.declared.due.Standing.TheVariants.{Head as InHead, Free as InFree, Negative as InNegative, Positive as InPositive, Table as InTable, Plus as InPlus, Minus as InMinus}
use Rattle.lparse.specs.declared.due.Said.{Said}
use Rattle.lparse.specs.declared.due.Said.TheVariants.{Nothing as Silent, Choice as Chooses, Atom}
use Rattle.lparse.specs.declared.due.Misplaced.TheVariants.{Format, Kind as OtherKind}
use Rattle.lparse.specs.Words.{Word, word_at, words_at}
use Rattle.lparse.specs.declared.step.Taken.{Taken}
use Rattle.lparse.specs.declared.step.Unread.{Unread}
use Rattle.lparse.specs.declared.step.Unread.TheVariants.{Format as WrongFormat, Kind as WrongKind}
use Rattle.lparse.specs.Reading.{Step, Move, text_atom, on_kind, on_atom, on_listed, on_head_count, on_negatives, on_number, number_in, on_value, signed, on_sign, move_of, step_at, Part, with, with_atom, with_choice, Heard, says, wrong, adding, heard_at}
use Rattle.lparse.specs.Collect.{unimported, told, text_in, text_of, numbers_of, collected, collect_heard, collect_of, Stands, whole, Notes, atoms_said}
use Rattle.lparse.proofs.Reading.{by_step, heard-by, took-move}
use Rattle.lparse.proofs.Spelled.{nothing}
use Rattle.lparse.proofs.Phases.{Open, NoRule, NoTable, NoPlus, Fits, FitsRole, body_open, heard-fits}

-- ---- the atoms of the whole text are those noted so far and those of the rest

-- the atoms that the rest of a text says, in its order
unfoldable pub atoms_of : Part → List TextAtom
atoms_of p = p.heads ++ (p.neg ++ (p.pos ++ mentioned (text_of p)))

unfoldable pub gathered : List TextAtom → Heard → List ℕ → Answered ℕ
gathered l (says p) seen = collected (distinct_from l (atoms_of p)) seen
gathered l (wrong i at) seen = record { told = refused_at i at; buffer = seen }

-- one word more in front says its atom before all others, where what fits behind it lets it
module _ (w : Word) (a : TextAtom) (p : Part) where
  head-joined : atoms_of (with_atom w a InHead p) ≡ a ∷ (p.neg ++ (p.pos ++ mentioned (text_of p)))
  unfolding atoms_of with_atom mentioned rules_atoms rule_atoms
  head-joined = ap (λ l. a ∷ l) (simp append_assoc)

  head_first : p.heads ≡ [] → atoms_of (with_atom w a InHead p) ≡ a ∷ atoms_of p
  unfolding atoms_of
  head_first e = head-joined ∙ ap (λ l. a ∷ (l ++ (p.neg ++ (p.pos ++ mentioned (text_of p))))) (sym e)

  free-first : atoms_of (with_atom w a InFree p) ≡ a ∷ atoms_of p
  unfolding atoms_of with_atom
  free-first = refl

  negative-first : p.heads ≡ [] → atoms_of (with_atom w a InNegative p) ≡ a ∷ atoms_of p
  unfolding atoms_of with_atom
  negative-first e = rw e

  positive-first : {n : ℕ} → Open 0 n p.heads p.neg p.pos → atoms_of (with_atom w a InPositive p) ≡ a ∷ atoms_of p
  unfolding atoms_of with_atom
  positive-first o = rw (o.no-head, nothing p.neg o.negatives)

  table-first : NoRule p.heads p.neg p.pos p.rules → atoms_of (with_atom w a InTable p) ≡ a ∷ atoms_of p
  unfolding atoms_of with_atom mentioned rules_atoms
  table-first f = rw (f.shut.no-head, nothing p.neg f.shut.negatives, nothing p.pos f.shut.positives, f.no-rule)

  plus-first : NoTable p.heads p.neg p.pos p.rules p.table → atoms_of (with_atom w a InPlus p) ≡ a ∷ atoms_of p
  unfolding atoms_of with_atom mentioned rules_atoms
  plus-first f =
      let g = f.behind-rules in
      rw (g.shut.no-head, nothing p.neg g.shut.negatives, nothing p.pos g.shut.positives, g.no-rule, f.no-entry)

  minus-first : NoPlus p.heads p.neg p.pos p.rules p.table p.plus → atoms_of (with_atom w a InMinus p) ≡ a ∷ atoms_of p
  unfolding atoms_of with_atom mentioned rules_atoms
  minus-first f =
      let h = f.behind-table in
      let g = h.behind-rules in
      rw (g.shut.no-head, nothing p.neg g.shut.negatives, nothing p.pos g.shut.positives, g.no-rule, h.no-entry, f.no_plus)

-- a choice says no atom: its heads are said behind it
choice-first : (p : Part) → atoms_of (with_choice p) ≡ atoms_of p
unfolding atoms_of with_choice mentioned rules_atoms rule_atoms
choice-first p = simp append_assoc

-- so for every move
unfoldable pub First : Word → Move → Type 0
First w (Ok (next, said)) = (p : Part) → Fits next p → atoms_of (with w said p) ≡ atoms_said said ++ atoms_of p
First w (Err Format) = Unit {0}
First w (Err OtherKind) = Unit {0}

module _ (w : Word) where
  first-number : (role : Role) (n : ℕ) → First w (on_number role n)
  unfolding First Fits FitsRole on_number on_kind on_atom on_listed on_head_count on_negatives with atoms_said
  first-number Kind n =
      eq-either (First w) n 0 _ _ (λ e p f. refl) (λ e. eq-either (First w) n 1 _ _ (λ g p f. refl)
      (λ g. eq-either (First w) n 3 _ _ (λ i p f. choice-first p) (λ i. tt)))
  first-number Head n = eq-either (First w) n 0 _ _ (λ e. tt) (λ e p f. head_first w (text_atom n) p f)
  first-number HeadCount n = eq-either (First w) n 0 _ _ (λ e. tt) (λ e p f. refl)
  first-number (Heads m) n = eq-either (First w) n 0 _ _ (λ e. tt) (λ e p f. free-first w (text_atom n) p)
  first-number Literals n = λ p f. refl
  first-number (Negatives l) n = lt-either (First w) l n _ _ (λ h. tt) (λ h p f. refl)
  first-number (Negative m q) n = eq-either (First w) n 0 _ _ (λ e. tt) (λ e p f. negative-first w (text_atom n) p (body_open m q p f).no-head)
  first-number (Positive q) n =
      eq-either (First w) n 0 _ _ (λ e. tt) (λ e p f. positive-first w (text_atom n) p (body_open 0 q p f))
  first-number Table n = eq-either (First w) n 0 _ _ (λ e p f. refl) (λ e p f. refl)
  first-number Plus n = eq-either (First w) n 0 _ _ (λ e p f. refl) (λ e p f. plus-first w (text_atom n) p f)
  first-number Minus n = eq-either (First w) n 0 _ _ (λ e p f. refl) (λ e p f. minus-first w (text_atom n) p f)
  first-number Models n = λ p f. refl

  first-value : (role : Role) (d : Option ℕ) → First w (on_value role d)
  unfolding First on_value
  first-value role (Some n) = first-number role n
  first-value role None = tt

  pub first : (due : Due) (l : List ℕ) → First w (move_of due l)
  unfolding First Fits FitsRole move_of on_sign with atoms_said
  first (Number role) l = first-value role (number_in l)
  first (Name a) l = λ p f. table-first w a p f
  first PlusWord l = b-either (First w) (signed l 43) _ _ (λ e p f. refl) (λ e. tt)
  first MinusWord l = b-either (First w) (signed l 45) _ _ (λ e p f. refl) (λ e. tt)
  first End l = tt

-- ---- the loop: at its start, in a turn, and at its ends

pub heard-at-fits : (s : List ℕ) (at : ℕ) (due : Due) (p : Part) → heard_at s at due ≡ says p → Fits due p
unfolding heard_at
heard-at-fits s at due p e = heard-fits (length s) due (words_at s at) p e

-- at a rule's start nothing is open
pub rest-atoms : (p : Part) → Fits (Number Kind) p → atoms_of p ≡ mentioned (text_of p)
unfolding atoms_of Fits FitsRole
rest-atoms p f = rw (f.no-head, nothing p.neg f.negatives, nothing p.pos f.positives)

pub gather-start : (s seen : List ℕ) → collect_of s seen ≡ gathered [] (text_in s) seen
unfolding collect_of collect_heard gathered
gather-start s seen = go (text_in s) (heard-at-fits s 0 (Number Kind))
  where
    go : (h : Heard) → ((p : Part) → h ≡ says p → Fits (Number Kind) p) → collect_heard h seen ≡ gathered [] h seen
    go (says p) f = rw (rest-atoms p (f p refl))
    go (wrong i at) f = refl

-- what one word more says is gathered first
turn-said : (seen : List ℕ) (l : List TextAtom) (w : Word) (next : Due) (said : Said) (h : Heard) → First w (Ok (next, said))
    → ((p : Part) → h ≡ says p → Fits next p)
    → gathered l (adding w said h) seen ≡ gathered (distinct_from l (atoms_said said)) h seen
unfolding First gathered adding atoms_said distinct_from
turn-said seen l w next Silent (says p) f fits = ap (λ k. collected (distinct_from l k) seen) (f p (fits p refl))
turn-said seen l w next Chooses (says p) f fits = ap (λ k. collected (distinct_from l k) seen) (f p (fits p refl))
turn-said seen l w next (Atom a standing) (says p) f fits = ap (λ k. collected (distinct_from l k) seen) (f p (fits p refl))
turn-said seen l w next Silent (wrong i at) f fits = refl
turn-said seen l w next Chooses (wrong i at) f fits = refl
turn-said seen l w next (Atom a standing) (wrong i at) f fits = refl

module _ (s seen : List ℕ) (at : ℕ) (due : Due) (l : List TextAtom) {r : Step} (e : r ≡ step_at s at due) where
  pub gather-turn : (t : Taken) → r ≡ Ok (Some t)
      → gathered l (heard_at s at due) seen ≡ gathered (distinct_from l (atoms_said t.said)) (heard_at s t.end t.next) seen
  unfolding by_step
  gather-turn t g =
      ap (λ h. gathered l h seen) (heard-by s at due e g)
      ∙ turn-said seen l (word_at s t.from) t.next t.said (heard_at s t.end t.next)
      (rw (took-move s at due e t g) at (first (word_at s t.from) due (word_at s t.from).bytes)) (heard-at-fits s t.end t.next)

  pub gather-unread : (u : Unread) → r ≡ Err u → record { told = told (Err (unimported u)); buffer = seen } ≡ gathered l (heard_at s at due) seen
  unfolding gathered by_step
  gather-unread (WrongFormat place) g = sym (ap (λ h. gathered l h seen) (heard-by s at due e g))
  gather-unread (WrongKind place) g = sym (ap (λ h. gathered l h seen) (heard-by s at due e g))

  pub gather-end : r ≡ Ok None → collected l seen ≡ gathered l (heard_at s at due) seen
  unfolding gathered by_step distinct_from atoms_of mentioned rules_atoms
  gather-end g = sym (ap (λ h. gathered l h seen) (heard-by s at due e g))

-- what the loop knows: the atoms so far stand in the array, and with those of the rest they are the text's
pub record Gathering (s seen found : List ℕ) (n : ℕ) (rest : Heard) : Type 0 where
  pub atoms : List TextAtom
  pub stand : Stands atoms n found
  pub same : collect_of s seen ≡ gathered atoms rest seen

pub gathering-start : (s seen found : List ℕ) → length found ≡ 255 → Gathering s seen found 0 (text_in s)
unfolding numbers_of
gathering-start s seen found h =
    record { atoms = []; stand = whole h refl (omega arith) refl; same = gather-start s seen }

pub gathering-turn : (s seen : List ℕ) (at : ℕ) (due : Due) {found after : List ℕ} {n m : ℕ} {r : Step}
    → Gathering s seen found n (heard_at s at due) → r ≡ step_at s at due
    → (t : Taken) → r ≡ Ok (Some t) → Notes (atoms_said t.said) n found m after
    → Gathering s seen after m (heard_at s t.end t.next)
gathering-turn s seen at due g e t f notes = record {
  atoms = distinct_from g.atoms (atoms_said t.said);
  stand = notes.behind g.atoms g.stand;
  same = g.same ∙ gather-turn s seen at due g.atoms e t f;
}
