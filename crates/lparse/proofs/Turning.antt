-- The second pass: the rules made so far, the rule that is open, and what is left are the rules of the book.
use mathlib.Core.Path.{◌≡◌, refl, ap, sym, ◌∙◌}
use mathlib.Core.Logic.{⊎_map}
use mathlib.Core.Bool.{Bool, true, false}
use mathlib.Core.List.Memᴰ
use mathlib.Core.List.{List, [], ◌∷◌, ◌++◌, map, append_assoc, append-nil, Memᴰ}
use Prim.Native.Nat.{ℕ, ◌+◌, ◌<◌, ◌≤◌}
use native.Mathlib.Nat.{add-zero}
use native.Mathlib.Omega.{arith}
use lib.ListN.{length, length-map}
use Rattle.std.specs.Prelude.{None, Ok, Err, Some}
use Rattle.meaning.specs.Choice.{ifb}
use Rattle.meaning.specs.Books.{Rule}
use Rattle.meaning.proofs.Choice.{b-yes, b-no, b-either}
use Rattle.book.specs.declared.making.Making.{Making}
use Rattle.book.specs.Making.{Made}
use Rattle.imported.specs.Text.{basic, Text}
use Rattle.imported.specs.Making.{mentioned, distinct, atom_count, number, free_heads, free_count, made_atoms, made_from, made_rules, made_book}
use Rattle.imported.proofs.Numbers.{number-below}
use Rattle.imported.proofs.Parts.{Covered}
use Rattle.imported.specs.declared.TextAtom.{TextAtom}
use Rattle.lparse.specs.declared.due.Role.TheVariants.{Kind}
use Rattle.lparse.specs.declared.due.Due.{Due}
use Rattle.lparse.specs.declared.due.Due.TheVariants.{Number, End}
use Rattle.lparse.specs.declared.due.Standing.TheVariants.{Head as InHead, Free as InFree, Negative as InNegative, Positive as InPositive, Table as InTable, Plus as InPlus, Minus as InMinus}
use Rattle.lparse.specs.declared.due.Said.{Said}
use Rattle.lparse.specs.declared.due.Said.TheVariants.{Nothing as Silent, Choice as Chooses, Atom}
use Rattle.lparse.specs.declared.rule.Opened.{Opened}
use Rattle.lparse.specs.declared.form.Forming.{Forming}
use Rattle.lparse.specs.Words.{Word, word_at}
use Rattle.lparse.specs.declared.step.Taken.{Taken}
use Rattle.lparse.specs.declared.step.Unread.{Unread}
use Rattle.lparse.specs.Reading.{Step, move_of, step_at, Part, nothing_more, with, with_atom, with_choice, says, heard_at}
use Rattle.lparse.specs.Collect.{text_in, text_of, numbers_of, atoms_said}
use Rattle.lparse.specs.Opened.{capped, opening}
use Rattle.lparse.specs.Forming.{entry_by, closes, helper_behind, formed_said, said_rules, shut, closed_by, rule_closed, Forms, Placed}
use Rattle.lparse.specs.Make.{counted, Readable, Complete}
use Rattle.lparse.proofs.Phases.{Fits}
use Rattle.lparse.proofs.Reading.{took-move, took-part, never-unread, done-part, done_end}
use Rattle.lparse.proofs.Collecting.{atoms_of, First, first, heard-at-fits, rest-atoms}
use Rattle.lparse.proofs.Capped.{capped-of, capped-sum}
use Rattle.lparse.proofs.Formed.{said-helper}
use Rattle.lparse.proofs.Remaining.{rule_role, in_rule, Begun, begun_after, open_texts, begun_texts, texts_left, whole_texts, frees, helper_after, remaining, entry_of, Turned, Turn, turn}
use Rattle.lparse.proofs.Tabled.{Tells, BegunCovered, count_same, place_same, entry-same, tells-opening, tells-said, nothing-covered, begun-covered, begun-ready, begun-made}

-- ---- the state of the pass

-- the rules made so far; the rule that was begun, which the code has open; and c, the number of the next helper
pub record State (t : Text) (due : Due) (q : Part) (f : Forming) (draft : List ℕ) : Type 0 where
  pub rules : List Rule
  pub begun : Begun
  pub c : ℕ
  pub made : Made rules f.making draft
  pub tells : Tells t begun f.rule
  pub covered : BegunCovered t begun
  pub helper : f.helper ≡ capped c
  pub behind : atom_count t ≤ c
  pub rest : made_rules t ≡ rules ++ remaining t (in_rule due) c begun q
  pub helpers : c + frees (texts_left (in_rule due) begun q) ≡ atom_count t + free_count t
  pub entry : (made_book t).atoms ≡ counted f.entry (atom_count t + free_count t) (q.plus ++ q.minus)
  pub mentions : Covered t (atoms_of q)

pub state-start : (p : Part) (f : Forming) (draft : List ℕ) → Made [] f.making draft → f.rule ≡ opening false
    → f.helper ≡ capped (atom_count (text_of p)) → f.entry ≡ false
    → atoms_of p ≡ mentioned (text_of p) → State (text_of p) (Number Kind) p f draft
unfolding made_rules made_book free_count counted in_rule rule_role remaining texts_left
state-start p f draft m e g h a = record {
  rules = [];
  begun = record { free = false; heads = []; pos = []; neg = [] };
  c = atom_count (text_of p);
  made = m;
  tells = rw e (tells-opening (text_of p) false);
  covered = nothing-covered (text_of p) false;
  helper = g;
  behind = omega arith;
  rest = refl;
  helpers = refl;
  entry = rw h;
  mentions = rw a (λ x i. i);
}

-- an entry more: the helper is there
some-entry : (b : Bool) (k : ℕ) (l m n : List TextAtom) (a : TextAtom) → counted b k (l ++ (a ∷ m)) ≡ counted true k n
unfolding counted made_atoms
some-entry true k l m n a = refl
some-entry false k [] m n a = refl
some-entry false k (x ∷ l) m n a = refl

entry-turn : (f : Forming) (atoms : List ℕ) (w : Word) (said : Said) (q : Part) (k : ℕ)
    → counted f.entry k ((with w said q).plus ++ (with w said q).minus) ≡ counted (formed_said f atoms said).entry k (q.plus ++ q.minus)
unfolding with with_atom with_choice formed_said entry_by
entry-turn f atoms w Silent q k = refl
entry-turn f atoms w Chooses q k = refl
entry-turn f atoms w (Atom a InHead) q k = refl
entry-turn f atoms w (Atom a InFree) q k = refl
entry-turn f atoms w (Atom a InNegative) q k = refl
entry-turn f atoms w (Atom a InPositive) q k = refl
entry-turn f atoms w (Atom a InTable) q k = refl
entry-turn f atoms w (Atom a InPlus) q k = some-entry f.entry k [] (q.plus ++ q.minus) (q.plus ++ q.minus) a
entry-turn f atoms w (Atom a InMinus) q k = some-entry f.entry k q.plus q.minus (q.plus ++ q.minus) a

-- where the rule that was open is whole, the code's rules are the book's, and its helpers are counted
module _ (t : Text) (next : Due) {b : Begun} {o : Opened} (few : atom_count t ≤ 255) (covered : BegunCovered t b) (s : Tells t b o) where
  whole_same : (c : ℕ) → rule_closed next c (map (number t) b.heads) o ≡ made_from t c (whole_texts next b)
  unfolding rule_closed whole_texts made_from
  whole_same c = b-either (λ l. l ≡ made_from t c (whole_texts next b)) (closes next) _ _
      (λ e. begun-made t few covered s c ∙ ap (made_from t c) (sym (b-yes _ (begun_texts b) [] e)))
      (λ e. ap (made_from t c) (sym (b-no _ (begun_texts b) [] e)))

  behind-same : (c : ℕ) {h : ℕ} → h ≡ capped c → helper_behind h o.free o.count ≡ capped (c + frees (begun_texts b))
  unfolding helper_behind open_texts free_heads ifb
  behind-same c {h} e = rw s.free (go b.free refl)
    where
      no-frees : (l : List TextAtom) → frees (map (λ a. basic a b.pos b.neg) l) ≡ 0
      no-frees [] = refl
      no-frees (a ∷ l) = no-frees l

      go : (x : Bool) → b.free ≡ x → ifb x (capped (h + o.count)) h ≡ capped (c + frees (open_texts x b.heads b.pos b.neg))
      go true i =
          let n : length (map (number t) b.heads) ≡ length (b.heads ++ []) = length-map b.heads (number t) ∙ ap length (sym (append-nil b.heads)) in
          ap (λ y. capped (y + o.count)) e ∙ ap (λ y. capped (capped c + y)) (s.heads.counted ∙ ap capped n) ∙ capped-sum c (length (b.heads ++ []))
      go false i = e ∙ ap capped (sym (add-zero c) ∙ ap (λ y. c + y) (sym (no-frees b.heads)))

helper-turn : (next : Due) (g : Forming) (b : Begun) (c : ℕ) → g.helper ≡ capped c
    → helper_behind g.helper g.rule.free g.rule.count ≡ capped (c + frees (begun_texts b))
    → (closed_by next g).helper ≡ capped (helper_after next c b)
unfolding closed_by helper_after ifb
helper-turn next g b c e f = go (closes next)
  where
    go : (x : Bool) → (ifb x (shut g) g).helper ≡ capped (ifb x (c + frees (begun_texts b)) c)
    go true = f
    go false = e

rule-turn : (next : Due) (g : Forming) → ((closed_by next g).rule ≡ g.rule) × ((closed_by next g).entry ≡ g.entry)
unfolding closed_by
rule-turn next g = b-either (λ (x : Forming). (x.rule ≡ g.rule) × (x.entry ≡ g.entry)) (closes next) _ _ (λ e. (refl, refl)) (λ e. (refl, refl))

helper-grows : (next : Due) (c : ℕ) (b : Begun) → c ≤ helper_after next c b
unfolding helper_after
helper-grows next c b = b-either (λ x. c ≤ x) (closes next) _ _ (λ e. omega arith) (λ e. omega arith)

module _ (t : Text) (atoms : List ℕ) (same : atoms ≡ numbers_of (distinct (mentioned t))) (few : length atoms ≤ 255)
    (w : Word) (due next : Due) (said : Said) (move : move_of due w.bytes ≡ Ok (next, said)) (q : Part) (fits : Fits next q) where
  said-first : atoms_of (with w said q) ≡ atoms_said said ++ atoms_of q
  unfolding First
  said-first = (rw move at (first w due w.bytes)) q fits

  said-turn : (c : ℕ) (b : Begun)
      → Turned t c next (entry_of t said) (begun_after said b) q (texts_left (in_rule due) b (with w said q)) (with w said q).plus (with w said q).minus
  unfolding Turn
  said-turn c b = (rw move at (turn t w due w.bytes)) c b q fits

  module _ {f : Forming} {before : List ℕ} (s : State t due (with w said q) f before) where
    said-covered : Covered t (atoms_said said)
    said-covered a m = s.mentions a (rw said-first (Memᴰ.append_left (atoms_of q) m))

    said-small : (a : TextAtom) → Memᴰ a (atoms_said said) → number t a < 255
    said-small a m = omega (arith, number-below t a (said-covered a m), count_same t atoms same)

    pub said-placed : Placed atoms said
    unfolding Placed atoms_said
    said-placed = placed-said said said-covered
      where
        placed-said : (x : Said) → Covered t (atoms_said x) → Placed atoms x
        placed-said Silent c = few
        placed-said Chooses c = few
        placed-said (Atom a standing) c =
            (omega (arith, place_same t atoms same a, number-below t a (c a (Memᴰ.head refl)), count_same t atoms same), few)

    -- an entry is said only behind all rules: the next helper is h
    said-entry : said_rules s.c atoms said ≡ entry_of t said
    unfolding free_heads
    said-entry = entry-same t atoms same s.c said (⊎_map (λ e. e)
        (λ e. sym (add-zero s.c) ∙ ap (λ l. s.c + frees l) (sym e) ∙ s.helpers) (said-turn s.c s.begun).order)

    pub state-turn : {g : Forming} {after : List ℕ}
        → Forms atoms (λ k l. said_rules k atoms said ++ rule_closed next k l (formed_said f atoms said).rule) f.helper
        (closed_by next (formed_said f atoms said)) f.making before g after
        → State t next q g after
    unfolding remaining
    state-turn forms =
        let atoms_few : atom_count t ≤ 255 = omega (arith, count_same t atoms same) in
        let e = formed_said f atoms said in
        let b = begun_after said s.begun in
        let tells = tells-said t atoms same f said s.begun said-small s.tells in
        let covered = begun-covered t said s.begun said-covered s.covered in
        let ready = begun-ready t atoms_few covered tells s.helper s.behind in
        let (rule, entry) = rule-turn next e in
        let turned = said-turn s.c s.begun in
        record {
          rules = s.rules ++ (entry_of t said ++ made_from t s.c (whole_texts next b));
          begun = b;
          c = helper_after next s.c b;
          made = rw (said-entry, whole_same t next atoms_few covered tells s.c) at
              ((forms.adds s.c (map (number t) b.heads) (omega (arith, count_same t atoms same, s.behind)) (rw rule ready)).behind s.rules s.made);
          tells = rw (forms.rule ∙ rule) tells;
          covered = covered;
          helper = forms.helper ∙ helper-turn next e b s.c (said-helper f atoms said ∙ s.helper)
              (behind-same t next atoms_few covered tells s.c (said-helper f atoms said ∙ s.helper));
          behind = omega (arith, s.behind, helper-grows next s.c b);
          rest = s.rest ∙ ap (λ l. s.rules ++ l) turned.rules ∙ sym (append_assoc s.rules _ _);
          helpers = turned.helpers ∙ s.helpers;
          entry = rw (forms.entry ∙ entry) (s.entry ∙ entry-turn f atoms w said q (atom_count t + free_count t));
          mentions = λ a m. s.mentions a (rw said-first (Memᴰ.append_right (atoms_said said) m));
        }

state-end : (t : Text) (due : Due) (f : Forming) (draft : List ℕ) → due ≡ End → State t due nothing_more f draft → Complete t f draft
unfolding in_rule remaining texts_left made_from free_heads
state-end t due f draft e s =
    let h : s.c + frees (texts_left (in_rule End) s.begun nothing_more) ≡ atom_count t + free_count t = rw e at s.helpers in
    record {
      made = rw (s.rest, e, append-nil s.rules) s.made;
      helper = s.helper ∙ ap capped (sym (add-zero s.c) ∙ h);
      atoms = s.entry;
    }

-- ---- the pass over the text

pub record Passing (s atoms : List ℕ) (at : ℕ) (due : Due) (f : Forming) (draft : List ℕ) : Type 0 where
  pub readable : Readable s atoms
  pub left : Part
  pub rest : heard_at s at due ≡ says left
  pub state : State (text_of readable.part) due left f draft

pub passing-start : (s atoms : List ℕ) {m : Making} {o : Opened} {draft : List ℕ} → Readable s atoms → Made [] m draft → o ≡ opening false
    → Passing s atoms 0 (Number Kind) (record { making = m; rule = o; helper = length atoms; entry = false }) draft
passing-start s atoms {draft = draft} r made e =
    let n : length atoms ≡ atom_count (text_of r.part) = count_same (text_of r.part) atoms r.same in
    record {
      readable = r;
      left = r.part;
      rest = r.heard;
      state = state-start r.part _ draft made e (n ∙ sym (capped-of _ (omega (arith, r.few)))) refl
          (rest-atoms r.part (heard-at-fits s 0 (Number Kind) r.part r.heard));
    }

module _ (s atoms : List ℕ) (at : ℕ) (due : Due) {f : Forming} {draft : List ℕ} (p : Passing s atoms at due f draft) {r : Step} (e : r ≡ step_at s at due) where
  module _ (t : Taken) (g : r ≡ Ok (Some t)) where
    abbrev whole : Text
    whole = text_of p.readable.part

    taken : (q : Part) × (heard_at s t.end t.next ≡ says q) × State whole due (with (word_at s t.from) t.said q) f draft
    taken =
        let (q, h, k) = took-part s at due p.left p.rest e t g in
        (q, h, rw k p.state)

    pub passing-placed : Placed atoms t.said
    passing-placed =
        let (q, h, k) = taken in
        said-placed whole atoms p.readable.same p.readable.few (word_at s t.from) due t.next t.said
        (took-move s at due e t g) q (heard-at-fits s t.end t.next q h) k

    pub passing-turn : {n : Forming} {after : List ℕ}
        → Forms atoms (λ k l. said_rules k atoms t.said ++ rule_closed t.next k l (formed_said f atoms t.said).rule) f.helper
        (closed_by t.next (formed_said f atoms t.said)) f.making draft n after
        → Passing s atoms t.end t.next n after
    passing-turn forms =
        let (q, h, k) = taken in
        record {
          readable = p.readable;
          left = q;
          rest = h;
          state = state-turn whole atoms p.readable.same p.readable.few (word_at s t.from) due t.next t.said
              (took-move s at due e t g) q (heard-at-fits s t.end t.next q h) k forms;
        }

  pub passing-unread : (u : Unread) → r ≡ Err u → ⊥
  passing-unread u g = never-unread s at due p.left p.rest e u g

  pub passing-end : r ≡ Ok None → (q : Part) → text_in s ≡ says q → Complete (text_of q) f draft
  passing-end g q h =
      let i : p.readable.part ≡ q = let j = sym p.readable.heard ∙ h in cc in
      let k = done-part s at due p.left p.rest e g in
      rw (← i) (state-end _ due f draft (done_end s at due e g) (rw (← k) at p.state))
