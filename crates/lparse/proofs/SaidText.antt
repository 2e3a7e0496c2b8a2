-- `says-read`: a text says what is read from it, and what a text says is read from it.
use mathlib.Core.Path.{◌≡◌, refl}
use mathlib.Core.Bool.{Bool, true, false, ◌&&◌}
use mathlib.Core.List.{List, [], ◌∷◌, ◌++◌, map}
use Prim.Native.Nat.{ℕ, zero, suc, ◌<◌}
use native.Mathlib.Omega.{arith}
use lib.ListN.{length}
use borrow.Author.Tests.{lt-ltb}
use Rattle.std.specs.Prelude.{Option, Some, None, Ok, Err}
use Rattle.meaning.specs.Sets.{every}
use Rattle.meaning.specs.Choice.{ifb}
use Rattle.meaning.proofs.Tests.{both as both_true}
use Rattle.meaning.proofs.Choice.{b-either, lt-either, eq-either}
use Rattle.imported.specs.Making.{rule_atoms, rules_atoms, mentioned}
use Rattle.imported.specs.declared.TextAtom.{TextAtom}
use Rattle.imported.specs.Text.{choice}
use Rattle.lparse.specs.declared.due.Role.{Role}
use Rattle.lparse.specs.declared.due.Role.TheVariants.{Kind, Head, HeadCount, Heads, Literals, Negatives, Negative, Positive, Table, Plus, Minus, Models}
use Rattle.lparse.specs.declared.due.Due.{Due}
use Rattle.lparse.specs.declared.due.Due.TheVariants.{Number, Name, PlusWord, MinusWord, End}
use Rattle.lparse.specs.declared.due.Said.{Said}
use Rattle.lparse.specs.declared.due.Misplaced.TheVariants.{Format, Kind as OtherKind}
use Rattle.lparse.specs.Words.{Word, words}
use Rattle.lparse.specs.Reading.{Move, text_atom, on_kind, on_atom, on_listed, on_head_count, on_negatives, on_number, number_in, on_value, signed, on_sign, move_of, whole, Part, nothing_more, with, with_atom, with_choice, Heard, says, wrong, adding, on_move, heard, heard_at}
use Rattle.lparse.specs.Collect.{text_in}
use Rattle.lparse.specs.Says.{Written, tokens_of, from_one, headed, SaysWords, Says}
use Rattle.lparse.proofs.Phases.{Fits, FitsRole, heard-fits}
use Rattle.lparse.proofs.Spelled.{heard-spelt, nothing}
use Rattle.lparse.proofs.Tokens.{every-left, every-right}
use Rattle.lparse.proofs.Later.{Sound, Proper}
use Rattle.lparse.proofs.Heard.{spelt-text}

-- ---- no atom that is heard is 0, and no choice is without heads

every_first : (a : TextAtom) (l : List TextAtom) → (a.0 ≡ 0 → ⊥) → every from_one l ≡ true → every from_one (a ∷ l) ≡ true
unfolding every from_one
every_first a l h e = rw (lt-ltb 0 a.0 (positive a.0 h)) e
  where
    positive : (n : ℕ) → (n ≡ 0 → ⊥) → 0 < n
    positive zero g = absurd (g refl)
    positive (suc n) g = omega arith

every-both : (l m : List TextAtom) → every from_one l ≡ true → every from_one m ≡ true → every from_one (l ++ m) ≡ true
unfolding every
every-both [] m e f = f
every-both (a ∷ l) m e f = both (from_one a) (every from_one l) (every from_one (l ++ m)) e (λ g. every-both l m g f)
  where
    both : (x y z : Bool) → (x && y) ≡ true → (y ≡ true → z ≡ true) → (x && z) ≡ true
    both true y z g k = k g
    both false y z g k = g

headed-some : (hs pos neg : List TextAtom) → (length hs ≡ 0 → ⊥) → headed (choice hs pos neg) ≡ true
unfolding headed
headed-some [] pos neg f = absurd (f refl)
headed-some (a ∷ hs) pos neg f = refl

unfoldable Keeps : Word → Due → Move → Type 0
Keeps w due (Ok (next, said)) = Proper due → Proper next × ((q : Part) → Fits next q → Sound q → Sound (with w said q))
Keeps w due (Err Format) = Unit {0}
Keeps w due (Err OtherKind) = Unit {0}

module _ (w : Word) where
  keeps-number : (role : Role) (n : ℕ) → Keeps w (Number role) (on_number role n)
  unfolding Keeps Proper Fits FitsRole on_number on_kind on_atom on_listed on_head_count on_negatives with with_atom with_choice rules_atoms rule_atoms every headed
  keeps-number Kind n =
      eq-either (Keeps w (Number Kind)) n 0 _ _ (λ e h. (tt, λ q f s. s))
      (λ e. eq-either (Keeps w (Number Kind)) n 1 _ _ (λ g h. (tt, λ q f s. s))
      (λ g. eq-either (Keeps w (Number Kind)) n 3 _ _
      (λ i h. (
        tt,
        λ q f s. record {
          heads = refl;
          neg = refl;
          pos = refl;
          table = s.table;
          plus = s.plus;
          minus = s.minus;
          rules = every-both (q.heads ++ (q.neg ++ q.pos)) (rules_atoms q.rules)
              (every-both q.heads (q.neg ++ q.pos) s.heads (every-both q.neg q.pos s.neg s.pos)) s.rules;
          headed = both_true (headed-some q.heads q.pos q.neg f) s.headed;
        },
      ))
      (λ i. tt)))
  keeps-number Head n =
      eq-either (Keeps w (Number Head)) n 0 _ _ (λ e. tt)
      (λ e h. (
        tt,
        λ q f s. record {
          heads = refl;
          neg = refl;
          pos = refl;
          headed = s.headed;
          table = s.table;
          plus = s.plus;
          minus = s.minus;
          rules = every_first (text_atom n) ((q.neg ++ q.pos) ++ rules_atoms q.rules) e
              (every-both (q.neg ++ q.pos) (rules_atoms q.rules) (every-both q.neg q.pos s.neg s.pos) s.rules);
        },
      ))
  keeps-number HeadCount n = eq-either (Keeps w (Number HeadCount)) n 0 _ _ (λ e. tt) (λ e h. (tt, λ q f s. s))
  keeps-number (Heads left) n =
      eq-either (Keeps w (Number (Heads left))) n 0 _ _ (λ e. tt)
      (λ e h. (
        tt,
        λ q f s. record {
          heads = every_first (text_atom n) q.heads e s.heads;
          neg = s.neg;
          pos = s.pos;
          rules = s.rules;
          headed = s.headed;
          table = s.table;
          plus = s.plus;
          minus = s.minus;
        },
      ))
  keeps-number Literals n = λ h. (tt, λ q f s. s)
  keeps-number (Negatives l) n = lt-either (Keeps w (Number (Negatives l))) l n _ _ (λ h. tt) (λ h g. (tt, λ q f s. s))
  keeps-number (Negative i j) n =
      eq-either (Keeps w (Number (Negative i j))) n 0 _ _ (λ e. tt)
      (λ e h. (
        tt,
        λ q f s. record {
          heads = s.heads;
          headed = s.headed;
          neg = every_first (text_atom n) q.neg e s.neg;
          pos = s.pos;
          rules = s.rules;
          table = s.table;
          plus = s.plus;
          minus = s.minus;
        },
      ))
  keeps-number (Positive j) n =
      eq-either (Keeps w (Number (Positive j))) n 0 _ _ (λ e. tt)
      (λ e h. (
        tt,
        λ q f s. record {
          heads = s.heads;
          headed = s.headed;
          neg = s.neg;
          pos = every_first (text_atom n) q.pos e s.pos;
          rules = s.rules;
          table = s.table;
          plus = s.plus;
          minus = s.minus;
        },
      ))
  keeps-number Table n = eq-either (Keeps w (Number Table)) n 0 _ _ (λ e h. (tt, λ q f s. s)) (λ e h. (e, λ q f s. s))
  keeps-number Plus n =
      eq-either (Keeps w (Number Plus)) n 0 _ _ (λ e h. (tt, λ q f s. s))
      (λ e h. (
        tt,
        λ q f s. record {
          heads = s.heads;
          headed = s.headed;
          neg = s.neg;
          pos = s.pos;
          rules = s.rules;
          table = s.table;
          plus = every_first (text_atom n) q.plus e s.plus;
          minus = s.minus;
        },
      ))
  keeps-number Minus n =
      eq-either (Keeps w (Number Minus)) n 0 _ _ (λ e h. (tt, λ q f s. s))
      (λ e h. (
        tt,
        λ q f s. record {
          heads = s.heads;
          headed = s.headed;
          neg = s.neg;
          pos = s.pos;
          rules = s.rules;
          table = s.table;
          plus = s.plus;
          minus = every_first (text_atom n) q.minus e s.minus;
        },
      ))
  keeps-number Models n = λ h. (tt, λ q f s. s)

  keeps-value : (role : Role) (d : Option ℕ) → Keeps w (Number role) (on_value role d)
  unfolding Keeps on_value
  keeps-value role (Some n) = keeps-number role n
  keeps-value role None = tt

  keeps : (due : Due) (l : List ℕ) → Keeps w due (move_of due l)
  unfolding Keeps Proper move_of on_sign with with_atom
  keeps (Number role) l = keeps-value role (number_in l)
  keeps (Name a) l = λ h. (
    tt,
    λ q f s. record {
      heads = s.heads;
      headed = s.headed;
      neg = s.neg;
      pos = s.pos;
      rules = s.rules;
      plus = s.plus;
      minus = s.minus;
      table = every_first a (map (λ e. e.atom) q.table) h s.table;
    },
  )
  keeps PlusWord l = b-either (Keeps w PlusWord) (signed l 43) _ _ (λ e h. (tt, λ q f s. s)) (λ e. tt)
  keeps MinusWord l = b-either (Keeps w MinusWord) (signed l 45) _ _ (λ e h. (tt, λ q f s. s)) (λ e. tt)
  keeps End l = tt

  sound-said : (due next : Due) (said : Said) (h : Heard) → Keeps w due (Ok (next, said)) → Proper due
      → (Proper next → (q : Part) → h ≡ says q → Fits next q × Sound q) → (p : Part) → adding w said h ≡ says p → Sound p
  unfolding Keeps adding
  sound-said due next said (says q) k proper rest p e =
      let g : with w said q ≡ p = cc in
      let (n, f) = k proper in
      let (fits, s) = rest n q refl in
      rw (← g) (f q fits s)
  sound-said due next said (wrong i at) k proper rest p e = let z : ◌≡◌ {A = ℕ} 0 1 = cc in absurd (omega arith)

  sound-move : (due : Due) (m : Move) (h : Due → Heard) → Keeps w due m → Proper due
      → ((next : Due) → Proper next → (q : Part) → h next ≡ says q → Fits next q × Sound q) → (p : Part) → on_move m w h ≡ says p → Sound p
  unfolding on_move
  sound-move due (Ok (next, said)) h k proper rest p e = sound-said due next said (h next) k proper (rest next) p e
  sound-move due (Err Format) h k proper rest p e = let z : ◌≡◌ {A = ℕ} 0 1 = cc in absurd (omega arith)
  sound-move due (Err OtherKind) h k proper rest p e = let z : ◌≡◌ {A = ℕ} 0 1 = cc in absurd (omega arith)

sound-end : (len : ℕ) (t : Bool) (p : Part) → ifb t (says nothing_more) (wrong 30 len) ≡ says p → Sound p
unfolding ifb every rules_atoms
sound-end len true p e =
    let g : nothing_more ≡ p = cc in
    rw (← g) (record { heads = refl; neg = refl; pos = refl; rules = refl; headed = refl; table = refl; plus = refl; minus = refl })
sound-end len false p e = let z : ◌≡◌ {A = ℕ} 0 1 = cc in absurd (omega arith)

heard-sound : (len : ℕ) (due : Due) (ws : List Word) → Proper due → (p : Part) → heard len due ws ≡ says p → Sound p
unfolding heard
heard-sound len due [] proper p e = sound-end len (whole due) p e
heard-sound len due (w ∷ ws) proper p e =
    sound-move w due (move_of due w.bytes) (λ next. heard len next ws) (keeps w due w.bytes) proper
    (λ next g q f. (heard-fits len next ws q f, heard-sound len next ws g q f)) p e

-- ---- says-read

abbrev pub written : Part → Written
written p = record { rules = p.rules; table = p.table; plus = p.plus; minus = p.minus }

abbrev pub heard_as : Written → Part
heard_as w = record { heads = []; pos = []; neg = []; rules = w.rules; table = w.table; plus = w.plus; minus = w.minus }

-- so for any words, wherever they stand
pub read-words : (len : ℕ) (ws : List Word) (p : Part) → heard len (Number Kind) ws ≡ says p → SaysWords ws (written p)
unfolding tokens_of mentioned Proper every
read-words len ws p e =
    let (m, spelled) = heard-spelt len ws p e in
    let f = heard-sound len (Number Kind) ws tt p e in
    record {
      models = m;
      spelled = spelled;
      heads = f.headed;
      atoms = every-both (rules_atoms p.rules) _ f.rules (every-both (map (λ e. e.atom) p.table) _ f.table
          (every-both p.plus p.minus f.plus f.minus));
    }

pub words-read : (len : ℕ) (ws : List Word) (w : Written) → SaysWords ws w → heard len (Number Kind) ws ≡ says (heard_as w)
unfolding tokens_of mentioned every
words-read len ws w h =
    let a = every-right (rules_atoms w.rules) _ h.atoms in
    let b = every-right (map (λ e. e.atom) w.table) (w.plus ++ w.minus) a in
    spelt-text len ws (heard_as w) h.models (record { no-head = refl; negatives = refl; positives = refl })
    (record {
      heads = refl;
      headed = h.heads;
      neg = refl;
      pos = refl;
      rules = every-left (rules_atoms w.rules) _ h.atoms;
      table = every-left (map (λ e. e.atom) w.table) (w.plus ++ w.minus) a;
      plus = every-left w.plus w.minus b;
      minus = every-right w.plus w.minus b;
    })
    h.spelled

pub read-says : (s : List ℕ) (p : Part) → text_in s ≡ says p → Says s (written p)
unfolding heard_at
read-says s p e = read-words (length s) (words s) p e

pub says-read : (s : List ℕ) (w : Written) → Says s w → text_in s ≡ says (heard_as w)
unfolding heard_at
says-read s w h = words-read (length s) (words s) w h

-- what is read from a whole text has no open rule: it is what the text says and nothing else
pub read-shut : (s : List ℕ) (p : Part) → text_in s ≡ says p → p ≡ heard_as (written p)
unfolding heard_at Fits FitsRole
read-shut s p e =
    let o = heard-fits (length s) (Number Kind) (words s) p e in
    rw (o.no-head, nothing p.neg o.negatives, nothing p.pos o.positives)
