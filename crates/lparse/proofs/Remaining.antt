-- What is left to be made of a text, where something is due: the rule that was begun with the heads and the atoms that it still gets, the
-- rules behind it, and the entries. One word more adds what it adds, and what is left is left. Helpers are counted in the same way.
use mathlib.Core.Path.{◌≡◌, refl, ap, sym, ◌∙◌}
use mathlib.Core.Logic.{◌⊎◌, inl, inr}
use mathlib.Core.Bool.{Bool, true, false}
use mathlib.Core.List.{List, [], ◌∷◌, ◌++◌, map, append_assoc, append-nil}
use Prim.Native.Nat.{ℕ, ◌+◌, ◌-◌}
use native.Mathlib.Nat.{add-zero}
use native.Mathlib.Omega.{arith}
use lib.ListN.{length, length-append}
use Rattle.std.specs.Prelude.{Option, Some, None, Ok, Err}
use Rattle.meaning.specs.Books.{Rule}
use Rattle.meaning.specs.Choice.{ifb}
use Rattle.meaning.proofs.Choice.{b-either, lt-either, eq-either}
use Rattle.imported.specs.Text.{TextRule, basic, choice, Text}
use Rattle.imported.specs.Making.{free_heads, made, choice_rules, made_from, plus_rule, minus_rule}
use Rattle.imported.specs.declared.TextAtom.{TextAtom}
use Rattle.lparse.specs.declared.due.Role.{Role}
use Rattle.lparse.specs.declared.due.Role.TheVariants.{Kind, Head, HeadCount, Heads, Literals, Negatives, Negative, Positive, Table, Plus, Minus, Models}
use Rattle.lparse.specs.declared.due.Due.{Due}
use Rattle.lparse.specs.declared.due.Due.TheVariants.{Number, Name, PlusWord, MinusWord, End}
use Rattle.lparse.specs.declared.due.Standing.TheVariants.{Head as InHead, Free as InFree, Negative as InNegative, Positive as InPositive, Table as InTable, Plus as InPlus, Minus as InMinus}
use Rattle.lparse.specs.declared.due.Said.{Said}
use Rattle.lparse.specs.declared.due.Said.TheVariants.{Nothing as Silent, Choice as Chooses, Atom}
use Rattle.lparse.specs.declared.due.Misplaced.TheVariants.{Format, Kind as OtherKind}
use Rattle.lparse.specs.Words.{Word}
use Rattle.lparse.specs.Reading.{Move, text_atom, body_of, heads_of, on_kind, on_atom, on_listed, on_head_count, on_negatives, on_number, number_in, on_value, signed, on_sign, move_of, Part, with, with_atom, with_choice}
use Rattle.lparse.specs.Forming.{closes, opens_rule}
use Rattle.lparse.proofs.Phases.{Open, Fits, FitsRole, body_open}
use Rattle.lparse.proofs.Spelled.{nothing}

-- ---- the rule that was begun

unfoldable pub rule_role : Role → Bool
rule_role Kind = false
rule_role Head = false
rule_role HeadCount = true
rule_role (Heads n) = true
rule_role Literals = true
rule_role (Negatives n) = true
rule_role (Negative i j) = true
rule_role (Positive j) = true
rule_role Table = false
rule_role Plus = false
rule_role Minus = false
rule_role Models = false

-- a word of the rule that was begun is due
unfoldable pub in_rule : Due → Bool
in_rule (Number role) = rule_role role
in_rule (Name a) = false
in_rule PlusWord = false
in_rule MinusWord = false
in_rule End = false

pub record Begun : Type 0 where
  pub free : Bool
  pub heads : List TextAtom
  pub pos : List TextAtom
  pub neg : List TextAtom

unfoldable pub begun_after : Said → Begun → Begun
begun_after Silent b = b
begun_after Chooses b = record { free = true; heads = []; pos = []; neg = [] }
begun_after (Atom a InHead) b = record { free = false; heads = a ∷ []; pos = []; neg = [] }
begun_after (Atom a InFree) b = record { free = b.free; heads = b.heads ++ (a ∷ []); pos = b.pos; neg = b.neg }
begun_after (Atom a InNegative) b = record { free = b.free; heads = b.heads; pos = b.pos; neg = b.neg ++ (a ∷ []) }
begun_after (Atom a InPositive) b = record { free = b.free; heads = b.heads; pos = b.pos ++ (a ∷ []); neg = b.neg }
begun_after (Atom a InTable) b = b
begun_after (Atom a InPlus) b = b
begun_after (Atom a InMinus) b = b

-- a choice is one rule; a basic rule has one head
unfoldable pub open_texts : Bool → List TextAtom → List TextAtom → List TextAtom → List TextRule
open_texts true hs pos neg = choice hs pos neg ∷ []
open_texts false hs pos neg = map (λ a. basic a pos neg) hs

abbrev pub begun_texts : Begun → List TextRule
begun_texts b = open_texts b.free b.heads b.pos b.neg

unfoldable pub texts_left : Bool → Begun → Part → List TextRule
texts_left true b q = open_texts b.free (b.heads ++ q.heads) (b.pos ++ q.pos) (b.neg ++ q.neg) ++ q.rules
texts_left false b q = q.rules

-- the rule is whole where a rule's type is due again
unfoldable pub whole_texts : Due → Begun → List TextRule
whole_texts next b = ifb (closes next) (begun_texts b) []

abbrev pub frees : List TextRule → ℕ
frees l = length (free_heads l)

unfoldable pub helper_after : Due → ℕ → Begun → ℕ
helper_after next c b = ifb (closes next) (c + frees (begun_texts b)) c

-- ---- rules and helpers of rules that follow each other

free-append : (l m : List TextRule) → free_heads (l ++ m) ≡ free_heads l ++ free_heads m
unfolding free_heads
free-append [] m = refl
free-append (basic h pos neg ∷ l) m = free-append l m
free-append (choice hs pos neg ∷ l) m =
    ap (λ k. hs ++ k) (free-append l m) ∙ sym (append_assoc hs (free_heads l) (free_heads m))

frees-append : (l m : List TextRule) → frees (l ++ m) ≡ frees l + frees m
frees-append l m = ap length (free-append l m) ∙ length-append (free_heads l) (free_heads m)

module _ (t : Text) where
  made-append : (c : ℕ) (l m : List TextRule) → made_from t c (l ++ m) ≡ made_from t c l ++ made_from t (c + frees l) m
  unfolding made_from free_heads
  made-append c [] m = rw (add-zero c)
  made-append c (basic h pos neg ∷ l) m = ap (λ k. made t h pos neg ∷ k) (made-append c l m)
  made-append c (choice hs pos neg ∷ l) m =
      let e : c + length hs + frees l ≡ c + length (hs ++ free_heads l) = omega (arith, length-append hs (free_heads l)) in
      ap (λ k. choice_rules t c hs pos neg ++ k) (made-append (c + length hs) l m)
      ∙ sym (append_assoc (choice_rules t c hs pos neg) (made_from t (c + length hs) l) (made_from t (c + length hs + frees l) m))
      ∙ ap (λ k. (choice_rules t c hs pos neg ++ made_from t (c + length hs) l) ++ made_from t k m) e

  abbrev pub entries_for : List TextAtom → List TextAtom → List Rule
  entries_for plus minus = map (plus_rule t) plus ++ map (minus_rule t) minus

  unfoldable pub remaining : Bool → ℕ → Begun → Part → List Rule
  remaining i c b q = made_from t c (texts_left i b q) ++ entries_for q.plus q.minus

  unfoldable pub entry_of : Said → List Rule
  entry_of Silent = []
  entry_of Chooses = []
  entry_of (Atom a InHead) = []
  entry_of (Atom a InFree) = []
  entry_of (Atom a InNegative) = []
  entry_of (Atom a InPositive) = []
  entry_of (Atom a InTable) = []
  entry_of (Atom a InPlus) = plus_rule t a ∷ []
  entry_of (Atom a InMinus) = minus_rule t a ∷ []

  -- ---- one word more

  -- the rules l and the entries are what the word adds and what is left behind it, and an entry is added behind all rules; b is the rule
  -- that was begun, behind the word
  pub record Turned (c : ℕ) (next : Due) (added : List Rule) (b : Begun) (q : Part) (l : List TextRule) (plus minus : List TextAtom) : Type 0 where
    pub rules : made_from t c l ++ entries_for plus minus
        ≡ (added ++ made_from t c (whole_texts next b)) ++ remaining (in_rule next) (helper_after next c b) b q
    pub helpers : helper_after next c b + frees (texts_left (in_rule next) b q) ≡ c + frees l
    pub order : (added ≡ []) ⊎ (l ≡ [])

  -- a body: whole where no atom of it is left
  body-turned : (i j c : ℕ) (b : Begun) (q : Part) → Open i j q.heads q.neg q.pos
      → Turned c (Number (body_of i j)) [] b q (texts_left true b q) q.plus q.minus
  unfolding body_of in_rule rule_role whole_texts helper_after closes opens_rule ifb remaining texts_left made_from
  body-turned i j c b q o =
      eq-either (λ r. Turned c (Number r) [] b q (texts_left true b q) q.plus q.minus) i 0 _ _
      (λ e. eq-either (λ r. Turned c (Number r) [] b q (texts_left true b q) q.plus q.minus) j 0 _ _
      (λ f. closing (nothing q.neg (o.negatives ∙ e)) (nothing q.pos (o.positives ∙ f)))
      (λ f. record { rules = refl; helpers = refl; order = inl refl })) (λ e. record { rules = refl; helpers = refl; order = inl refl })
    where
      whole : q.neg ≡ [] → q.pos ≡ [] → texts_left true b q ≡ begun_texts b ++ q.rules
      whole n p = rw (o.no-head, n, p, append-nil b.heads, append-nil b.pos, append-nil b.neg)

      closing : q.neg ≡ [] → q.pos ≡ [] → Turned c (Number Kind) [] b q (texts_left true b q) q.plus q.minus
      closing n p = record {
        rules =
            ap (λ l. made_from t c l ++ entries_for q.plus q.minus) (whole n p)
            ∙ ap (λ l. l ++ entries_for q.plus q.minus) (made-append c (begun_texts b) q.rules)
            ∙ append_assoc (made_from t c (begun_texts b)) (made_from t (c + frees (begun_texts b)) q.rules) (entries_for q.plus q.minus);
        helpers =
            omega (arith, ap frees (whole n p), frees-append (begun_texts b) q.rules);
        order = inl refl;
      }

  unfoldable pub Turn : Word → Due → Move → Type 0
  Turn w due (Ok (next, said)) = (c : ℕ) (b : Begun) (q : Part) → Fits next q
      → Turned c next (entry_of said) (begun_after said b) q (texts_left (in_rule due) b (with w said q)) (with w said q).plus (with w said q).minus
  Turn w due (Err Format) = Unit {0}
  Turn w due (Err OtherKind) = Unit {0}

  -- the same rules by another name
  turned_as : {c : ℕ} {next : Due} {added : List Rule} {b : Begun} {q : Part} {l m : List TextRule} {plus minus : List TextAtom} → l ≡ m
      → Turned c next added b q m plus minus → Turned c next added b q l plus minus
  turned_as e s = rw e s

  -- nothing is whole yet
  module _ (w : Word) where
    turn-heads : (n c : ℕ) (b : Begun) (q : Part) → Turned c (Number (heads_of n)) [] b q (texts_left true b q) q.plus q.minus
    unfolding heads_of in_rule rule_role whole_texts helper_after closes opens_rule ifb remaining made_from
    turn-heads n c b q =
        eq-either (λ r. Turned c (Number r) [] b q (texts_left true b q) q.plus q.minus) n 0 _ _
        (λ e. record { rules = refl; helpers = refl; order = inl refl }) (λ e. record { rules = refl; helpers = refl; order = inl refl })

    turn-number : (role : Role) (n : ℕ) → Turn w (Number role) (on_number role n)
    unfolding Turn Fits FitsRole on_number on_kind on_atom on_listed on_head_count on_negatives with with_atom with_choice in_rule rule_role begun_after entry_of whole_texts helper_after closes opens_rule ifb remaining texts_left open_texts made_from free_heads
    turn-number Kind n =
        eq-either (Turn w (Number Kind)) n 0 _ _ (λ e c b q f. record { rules = refl; helpers = refl; order = inl refl })
        (λ e. eq-either (Turn w (Number Kind)) n 1 _ _ (λ g c b q f. record { rules = refl; helpers = refl; order = inl refl })
        (λ g. eq-either (Turn w (Number Kind)) n 3 _ _ (λ i c b q f. record { rules = refl; helpers = refl; order = inl refl }) (λ i. tt)))
    turn-number Head n = eq-either (Turn w (Number Head)) n 0 _ _ (λ e. tt)
        (λ e c b q f. rw f (record { rules = refl; helpers = refl; order = inl refl }))
    turn-number HeadCount n = eq-either (Turn w (Number HeadCount)) n 0 _ _ (λ e. tt) (λ e c b q f. turn-heads n c b q)
    turn-number (Heads left) n =
        eq-either (Turn w (Number (Heads left))) n 0 _ _ (λ e. tt)
        (λ e c b q f. turned_as
        (ap (λ k. open_texts b.free k (b.pos ++ q.pos) (b.neg ++ q.neg) ++ q.rules) (sym (append_assoc b.heads (text_atom n ∷ []) q.heads)))
        (turn-heads left c (begun_after (Atom (text_atom n) InFree) b) q))
    turn-number Literals n = λ c b q f. record { rules = refl; helpers = refl; order = inl refl }
    turn-number (Negatives l) n =
        lt-either (Turn w (Number (Negatives l))) l n _ _ (λ g. tt)
        (λ g c b q f. body-turned n (l - n) c b q (body_open n (l - n) q f))
    turn-number (Negative i j) n =
        eq-either (Turn w (Number (Negative i j))) n 0 _ _ (λ e. tt)
        (λ e c b q f. turned_as
        (ap (λ k. open_texts b.free (b.heads ++ q.heads) (b.pos ++ q.pos) k ++ q.rules) (sym (append_assoc b.neg (text_atom n ∷ []) q.neg)))
        (body-turned i j c (begun_after (Atom (text_atom n) InNegative) b) q (body_open i j q f)))
    turn-number (Positive j) n =
        eq-either (Turn w (Number (Positive j))) n 0 _ _ (λ e. tt)
        (λ e c b q f. turned_as
        (ap (λ k. open_texts b.free (b.heads ++ q.heads) k (b.neg ++ q.neg) ++ q.rules) (sym (append_assoc b.pos (text_atom n ∷ []) q.pos)))
        (body-turned 0 j c (begun_after (Atom (text_atom n) InPositive) b) q (body_open 0 j q f)))
    turn-number Table n = eq-either (Turn w (Number Table)) n 0 _ _
        (λ e c b q f. record { rules = refl; helpers = refl; order = inl refl }) (λ e c b q f. record { rules = refl; helpers = refl; order = inl refl })
    turn-number Plus n =
        eq-either (Turn w (Number Plus)) n 0 _ _ (λ e c b q f. record { rules = refl; helpers = refl; order = inl refl })
        (λ e c b q f. record { rules = rw f.behind-rules.no-rule; helpers = refl; order = inr f.behind-rules.no-rule })
    turn-number Minus n =
        eq-either (Turn w (Number Minus)) n 0 _ _ (λ e c b q f. record { rules = refl; helpers = refl; order = inl refl })
        (λ e c b q f.
        let no-rule = f.behind-table.behind-rules.no-rule in
        record { rules = rw (no-rule, f.no_plus); helpers = refl; order = inr no-rule })
    turn-number Models n = λ c b q f. record { rules = refl; helpers = refl; order = inl refl }

    turn-value : (role : Role) (d : Option ℕ) → Turn w (Number role) (on_value role d)
    unfolding Turn on_value
    turn-value role (Some n) = turn-number role n
    turn-value role None = tt

    pub turn : (due : Due) (l : List ℕ) → Turn w due (move_of due l)
    unfolding Turn Fits FitsRole move_of on_sign with with_atom in_rule rule_role begun_after entry_of whole_texts helper_after closes opens_rule ifb remaining texts_left made_from
    turn (Number role) l = turn-value role (number_in l)
    turn (Name a) l = λ c b q f. record { rules = refl; helpers = refl; order = inl refl }
    turn PlusWord l = b-either (Turn w PlusWord) (signed l 43) _ _ (λ e c b q f. record { rules = refl; helpers = refl; order = inl refl }) (λ e. tt)
    turn MinusWord l = b-either (Turn w MinusWord) (signed l 45) _ _ (λ e c b q f. record { rules = refl; helpers = refl; order = inl refl }) (λ e. tt)
    turn End l = tt
