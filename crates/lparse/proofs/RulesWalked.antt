-- Words that are whole rules are just those that are read from a rule's type to a rule's type. Between the two nothing is said of the table and
-- the lists, so the words behind them that close a text spell just its end.
use mathlib.Core.Path.{◌≡◌, refl, ap, ◌∙◌}
use mathlib.Core.Bool.{Bool, true, false}
use mathlib.Core.List.{List, [], ◌∷◌, ◌++◌, append-nil}
use Prim.Native.Nat.{ℕ, suc, ◌+◌, ◌-◌}
use native.Mathlib.Omega.{arith}
use lib.ListN.{length, length-append}
use Rattle.std.specs.Prelude.{Option, Some, None, Ok, Err}
use Rattle.meaning.specs.Sets.{every}
use Rattle.meaning.proofs.Tests.{and_left, and_right}
use Rattle.meaning.proofs.Choice.{b-either, lt-either, eq-either, eq_yes, eq_no, lt_no}
use Rattle.imported.specs.Making.{rule_atoms, rules_atoms, mentioned}
use Rattle.imported.specs.declared.TextAtom.{TextAtom}
use Rattle.imported.specs.Text.{TextRule, basic, choice}
use Rattle.lparse.specs.declared.due.Role.{Role}
use Rattle.lparse.specs.declared.due.Role.TheVariants.{Kind, Head, HeadCount, Heads, Literals, Negatives, Negative, Positive, Table, Plus, Minus, Models}
use Rattle.lparse.specs.declared.due.Due.{Due}
use Rattle.lparse.specs.declared.due.Due.TheVariants.{Number, Name, PlusWord, MinusWord, End}
use Rattle.lparse.specs.declared.due.Standing.TheVariants.{Head as InHead, Free as InFree, Negative as InNegative, Positive as InPositive}
use Rattle.lparse.specs.declared.due.Misplaced.TheVariants.{Format, Kind as OtherKind}
use Rattle.lparse.specs.Words.{Word}
use Rattle.lparse.specs.Reading.{Move, body_of, heads_of, on_kind, on_atom, on_listed, on_head_count, on_negatives, on_number, number_in, on_value, signed, on_sign, move_of, Part, nothing_more, with, with_atom, with_choice, says, heard}
use Rattle.lparse.specs.Says.{Token, number, atom_tokens, rules_tokens, table_tokens, minus_tokens, plus_tokens, behind_rules, tokens_of, Spelling, none, more, from_one, headed}
use Rattle.lparse.specs.Rows.{RuleWords}
use Rattle.lparse.proofs.Spelled.{literals_before, head-tokens, choice-tokens}
use Rattle.lparse.proofs.Tokens.{first_one, others-one, every-left, every-right, spelled-value, number-move, atom-move}
use Rattle.lparse.proofs.Later.{heard-one}
use Rattle.lparse.proofs.HeardRules.{some-head}
use Rattle.lparse.proofs.SaidText.{read-words}
use Rattle.lparse.proofs.Walked.{Walked, here, on, heads-none, heads-some, body-none, body-positive, body-negative, closing, rules-closed}

-- ---- whole rules are read from type to type

module _ (ts : List Token) (end : Due) (later : (ws : List Word) → Spelling ws ts → Walked (Number Kind) ws end) where
  body-walked : (neg pos : List TextAtom) → every from_one neg ≡ true → every from_one pos ≡ true
      → {ws : List Word} → Spelling ws (atom_tokens neg ++ (atom_tokens pos ++ ts)) → Walked (Number (body_of (length neg) (length pos))) ws end
  unfolding atom_tokens on_number
  body-walked [] [] e f {ws} s = rw body-none (later ws s)
  body-walked [] (a ∷ pos) e f (more {w = w} is s) = rw (body-positive (length pos))
      (on (atom-move w (Positive (length pos)) (body_of 0 (length pos)) InPositive a.0 refl (first_one a pos f) (spelled-value is refl))
      (body-walked [] pos e (others-one a pos f) s))
  body-walked (a ∷ neg) pos e f (more {w = w} is s) = rw (body-negative (length neg) (length pos))
      (on (atom-move w (Negative (length neg) (length pos)) (body_of (length neg) (length pos)) InNegative a.0 refl (first_one a neg e) (spelled-value is refl))
      (body-walked neg pos (others-one a neg e) f s))

  module _ (pos neg : List TextAtom) where
    literals-walked : every from_one (neg ++ pos) ≡ true → {ws : List Word} → Spelling ws (literals_before pos neg ts) → Walked (Number Literals) ws end
    unfolding on_number on_negatives
    literals-walked f (more {w = l} il (more {w = n} {ws = vs} it s)) =
        let i : length neg + length pos - length neg ≡ length pos = omega arith in
        let k : Walked (Number (body_of (length neg) (length neg + length pos - length neg))) vs end =
        rw i (body-walked neg pos (every-left neg pos f) (every-right neg pos f) s) in
        on (number-move l Literals (length neg + length pos) (spelled-value il refl))
        (on (number-move n (Negatives (length neg + length pos)) (length neg) (spelled-value it refl)
        ∙ lt_no (length neg + length pos) (length neg) _ _ (omega arith)) k)

    basic-walked : (a : TextAtom) → every from_one (a ∷ (neg ++ pos)) ≡ true → {ws : List Word}
        → Spelling ws (number 1 ∷ (number a.0 ∷ literals_before pos neg ts)) → Walked (Number Kind) ws end
    unfolding on_number on_kind
    basic-walked a e (more {w = w} iw (more {w = h} ih s)) =
        on (number-move w Kind 1 (spelled-value iw refl) ∙ eq_no _ _ _ _ (λ z. omega arith) ∙ eq_yes _ _ _ _ refl)
        (on (atom-move h Head Literals InHead a.0 refl (first_one a (neg ++ pos) e) (spelled-value ih refl))
        (literals-walked (others-one a (neg ++ pos) e) s))

    heads-walked : (hs : List TextAtom) → every from_one hs ≡ true → every from_one (neg ++ pos) ≡ true → {ws : List Word}
        → Spelling ws (atom_tokens hs ++ literals_before pos neg ts) → Walked (Number (heads_of (length hs))) ws end
    unfolding atom_tokens on_number
    heads-walked [] e f s = rw heads-none (literals-walked f s)
    heads-walked (a ∷ hs) e f (more {w = w} is s) = rw (heads-some (length hs))
        (on (atom-move w (Heads (length hs)) (heads_of (length hs)) InFree a.0 refl (first_one a hs e) (spelled-value is refl))
        (heads-walked hs (others-one a hs e) f s))

    choice-walked : (hs : List TextAtom) → headed (choice hs pos neg) ≡ true → every from_one (hs ++ (neg ++ pos)) ≡ true → {ws : List Word}
        → Spelling ws (number 3 ∷ (number (length hs) ∷ (atom_tokens hs ++ literals_before pos neg ts))) → Walked (Number Kind) ws end
    unfolding on_number on_kind on_head_count
    choice-walked hs h e (more {w = w} iw (more {w = n} it s)) =
        on (number-move w Kind 3 (spelled-value iw refl)
        ∙ eq_no _ _ _ _ (λ z. omega arith) ∙ eq_no _ _ _ _ (λ z. omega arith) ∙ eq_yes _ _ _ _ refl)
        (on (number-move n HeadCount (length hs) (spelled-value it refl) ∙ eq_no _ _ _ _ (some-head hs pos neg h))
        (heads-walked hs (every-left hs (neg ++ pos) e) (every-right hs (neg ++ pos) e) s))

rules-all : (ts : List Token) (end : Due) → ((ws : List Word) → Spelling ws ts → Walked (Number Kind) ws end)
    → (l : List TextRule) → every from_one (rules_atoms l) ≡ true → every headed l ≡ true
    → (ws : List Word) → Spelling ws (rules_tokens l ++ ts) → Walked (Number Kind) ws end
unfolding rules_atoms rule_atoms rules_tokens every
rules-all ts end later [] e h ws s = later ws s
rules-all ts end later (basic a pos neg ∷ l) e h ws s =
    basic-walked (rules_tokens l ++ ts) end
    (λ vs t. rules-all ts end later l (every-right (a ∷ (neg ++ pos)) (rules_atoms l) e) (and_right (headed (basic a pos neg)) (every headed l) h) vs t)
    pos neg a (every-left (a ∷ (neg ++ pos)) (rules_atoms l) e) (rw (head-tokens pos neg l ts a) at s)
rules-all ts end later (choice hs pos neg ∷ l) e h ws s =
    choice-walked (rules_tokens l ++ ts) end
    (λ vs t. rules-all ts end later l (every-right (hs ++ (neg ++ pos)) (rules_atoms l) e) (and_right (headed (choice hs pos neg)) (every headed l) h) vs t)
    pos neg hs (and_left (headed (choice hs pos neg)) (every headed l) h) (every-left (hs ++ (neg ++ pos)) (rules_atoms l) e)
    (rw (choice-tokens pos neg l ts hs) at s)

pub rules-walked : (ws : List Word) → RuleWords ws → Walked (Number Kind) ws (Number Kind)
rules-walked ws r = rules-all [] (Number Kind) nothing_left r.rules r.atoms r.heads ws (rw append-nil r.spelled)
  where
    nothing_left : (vs : List Word) → Spelling vs [] → Walked (Number Kind) vs (Number Kind)
    nothing_left [] none = here
    nothing_left (_ ∷ _) h = elim h [ ]

-- ---- and what is read from type to type is whole rules

-- a word of a rule is due
unfoldable of_rule : Due → Bool
of_rule (Number Kind) = true
of_rule (Number Head) = true
of_rule (Number HeadCount) = true
of_rule (Number (Heads n)) = true
of_rule (Number Literals) = true
of_rule (Number (Negatives n)) = true
of_rule (Number (Negative i j)) = true
of_rule (Number (Positive j)) = true
of_rule (Number Table) = false
of_rule (Number Plus) = false
of_rule (Number Minus) = false
of_rule (Number Models) = false
of_rule (Name a) = false
of_rule PlusWord = false
of_rule MinusWord = false
of_rule End = false

-- nothing is said of the table and the lists
record Bare (p : Part) : Type 0 where
  table : p.table ≡ []
  plus : p.plus ≡ []
  minus : p.minus ≡ []

unfoldable Kept : Word → Due → Move → Type 0
Kept w due (Ok (next, said)) = of_rule next ≡ true → (of_rule due ≡ true) × ((p : Part) → Bare p → Bare (with w said p))
Kept w due (Err Format) = Unit {0}
Kept w due (Err OtherKind) = Unit {0}

never : {A : Type 0} → false ≡ true → A
never e = let z : ◌≡◌ {A = ℕ} 0 1 = cc in absurd (omega arith)

module _ (w : Word) where
  kept-number : (role : Role) (n : ℕ) → Kept w (Number role) (on_number role n)
  unfolding Kept of_rule on_number on_kind on_atom on_listed on_head_count on_negatives with with_atom with_choice
  kept-number Kind n =
      eq-either (Kept w (Number Kind)) n 0 _ _ (λ e h. never h)
      (λ e. eq-either (Kept w (Number Kind)) n 1 _ _ (λ g h. (refl, λ p b. b))
      (λ g. eq-either (Kept w (Number Kind)) n 3 _ _
      (λ i h. (refl, λ p b. record { table = b.table; plus = b.plus; minus = b.minus })) (λ i. tt)))
  kept-number Head n =
      eq-either (Kept w (Number Head)) n 0 _ _ (λ e. tt)
      (λ e h. (refl, λ p b. record { table = b.table; plus = b.plus; minus = b.minus }))
  kept-number HeadCount n = eq-either (Kept w (Number HeadCount)) n 0 _ _ (λ e. tt) (λ e h. (refl, λ p b. b))
  kept-number (Heads left) n =
      eq-either (Kept w (Number (Heads left))) n 0 _ _ (λ e. tt)
      (λ e h. (refl, λ p b. record { table = b.table; plus = b.plus; minus = b.minus }))
  kept-number Literals n = λ h. (refl, λ p b. b)
  kept-number (Negatives l) n = lt-either (Kept w (Number (Negatives l))) l n _ _ (λ h. tt) (λ h g. (refl, λ p b. b))
  kept-number (Negative i j) n =
      eq-either (Kept w (Number (Negative i j))) n 0 _ _ (λ e. tt)
      (λ e h. (refl, λ p b. record { table = b.table; plus = b.plus; minus = b.minus }))
  kept-number (Positive j) n =
      eq-either (Kept w (Number (Positive j))) n 0 _ _ (λ e. tt)
      (λ e h. (refl, λ p b. record { table = b.table; plus = b.plus; minus = b.minus }))
  kept-number Table n = eq-either (Kept w (Number Table)) n 0 _ _ (λ e h. never h) (λ e h. never h)
  kept-number Plus n = eq-either (Kept w (Number Plus)) n 0 _ _ (λ e h. never h) (λ e h. never h)
  kept-number Minus n = eq-either (Kept w (Number Minus)) n 0 _ _ (λ e h. never h) (λ e h. never h)
  kept-number Models n = λ h. never h

  kept-value : (role : Role) (d : Option ℕ) → Kept w (Number role) (on_value role d)
  unfolding Kept on_value
  kept-value role (Some n) = kept-number role n
  kept-value role None = tt

  kept : (due : Due) (l : List ℕ) → Kept w due (move_of due l)
  unfolding Kept of_rule move_of on_sign
  kept (Number role) l = kept-value role (number_in l)
  kept (Name a) l = λ h. never h
  kept PlusWord l = b-either (Kept w PlusWord) (signed l 43) _ _ (λ e h. never h) (λ e. tt)
  kept MinusWord l = b-either (Kept w MinusWord) (signed l 45) _ _ (λ e h. never h) (λ e. tt)
  kept End l = tt

walked-bare : (len : ℕ) (behind : List Word) (p : Part) → Bare p → heard len (Number Kind) behind ≡ says p
    → {due end : Due} {ws : List Word} → end ≡ Number Kind → Walked due ws end
    → (of_rule due ≡ true) × ((q : Part) × Bare q × (heard len due (ws ++ behind) ≡ says q))
unfolding of_rule Kept
walked-bare len behind p b e f here = rw f (refl, (p, b, e))
walked-bare len behind p b e f (on {due} {next} {said = said} {w = w} {ws = ws} m k) =
    let (rule, (q, bare, g)) = walked-bare len behind p b e f k in
    let (r, h) = (rw m at (kept w due w.bytes)) rule in
    (r, (with w said q, h q bare, heard-one len w (ws ++ behind) due next said q (with w said q) m g refl))

spelling-length : {ws : List Word} {ts : List Token} → Spelling ws ts → length ws ≡ length ts
spelling-length none = refl
spelling-length (more is s) = ap suc (spelling-length s)

spelling-front : (ws vs : List Word) (ts us : List Token) → length vs ≡ length us → Spelling (ws ++ vs) (ts ++ us) → Spelling ws ts
spelling-front [] vs [] us e s = none
spelling-front [] vs (t ∷ ts) us e s = absurd (omega (arith, spelling-length s, length-append (t ∷ ts) us))
spelling-front (w ∷ ws) vs [] us e s = absurd (omega (arith, spelling-length s, length-append (w ∷ ws) vs))
spelling-front (w ∷ ws) vs (t ∷ ts) us e (more is s) = more is (spelling-front ws vs ts us e s)

pub walked-rules : (ws : List Word) → Walked (Number Kind) ws (Number Kind) → RuleWords ws
unfolding tokens_of behind_rules table_tokens plus_tokens minus_tokens atom_tokens mentioned
walked-rules ws k =
    let (rule, (q, bare, e)) = walked-bare 0 closing nothing_more (record { table = refl; plus = refl; minus = refl }) (rules-closed.heard-so 0) refl k in
    let s = read-words 0 (ws ++ closing) q e in
    record {
      rules = q.rules;
      spelled = spelling-front ws closing (rules_tokens q.rules) _ (rw (bare.table, bare.plus, bare.minus)) s.spelled;
      atoms = every-left (rules_atoms q.rules) _ s.atoms;
      heads = s.heads;
    }
