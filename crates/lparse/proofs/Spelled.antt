-- What is heard of words is what they spell: read from the last word back, each word that a row takes is the token that comes first.
use mathlib.Core.Path.{◌≡◌, refl, ap, sym, ◌∙◌}
use mathlib.Core.Bool.{true}
use mathlib.Core.List.{List, [], ◌∷◌, ◌++◌, append_assoc}
use Prim.Native.Nat.{ℕ, ◌+◌, ◌-◌}
use native.Mathlib.Omega.{arith}
use lib.ListN.{length, get_or}
use borrow.Author.Tests.{eqb-true}
use Rattle.std.specs.Prelude.{Option, Some, None, Ok, Err}
use Rattle.meaning.specs.Choice.{ifb}
use Rattle.meaning.proofs.Choice.{b-either, lt-either, eq-either}
use Rattle.imported.specs.declared.TextAtom.{TextAtom}
use Rattle.imported.specs.Text.{TextRule, basic, choice}
use Rattle.lparse.specs.declared.due.Role.{Role}
use Rattle.lparse.specs.declared.due.Role.TheVariants.{Kind, Head, HeadCount, Heads, Literals, Negatives, Negative, Positive, Table, Plus, Minus, Models}
use Rattle.lparse.specs.declared.due.Due.{Due}
use Rattle.lparse.specs.declared.due.Due.TheVariants.{Number, Name, PlusWord, MinusWord, End}
use Rattle.lparse.specs.declared.due.Said.{Said}
use Rattle.lparse.specs.declared.due.Misplaced.TheVariants.{Format, Kind as OtherKind}
use Rattle.lparse.specs.Words.{Word}
use Rattle.lparse.specs.Reading.{Move, text_atom, body_of, heads_of, on_kind, on_atom, on_listed, on_head_count, on_negatives, on_number, number_in, on_value, signed, on_sign, move_of, whole, Part, nothing_more, with, with_atom, with_choice, Heard, says, wrong, adding, on_move, heard}
use Rattle.lparse.specs.Says.{Token, number, name, exactly, atom_tokens, literal_tokens, rule_tokens, rules_tokens, table_tokens, minus_tokens, plus_tokens, behind_rules, Spelled, as_number, as-name, as_bytes, Spelling, none, more}
use Rattle.lparse.proofs.Phases.{Open, Fits, FitsRole, body_open, heads-left, heard-fits}

-- the tokens of what the rest says, from a rule's start on
abbrev pub behind_body : Part → ℕ → List Token
behind_body p m = rules_tokens p.rules ++ (number 0 ∷ behind_rules p.table p.plus p.minus m)

abbrev pub body_tokens : Part → ℕ → List Token
body_tokens p m = atom_tokens p.neg ++ (atom_tokens p.pos ++ behind_body p m)

-- a body, with what stands behind it
abbrev pub literals_before : List TextAtom → List TextAtom → List Token → List Token
literals_before pos neg ts = number (length neg + length pos) ∷ (number (length neg) ∷ (atom_tokens neg ++ (atom_tokens pos ++ ts)))

abbrev pub literal_rest : Part → ℕ → List Token
literal_rest p m = literals_before p.pos p.neg (behind_body p m)

-- the tokens that are left where this is due; behind a basic rule's type and behind an entry's atom, those behind the token that was taken
unfoldable pub RestRole : Role → Part → ℕ → List Token → Type 0
RestRole Kind p m ts = ts ≡ behind_body p m
RestRole Head p m ts = number 1 ∷ ts ≡ behind_body p m
RestRole HeadCount p m ts = ts ≡ number (length p.heads) ∷ (atom_tokens p.heads ++ literal_rest p m)
RestRole (Heads n) p m ts = ts ≡ atom_tokens p.heads ++ literal_rest p m
RestRole Literals p m ts = ts ≡ literal_rest p m
RestRole (Negatives n) p m ts = ts ≡ number (length p.neg) ∷ body_tokens p m
RestRole (Negative i j) p m ts = ts ≡ body_tokens p m
RestRole (Positive j) p m ts = ts ≡ body_tokens p m
RestRole Table p m ts = ts ≡ behind_rules p.table p.plus p.minus m
RestRole Plus p m ts = ts ≡ plus_tokens p.plus p.minus m
RestRole Minus p m ts = ts ≡ minus_tokens p.minus m
RestRole Models p m ts = ts ≡ number m ∷ []

unfoldable pub Rest : Due → Part → ℕ → List Token → Type 0
Rest (Number role) p m ts = RestRole role p m ts
Rest (Name a) p m ts = number a.0 ∷ ts ≡ behind_rules p.table p.plus p.minus m
Rest PlusWord p m ts = ts ≡ exactly (66 ∷ (43 ∷ [])) ∷ plus_tokens p.plus p.minus m
Rest MinusWord p m ts = ts ≡ exactly (66 ∷ (45 ∷ [])) ∷ minus_tokens p.minus m
Rest End p m ts = ts ≡ []

pub nothing : (l : List TextAtom) → length l ≡ 0 → l ≡ []
nothing [] e = refl
nothing (a ∷ l) e = absurd (omega arith)

-- where nothing of a body is left, the next rule is
body-rest : (i j : ℕ) (p : Part) (m : ℕ) (ts : List Token) → Open i j p.heads p.neg p.pos → RestRole (body_of i j) p m ts → ts ≡ body_tokens p m
unfolding body_of RestRole atom_tokens
body-rest i j p m ts o =
    eq-either (λ r. RestRole r p m ts → ts ≡ body_tokens p m) i 0 _ _
    (λ e. eq-either (λ r. RestRole r p m ts → ts ≡ body_tokens p m) j 0 _ _
    (λ f t. rw (nothing p.neg (o.negatives ∙ e), nothing p.pos (o.positives ∙ f)) t)
    (λ f t. t)) (λ e t. t)

-- where no head is left, the body is
heads-rest : (n : ℕ) (p : Part) (m : ℕ) (ts : List Token) → length p.heads ≡ n → RestRole (heads_of n) p m ts
    → ts ≡ atom_tokens p.heads ++ literal_rest p m
unfolding heads_of RestRole atom_tokens
heads-rest n p m ts h =
    eq-either (λ r. RestRole r p m ts → ts ≡ atom_tokens p.heads ++ literal_rest p m) n 0 _ _
    (λ e t. rw (nothing p.heads (h ∙ e)) t) (λ e t. t)

module _ (pos neg : List TextAtom) (l : List TextRule) (ts : List Token) where
  pub head-tokens : (a : TextAtom) →
      rules_tokens (basic a pos neg ∷ l) ++ ts ≡ number 1 ∷ (number a.0 ∷ literals_before pos neg (rules_tokens l ++ ts))
  unfolding rules_tokens rule_tokens literal_tokens
  head-tokens a =
      ap (λ k. number 1 ∷ (number a.0 ∷ (number (length neg + length pos) ∷ (number (length neg) ∷ k)))) (simp append_assoc)

  pub choice-tokens : (hs : List TextAtom) →
      rules_tokens (choice hs pos neg ∷ l) ++ ts
      ≡ number 3 ∷ (number (length hs) ∷ (atom_tokens hs ++ literals_before pos neg (rules_tokens l ++ ts)))
  unfolding rules_tokens rule_tokens literal_tokens
  choice-tokens hs = ap (λ k. number 3 ∷ (number (length hs) ∷ k)) (simp append_assoc)

-- one word more: the token that it is, and what is left with it
record Taken (w : Word) (due : Due) (p : Part) (ts : List Token) : Type 0 where
  token : Token
  models : ℕ
  is : Spelled w token
  rest : Rest due p models (token ∷ ts)

unfoldable Row : Word → Due → Move → Type 0
Row w due (Ok (next, said)) = (p : Part) (m : ℕ) (ts : List Token) → Fits next p → Rest next p m ts → Taken w due (with w said p) ts
Row w due (Err Format) = Unit {0}
Row w due (Err OtherKind) = Unit {0}

module _ (w : Word) (n : ℕ) (v : number_in w.bytes ≡ Some n) where
  row_number : (role : Role) → Row w (Number role) (on_number role n)
  unfolding Row Fits FitsRole Rest RestRole on_number on_kind on_atom on_listed on_head_count on_negatives with with_atom with_choice rules_tokens rule_tokens table_tokens atom_tokens behind_rules plus_tokens minus_tokens
  row_number Kind =
      eq-either (Row w (Number Kind)) n 0 _ _
      (λ e p m ts f t. record { token = number n; models = m; is = as_number v; rest = rw (e, f.no-rule, t) })
      (λ e. eq-either (Row w (Number Kind)) n 1 _ _
      (λ g p m ts f t. record { token = number n; models = m; is = as_number v; rest = rw g t })
      (λ g. eq-either (Row w (Number Kind)) n 3 _ _
      (λ i p m ts f t. record {
        token = number n;
        models = m;
        is = as_number v;
        rest = rw i (ap (λ k. number 3 ∷ k) t ∙ sym (choice-tokens p.pos p.neg p.rules _ p.heads));
      })
      (λ i. tt)))
  row_number Head =
      eq-either (Row w (Number Head)) n 0 _ _ (λ e. tt)
      (λ e p m ts f t. record {
        token = number n;
        models = m;
        is = as_number v;
        rest =
            ap (λ k. number 1 ∷ (number n ∷ k)) t ∙ sym (head-tokens p.pos p.neg p.rules _ (text_atom n));
      })
  row_number HeadCount =
      eq-either (Row w (Number HeadCount)) n 0 _ _ (λ e. tt)
      (λ e p m ts f t. let h = heads-left n p f in
      record { token = number n; models = m; is = as_number v; rest = rw (h, heads-rest n p m ts h t) })
  row_number (Heads left) =
      eq-either (Row w (Number (Heads left))) n 0 _ _ (λ e. tt)
      (λ e p m ts f t. record {
        token = number n;
        models = m;
        is = as_number v;
        rest = ap (λ k. number n ∷ k) (heads-rest left p m ts (heads-left left p f) t);
      })
  row_number Literals =
      λ p m ts f t. record { token = number n; models = m; is = as_number v; rest = rw (f.1, t) }
  row_number (Negatives l) =
      lt-either (Row w (Number (Negatives l))) l n _ _ (λ h. tt)
      (λ h p m ts f t. let o = body_open n (l - n) p f in
      record { token = number n; models = m; is = as_number v; rest = rw (o.negatives, body-rest n (l - n) p m ts o t) })
  row_number (Negative i j) =
      eq-either (Row w (Number (Negative i j))) n 0 _ _ (λ e. tt)
      (λ e p m ts f t. record { token = number n; models = m; is = as_number v; rest = ap (λ k. number n ∷ k) (body-rest i j p m ts (body_open i j p f) t) })
  row_number (Positive j) =
      eq-either (Row w (Number (Positive j))) n 0 _ _ (λ e. tt)
      (λ e p m ts f t. let o = body_open 0 j p f in
      let g = nothing p.neg o.negatives in
      record { token = number n; models = m; is = as_number v; rest = rw g (ap (λ k. number n ∷ k) (rw g at (body-rest 0 j p m ts o t))) })
  row_number Table =
      eq-either (Row w (Number Table)) n 0 _ _
      (λ e p m ts f t. record { token = number n; models = m; is = as_number v; rest = rw (e, f.no-entry, t) })
      (λ e p m ts f t. record { token = number n; models = m; is = as_number v; rest = t })
  row_number Plus =
      eq-either (Row w (Number Plus)) n 0 _ _
      (λ e p m ts f t. record { token = number n; models = m; is = as_number v; rest = rw (e, f.no_plus, t) })
      (λ e p m ts f t. record { token = number n; models = m; is = as_number v; rest = ap (λ k. number n ∷ k) t })
  row_number Minus =
      eq-either (Row w (Number Minus)) n 0 _ _
      (λ e p m ts f t. record { token = number n; models = m; is = as_number v; rest = rw (e, f.no_minus, t) })
      (λ e p m ts f t. record { token = number n; models = m; is = as_number v; rest = ap (λ k. number n ∷ k) t })
  row_number Models =
      λ p m ts f t. record { token = number n; models = n; is = as_number v; rest = ap (λ k. number n ∷ k) t }

row-value : (w : Word) (role : Role) (d : Option ℕ) → number_in w.bytes ≡ d → Row w (Number role) (on_value role d)
unfolding Row on_value
row-value w role (Some n) v = row_number w n v role
row-value w role None v = tt

-- the words B+ and B-
two_bytes : (l : List ℕ) (x y : ℕ) → length l ≡ 2 → get_or l 0 0 ≡ x → get_or l 1 0 ≡ y → l ≡ x ∷ (y ∷ [])
two_bytes [] x y e f g = absurd (omega arith)
two_bytes (a ∷ []) x y e f g = absurd (omega arith)
two_bytes (a ∷ (b ∷ [])) x y e f g = rw (f, g)
two_bytes (a ∷ (b ∷ (c ∷ l))) x y e f g = absurd (omega arith)

pub sign-bytes : (l : List ℕ) (sign : ℕ) → signed l sign ≡ true → l ≡ 66 ∷ (sign ∷ [])
unfolding signed
sign-bytes l sign =
    eq-either (λ b. b ≡ true → l ≡ 66 ∷ (sign ∷ [])) (length l) 2 _ _
    (λ e. eq-either (λ b. b ≡ true → l ≡ 66 ∷ (sign ∷ [])) (get_or l 0 0) 66 _ _
    (λ f g. two_bytes l 66 sign e f (eqb-true (get_or l 1 0) sign g))
    (λ f g. let z : ◌≡◌ {A = ℕ} 0 1 = cc in absurd (omega arith)))
    (λ e g. let z : ◌≡◌ {A = ℕ} 0 1 = cc in absurd (omega arith))

row : (w : Word) (due : Due) → Row w due (move_of due w.bytes)
unfolding Row Fits FitsRole Rest RestRole move_of on_sign with with_atom table_tokens behind_rules
row w (Number role) = row-value w role (number_in w.bytes) refl
row w (Name a) = λ p m ts f t. record {
  token = name w;
  models = m;
  is = as-name;
  rest = ap (λ k. number a.0 ∷ (name w ∷ k)) t;
}
row w PlusWord =
    b-either (Row w PlusWord) (signed w.bytes 43) _ _
    (λ e p m ts f t. record {
      token = exactly (66 ∷ (43 ∷ []));
      models = m;
      is = as_bytes (sign-bytes w.bytes 43 e);
      rest = ap (λ k. exactly (66 ∷ (43 ∷ [])) ∷ k) t;
    })
    (λ e. tt)
row w MinusWord =
    b-either (Row w MinusWord) (signed w.bytes 45) _ _
    (λ e p m ts f t. record {
      token = exactly (66 ∷ (45 ∷ []));
      models = m;
      is = as_bytes (sign-bytes w.bytes 45 e);
      rest = ap (λ k. exactly (66 ∷ (45 ∷ [])) ∷ k) t;
    })
    (λ e. tt)
row w End = tt

-- ---- all words

record Spelt (due : Due) (ws : List Word) (p : Part) : Type 0 where
  models : ℕ
  tokens : List Token
  rest : Rest due p models tokens
  spelling : Spelling ws tokens

module _ (w : Word) (ws : List Word) where
  spelt-said : (due next : Due) (said : Said) (h : Heard) → Row w due (Ok (next, said))
      → ((q : Part) → h ≡ says q → Fits next q × Spelt next ws q) → (p : Part) → adding w said h ≡ says p → Spelt due (w ∷ ws) p
  unfolding Row adding
  spelt-said due next said (says q) r k p e =
      let g : with w said q ≡ p = cc in
      let (f, s) = k q refl in
      let t = r q s.models s.tokens f s.rest in
      rw (← g) (record { models = t.models; tokens = t.token ∷ s.tokens; rest = t.rest; spelling = more t.is s.spelling })
  spelt-said due next said (wrong i at) r k p e = let z : ◌≡◌ {A = ℕ} 0 1 = cc in absurd (omega arith)

  spelt-move : (due : Due) (m : Move) (h : Due → Heard) → Row w due m
      → ((next : Due) (q : Part) → h next ≡ says q → Fits next q × Spelt next ws q)
      → (p : Part) → on_move m w h ≡ says p → Spelt due (w ∷ ws) p
  unfolding on_move
  spelt-move due (Ok (next, said)) h r k p e = spelt-said due next said (h next) r (k next) p e
  spelt-move due (Err Format) h r k p e = let z : ◌≡◌ {A = ℕ} 0 1 = cc in absurd (omega arith)
  spelt-move due (Err OtherKind) h r k p e = let z : ◌≡◌ {A = ℕ} 0 1 = cc in absurd (omega arith)

spelt-end : (len : ℕ) (due : Due) (p : Part) → ifb (whole due) (says nothing_more) (wrong 30 len) ≡ says p → Spelt due [] p
unfolding whole ifb Rest
spelt-end len (Number role) p e = let z : ◌≡◌ {A = ℕ} 0 1 = cc in absurd (omega arith)
spelt-end len (Name a) p e = let z : ◌≡◌ {A = ℕ} 0 1 = cc in absurd (omega arith)
spelt-end len PlusWord p e = let z : ◌≡◌ {A = ℕ} 0 1 = cc in absurd (omega arith)
spelt-end len MinusWord p e = let z : ◌≡◌ {A = ℕ} 0 1 = cc in absurd (omega arith)
spelt-end len End p e = record { models = 0; tokens = []; rest = refl; spelling = none }

spelt : (len : ℕ) (due : Due) (ws : List Word) (p : Part) → heard len due ws ≡ says p → Spelt due ws p
unfolding heard
spelt len due [] p e = spelt-end len due p e
spelt len due (w ∷ ws) p e =
    spelt-move w ws due (move_of due w.bytes) (λ next. heard len next ws) (row w due)
    (λ next q f. (heard-fits len next ws q f, spelt len next ws q f)) p e

-- what is heard from a rule's start on is what the tokens say
pub heard-spelt : (len : ℕ) (ws : List Word) (p : Part) → heard len (Number Kind) ws ≡ says p
    → (m : ℕ) × Spelling ws (rules_tokens p.rules ++ (number 0 ∷ behind_rules p.table p.plus p.minus m))
unfolding Rest RestRole
heard-spelt len ws p e = let s = spelt len (Number Kind) ws p e in (s.models, rw s.rest at s.spelling)
