-- The words of a rule, for each due: the first token is one that its row takes.
use mathlib.Core.Path.{◌≡◌, refl, ap, sym, ◌∙◌}
use mathlib.Core.Bool.{true}
use mathlib.Core.List.{List, [], ◌∷◌, ◌++◌}
use Prim.Native.Nat.{ℕ, suc, ◌+◌, ◌-◌}
use native.Mathlib.Omega.{arith}
use lib.ListN.{length}
use Rattle.meaning.specs.Sets.{every}
use Rattle.meaning.proofs.Tests.{and_left, and_right}
use Rattle.meaning.proofs.Choice.{lt_no, eq_yes, eq_no, eq-either}
use Rattle.imported.specs.Making.{rule_atoms, rules_atoms}
use Rattle.imported.specs.declared.TextAtom.{TextAtom}
use Rattle.imported.specs.Text.{TextRule, basic, choice}
use Rattle.lparse.specs.declared.due.Role.TheVariants.{Kind, Head, HeadCount, Heads, Literals, Negatives, Negative, Positive, Table}
use Rattle.lparse.specs.declared.due.Due.TheVariants.{Number}
use Rattle.lparse.specs.declared.due.Standing.TheVariants.{Head as InHead, Free as InFree, Negative as InNegative, Positive as InPositive}
use Rattle.lparse.specs.declared.due.Said.TheVariants.{Nothing as Silent, Choice as Chooses, Atom}
use Rattle.lparse.specs.Words.{Word}
use Rattle.lparse.specs.Reading.{body_of, heads_of, on_kind, on_head_count, on_negatives, on_number, Part, with, with_atom, with_choice, says, heard}
use Rattle.lparse.specs.Says.{Token, number, atom_tokens, rules_tokens, behind_rules, Spelled, Spelling, from_one, headed}
use Rattle.lparse.proofs.Phases.{Open, Fits, FitsRole}
use Rattle.lparse.proofs.Spelled.{behind_body, body_tokens, literal_rest, RestRole, Rest, nothing, head-tokens, choice-tokens}
use Rattle.lparse.proofs.Tokens.{first_one, others-one, every-left, every-right, token-one, tokens-one, spelled-value, number-move, atom-move}
use Rattle.lparse.proofs.Later.{Sound, Proper, heard-one, Later}

-- ---- a body of i negatives and j positives: what fits it, and what is left

open-fits : (i j : ℕ) (p : Part) → Open i j p.heads p.neg p.pos → FitsRole (body_of i j) p
unfolding body_of FitsRole
open-fits i j p o =
    eq-either (λ r. FitsRole r p) i 0 _ _
    (λ e. eq-either (λ r. FitsRole r p) j 0 _ _
    (λ f. record { no-head = o.no-head; negatives = o.negatives ∙ e; positives = o.positives ∙ f })
    (λ f. record { no-head = o.no-head; negatives = o.negatives ∙ e; positives = omega (arith, o.positives) }))
    (λ e. record { no-head = o.no-head; negatives = omega (arith, o.negatives); positives = o.positives })

open-rest : (i j : ℕ) (p : Part) (m : ℕ) (ts : List Token) → Open i j p.heads p.neg p.pos → ts ≡ body_tokens p m → RestRole (body_of i j) p m ts
unfolding body_of RestRole atom_tokens
open-rest i j p m ts o t =
    eq-either (λ r. RestRole r p m ts) i 0 _ _
    (λ e. eq-either (λ r. RestRole r p m ts) j 0 _ _
    (λ f. rw (nothing p.neg (o.negatives ∙ e), nothing p.pos (o.positives ∙ f)) at t)
    (λ f. t)) (λ e. t)

-- ---- n heads: what fits them, and what is left

heads-fit : (n : ℕ) (p : Part) → length p.heads ≡ n → FitsRole (heads_of n) p
unfolding heads_of FitsRole
heads-fit n p h =
    eq-either (λ r. FitsRole r p) n 0 _ _ (λ e. nothing p.heads (h ∙ e)) (λ e. omega (arith, h))

rest-heads : (n : ℕ) (p : Part) (m : ℕ) (ts : List Token) → length p.heads ≡ n → ts ≡ atom_tokens p.heads ++ literal_rest p m
    → RestRole (heads_of n) p m ts
unfolding heads_of RestRole atom_tokens
rest-heads n p m ts h t =
    eq-either (λ r. RestRole r p m ts) n 0 _ _ (λ e. rw (nothing p.heads (h ∙ e)) at t) (λ e. t)

pub some-head : (hs pos neg : List TextAtom) → headed (choice hs pos neg) ≡ true → length hs ≡ 0 → ⊥
unfolding headed
some-head [] pos neg e z = let y : ◌≡◌ {A = ℕ} 0 1 = cc in omega arith
some-head (a ∷ hs) pos neg e z = omega arith

module _ (len : ℕ) (w : Word) (ws : List Word) (later : Later len ws) where
  pub at-kind : (p : Part) (m : ℕ) (t : Token) (ts : List Token) → t ∷ ts ≡ behind_body p m → Open 0 0 p.heads p.neg p.pos → Sound p
      → Spelled w t → Spelling ws ts → heard len (Number Kind) (w ∷ ws) ≡ says p
  unfolding Proper Rest RestRole Fits FitsRole on_number on_kind with with_choice rules_tokens rules_atoms rule_atoms every
  at-kind p m t ts e o sound is rest = go p.rules refl
    where
      go : (l : List TextRule) → p.rules ≡ l → heard len (Number Kind) (w ∷ ws) ≡ says p
      go [] r =
          let f = e ∙ ap (λ l. rules_tokens l ++ (number 0 ∷ behind_rules p.table p.plus p.minus m)) r in
          heard-one len w ws (Number Kind) (Number Table) Silent p p
          (number-move w Kind 0 (spelled-value is (token-one f)) ∙ eq_yes _ _ _ _ refl)
          (later (Number Table) tt p m ts (tokens-one f) (record { shut = o; no-rule = r }) sound rest) refl
      go (basic a pos neg ∷ l) r =
          let f = e ∙ ap (λ l. rules_tokens l ++ (number 0 ∷ behind_rules p.table p.plus p.minus m)) r ∙ head-tokens pos neg l _ a in
          heard-one len w ws (Number Kind) (Number Head) Silent p p
          (number-move w Kind 1 (spelled-value is (token-one f)) ∙ eq_no _ _ _ _ (λ z. omega arith) ∙ eq_yes _ _ _ _ refl)
          (later (Number Head) tt p m ts (ap (λ k. k ∷ ts) (sym (token-one f)) ∙ e) o sound rest) refl
      go (choice hs pos neg ∷ l) r =
          let f = e ∙ ap (λ l. rules_tokens l ++ (number 0 ∷ behind_rules p.table p.plus p.minus m)) r ∙ choice-tokens pos neg l _ hs in
          let s = ap (λ l. every from_one (rules_atoms l)) (sym r) ∙ sound.rules in
          let b = every-left (hs ++ (neg ++ pos)) (rules_atoms l) s in
          let c = every-right hs (neg ++ pos) b in
          let g = ap (every headed) (sym r) ∙ sound.headed in
          let q : Part = record { heads = hs; pos = pos; neg = neg; rules = l; table = p.table; plus = p.plus; minus = p.minus } in
          heard-one len w ws (Number Kind) (Number HeadCount) Chooses q p
          (number-move w Kind 3 (spelled-value is (token-one f))
          ∙ eq_no _ _ _ _ (λ z. omega arith) ∙ eq_no _ _ _ _ (λ z. omega arith) ∙ eq_yes _ _ _ _ refl)
          (later (Number HeadCount) tt q m ts (tokens-one f) (some-head hs pos neg (and_left (headed (choice hs pos neg)) (every headed l) g))
          (record {
            heads = every-left hs (neg ++ pos) b;
            neg = every-left neg pos c;
            pos = every-right neg pos c;
            rules = every-right (hs ++ (neg ++ pos)) (rules_atoms l) s;
            headed = and_right (headed (choice hs pos neg)) (every headed l) g;
            table = sound.table;
            plus = sound.plus;
            minus = sound.minus;
          }) rest)
          (rw (o.no-head, nothing p.neg o.negatives, nothing p.pos o.positives, r))

  pub at_head : (p : Part) (m : ℕ) (t : Token) (ts : List Token) → number 1 ∷ (t ∷ ts) ≡ behind_body p m → Open 0 0 p.heads p.neg p.pos → Sound p
      → Spelled w t → Spelling ws ts → heard len (Number Head) (w ∷ ws) ≡ says p
  unfolding Proper Rest RestRole Fits FitsRole on_number with with_atom rules_tokens rules_atoms rule_atoms every
  at_head p m t ts e o sound is rest = go p.rules refl
    where
      go : (l : List TextRule) → p.rules ≡ l → heard len (Number Head) (w ∷ ws) ≡ says p
      go [] r =
          let f = token-one (e ∙ ap (λ l. rules_tokens l ++ (number 0 ∷ behind_rules p.table p.plus p.minus m)) r) in
          let z : ◌≡◌ {A = ℕ} 1 0 = cc in absurd (omega arith)
      go (choice hs pos neg ∷ l) r =
          let f = token-one (e ∙ ap (λ l. rules_tokens l ++ (number 0 ∷ behind_rules p.table p.plus p.minus m)) r ∙ choice-tokens pos neg l _ hs) in
          let z : ◌≡◌ {A = ℕ} 1 3 = cc in absurd (omega arith)
      go (basic a pos neg ∷ l) r =
          let f = e ∙ ap (λ l. rules_tokens l ++ (number 0 ∷ behind_rules p.table p.plus p.minus m)) r ∙ head-tokens pos neg l _ a in
          let u = tokens-one f in
          let s = ap (λ l. every from_one (rules_atoms l)) (sym r) ∙ sound.rules in
          let b = others-one a ((neg ++ pos) ++ rules_atoms l) s in
          let c = every-left (neg ++ pos) (rules_atoms l) b in
          let g = ap (every headed) (sym r) ∙ sound.headed in
          let q : Part = record { heads = []; pos = pos; neg = neg; rules = l; table = p.table; plus = p.plus; minus = p.minus } in
          heard-one len w ws (Number Head) (Number Literals) (Atom a InHead) q p
          (atom-move w Head Literals InHead a.0 refl (first_one a ((neg ++ pos) ++ rules_atoms l) s) (spelled-value is (token-one u)))
          (later (Number Literals) tt q m ts (tokens-one u) refl
          (record {
            heads = refl;
            neg = every-left neg pos c;
            pos = every-right neg pos c;
            rules = every-right (neg ++ pos) (rules_atoms l) b;
            headed = and_right (headed (basic a pos neg)) (every headed l) g;
            table = sound.table;
            plus = sound.plus;
            minus = sound.minus;
          }) rest)
          (rw (o.no-head, nothing p.neg o.negatives, nothing p.pos o.positives, r))

  pub at-head-count : (p : Part) (m : ℕ) (t : Token) (ts : List Token)
      → t ∷ ts ≡ number (length p.heads) ∷ (atom_tokens p.heads ++ literal_rest p m) → (length p.heads ≡ 0 → ⊥) → Sound p
      → Spelled w t → Spelling ws ts → heard len (Number HeadCount) (w ∷ ws) ≡ says p
  unfolding Proper Rest Fits on_number on_head_count with
  at-head-count p m t ts e f sound is rest =
      let n = length p.heads in
      heard-one len w ws (Number HeadCount) (Number (heads_of n)) Silent p p
      (number-move w HeadCount n (spelled-value is (token-one e)) ∙ eq_no _ _ _ _ f)
      (later (Number (heads_of n)) tt p m ts (rest-heads n p m ts refl (tokens-one e)) (heads-fit n p refl) sound rest) refl

  pub at-heads : (n : ℕ) (p : Part) (m : ℕ) (t : Token) (ts : List Token) → t ∷ ts ≡ atom_tokens p.heads ++ literal_rest p m
      → length p.heads ≡ suc n → Sound p
      → Spelled w t → Spelling ws ts → heard len (Number (Heads n)) (w ∷ ws) ≡ says p
  unfolding Proper Rest Fits on_number with with_atom atom_tokens
  at-heads n p m t ts e o sound is rest = go p.heads refl
    where
      go : (l : List TextAtom) → p.heads ≡ l → heard len (Number (Heads n)) (w ∷ ws) ≡ says p
      go [] r = let h = ap length (sym r) ∙ o in absurd (omega arith)
      go (a ∷ l) r =
          let f = e ∙ ap (λ k. atom_tokens k ++ literal_rest p m) r in
          let s = ap (every from_one) (sym r) ∙ sound.heads in
          let q : Part = record { heads = l; pos = p.pos; neg = p.neg; rules = p.rules; table = p.table; plus = p.plus; minus = p.minus } in
          let h = ap length (sym r) ∙ o in
          let left : length l ≡ n = omega arith in
          heard-one len w ws (Number (Heads n)) (Number (heads_of n)) (Atom a InFree) q p
          (atom-move w (Heads n) (heads_of n) InFree a.0 refl (first_one a l s) (spelled-value is (token-one f)))
          (later (Number (heads_of n)) tt q m ts (rest-heads n q m ts left (tokens-one f)) (heads-fit n q left)
          (record {
            heads = others-one a l s;
            neg = sound.neg;
            pos = sound.pos;
            rules = sound.rules;
            headed = sound.headed;
            table = sound.table;
            plus = sound.plus;
            minus = sound.minus;
          })
          rest) (rw r)

  pub at-literals : (p : Part) (m : ℕ) (t : Token) (ts : List Token)
      → t ∷ ts ≡ literal_rest p m → p.heads ≡ [] → Sound p
      → Spelled w t → Spelling ws ts → heard len (Number Literals) (w ∷ ws) ≡ says p
  unfolding Proper Rest RestRole Fits FitsRole on_number with
  at-literals p m t ts e h sound is rest =
      let n = length p.neg + length p.pos in
      heard-one len w ws (Number Literals) (Number (Negatives n)) Silent p p (number-move w Literals n (spelled-value is (token-one e)))
      (later (Number (Negatives n)) tt p m ts (tokens-one e) (h, refl) sound rest) refl

  pub at-negatives : (n : ℕ) (p : Part) (m : ℕ) (t : Token) (ts : List Token) → t ∷ ts ≡ number (length p.neg) ∷ body_tokens p m
      → (p.heads ≡ []) × (length p.neg + length p.pos ≡ n) → Sound p
      → Spelled w t → Spelling ws ts → heard len (Number (Negatives n)) (w ∷ ws) ≡ says p
  unfolding Proper Rest Fits on_number on_negatives with
  at-negatives n p m t ts e f sound is rest =
      let i = length p.neg in
      let o : Open i (n - i) p.heads p.neg p.pos = record { no-head = f.0; negatives = refl; positives = omega (arith, f.1) } in
      heard-one len w ws (Number (Negatives n)) (Number (body_of i (n - i))) Silent p p
      (number-move w (Negatives n) i (spelled-value is (token-one e)) ∙ lt_no _ _ _ _ (omega (arith, f.1)))
      (later (Number (body_of i (n - i))) tt p m ts (open-rest i (n - i) p m ts o (tokens-one e)) (open-fits i (n - i) p o) sound rest) refl

  pub at-negative : (i j : ℕ) (p : Part) (m : ℕ) (t : Token) (ts : List Token) → t ∷ ts ≡ body_tokens p m
      → Open (suc i) j p.heads p.neg p.pos → Sound p
      → Spelled w t → Spelling ws ts → heard len (Number (Negative i j)) (w ∷ ws) ≡ says p
  unfolding Proper Rest Fits on_number with with_atom atom_tokens
  at-negative i j p m t ts e o sound is rest = go p.neg refl
    where
      go : (l : List TextAtom) → p.neg ≡ l → heard len (Number (Negative i j)) (w ∷ ws) ≡ says p
      go [] r = let h = ap length (sym r) ∙ o.negatives in absurd (omega arith)
      go (a ∷ l) r =
          let f = e ∙ ap (λ k. atom_tokens k ++ (atom_tokens p.pos ++ behind_body p m)) r in
          let s = ap (every from_one) (sym r) ∙ sound.neg in
          let q : Part = record { heads = p.heads; pos = p.pos; neg = l; rules = p.rules; table = p.table; plus = p.plus; minus = p.minus } in
          let h = ap length (sym r) ∙ o.negatives in
          let left : Open i j p.heads l p.pos = record { no-head = o.no-head; negatives = omega arith; positives = o.positives } in
          heard-one len w ws (Number (Negative i j)) (Number (body_of i j)) (Atom a InNegative) q p
          (atom-move w (Negative i j) (body_of i j) InNegative a.0 refl (first_one a l s) (spelled-value is (token-one f)))
          (later (Number (body_of i j)) tt q m ts (open-rest i j q m ts left (tokens-one f)) (open-fits i j q left)
          (record { heads = sound.heads; neg = others-one a l s; pos = sound.pos; rules = sound.rules; headed = sound.headed; table = sound.table; plus = sound.plus; minus = sound.minus })
          rest) (rw r)

  pub at-positive : (j : ℕ) (p : Part) (m : ℕ) (t : Token) (ts : List Token) → t ∷ ts ≡ body_tokens p m
      → Open 0 (suc j) p.heads p.neg p.pos → Sound p
      → Spelled w t → Spelling ws ts → heard len (Number (Positive j)) (w ∷ ws) ≡ says p
  unfolding Proper Rest Fits on_number with with_atom atom_tokens
  at-positive j p m t ts e o sound is rest = go p.pos refl
    where
      go : (l : List TextAtom) → p.pos ≡ l → heard len (Number (Positive j)) (w ∷ ws) ≡ says p
      go [] r = let h = ap length (sym r) ∙ o.positives in absurd (omega arith)
      go (a ∷ l) r =
          let n = nothing p.neg o.negatives in
          let f = e ∙ ap (λ k. atom_tokens k ++ (atom_tokens p.pos ++ behind_body p m)) n ∙ ap (λ k. atom_tokens k ++ behind_body p m) r in
          let s = ap (every from_one) (sym r) ∙ sound.pos in
          let q : Part = record { heads = p.heads; pos = l; neg = p.neg; rules = p.rules; table = p.table; plus = p.plus; minus = p.minus } in
          let h = ap length (sym r) ∙ o.positives in
          let left : Open 0 j p.heads p.neg l = record { no-head = o.no-head; negatives = o.negatives; positives = omega arith } in
          let g = tokens-one f ∙ ap (λ k. atom_tokens k ++ (atom_tokens l ++ behind_body p m)) (sym n) in
          heard-one len w ws (Number (Positive j)) (Number (body_of 0 j)) (Atom a InPositive) q p
          (atom-move w (Positive j) (body_of 0 j) InPositive a.0 refl (first_one a l s) (spelled-value is (token-one f)))
          (later (Number (body_of 0 j)) tt q m ts (open-rest 0 j q m ts left g) (open-fits 0 j q left)
          (record { heads = sound.heads; neg = sound.neg; pos = others-one a l s; rules = sound.rules; headed = sound.headed; table = sound.table; plus = sound.plus; minus = sound.minus })
          rest) (rw r)
