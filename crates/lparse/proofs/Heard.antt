-- Words that spell a text are heard as what it says: at each due the first token is one that its row takes.
use mathlib.Core.Path.{◌≡◌, refl, ap, ◌∙◌}
use mathlib.Core.List.{List, [], ◌∷◌, ◌++◌}
use Prim.Native.Nat.{ℕ}
use native.Mathlib.Omega.{arith}
use Rattle.meaning.specs.Choice.{ifb}
use Rattle.imported.specs.Text.{TextRule, basic, choice}
use Rattle.lparse.specs.declared.due.Role.{Role}
use Rattle.lparse.specs.declared.due.Role.TheVariants.{Kind, Head, HeadCount, Heads, Literals, Negatives, Negative, Positive, Table, Plus, Minus, Models}
use Rattle.lparse.specs.declared.due.Due.{Due}
use Rattle.lparse.specs.declared.due.Due.TheVariants.{Number, Name, PlusWord, MinusWord, End}
use Rattle.lparse.specs.Words.{Word}
use Rattle.lparse.specs.Reading.{whole, Entry, Part, nothing_more, says, heard}
use Rattle.lparse.specs.Says.{Token, number, atom_tokens, rules_tokens, table_tokens, minus_tokens, plus_tokens, behind_rules, Spelled, Spelling, none, more}
use Rattle.lparse.proofs.Phases.{Open, Fits, FitsRole}
use Rattle.lparse.proofs.Spelled.{RestRole, Rest, nothing, head-tokens, choice-tokens}
use Rattle.lparse.proofs.Tokens.{token-one, tokens-one}
use Rattle.lparse.proofs.Later.{Sound, Proper, Later}
use Rattle.lparse.proofs.HeardRules.{at-kind, at_head, at-head-count, at-heads, at-literals, at-negatives, at-negative, at-positive}
use Rattle.lparse.proofs.HeardLists.{at_table, at_name, at-plus-word, at-minus-word, at-plus, at-minus, at-models}

-- ---- all words

never : {x : Token} {l : List Token} → [] ≡ x ∷ l → ⊥
never e = let z : ◌≡◌ {A = ℕ} 0 1 = cc in omega arith

nil-right : (l k : List Token) → [] ≡ l ++ k → [] ≡ k
nil-right [] k e = e
nil-right (x ∷ l) k e = absurd (never e)

all-empty : (p : Part) → p.heads ≡ [] → p.neg ≡ [] → p.pos ≡ [] → p.rules ≡ [] → p.table ≡ [] → p.plus ≡ [] → p.minus ≡ [] → nothing_more ≡ p
all-empty p h a b c d e f = rw (h, a, b, c, d, e, f)

-- where a number is due, some token is left
no-role : (role : Role) (p : Part) (m : ℕ) → RestRole role p m [] → ⊥
unfolding RestRole rules_tokens behind_rules plus_tokens minus_tokens
no-role Kind p m e = never (nil-right (rules_tokens p.rules) _ e)
no-role Head p m e = go p.rules e
  where
    go : (l : List TextRule) → number 1 ∷ [] ≡ rules_tokens l ++ (number 0 ∷ behind_rules p.table p.plus p.minus m) → ⊥
    go [] g = let h = token-one g in let z : ◌≡◌ {A = ℕ} 1 0 = cc in omega arith
    go (basic a pos neg ∷ l) g = never (tokens-one (g ∙ head-tokens pos neg l _ a))
    go (choice hs pos neg ∷ l) g = never (tokens-one (g ∙ choice-tokens pos neg l _ hs))
no-role HeadCount p m e = never e
no-role (Heads n) p m e = never (nil-right (atom_tokens p.heads) _ e)
no-role Literals p m e = never e
no-role (Negatives n) p m e = never e
no-role (Negative i j) p m e =
    never (nil-right (rules_tokens p.rules) _ (nil-right (atom_tokens p.pos) _ (nil-right (atom_tokens p.neg) _ e)))
no-role (Positive j) p m e =
    never (nil-right (rules_tokens p.rules) _ (nil-right (atom_tokens p.pos) _ (nil-right (atom_tokens p.neg) _ e)))
no-role Table p m e = never (nil-right (table_tokens p.table) _ e)
no-role Plus p m e = never (nil-right (atom_tokens p.plus) _ e)
no-role Minus p m e = never (nil-right (atom_tokens p.minus) _ e)
no-role Models p m e = never e

module _ (len : ℕ) where
  at-role : (w : Word) (ws : List Word) → Later len ws
      → (role : Role) (p : Part) (m : ℕ) (t : Token) (ts : List Token) → RestRole role p m (t ∷ ts) → FitsRole role p → Sound p
      → Spelled w t → Spelling ws ts → heard len (Number role) (w ∷ ws) ≡ says p
  unfolding RestRole FitsRole
  at-role w ws later Kind p m t ts e f = at-kind len w ws later p m t ts e f
  at-role w ws later Head p m t ts e f = at_head len w ws later p m t ts e f
  at-role w ws later HeadCount p m t ts e f = at-head-count len w ws later p m t ts e f
  at-role w ws later (Heads n) p m t ts e f = at-heads len w ws later n p m t ts e f
  at-role w ws later Literals p m t ts e f = at-literals len w ws later p m t ts e f
  at-role w ws later (Negatives n) p m t ts e f = at-negatives len w ws later n p m t ts e f
  at-role w ws later (Negative i j) p m t ts e f = at-negative len w ws later i j p m t ts e f
  at-role w ws later (Positive j) p m t ts e f = at-positive len w ws later j p m t ts e f
  at-role w ws later Table p m t ts e f = at_table len w ws later p m t ts e f
  at-role w ws later Plus p m t ts e f = at-plus len w ws later p m t ts e f
  at-role w ws later Minus p m t ts e f = at-minus len w ws later p m t ts e f
  at-role w ws later Models p m t ts e f = at-models len w ws later p m t ts e f

  at-due : (w : Word) (ws : List Word) → Later len ws
      → (due : Due) → Proper due → (p : Part) (m : ℕ) (t : Token) (ts : List Token) → Rest due p m (t ∷ ts) → Fits due p → Sound p
      → Spelled w t → Spelling ws ts → heard len due (w ∷ ws) ≡ says p
  unfolding Proper Rest Fits
  at-due w ws later (Number role) h p m t ts e f = at-role w ws later role p m t ts e f
  at-due w ws later (Name a) h p m t ts e f = at_name len w ws later a p m t ts e h f
  at-due w ws later PlusWord h p m t ts e f = at-plus-word len w ws later p m t ts e f
  at-due w ws later MinusWord h p m t ts e f = at-minus-word len w ws later p m t ts e f
  at-due w ws later End h p m t ts e f = λ sound is rest. let z : ◌≡◌ {A = ℕ} 0 1 = cc in absurd (omega arith)

  no_words : (due : Due) (p : Part) (m : ℕ) → Rest due p m [] → Fits due p → heard len due [] ≡ says p
  unfolding Rest Fits heard whole ifb behind_rules table_tokens
  no_words (Number role) p m e f = absurd (no-role role p m e)
  no_words (Name a) p m e f = absurd (go p.table e)
    where
      go : (l : List Entry) → number a.0 ∷ [] ≡ behind_rules l p.plus p.minus m → ⊥
      go [] g = never (tokens-one g)
      go (x ∷ l) g = never (tokens-one g)
  no_words PlusWord p m e f = absurd (never e)
  no_words MinusWord p m e f = absurd (never e)
  no_words End p m e f =
      let h = f.behind-plus in
      let g = h.behind-table in
      let k = g.behind-rules in
      ap says (all-empty p k.shut.no-head (nothing p.neg k.shut.negatives) (nothing p.pos k.shut.positives) k.no-rule g.no-entry h.no_plus f.no_minus)

  spelt-heard : (ws : List Word) (due : Due) → Proper due → (p : Part) (m : ℕ) (ts : List Token) → Rest due p m ts → Fits due p → Sound p
      → Spelling ws ts → heard len due ws ≡ says p
  spelt-heard [] due h p m ts e f sound none = no_words due p m e f
  spelt-heard (w ∷ ws) due h p m ts e f sound (more is rest) =
      at-due w ws (λ next g q n ks. spelt-heard ws next g q n ks) due h p m _ _ e f sound is rest

-- words that spell a text are heard as it
pub spelt-text : (len : ℕ) (ws : List Word) (p : Part) (m : ℕ) → Open 0 0 p.heads p.neg p.pos → Sound p
    → Spelling ws (rules_tokens p.rules ++ (number 0 ∷ behind_rules p.table p.plus p.minus m))
    → heard len (Number Kind) ws ≡ says p
unfolding Proper Rest RestRole Fits FitsRole
spelt-text len ws p m o sound s = spelt-heard len ws (Number Kind) tt p m _ refl o sound s
