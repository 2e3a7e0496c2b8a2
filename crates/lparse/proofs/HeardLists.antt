-- The words behind the rules, for each due: the table, B+ and B-, and the number of models.
use mathlib.Core.Path.{◌≡◌, refl, ap, sym, ◌∙◌}
use mathlib.Core.List.{List, [], ◌∷◌, map}
use Prim.Native.Nat.{ℕ}
use Rattle.meaning.specs.Sets.{every}
use Rattle.meaning.proofs.Choice.{b-yes, eq_yes}
use Rattle.imported.specs.declared.TextAtom.{TextAtom}
use Rattle.lparse.specs.declared.due.Role.TheVariants.{Table, Plus, Minus, Models}
use Rattle.lparse.specs.declared.due.Due.TheVariants.{Number, Name, PlusWord, MinusWord, End}
use Rattle.lparse.specs.declared.due.Standing.TheVariants.{Table as InTable, Plus as InPlus, Minus as InMinus}
use Rattle.lparse.specs.declared.due.Said.TheVariants.{Nothing as Silent, Atom}
use Rattle.lparse.specs.Words.{Word}
use Rattle.lparse.specs.Reading.{text_atom, on_listed, on_number, on_sign, move_of, Entry, Part, with, with_atom, says, heard}
use Rattle.lparse.specs.Says.{Token, number, exactly, atom_tokens, table_tokens, minus_tokens, plus_tokens, behind_rules, Spelled, Spelling, from_one}
use Rattle.lparse.proofs.Phases.{NoRule, NoTable, NoPlus, NoMinus, Fits, FitsRole}
use Rattle.lparse.proofs.Spelled.{RestRole, Rest}
use Rattle.lparse.proofs.Tokens.{first_one, others-one, token-one, tokens-one, spelled-value, spelled-name, spelled-bytes, number-move, listed-move, sign-move}
use Rattle.lparse.proofs.Later.{Sound, Proper, heard-one, Later}

same-entry : (a : TextAtom) (w : Word) (x : Entry) → a.0 ≡ x.atom.0 → w ≡ x.name → ◌≡◌ {A = Entry} (record { atom = a; name = w }) x
same-entry a w x i j =
    ap (λ n. record { atom = text_atom n; name = w }) i ∙ ap (λ v. record { atom = x.atom; name = v }) j

module _ (len : ℕ) (w : Word) (ws : List Word) (later : Later len ws) where
  pub at_table : (p : Part) (m : ℕ) (t : Token) (ts : List Token) → t ∷ ts ≡ behind_rules p.table p.plus p.minus m
      → NoRule p.heads p.neg p.pos p.rules → Sound p
      → Spelled w t → Spelling ws ts → heard len (Number Table) (w ∷ ws) ≡ says p
  unfolding Proper Rest RestRole Fits FitsRole on_number on_listed with behind_rules table_tokens
  at_table p m t ts e f sound is rest = go p.table refl
    where
      go : (l : List Entry) → p.table ≡ l → heard len (Number Table) (w ∷ ws) ≡ says p
      go [] r =
          let g = e ∙ ap (λ l. behind_rules l p.plus p.minus m) r in
          heard-one len w ws (Number Table) PlusWord Silent p p (number-move w Table 0 (spelled-value is (token-one g)) ∙ eq_yes _ _ _ _ refl)
          (later PlusWord tt p m ts (tokens-one g) (record { behind-rules = f; no-entry = r }) sound rest) refl
      go (x ∷ l) r =
          let g = e ∙ ap (λ l. behind_rules l p.plus p.minus m) r in
          let s = ap (λ l. every from_one (map (λ e. e.atom) l)) (sym r) ∙ sound.table in
          heard-one len w ws (Number Table) (Name x.atom) Silent p p
          (listed-move w Table PlusWord (Name x.atom) Silent x.atom.0 refl (first_one x.atom _ s) (spelled-value is (token-one g)))
          (later (Name x.atom) (first_one x.atom (map (λ e. e.atom) l) s) p m ts (ap (λ k. k ∷ ts) (sym (token-one g)) ∙ e) f sound rest) refl

  pub at_name : (a : TextAtom) (p : Part) (m : ℕ) (t : Token) (ts : List Token) → number a.0 ∷ (t ∷ ts) ≡ behind_rules p.table p.plus p.minus m
      → (a.0 ≡ 0 → ⊥) → NoRule p.heads p.neg p.pos p.rules → Sound p
      → Spelled w t → Spelling ws ts → heard len (Name a) (w ∷ ws) ≡ says p
  unfolding Proper Rest RestRole Fits FitsRole move_of with with_atom behind_rules table_tokens
  at_name a p m t ts e h f sound is rest = go p.table refl
    where
      go : (l : List Entry) → p.table ≡ l → heard len (Name a) (w ∷ ws) ≡ says p
      go [] r =
          let g = token-one (e ∙ ap (λ l. behind_rules l p.plus p.minus m) r) in
          let z : a.0 ≡ 0 = cc in absurd (h z)
      go (x ∷ l) r =
          let g = e ∙ ap (λ l. behind_rules l p.plus p.minus m) r in
          let k = tokens-one g in
          let i : a.0 ≡ x.atom.0 = let j = token-one g in cc in
          let s = ap (λ l. every from_one (map (λ e. e.atom) l)) (sym r) ∙ sound.table in
          let q : Part = record { heads = p.heads; pos = p.pos; neg = p.neg; rules = p.rules; table = l; plus = p.plus; minus = p.minus } in
          heard-one len w ws (Name a) (Number Table) (Atom a InTable) q p refl
          (later (Number Table) tt q m ts (tokens-one k) f
          (record { heads = sound.heads; neg = sound.neg; pos = sound.pos; rules = sound.rules; headed = sound.headed; table = others-one x.atom (map (λ e. e.atom) l) s; plus = sound.plus; minus = sound.minus })
          rest)
          (ap (λ y. record { heads = p.heads; pos = p.pos; neg = p.neg; rules = p.rules; table = y ∷ l; plus = p.plus; minus = p.minus })
          (same-entry a w x i (spelled-name is (token-one k))) ∙ rw r)

  pub at-plus-word : (p : Part) (m : ℕ) (t : Token) (ts : List Token) → t ∷ ts ≡ exactly (66 ∷ (43 ∷ [])) ∷ plus_tokens p.plus p.minus m
      → NoTable p.heads p.neg p.pos p.rules p.table → Sound p
      → Spelled w t → Spelling ws ts → heard len PlusWord (w ∷ ws) ≡ says p
  unfolding Proper Rest RestRole Fits FitsRole move_of on_sign with
  at-plus-word p m t ts e f sound is rest =
      heard-one len w ws PlusWord (Number Plus) Silent p p (b-yes _ _ _ (sign-move w.bytes 43 (spelled-bytes is (token-one e))))
      (later (Number Plus) tt p m ts (tokens-one e) f sound rest) refl

  pub at-minus-word : (p : Part) (m : ℕ) (t : Token) (ts : List Token) → t ∷ ts ≡ exactly (66 ∷ (45 ∷ [])) ∷ minus_tokens p.minus m
      → NoPlus p.heads p.neg p.pos p.rules p.table p.plus → Sound p
      → Spelled w t → Spelling ws ts → heard len MinusWord (w ∷ ws) ≡ says p
  unfolding Proper Rest RestRole Fits FitsRole move_of on_sign with
  at-minus-word p m t ts e f sound is rest =
      heard-one len w ws MinusWord (Number Minus) Silent p p (b-yes _ _ _ (sign-move w.bytes 45 (spelled-bytes is (token-one e))))
      (later (Number Minus) tt p m ts (tokens-one e) f sound rest) refl

  pub at-plus : (p : Part) (m : ℕ) (t : Token) (ts : List Token) → t ∷ ts ≡ plus_tokens p.plus p.minus m
      → NoTable p.heads p.neg p.pos p.rules p.table → Sound p
      → Spelled w t → Spelling ws ts → heard len (Number Plus) (w ∷ ws) ≡ says p
  unfolding Proper Rest RestRole Fits FitsRole on_number on_listed with with_atom plus_tokens atom_tokens
  at-plus p m t ts e f sound is rest = go p.plus refl
    where
      go : (l : List TextAtom) → p.plus ≡ l → heard len (Number Plus) (w ∷ ws) ≡ says p
      go [] r =
          let g = e ∙ ap (λ l. plus_tokens l p.minus m) r in
          heard-one len w ws (Number Plus) MinusWord Silent p p (number-move w Plus 0 (spelled-value is (token-one g)) ∙ eq_yes _ _ _ _ refl)
          (later MinusWord tt p m ts (tokens-one g) (record { behind-table = f; no_plus = r }) sound rest) refl
      go (a ∷ l) r =
          let g = e ∙ ap (λ l. plus_tokens l p.minus m) r in
          let s = ap (every from_one) (sym r) ∙ sound.plus in
          let q : Part = record { heads = p.heads; pos = p.pos; neg = p.neg; rules = p.rules; table = p.table; plus = l; minus = p.minus } in
          heard-one len w ws (Number Plus) (Number Plus) (Atom a InPlus) q p
          (listed-move w Plus MinusWord (Number Plus) (Atom a InPlus) a.0 refl (first_one a l s) (spelled-value is (token-one g)))
          (later (Number Plus) tt q m ts (tokens-one g) f
          (record { heads = sound.heads; neg = sound.neg; pos = sound.pos; rules = sound.rules; headed = sound.headed; table = sound.table; plus = others-one a l s; minus = sound.minus })
          rest) (rw r)

  pub at-minus : (p : Part) (m : ℕ) (t : Token) (ts : List Token) → t ∷ ts ≡ minus_tokens p.minus m
      → NoPlus p.heads p.neg p.pos p.rules p.table p.plus → Sound p
      → Spelled w t → Spelling ws ts → heard len (Number Minus) (w ∷ ws) ≡ says p
  unfolding Proper Rest RestRole Fits FitsRole on_number on_listed with with_atom minus_tokens atom_tokens
  at-minus p m t ts e f sound is rest = go p.minus refl
    where
      go : (l : List TextAtom) → p.minus ≡ l → heard len (Number Minus) (w ∷ ws) ≡ says p
      go [] r =
          let g = e ∙ ap (λ l. minus_tokens l m) r in
          heard-one len w ws (Number Minus) (Number Models) Silent p p (number-move w Minus 0 (spelled-value is (token-one g)) ∙ eq_yes _ _ _ _ refl)
          (later (Number Models) tt p m ts (tokens-one g) (record { behind-plus = f; no_minus = r }) sound rest) refl
      go (a ∷ l) r =
          let g = e ∙ ap (λ l. minus_tokens l m) r in
          let s = ap (every from_one) (sym r) ∙ sound.minus in
          let q : Part = record { heads = p.heads; pos = p.pos; neg = p.neg; rules = p.rules; table = p.table; plus = p.plus; minus = l } in
          heard-one len w ws (Number Minus) (Number Minus) (Atom a InMinus) q p
          (listed-move w Minus (Number Models) (Number Minus) (Atom a InMinus) a.0 refl (first_one a l s) (spelled-value is (token-one g)))
          (later (Number Minus) tt q m ts (tokens-one g) f
          (record { heads = sound.heads; neg = sound.neg; pos = sound.pos; rules = sound.rules; headed = sound.headed; table = sound.table; plus = sound.plus; minus = others-one a l s })
          rest) (rw r)

  pub at-models : (p : Part) (m : ℕ) (t : Token) (ts : List Token) → t ∷ ts ≡ number m ∷ []
      → NoMinus p.heads p.neg p.pos p.rules p.table p.plus p.minus → Sound p
      → Spelled w t → Spelling ws ts → heard len (Number Models) (w ∷ ws) ≡ says p
  unfolding Proper Rest Fits FitsRole on_number with
  at-models p m t ts e f sound is rest =
      heard-one len w ws (Number Models) End Silent p p (number-move w Models m (spelled-value is (token-one e)))
      (later End tt p m ts (tokens-one e) f sound rest) refl
