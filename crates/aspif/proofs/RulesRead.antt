-- The rule lines of a text, written and then read, and read and then written. Reading takes as many lines as there are: what follows them is
-- none.
--
--   RuleWithin most r   every number of the rule's line is at most `most`
use mathlib.Core.Path.{◌≡◌, refl, sym, ◌∙◌, ap, subst}
use mathlib.Core.List.{List, [], ◌∷◌, ◌++◌, append_assoc, append-nil, Memᴰ}
use Prim.Native.Nat.{ℕ, zero, suc, ◌+◌, ◌-◌, ◌<◌, ◌≤◌}
use Prim.{tt}
use native.Mathlib.Omega.{arith}
use lib.ListN.{length, length-append}
use Rattle.meaning.specs.declared.AtomNo.{AtomNo}
use Rattle.meaning.specs.Books.{atom_no, Rule}
use Rattle.meaning.specs.Choice.{if_eq}
use Rattle.meaning.proofs.Choice.{eq_yes, eq-either}
use Rattle.decimal.specs.Fewest.{decimal}
use Rattle.aspif.specs.Text.{opening, normal, plus, minus, line_end, part_bytes, body_bytes, rule_line, rule_lines}
use Rattle.aspif.specs.Reading.{Got, got, outside, on_got, skip, digit_count, item_in, whole_part, body_in, rule_in, rules_in}
use Rattle.aspif.proofs.Pieces.{not-got, on-got, on-outside, then-got, skip-there, skip-back, skip-other, no_digit, item-there, item_back, item-none, item-other}
use Rattle.aspif.proofs.PartsRead.{Climbs, PartWithin, Sign, part-ends, part-there, part-short, PartRead, part-back}

pub record RuleWithin (most : ℕ) (r : Rule) : Type 0 where
  pub head : r.head.0 + 1 ≤ most
  pub count : length r.pos + length r.neg ≤ most
  pub pos : PartWithin most r.pos
  pub neg : PartWithin most r.neg
  pub pos-climbs : Climbs 1 r.pos
  pub neg-climbs : Climbs 1 r.neg

-- ---- a rule line

plus-sign : Sign plus
plus-sign = record { ends = λ l. no_digit 32 l (omega arith) }

minus-sign : Sign minus
minus-sign = record { ends = λ l. no_digit 32 (45 ∷ l) (omega arith) }

-- a minus or the line end follows the positive literals, the line end the negative ones
minus-ends : (l : List AtomNo) (r : List ℕ) → digit_count (part_bytes minus l ++ (line_end ++ r)) ≡ 0
minus-ends l r = part-ends minus minus-sign l (line_end ++ r) (no_digit 10 r (omega arith))

-- a body of c literals behind the head h was read
record BodyRead (h c : ℕ) (l : List ℕ) (r : Rule) (rest : List ℕ) : Type 0 where
  head : r.head.0 + 1 ≡ h
  count : length r.pos + length r.neg ≡ c
  bytes : l ≡ body_bytes r ++ rest
  pos-climbs : Climbs 1 r.pos
  neg-climbs : Climbs 1 r.neg

body-read : (h c : ℕ) (l : List ℕ) (pos neg : List AtomNo) {k j i : List ℕ} → 0 < h → c ≡ length pos + length neg
    → PartRead plus [] 1 l pos k → PartRead minus [] 1 k neg j → j ≡ line_end ++ i
    → BodyRead h c l (record { head = atom_no (h - 1); pos = pos; neg = neg }) i
unfolding body_bytes
body-read h c l pos neg p n x y z = record {
  head = omega arith;
  count = sym n;
  bytes = x.bytes ∙ ap (λ m. part_bytes plus x.part ++ m) (y.bytes ∙ ap (λ m. part_bytes minus y.part ++ m) z)
      ∙ rw (x.whole, y.whole, append_assoc, append_assoc);
  pos-climbs = rw x.whole x.climbs;
  neg-climbs = rw y.whole y.climbs;
}

line_of : (l k j : List ℕ) (h c : ℕ) (r : Rule) (rest : List ℕ) → l ≡ opening ++ (decimal h ++ k) → k ≡ normal ++ (decimal c ++ j)
    → BodyRead h c j r rest → l ≡ rule_line r ++ rest
unfolding rule_line
line_of l k j h c r rest f g d =
    rw (f, g, d.bytes, ← d.head, ← d.count) (sym (rw (append_assoc, append_assoc, append_assoc, append_assoc)))

module _ (most : ℕ) where
  line-stops : (sign : List ℕ) (x : ℕ) (m r : List ℕ) (least : ℕ) → sign ≡ x ∷ m → (x ≡ 10 → ⊥)
      → item_in most sign least (line_end ++ r) ≡ outside
  line-stops sign x m r least e h = item-other most sign least (line_end ++ r) (rw e differs)
    where
      differs : skip (x ∷ m) (line_end ++ r) ≡ outside
      differs = skip-other x m 10 r h

  minus-stops : (l : List AtomNo) (r : List ℕ) (least : ℕ) → item_in most plus least (part_bytes minus l ++ (line_end ++ r)) ≡ outside
  unfolding part_bytes
  minus-stops [] r least = line-stops plus 32 [] r least refl (λ e. omega arith)
  minus-stops (a ∷ l) r least =
      rw append_assoc
      (item-none most plus least _ _ tt (skip-there plus _) (no_digit 45 _ (omega arith)))

  body-ends : (r : Rule) (rest : List ℕ) → digit_count (body_bytes r ++ rest) ≡ 0
  unfolding body_bytes
  body-ends r rest = rw (append_assoc, append_assoc) (part-ends plus plus-sign r.pos _ (minus-ends r.neg rest))

  body-there : (r : Rule) (rest : List ℕ) → RuleWithin most r
      → body_in most (r.head.0 + 1) (length r.pos + length r.neg) (body_bytes r ++ rest) ≡ got r rest
  unfolding body_in body_bytes whole_part
  body-there r rest w =
      let e : r.head.0 + 1 - 1 ≡ r.head.0 = omega arith in
      rw (append_assoc, append_assoc)
      (on-got _ _ (part-there most plus plus-sign _ (minus-stops r.neg rest) (minus-ends r.neg rest) _ r.pos [] 1
      (part-short 32 [] r.pos _) w.pos-climbs w.pos)
      ∙ on-got _ _ (part-there most minus minus-sign _ (λ least. line-stops minus 32 (45 ∷ []) rest least refl (λ e. omega arith))
      (no_digit 10 rest (omega arith)) _ r.neg [] 1 (part-short 32 (45 ∷ []) r.neg _) w.neg-climbs w.neg)
      ∙ on-got _ _ (skip-there line_end rest) ∙ eq_yes _ _ _ _ refl ∙ rw e)

  pub rule-there : (r : Rule) (rest : List ℕ) → RuleWithin most r → rule_in most (rule_line r ++ rest) ≡ got r rest
  unfolding rule_in rule_line
  rule-there r rest w =
      rw (append_assoc, append_assoc, append_assoc, append_assoc)
      (on-got _ _ (item-there most opening 1 (r.head.0 + 1) _ (omega arith) w.head (no_digit 32 _ (omega arith)))
      ∙ on-got _ _ (item-there most normal 0 (length r.pos + length r.neg) _ (omega arith) w.count (body-ends r rest))
      ∙ body-there r rest w)

  body_back : (h c : ℕ) (l : List ℕ) (r : Rule) (rest : List ℕ) → 0 < h → body_in most h c l ≡ got r rest → BodyRead h c l r rest
  unfolding body_in whole_part
  body_back h c l r rest p e =
      let a = then-got _ _ e in
      let b = then-got _ _ a.then in
      let d = then-got _ _ b.then in
      made (part-back most plus _ [] 1 l a.value a.rest (omega arith) a.first)
      (part-back most minus _ [] 1 a.rest b.value b.rest (omega arith) b.first)
      (skip-back line_end b.rest d.rest d.value d.first) d.then
    where
      made : {pos neg : List AtomNo} {k j i : List ℕ} → PartRead plus [] 1 l pos k → PartRead minus [] 1 k neg j → j ≡ line_end ++ i
          → if_eq c (length pos + length neg) (got (record { head = atom_no (h - 1); pos = pos; neg = neg }) i) outside ≡ got r rest
          → BodyRead h c l r rest
      made {pos} {neg} {k} {j} {i} x y z =
          eq-either (λ g. g ≡ got r rest → BodyRead h c l r rest) c (length pos + length neg)
          (got (record { head = atom_no (h - 1); pos = pos; neg = neg }) i) outside
          (λ n (f : got (record { head = atom_no (h - 1); pos = pos; neg = neg }) i ≡ got r rest).
          let q : record { head = atom_no (h - 1); pos = pos; neg = neg } ≡ r = cc in
          let w : i ≡ rest = cc in
          subst (λ g. BodyRead h c l g rest) q (subst (λ g. BodyRead h c l (record { head = atom_no (h - 1); pos = pos; neg = neg }) g) w
          (body-read h c l pos neg p n x y z)))
          (λ n. not-got)

  pub rule-back : (l : List ℕ) (r : Rule) (rest : List ℕ) → rule_in most l ≡ got r rest
      → (l ≡ rule_line r ++ rest) × Climbs 1 r.pos × Climbs 1 r.neg
  unfolding rule_in rule_line
  rule-back l r rest e =
      let a = then-got _ _ e in
      let b = then-got _ _ a.then in
      let (f, h) = item_back most opening 1 l a.rest a.value a.first in
      let (g, k) = item_back most normal 0 a.rest b.rest b.value b.first in
      let d = body_back a.value b.value b.rest r rest (omega arith) b.then in
      (line_of l a.rest b.rest a.value b.value r rest f g d, d.pos-climbs, d.neg-climbs)

-- ---- all rule lines

pub lines_long : (l : List Rule) → length l ≤ length (rule_lines l)
unfolding rule_lines rule_line
lines_long [] = omega arith
lines_long (r ∷ l) = simp length-append (omega (arith, lines_long l))

module _ (most : ℕ) (rest : List ℕ) (stops : rule_in most rest ≡ outside) where
  rules-on : (f : ℕ) (l acc : List Rule) → length l < f → ((r : Rule) → Memᴰ r l → RuleWithin most r)
      → rules_in f most acc (rule_lines l ++ rest) ≡ got (acc ++ l) rest
  unfolding rules_in rule_lines
  rules-on zero l acc h w = absurd (omega arith)
  rules-on (suc f) [] acc h w = on-outside _ _ stops ∙ rw append-nil
  rules-on (suc f) (r ∷ l) acc h w =
      rw append_assoc (on-got _ _ (rule-there most r (rule_lines l ++ rest) (w r (Memᴰ.head refl)))
      ∙ rules-on f l (acc ++ (r ∷ [])) (omega arith) (λ q m. w q (Memᴰ.tail m)) ∙ rw append_assoc)

  pub rules-there : (l : List Rule) → ((r : Rule) → Memᴰ r l → RuleWithin most r)
      → rules_in (suc (length (rule_lines l ++ rest))) most [] (rule_lines l ++ rest) ≡ got l rest
  rules-there l w = rules-on _ l [] (simp length-append (omega (arith, lines_long l))) w

-- what was read behind acc
pub record RulesRead (acc : List Rule) (l : List ℕ) (x : List Rule) (rest : List ℕ) : Type 0 where
  pub rules : List Rule
  pub whole : x ≡ acc ++ rules
  pub climb : (r : Rule) → Memᴰ r rules → Climbs 1 r.pos × Climbs 1 r.neg
  pub bytes : l ≡ rule_lines rules ++ rest

climb-more : (r : Rule) (l : List Rule) → Climbs 1 r.pos × Climbs 1 r.neg
    → ((q : Rule) → Memᴰ q l → Climbs 1 q.pos × Climbs 1 q.neg) → (q : Rule) → Memᴰ q (r ∷ l)
    → Climbs 1 q.pos × Climbs 1 q.neg
climb-more r l c f q (Memᴰ.head p) = rw p c
climb-more r l c f q (Memᴰ.tail m) = f q m

pub rules-back : (most f : ℕ) (acc : List Rule) (l : List ℕ) (x : List Rule) (rest : List ℕ) → rules_in f most acc l ≡ got x rest
    → RulesRead acc l x rest
unfolding on_got rules_in rule_lines
rules-back most zero acc l x rest e = record { rules = []; whole = cc (append-nil acc); climb = λ r m. elim m [ ]; bytes = cc }
rules-back most (suc f) acc l x rest e = by-rule (λ a k. rules-back most f a k x rest) (rule_in most l) refl e
  where
    by-rule : ((a : List Rule) (k : List ℕ) → rules_in f most a k ≡ got x rest → RulesRead a k x rest) → (z : Got Rule) → rule_in most l ≡ z
        → on_got z (got acc l) (λ r k. rules_in f most (acc ++ (r ∷ [])) k) ≡ got x rest → RulesRead acc l x rest
    by-rule below outside i e = record { rules = []; whole = cc (append-nil acc); climb = λ r m. elim m [ ]; bytes = cc }
    by-rule below (got r k) i e =
        let (b, p, n) = rule-back most l r k i in
        let t = below (acc ++ (r ∷ [])) k e in
        record {
          rules = r ∷ t.rules;
          whole = t.whole ∙ append_assoc acc (r ∷ []) t.rules;
          climb = climb-more r t.rules (p, n) t.climb;
          bytes = b ∙ rw append_assoc (ap (λ j. rule_line r ++ j) t.bytes);
        }
