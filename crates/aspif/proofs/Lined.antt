-- What the functions that read whole lines find on each way through them is what specs/Reading says.
use mathlib.Core.Path.{◌≡◌, refl, sym, ◌∙◌, ap}
use mathlib.Core.Bool.{Bool}
use mathlib.Core.List.{List, [], ◌∷◌, ◌++◌}
use Prim.Native.Nat.{ℕ, suc, ◌+◌, ◌-◌, max, ◌<◌, ◌≤◌}
use native.Mathlib.Nat.{sub-zero}
use native.Mathlib.Omega.{arith}
use lib.ListN.{length, drop, length-append}
use Rattle.meaning.specs.Books.{atom_no, Rule}
use Rattle.meaning.proofs.Choice.{eq_yes, eq_no}
use Rattle.book.specs.declared.making.Making.{Making}
use Rattle.book.specs.Making.{Made, Adds}
use Rattle.aspif.specs.declared.part.Part.{Part}
use Rattle.std.specs.Prelude.{Option, Some, None}
use Rattle.aspif.specs.Text.{opening, normal, plus, minus, line_end}
use Rattle.aspif.specs.Reading.{skip, item_in, whole_part, body_in, rule_in, rules_in}
use Rattle.aspif.specs.Reading.{top_rule, top_rules}
use Rattle.aspif.specs.Scanning.{went, seen, Reaches}
use Rattle.aspif.specs.Gathering.{Rises, PartSeen}
use Rattle.aspif.specs.Lining.{Lined, lined, other, RulesSeen}
use Rattle.aspif.proofs.Pieces.{on-got, on-outside, item_back}
use Rattle.aspif.proofs.Scanned.{reaches}
use Rattle.aspif.proofs.PartsRead.{part-rises}

-- ---- a body

module _ (s : List ℕ) (at h c : ℕ) (m : Making) (before : List ℕ) {p q : Part} {t u : List Bool}
    (a : PartSeen s plus at p t) (b : PartSeen s minus p.next q u) where
  pub body-no-end : (x : Option ℕ) → went s x ≡ skip line_end (drop q.next s) → x ≡ None
      → Lined s (body_in (length s) h c (drop at s)) at m before None before
  unfolding body_in went
  body-no-end x e f = other (on-got _ _ a.read ∙ on-got _ _ b.read ∙ on-outside _ _ (sym e ∙ ap (went s) f))

  module _ (x : Option ℕ) (e : went s x ≡ skip line_end (drop q.next s)) {n : ℕ} (f : x ≡ Some n) where
    pub body-other-count : (c ≡ p.count + q.count → ⊥) → Lined s (body_in (length s) h c (drop at s)) at m before None before
    unfolding body_in went
    body-other-count g =
        other (on-got _ _ a.read ∙ on-got _ _ b.read ∙ on-got _ _ (sym e ∙ ap (went s) f)
        ∙ eq_no _ _ _ _ (λ k. g (k ∙ rw (a.count, b.count))))

    pub body-lined : c ≡ p.count + q.count → Reaches (q.next + 1) (length s) x → {made : Making} {after : List ℕ}
        → Adds (record { head = atom_no (h - 1); pos = a.atoms; neg = b.atoms } ∷ []) m before made after → 0 < h
        → {top : ℕ} → top ≡ max h (max p.top q.top)
        → Lined s (body_in (length s) h c (drop at s)) at m before (Some (made, top, n)) after
    unfolding body_in went top_rule
    body-lined g r d i j =
        let (k, l) = reaches r f in
        let w : h - 1 + 1 ≡ h = omega arith in
        lined {next = n} (on-got _ _ a.read ∙ on-got _ _ b.read ∙ on-got _ _ (sym e ∙ ap (went s) f)
        ∙ eq_yes _ _ _ _ (g ∙ rw (a.count, b.count)))
        d (j ∙ rw (a.top, b.top, w)) (omega (arith, a.ahead, b.ahead)) l

-- a part that was read ascends
pub seen-rises : {s sign : List ℕ} {at : ℕ} {p : Part} {t : List Bool} (a : PartSeen s sign at p t) → Rises a.atoms
unfolding whole_part
seen-rises {s} {sign} {at} a = part-rises (length s) sign _ (drop at s) a.atoms _ a.read

-- ---- a rule line

module _ (s : List ℕ) (at : ℕ) (m : Making) (before : List ℕ) (y : Option (ℕ × ℕ)) (e : seen s y ≡ item_in (length s) opening 1 (drop at s)) where
  pub rule-no-head : y ≡ None → Lined s (rule_in (length s) (drop at s)) at m before None before
  unfolding rule_in seen
  rule-no-head f = other (on-outside _ _ (sym e ∙ ap (seen s) f))

  module _ {h k : ℕ} (f : y ≡ Some (h, k)) where
    pub head-above : 0 < h
    unfolding seen
    head-above = let (p, q) = item_back (length s) opening 1 (drop at s) (drop k s) h (sym e ∙ ap (seen s) f) in omega arith

    pub rule-no-count : (z : Option (ℕ × ℕ)) → seen s z ≡ item_in (length s) normal 0 (drop k s) → z ≡ None → Lined s (rule_in (length s) (drop at s)) at m before None before
    unfolding rule_in seen
    rule-no-count z g i = other (on-got _ _ (sym e ∙ ap (seen s) f) ∙ on-outside _ _ (sym g ∙ ap (seen s) i))

    pub rule-lined : (z : Option (ℕ × ℕ)) → seen s z ≡ item_in (length s) normal 0 (drop k s) → {c j : ℕ} → z ≡ Some (c, j) → at ≤ j → {r : Option (Making × ℕ × ℕ)} {after : List ℕ}
        → Lined s (body_in (length s) h c (drop j s)) j m before r after → Lined s (rule_in (length s) (drop at s)) at m before r after
    unfolding rule_in seen
    rule-lined z g i l (lined {next = o} p d t n q) = lined {next = o} (on-got _ _ (sym e ∙ ap (seen s) f) ∙ on-got _ _ (sym g ∙ ap (seen s) i) ∙ p) d t (omega arith) q
    rule-lined z g i l (other p) = other (on-got _ _ (sym e ∙ ap (seen s) f) ∙ on-got _ _ (sym g ∙ ap (seen s) i) ∙ p)

-- ---- all rule lines

top-more : (l : List Rule) (r : Rule) → top_rules (l ++ (r ∷ [])) ≡ max (top_rules l) (top_rule r)
unfolding top_rules
top-more [] r = omega arith
top-more (q ∷ l) r = rw (top-more l r) (omega arith)

-- the rules acc were read, and what is left is to be read behind them
pub record Lines (s : List ℕ) (at : ℕ) (draft : List ℕ) (making : Making) (top next : ℕ) : Type 0 where
  pub acc : List Rule
  pub rest : rules_in (suc (length s - at)) (length s) [] (drop at s) ≡ rules_in (suc (length s - at) - length acc) (length s) acc (drop next s)
  pub ahead : at + length acc ≤ next
  pub inside : next ≤ length s
  pub top-is : top ≡ top_rules acc
  pub made : Made acc making draft

-- the parts of a rule that was read
record SameRule (m n : Making) (t u i j : ℕ) : Type 0 where
  making : m ≡ n
  top : t ≡ u
  next : i ≡ j

same-rule : {m n : Making} {t u i j : ℕ} → ◌≡◌ {A = Option (Making × ℕ × ℕ)} (Some (m, t, i)) (Some (n, u, j)) → SameRule m n t u i j
same-rule {m} {n} {t} {u} {i} {j} e =
    let p : ◌≡◌ {A = Making × ℕ × ℕ} (m, t, i) (n, u, j) = cc in
    record {
      making = ap (λ (x : Making × ℕ × ℕ). x.0) p;
      top = ap (λ (x : Making × ℕ × ℕ). x.1) p;
      next = ap (λ (x : Making × ℕ × ℕ). x.2) p;
    }

module _ (s : List ℕ) (at : ℕ) where
  pub lines_start : at ≤ length s → {m : Making} {d : List ℕ} → Made [] m d → Lines s at d m 0 at
  unfolding top_rules
  lines_start h m = record { acc = []; rest = rw sub-zero; ahead = omega arith; inside = h; top-is = refl; made = m }

  module _ {d : List ℕ} {m : Making} {top next : ℕ} (g : Lines s at d m top next) where
    fuel-left : suc (length s - at) - length g.acc ≡ suc (length s - at - length g.acc)
    fuel-left = omega (arith, g.ahead, g.inside)

    pub lines_end : {y : Option (Making × ℕ × ℕ)} {e : List ℕ} → Lined s (rule_in (length s) (drop next s)) next m d y e → y ≡ None
        → RulesSeen s at (record { making = m; top = top; next = next }) e
    unfolding rules_in
    lines_end (lined p a t n q) f = let z : ◌≡◌ {A = ℕ} 0 1 = cc in absurd (omega arith)
    lines_end (other p) f = record {
      rules = g.acc;
      read = g.rest ∙ rw fuel-left (on-outside _ _ p);
      inside = g.inside;
      top = g.top-is;
      made = g.made;
    }

    pub lines-behind : {y : Option (Making × ℕ × ℕ)} {e : List ℕ} → Lined s (rule_in (length s) (drop next s)) next m d y e
        → {n : Making} {t i : ℕ} → y ≡ Some (n, t, i) → (next < i) × (i ≤ length s)
    lines-behind (lined {next = j} p a t n q) f = let z = same-rule f in (omega (arith, z.next), omega (arith, z.next))
    lines-behind (other p) f = let z : ◌≡◌ {A = ℕ} 0 1 = cc in absurd (omega arith)

    pub lines_more : {y : Option (Making × ℕ × ℕ)} {e : List ℕ} → Lined s (rule_in (length s) (drop next s)) next m d y e
        → {n : Making} {t i : ℕ} → y ≡ Some (n, t, i) → {w : ℕ} → w ≡ max top t → Lines s at e n w i
    unfolding rules_in
    lines_more (other p) f v = let z : ◌≡◌ {A = ℕ} 0 1 = cc in absurd (omega arith)
    lines_more (lined {r = r} {n = o} {top = u} {next = j} p a t l q) {n = n} {t = k} {i = i} f v =
        let w = same-rule f in
        let z = w.next in
        let b : suc (length s - at) - length (g.acc ++ (r ∷ [])) ≡ length s - at - length g.acc
        = rw length-append (omega (arith, g.ahead, g.inside)) in
        record {
          acc = g.acc ++ (r ∷ []);
          rest = g.rest ∙ rw (fuel-left, b, ← z) (on-got _ _ p);
          ahead = rw length-append (omega (arith, g.ahead));
          inside = omega (arith, w.next);
          top-is = v ∙ rw (top-more g.acc r, ← g.top-is, ← t, w.top);
          made = rw (← w.making) (a.behind g.acc g.made);
        }
