-- A text is read as a book exactly where it is that book's text: what is written is read, and what is read was written. The bound on the
-- numbers, the text's length, refuses nothing that a book's text has: an atom's number is at most that of the output lines, and a body has
-- no more literals than bytes.
use mathlib.Core.Path.{◌≡◌, refl, sym, ◌∙◌, ap}
use mathlib.Core.Logic.{◌↔◌}
use mathlib.Core.List.{List, [], ◌∷◌, ◌++◌, Memᴰ}
use Prim.Native.Nat.{ℕ, zero, suc, ◌+◌, ◌≤◌}
use native.Mathlib.Nat.{sub-zero}
use native.Mathlib.Omega.{arith}
use lib.ListN.{length, length-append}
use Rattle.meaning.specs.Books.{Rule, Book}
use Rattle.meaning.specs.Choice.{if_lt}
use Rattle.meaning.proofs.Choice.{eq_yes, lt_no, eq-either, lt-either}
use Rattle.aspif.specs.Text.{header, opening, last, body_bytes, rule_line, rule_lines, output_line, output_lines, text_of}
use Rattle.aspif.specs.Text.{RuleLoose, Loose, Formed}
use Rattle.aspif.specs.Reading.{got, outside, skip, rule_in, top_rule, top_rules, ended, book_from}
use Rattle.aspif.proofs.Pieces.{not-got, on-got, on-outside, then-got, skip-there, skip-back, skip-other, item-other}
use Rattle.aspif.proofs.PartsRead.{Climbs, part-long, climbs-rise, rises-climb}
use Rattle.aspif.proofs.RulesRead.{RuleWithin, rules-there, RulesRead, rules-back}
use Rattle.aspif.proofs.OutputsRead.{outputs-long, outputs-there, outputs-back}
use Rattle.aspif.proofs.Largest.{atom-below, atoms-top, rule-below, rules-top}

-- ---- the bound

-- a rule has no more literals than its line has bytes, and the text has its line
body-long : (r : Rule) → length r.pos + length r.neg ≤ length (rule_line r)
unfolding rule_line body_bytes
body-long r = simp length-append (omega (arith, part-long 32 [] r.pos, part-long 32 (45 ∷ []) r.neg))

line-within : (l : List Rule) (r : Rule) → Memᴰ r l → length (rule_line r) ≤ length (rule_lines l)
unfolding rule_lines
line-within [] r h = elim h [ ]
line-within (q ∷ l) r (Memᴰ.head p) = rw p (simp length-append (omega arith))
line-within (q ∷ l) r (Memᴰ.tail m) = simp length-append (omega (arith, line-within l r m))

module _ (b : Book) where
  pub text-holds : (length (rule_lines b.rules) ≤ length (text_of b)) × (b.atoms ≤ length (text_of b))
  unfolding text_of
  text-holds = (simp length-append (omega arith), simp length-append (omega (arith, outputs-long 0 b.atoms)))

  bound-idle : Loose b → (r : Rule) → Memᴰ r b.rules → RuleWithin (length (text_of b)) r
  bound-idle f r m =
      let g = f r m in
      let (p, q) = text-holds in
      record {
        head = omega (arith, g.head);
        count = omega (arith, body-long r, line-within b.rules r m);
        pos = record { each = λ a k. omega (arith, g.pos.below a k) };
        neg = record { each = λ a k. omega (arith, g.neg.below a k) };
        pos-climbs = rises-climb r.pos g.pos.ascends;
        neg-climbs = rises-climb r.neg g.neg.ascends;
      }

-- ---- written, then read

-- an output line or the closing line follows the rule lines, and the closing line the output lines
rules-stop : (most n : ℕ) → rule_in most (output_lines 0 n ++ last) ≡ outside
unfolding rule_in output_lines output_line
rules-stop most zero = on-outside _ _ (item-other most opening 1 _ (skip-other _ _ _ _ (λ e. omega arith)))
rules-stop most (suc n) = on-outside _ _ (item-other most opening 1 _ (skip-other _ _ _ _ (λ e. omega arith)))

outputs-stop : (k : ℕ) → skip (output_line k) last ≡ outside
unfolding output_line
outputs-stop k = skip-other _ _ _ _ (λ e. omega arith)

loose-top : (b : Book) → Loose b → top_rules b.rules ≤ b.atoms
unfolding top_rule
loose-top b f =
    rules-top b.atoms b.rules (λ r m. let g = f r m in
    omega (arith, g.head, atoms-top b.atoms r.pos g.pos.below, atoms-top b.atoms r.neg g.neg.below))

text-read : (b : Book) → top_rules b.rules ≤ b.atoms → ((r : Rule) → Memᴰ r b.rules → RuleWithin (length (text_of b)) r)
    → book_from (text_of b) ≡ got b []
unfolding book_from text_of ended
text-read b h w =
    on-got _ _ (skip-there header _)
    ∙ on-got _ _ (rules-there _ _ (rules-stop _ b.atoms) b.rules w)
    ∙ on-got _ _ (outputs-there last outputs-stop b.atoms)
    ∙ on-got _ _ (skip-there last [])
    ∙ eq_yes _ _ _ _ refl ∙ lt_no _ _ _ _ h

pub read-there : (b : Book) → Loose b → book_from (text_of b) ≡ got b []
read-there b f = text-read b (loose-top b f) (bound-idle b f)

-- ---- read, then written

module _ (rules : List Rule) (climb : (r : Rule) → Memᴰ r rules → Climbs 1 r.pos × Climbs 1 r.neg) where
  top-loose : (n : ℕ) → top_rules rules ≤ n → (r : Rule) → Memᴰ r rules → RuleLoose n r
  unfolding top_rule
  top-loose n h r m =
      let g = rule-below rules r m in
      let (p, q) = climb r m in
      record {
        head = omega arith;
        pos = record { ascends = climbs-rise p; below = λ a k. omega (arith, atom-below r.pos a k) };
        neg = record { ascends = climbs-rise q; below = λ a k. omega (arith, atom-below r.neg a k) };
      }

-- nothing was left, and the output lines reach
pub record Ends (rules : List Rule) (n : ℕ) (l : List ℕ) (b : Book) : Type 0 where
  pub nothing : l ≡ []
  pub top : top_rules rules ≤ n
  pub book : b ≡ record { atoms = n; rules = rules }

none_left : (l : List ℕ) → length l ≡ 0 → l ≡ []
none_left [] e = refl
none_left (x ∷ l) e = absurd (omega arith)

ended-back : (rules : List Rule) (n : ℕ) (l : List ℕ) (b : Book) (r : List ℕ) → ended rules n l ≡ got b r → Ends rules n l b
unfolding ended
ended-back rules n l b r =
    eq-either (λ z. z ≡ got b r → Ends rules n l b) (length l) 0 (if_lt n (top_rules rules) outside (got this [])) outside
    (λ h. lt-either (λ z. z ≡ got b r → Ends rules n l b) n (top_rules rules) outside (got this [])
    (λ g. not-got)
    (λ g e. record { nothing = none_left l h; top = g; book = cc }))
    (λ h. not-got)
  where
    this : Book
    this = record { atoms = n; rules = rules }

-- the parts of the text, behind one another
lines-formed : {s l k j i : List ℕ} {rules : List Rule} {n : ℕ} {b : Book} → s ≡ header ++ l → RulesRead [] l rules k → k ≡ output_lines 0 n ++ j
    → j ≡ last ++ i → Ends rules n i b → Formed s b
unfolding text_of
lines-formed h t o c d =
    rw d.book (record {
      loose = top-loose _ (rw (← t.whole) at t.climb) _ d.top;
      text = h ∙ ap (λ x. header ++ x) (rw (← t.whole) at t.bytes ∙ rw (o, c, d.nothing));
    })

pub read_back : (s : List ℕ) (b : Book) (r : List ℕ) → book_from s ≡ got b r → Formed s b
unfolding book_from
read_back s b r e =
    let h = then-got _ _ e in
    let l = then-got _ _ h.then in
    let o = then-got _ _ l.then in
    let c = then-got _ _ o.then in
    lines-formed (skip-back header s h.rest h.value h.first)
    (rules-back (length s) _ [] h.rest l.value l.rest l.first)
    (rw sub-zero at (outputs-back _ 0 l.rest o.value o.rest o.first).1)
    (skip-back last o.rest c.rest c.value c.first)
    (ended-back l.value o.value c.rest b r c.then)

pub read-exact : (s : List ℕ) (b : Book) → (book_from s ≡ got b []) ↔ Formed s b
read-exact s b = (read_back s b [], λ f. rw f.text (read-there b f.loose))

-- one text, one book
pub text-one : (s : List ℕ) (b c : Book) → Formed s b → Formed s c → b ≡ c
text-one s b c f g =
    let e : got b [] ≡ got c [] = sym ((read-exact s b).1 f) ∙ (read-exact s c).1 g in cc
