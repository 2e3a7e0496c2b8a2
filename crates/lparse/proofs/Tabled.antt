-- The code's open rule stands for the rule of the text that was begun: its tables for the lists of atoms, its array for the heads. The
-- code's numbers are the text's.
use mathlib.Core.Path.{◌≡◌, refl, ap, sym, ◌∙◌}
use mathlib.Core.Bool.{Bool, true, false, ◌||◌}
use mathlib.Core.List.{List, [], ◌∷◌, ◌++◌, map, map-append, append-nil}
use mathlib.Core.List.Memᴰ
use mathlib.Core.List.{Memᴰ}
use mathlib.Core.Logic.{◌⊎◌, ⊎_elim}
use Prim.Native.Nat.{ℕ, zero, suc, ◌+◌, ◌-◌, ◌<◌, ◌≤◌}
use native.Mathlib.Omega.{arith}
use lib.Dec.{eqb}
use lib.ListN.{length, get_or, set, length-set, length-replicate, get_or-eq_default}
use lib.Seq.{get_or-set_same, get_or-set_other}
use borrow.Author.Tests.{eqb-true, eqb-false}
use Rattle.meaning.specs.Sets.{some}
use Rattle.meaning.proofs.Tests.{apart, refuted, lt-or-le}
use Rattle.meaning.proofs.Sets.{some-append, some-by}
use Rattle.book.specs.Making.{atoms_from, listed}
use Rattle.book.proofs.AtomsFrom.{atoms-same, atoms-enough}
use Rattle.imported.specs.Text.{basic, Text}
use Rattle.imported.specs.Making.{mentioned, distinct, atom_count, number, part, free_count, made, free_rule, opposite_rule, choice_rules, made_from, plus_rule, minus_rule}
use Rattle.imported.proofs.Numbers.{Mentioned, number-below}
use Rattle.imported.proofs.Parts.{Covered}
use Rattle.imported.specs.declared.TextAtom.{TextAtom}
use Rattle.lparse.specs.declared.due.Standing.TheVariants.{Head as InHead, Free as InFree, Negative as InNegative, Positive as InPositive, Table as InTable, Plus as InPlus, Minus as InMinus}
use Rattle.lparse.specs.declared.due.Said.{Said}
use Rattle.lparse.specs.declared.due.Said.TheVariants.{Nothing as Silent, Choice as Chooses, Atom}
use Rattle.lparse.specs.declared.rule.Opened.{Opened}
use Rattle.lparse.specs.declared.form.Forming.{Forming}
use Rattle.lparse.specs.Collect.{numbers_of, atoms_said}
use Rattle.lparse.specs.Opened.{capped, no_atoms, opening, head_more, opened_by, head_rules, open_rules, Heads, Ready}
use Rattle.lparse.specs.Forming.{place_of, entry_rules, formed_said, said_rules}
use Rattle.lparse.proofs.Entries.{none_in}
use Rattle.lparse.proofs.Noting.{numbers-atoms, numbers-length}
use Rattle.lparse.proofs.HeadRules.{heads-none, heads-more}
use Rattle.lparse.proofs.Remaining.{Begun, begun_after, open_texts, begun_texts, entry_of}

-- ---- a table stands for a list of the text's atoms

module _ (t : Text) where
  abbrev numbered : List TextAtom → ℕ → Bool
  numbered l n = some (λ a. eqb (number t a) n) l

  pub record Tabled (table : List Bool) (l : List TextAtom) : Type 0 where
    pub long : length table ≡ 255
    pub holds : (n : ℕ) → n < 255 → get_or table n false ≡ numbered l n

  pub tabled-none : Tabled no_atoms []
  unfolding some
  tabled-none = record { long = length-replicate 255 false; holds = λ n h. none_in 255 n }

  or-true : (b : Bool) → (b || true) ≡ true
  or-true true = refl
  or-true false = refl

  or-false : (b : Bool) → (b || false) ≡ b
  or-false true = refl
  or-false false = refl

  pub tabled-more : (table : List Bool) (l : List TextAtom) (a : TextAtom) → number t a < 255 → Tabled table l
      → Tabled (set table (number t a) true) (l ++ (a ∷ []))
  unfolding some
  tabled-more table l a h s = record {
    long = length-set table (number t a) true ∙ s.long;
    holds = λ n f. go n f (eqb (number t a) n) refl;
  }
    where
      go : (n : ℕ) → n < 255 → (b : Bool) → eqb (number t a) n ≡ b → get_or (set table (number t a) true) n false ≡ numbered (l ++ (a ∷ [])) n
      go n f true e =
          let g = eqb-true (number t a) n e in
          rw (some-append (λ a. eqb (number t a) n) l (a ∷ []), e, or-true, ← g)
          (get_or-set_same table (number t a) true false (omega (arith, s.long)))
      go n f false e =
          let g = eqb-false (number t a) n e in
          rw (some-append (λ a. eqb (number t a) n) l (a ∷ []), e, or-false)
          (get_or-set_other table (number t a) n true false (λ k. g (sym k)) ∙ s.holds n f)

  -- no atom of the text has a number from how many there are on
  beyond : (l : List TextAtom) → Covered t l → (m : ℕ) → atom_count t ≤ m → numbered l m ≡ false
  beyond l covered m h = refuted (λ e.
      let (a, in_list, same) = some-by (λ a. eqb (number t a) m) l e in
      let f = number-below t a (covered a in_list) in
      let g = eqb-true (number t a) m same in
      omega arith)

  pub tabled-listed : (table : List Bool) (l : List TextAtom) → atom_count t ≤ 255 → Covered t l → Tabled table l → listed table ≡ part t l
  unfolding part
  tabled-listed table l few covered s =
      atoms-same 0 255 _ (numbered l) (λ m h k. s.holds m (omega arith))
      ∙ ap (λ k. atoms_from 0 k (numbered l)) (sym (omega-sum few))
      ∙ atoms-enough 0 (atom_count t) (255 - atom_count t) (numbered l) (λ m h. beyond l covered m (omega arith))
    where
      omega-sum : atom_count t ≤ 255 → atom_count t + (255 - atom_count t) ≡ 255
      omega-sum h = omega arith

  -- and has no atom beyond the text's
  tabled-clear : (table : List Bool) (l : List TextAtom) → Covered t l → Tabled table l → (n : ℕ) → atom_count t ≤ n → get_or table n false ≡ false
  tabled-clear table l covered s n h = ⊎_elim
      (λ k. s.holds n k ∙ beyond l covered n h)
      (λ k. get_or-eq_default table false (omega (arith, s.long))) (lt-or-le n 255)

-- ---- the code's numbers are the text's

module _ (t : Text) (atoms : List ℕ) (same : atoms ≡ numbers_of (distinct (mentioned t))) where
  pub count_same : length atoms ≡ atom_count t
  unfolding atom_count
  count_same = ap length same ∙ numbers-length (distinct (mentioned t))

  pub place_same : (a : TextAtom) → place_of atoms a ≡ number t a
  unfolding place_of number
  place_same a = rw (same, numbers-atoms (distinct (mentioned t)))

  -- an entry's helper is h
  pub entry-same : (k : ℕ) (said : Said) → (entry_of t said ≡ []) ⊎ (k ≡ atom_count t + free_count t) → said_rules k atoms said ≡ entry_of t said
  unfolding said_rules entry_of entry_rules plus_rule minus_rule
  entry-same k Silent e = refl
  entry-same k Chooses e = refl
  entry-same k (Atom a InHead) e = refl
  entry-same k (Atom a InFree) e = refl
  entry-same k (Atom a InNegative) e = refl
  entry-same k (Atom a InPositive) e = refl
  entry-same k (Atom a InTable) e = refl
  entry-same k (Atom a InPlus) e = ⊎_elim (λ z. apart cc)
      (λ z. ap (λ x. entry_rules InPlus x (place_of atoms a)) z ∙ rw (place_same a)) e
  entry-same k (Atom a InMinus) e = ⊎_elim (λ z. apart cc)
      (λ z. ap (λ x. entry_rules InMinus x (place_of atoms a)) z ∙ rw (place_same a)) e

-- ---- the code's open rule stands for the rule that was begun

module _ (t : Text) where
  pub record Tells (b : Begun) (o : Opened) : Type 0 where
    pub free : o.free ≡ b.free
    pub heads : Heads (map (number t) b.heads) o
    pub pos : Tabled t o.pos b.pos
    pub neg : Tabled t o.neg b.neg

  pub tells-opening : (free : Bool) → Tells (record { free = free; heads = []; pos = []; neg = [] }) (opening free)
  unfolding opening
  tells-opening free = record { free = refl; heads = heads-none free; pos = tabled-none t; neg = tabled-none t }

  tells-head : (b : Begun) (o : Opened) (a : TextAtom) → Tells b o
      → Tells (record { free = b.free; heads = b.heads ++ (a ∷ []); pos = b.pos; neg = b.neg }) (head_more o (number t a))
  unfolding head_more
  tells-head b o a s = record {
    free = s.free;
    heads = rw (map-append (number t) b.heads (a ∷ [])) (heads-more _ o (number t a) s.heads);
    pos = s.pos;
    neg = s.neg;
  }

  module _ (atoms : List ℕ) (same : atoms ≡ numbers_of (distinct (mentioned t))) where
    pub tells-said : (f : Forming) (said : Said) (b : Begun) → ((a : TextAtom) → Memᴰ a (atoms_said said) → number t a < 255)
        → Tells b f.rule → Tells (begun_after said b) (formed_said f atoms said).rule
    unfolding formed_said opened_by begun_after atoms_said
    tells-said f Silent b h s = s
    tells-said f Chooses b h s = tells-opening true
    tells-said f (Atom a InHead) b h s = rw (place_same t atoms same a) (tells-head _ (opening false) a (tells-opening false))
    tells-said f (Atom a InFree) b h s = rw (place_same t atoms same a) (tells-head b f.rule a s)
    tells-said f (Atom a InNegative) b h s = rw (place_same t atoms same a) (record {
      free = s.free;
      heads = record { long = s.heads.long; counted = s.heads.counted; stored = s.heads.stored };
      pos = s.pos;
      neg = tabled-more t f.rule.neg b.neg a (h a (Memᴰ.head refl)) s.neg;
    })
    tells-said f (Atom a InPositive) b h s = rw (place_same t atoms same a) (record {
      free = s.free;
      heads = record { long = s.heads.long; counted = s.heads.counted; stored = s.heads.stored };
      pos = tabled-more t f.rule.pos b.pos a (h a (Memᴰ.head refl)) s.pos;
      neg = s.neg;
    })
    tells-said f (Atom a InTable) b h s = s
    tells-said f (Atom a InPlus) b h s = s
    tells-said f (Atom a InMinus) b h s = s

  -- ---- all atoms of the rule are the text's

  pub record BegunCovered (b : Begun) : Type 0 where
    pub heads : Covered t b.heads
    pub pos : Covered t b.pos
    pub neg : Covered t b.neg

  no_cover : Covered t []
  no_cover a m = absurd (Memᴰ.not-nil m)

  pub nothing-covered : (free : Bool) → BegunCovered (record { free = free; heads = []; pos = []; neg = [] })
  nothing-covered free = record { heads = no_cover; pos = no_cover; neg = no_cover }

  covered_more : (l : List TextAtom) (a : TextAtom) → Covered t l → Mentioned t a → Covered t (l ++ (a ∷ []))
  covered_more l a c m = λ b k. ⊎_elim (λ i. c b i)
      (λ i. ⊎_elim (λ e. rw e m) (λ z. absurd (Memᴰ.not-nil z)) (Memᴰ.cases_cons i)) (Memᴰ.append_cases l k)

  pub begun-covered : (said : Said) (b : Begun) → Covered t (atoms_said said) → BegunCovered b → BegunCovered (begun_after said b)
  unfolding begun_after atoms_said
  begun-covered Silent b h c = c
  begun-covered Chooses b h c = nothing-covered true
  begun-covered (Atom a InHead) b h c = record { heads = h; pos = no_cover; neg = no_cover }
  begun-covered (Atom a InFree) b h c =
      record { heads = covered_more b.heads a c.heads (h a (Memᴰ.head refl)); pos = c.pos; neg = c.neg }
  begun-covered (Atom a InNegative) b h c =
      record { heads = c.heads; pos = c.pos; neg = covered_more b.neg a c.neg (h a (Memᴰ.head refl)) }
  begun-covered (Atom a InPositive) b h c =
      record { heads = c.heads; pos = covered_more b.pos a c.pos (h a (Memᴰ.head refl)); neg = c.neg }
  begun-covered (Atom a InTable) b h c = c
  begun-covered (Atom a InPlus) b h c = c
  begun-covered (Atom a InMinus) b h c = c

  -- ---- so the code's rules are the book's

  module _ (few : atom_count t ≤ 255) {b : Begun} {o : Opened} (covered : BegunCovered b) (s : Tells b o) where
    low-heads : (l : List TextAtom) → Covered t l → (i : ℕ) → i < length (map (number t) l) → get_or (map (number t) l) i 0 < 255
    low-heads [] c i h = absurd (omega arith)
    low-heads (a ∷ l) c zero h = omega (arith, number-below t a (c a (Memᴰ.head refl)))
    low-heads (a ∷ l) c (suc i) h = low-heads l (λ x m. c x (Memᴰ.tail m)) i (omega arith)

    pub begun-ready : {k h : ℕ} → h ≡ capped k → atom_count t ≤ k → Ready k (map (number t) b.heads) h o
    begun-ready e i = record {
      helper = e;
      heads = s.heads;
      low = low-heads b.heads covered.heads;
      clear = record { long = s.neg.long; above = λ n j. tabled-clear t o.neg b.neg covered.neg s.neg n (omega arith) };
    }

    abbrev pos_parts : listed o.pos ≡ part t b.pos
    pos_parts = tabled-listed t o.pos b.pos few covered.pos s.pos

    abbrev neg_parts : listed o.neg ≡ part t b.neg
    neg_parts = tabled-listed t o.neg b.neg few covered.neg s.neg

    choice-made : (c : ℕ) (l : List TextAtom) → open_rules true c (map (number t) l) o.pos o.neg ≡ choice_rules t c l b.pos b.neg
    unfolding open_rules head_rules choice_rules free_rule opposite_rule
    choice-made c [] = refl
    choice-made c (a ∷ l) = rw (pos_parts, neg_parts, choice-made (suc c) l)

    basic-made : (c d : ℕ) (l : List TextAtom)
        → open_rules false c (map (number t) l) o.pos o.neg ≡ made_from t d (map (λ a. basic a b.pos b.neg) l)
    unfolding open_rules head_rules made_from made
    basic-made c d [] = refl
    basic-made c d (a ∷ l) = rw (pos_parts, neg_parts, basic-made (suc c) d l)

    pub begun-made : (c : ℕ) → open_rules o.free c (map (number t) b.heads) o.pos o.neg ≡ made_from t c (begun_texts b)
    unfolding open_texts made_from
    begun-made c = rw s.free (go b.free)
      where
        go : (x : Bool) → open_rules x c (map (number t) b.heads) o.pos o.neg ≡ made_from t c (open_texts x b.heads b.pos b.neg)
        go true = choice-made c b.heads ∙ sym (append-nil _)
        go false = basic-made c c b.heads
