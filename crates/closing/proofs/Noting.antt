-- Atoms noted in a set, and the heads of rules noted one after the other (src/propagation.rt).
use mathlib.Core.Path.{◌≡◌, sym, ap, ◌∙◌, fun_ext}
use mathlib.Core.Logic.{⊎_elim}
use mathlib.Core.Bool.{Bool, true, false, ◌&&◌, ◌||◌}
use mathlib.Core.List.{List, [], ◌∷◌}
use Prim.Native.Nat.{ℕ, ◌+◌, ◌≤◌, ◌<◌}
use native.Mathlib.Decide.{ℕ_discrete, dec_lt}
use native.Mathlib.Omega.{arith}
use lib.Dec.{ltb}
use lib.ListN.{set, replicate}
use borrow.Author.Tests.{ltb-true, lt-ltb, le-ltb}
use Rattle.meaning.specs.declared.AtomNo.{AtomNo}
use Rattle.meaning.specs.declared.RuleNo.{RuleNo}
use Rattle.meaning.specs.Sets.{Set, ◌∈◌}
use Rattle.meaning.specs.Books.{Atoms, Rules, Book, atom_no, rule_no, same_atom, among, rule, count, InBook}
use Rattle.meaning.specs.Colours.{heads, plus}
use Rattle.meaning.specs.Bits.{members, listed, NextIn}
use Rattle.meaning.specs.Written.{of}
use Rattle.meaning.proofs.Tests.{both, and_left, and_right, either, or_left, or_right, same, true-and-false, refuted, not_first}
use Rattle.meaning.proofs.Rules.{same-atom, atom-same, among_one, one-among, heads-of, heads-by, heads-mono}
use Rattle.meaning.proofs.Written.{of-set}
use Rattle.meaning.proofs.Four.{members-nothing}
use Rattle.meaning.proofs.Next.{next-further}
use Rattle.meaning.proofs.Listed.{listed-members, listed-long}
use Rattle.closing.specs.News.{atom_set}
use Rattle.closing.proofs.Stamping.{before}

-- ---- one atom

-- the set of atoms and the list say the same
pub said : (w : List ℕ) (a : AtomNo) → atom_set w a ≡ of (listed w) (rule_no a.0)
said w a = ap (λ (s : Set ℕ). s a.0) (sym (listed-members w))

pub put-atom : (w v : List ℕ) (h : AtomNo) → h.0 < 256 → listed w ≡ set (listed v) h.0 true
    → atom_set w ≡ (λ a. atom_set v a || same_atom h a)
put-atom w v h low e = fun_ext (λ a. said w a ∙ ap (λ (l : List Bool). of l (rule_no a.0)) e ∙ by a)
  where
    now : (a : AtomNo) → of (set (listed v) h.0 true) (rule_no a.0) ≡ plus (of (listed v)) (rule_no h.0 ∷ []) (rule_no a.0)
    now a = ap (λ (s : Rules). s (rule_no a.0)) (of-set (listed v) (rule_no h.0) (omega (arith, listed-long v)))

    by : (a : AtomNo) → of (set (listed v) h.0 true) (rule_no a.0) ≡ (atom_set v a || same_atom h a)
    by a = now a ∙ same _ _
        (λ g. ⊎_elim (λ m. or_left _ (said v a ∙ m))
        (λ m. let q : a.0 ≡ h.0 = ap (λ (r : RuleNo). r.0) (among_one {r = rule_no h.0} {q = rule_no a.0} m) in
        or_right (atom_set v a) (atom-same {a = h} {c = a} (λ i. record { 0 = sym q i })))
        (either (of (listed v) (rule_no a.0)) _ g))
        (λ g. ⊎_elim (λ m. or_left _ (sym (said v a) ∙ m))
        (λ m. let q : h.0 ≡ a.0 = ap (λ (x : AtomNo). x.0) (same-atom {a = h} {c = a} m) in
        or_right (of (listed v) (rule_no a.0)) (ap (λ (n : ℕ). among (rule_no h.0 ∷ []) (rule_no n)) (sym q) ∙ one-among (rule_no h.0)))
        (either (atom_set v a) _ g))

pub atoms-of : (w : List ℕ) {s : Set ℕ} → members w ≡ s → atom_set w ≡ (λ a. s a.0)
atoms-of w e = fun_ext (λ a. ap (λ (u : Set ℕ). u a.0) e)

pub no-atoms : atom_set (replicate 4 0) ≡ (λ a. false)
no-atoms = atoms-of (replicate 4 0) members-nothing

-- an atom is put in if so told
module _ (told : Bool) (h : AtomNo) where
  pub note-put : (w v : List ℕ) → told ≡ true → h.0 < 256 → listed w ≡ set (listed v) h.0 true
      → atom_set w ≡ (λ a. atom_set v a || (told && same_atom h a))
  note-put w v e low f = put-atom w v h low f ∙ fun_ext (λ a. ap (λ (t : Bool). atom_set v a || (t && same_atom h a)) (sym e))

-- an atom is noted if it is in the set x
pub noted : (x v : Atoms) (h : AtomNo) (told : Bool) → told ≡ x h
    → ◌≡◌ {A = Atoms} (λ a. v a || (told && same_atom h a)) (λ a. v a || (same_atom h a && x a))
noted x v h told e = fun_ext (λ a. ap (λ (y : Bool). v a || y) (same _ _
    (λ m. let q = and_right told _ m in both q (ap x (sym (same-atom {a = h} {c = a} q)) ∙ sym e ∙ and_left told _ m))
    (λ m. let q = and_left (same_atom h a) _ m in both (e ∙ ap x (same-atom {a = h} {c = a} q) ∙ and_right (same_atom h a) _ m) q)))

-- ---- every atom of a count

module _ (x : Atoms) where
  pub count-start : {v : Atoms} → v ≡ (λ a. false) → v ≡ (λ a. ltb a.0 0 && x a)
  count-start e = e ∙ fun_ext (λ a. sym (not_first (x a) (le-ltb a.0 0 (omega arith))))

  pub count_turn : (n : ℕ) {v w : Atoms} → v ≡ (λ a. ltb a.0 n && x a) → w ≡ (λ a. v a || (same_atom (atom_no n) a && x a))
      → w ≡ (λ a. ltb a.0 (n + 1) && x a)
  count_turn n e f = f ∙ fun_ext (λ a. ap (λ (v : Atoms). v a || (same_atom (atom_no n) a && x a)) e ∙ same _ _
      (λ g. ⊎_elim
      (λ g. both (lt-ltb a.0 (n + 1) (omega (arith, ltb-true a.0 n (and_left (ltb a.0 n) _ g)))) (and_right (ltb a.0 n) _ g))
      (λ g. let q : n ≡ a.0 = ap (λ (y : AtomNo). y.0) (same-atom {a = atom_no n} {c = a} (and_left (same_atom (atom_no n) a) _ g)) in
      both (lt-ltb a.0 (n + 1) (omega (arith, q))) (and_right (same_atom (atom_no n) a) _ g))
      (either (ltb a.0 n && x a) _ g))
      (λ g. let l = ltb-true a.0 (n + 1) (and_left (ltb a.0 (n + 1)) _ g) in
      let m = and_right (ltb a.0 (n + 1)) _ g in
      elim (dec_lt a.0 n) [
        | yes k ↦ or_left _ (both (lt-ltb a.0 n k) m)
        | no k ↦
            let q : n ≡ a.0 = omega arith in
            or_right (ltb a.0 n && x a) (both (atom-same {a = atom_no n} {c = a} (λ i. record { 0 = q i })) m)
      ]))

  pub count-end : (n m : ℕ) {v : Atoms} → n ≡ m → v ≡ (λ a. ltb a.0 n && x a) → v ≡ (λ a. ltb a.0 m && x a)
  count-end n m q e = e ∙ fun_ext (λ a. ap (λ (k : ℕ). ltb a.0 k && x a) q)

-- ---- the heads of the members of a set that are in x

module _ (b : Book) (x : Atoms) (fresh : List ℕ) where
  abbrev members-of : Rules
  members-of = of (listed fresh)

  in-fresh : (q : RuleNo) → of (listed fresh) q ≡ members fresh q.0
  in-fresh q = ap (λ (s : Set ℕ). s q.0) (listed-members fresh)

  pub heads-start : (r : ℕ) {v : Atoms} → NextIn (members fresh) 0 r → v ≡ (λ a. false) → v ≡ (λ a. heads b (before members-of r) a && x a)
  unfolding before
  heads-start r p e = e ∙ fun_ext (λ a. sym (not_first (x a) (refuted (λ m.
      let (q, h, i, f) = heads-by b (before members-of r) a m in
      let l = ltb-true q.0 r (and_left (ltb q.0 r) _ i) in
      true-and-false (sym (in-fresh q) ∙ and_right (ltb q.0 r) _ i) (p.passed q.0 (omega arith) l)))))

  pub heads-turn : (from r m : ℕ) {v w : Atoms} → NextIn (members fresh) from r → r < 256 → NextIn (members fresh) (r + 1) m → r < count b
      → v ≡ (λ a. heads b (before members-of r) a && x a) → w ≡ (λ a. v a || (same_atom (rule b (rule_no r)).head a && x a))
      → w ≡ (λ a. heads b (before members-of m) a && x a)
  unfolding before
  heads-turn from r m p low q h e f = f ∙ fun_ext (λ a. ap (λ (v : Atoms). v a || (same_atom (rule b (rule_no r)).head a && x a)) e ∙ same _ _
      (λ g. ⊎_elim
      (λ g. both (heads-mono b earlier a (and_left (heads b (before members-of r) a) _ g)) (and_right (heads b (before members-of r) a) _ g))
      (λ g. let d = same-atom {a = (rule b (rule_no r)).head} {c = a} (and_left (same_atom (rule b (rule_no r)).head a) _ g) in
      both (ap (heads b (before members-of m)) (sym d) ∙ heads-of b (before members-of m) (rule_no r) h here) (and_right (same_atom (rule b (rule_no r)).head a) _ g))
      (either (heads b (before members-of r) a && x a) _ g))
      (λ g. let (z, k, i, d) = heads-by b (before members-of m) a (and_left (heads b (before members-of m) a) _ g) in
      back a z k i d (and_right (heads b (before members-of m) a) _ g)))
    where
      further : r < m
      further = next-further (members fresh) r m q low

      earlier : (z : RuleNo) → InBook b z → z ∈ before members-of r → z ∈ before members-of m
      earlier z k i = both (lt-ltb z.0 m (omega (arith, further, ltb-true z.0 r (and_left (ltb z.0 r) _ i)))) (and_right (ltb z.0 r) _ i)

      here : rule_no r ∈ before members-of m
      here = both (lt-ltb r m further) (in-fresh (rule_no r) ∙ (p.within low).1)

      back : (a : AtomNo) (z : RuleNo) → InBook b z → z ∈ before members-of m → (rule b z).head ≡ a → a ∈ x
          → ((heads b (before members-of r) a && x a) || (same_atom (rule b (rule_no r)).head a && x a)) ≡ true
      back a z k i d y = elim (dec_lt z.0 r) [
        | yes l ↦ or_left _ (both (ap (heads b (before members-of r)) (sym d) ∙ heads-of b (before members-of r) z k (both (lt-ltb z.0 r l) (and_right (ltb z.0 m) _ i))) y)
        | no l ↦ elim (ℕ_discrete z.0 r) [
          | yes j ↦ or_right (heads b (before members-of r) a && x a) (both (atom-same (ap (λ (n : ℕ). (rule b (rule_no n)).head) (sym j) ∙ d)) y)
          | no j ↦ true-and-false (sym (in-fresh z) ∙ and_right (ltb z.0 m) _ i)
              (q.passed z.0 (omega arith) (ltb-true z.0 m (and_left (ltb z.0 m) _ i)))
        ]
      ]

  pub heads-end : (r : ℕ) {v : Atoms} → count b ≤ r → v ≡ (λ a. heads b (before members-of r) a && x a) → v ≡ (λ a. heads b members-of a && x a)
  unfolding before
  heads-end r h e = e ∙ fun_ext (λ a. ap (λ (y : Bool). y && x a) (same _ _
      (heads-mono b (λ z k i. and_right (ltb z.0 r) _ i) a)
      (heads-mono b (λ z k i. both (lt-ltb z.0 r (omega arith)) i) a)))
