-- The rules of a rule that was open, head by head (specs/Opened): the two rules for a head of a choice, one head more, and heads that are
-- too many for any book.
use mathlib.Core.Path.{◌≡◌, refl, ap, sym, ◌∙◌}
use mathlib.Core.Bool.{Bool, true, false, ◌||◌}
use mathlib.Core.List.Memᴰ
use mathlib.Core.List.{List, [], ◌∷◌, ◌++◌, append_assoc, append-nil}
use Prim.Native.Nat.{ℕ, suc, ◌+◌, ◌≤◌, ◌<◌}
use native.Mathlib.Nat.{add-zero}
use native.Mathlib.Numerals.{add-one}
use native.Mathlib.Omega.{arith}
use lib.Dec.{eqb}
use lib.ListN.{length, get_or, take, set, length-append, length-replicate, length-set}
use lib.Seq.{get_or-set_same, get_or-set_other, get_or-take, length-take-le, take-suc, take-suc-set}
use borrow.Author.Tests.{eqb-true, eqb-false}
use Rattle.meaning.specs.Books.{atom_no, Rule}
use Rattle.book.specs.declared.making.Making.{Making}
use Rattle.book.specs.Making.{said_of, listed, rule_by, Made, whole, passed, Adds}
use Rattle.book.proofs.AtomsFrom.{with, atoms-same, atoms-last}
use Rattle.book.proofs.Made.{over, adds-nil, adds_then, adds-over, adds-passed}
use Rattle.lparse.specs.declared.rule.Opened.{Opened}
use Rattle.lparse.specs.Opened.{capped, no_atoms, opening, head_more, head_rules, open_rules, Heads, Clear, Low, Ready}
use Rattle.lparse.proofs.Capped.{capped-of, capped-real, capped-least, capped-on}
use Rattle.lparse.proofs.Entries.{none-listed, one-listed}

-- ---- the rules for a head of a choice

-- an atom above all of the table comes last
last-listed : (t : List Bool) (c : ℕ) → c < 255 → Clear t c → listed (set t c true) ≡ listed t ++ (atom_no c ∷ [])
last-listed t c h clear =
    atoms-same 0 255 (said_of (set t c true)) (with c (said_of t)) (λ m i j. go m (eqb c m) refl)
    ∙ atoms-last 0 255 c (said_of t) clear.above (omega arith) (omega arith)
  where
    go : (m : ℕ) (b : Bool) → eqb c m ≡ b → get_or (set t c true) m false ≡ (b || get_or t m false)
    go m true e = let g = eqb-true c m e in rw (← g) (get_or-set_same t c true false (omega (arith, clear.long)))
    go m false e = get_or-set_other t c m true false (λ g. eqb-false c m e (sym g))

module _ (m : Making) (d : List ℕ) (k n : ℕ) (pos neg : List Bool) {c : ℕ} (e : c ≡ capped k) where
  pub free-passed : 255 ≤ c → Adds (head_rules true k n pos neg) m d (over m) d
  unfolding head_rules
  free-passed h = adds_then
      (adds-passed _ m d (λ s. omega (
        arith,
        capped-least k (rw e at h),
        s.neg.below (atom_no k) (Memᴰ.append_right (listed neg) (Memᴰ.head refl)),
      )))
      (adds-over _ (over m) d refl)

module _ (k n : ℕ) (pos neg : List Bool) {c : ℕ} (e : c ≡ capped k) (h : c < 255) (clear : Clear neg k) (low : n < 255)
    {m first r : Making} {a b d : List ℕ} where
  pub free-added : {more one : List Bool} → more ≡ set neg c true → one ≡ set no_atoms n true
      → Adds (rule_by (atom_no n) pos more ∷ []) m a first b → Adds (rule_by (atom_no c) no_atoms one ∷ []) first b r d
      → Adds (head_rules true k n pos neg) m a r d
  unfolding head_rules
  free-added i j u v =
      let same : c ≡ k = capped-real k e (omega arith) in
      rw (← same) (adds_then (rw (i, last-listed neg c h (rw (← same) at clear)) at u) (rw (j, none-listed, one-listed n low) at v))

module _ (n k : ℕ) (pos neg : List Bool) {free : Bool} {m r : Making} {a b : List ℕ} where
  pub head-free : free ≡ true → Adds (head_rules true k n pos neg) m a r b → Adds (head_rules free k n pos neg) m a r b
  head-free e u = rw e u

  pub head-basic : free ≡ false → Adds (rule_by (atom_no n) pos neg ∷ []) m a r b → Adds (head_rules free k n pos neg) m a r b
  unfolding head_rules
  head-basic e u = rw e u

-- ---- all heads

module _ (free : Bool) (pos neg : List Bool) where
  rules-last : (c : ℕ) (l : List ℕ) (n : ℕ)
      → open_rules free c (l ++ (n ∷ [])) pos neg ≡ open_rules free c l pos neg ++ head_rules free (c + length l) n pos neg
  unfolding open_rules
  rules-last c [] n = rw (add-zero c) (append-nil (head_rules free c n pos neg))
  rules-last c (x ∷ l) n =
      let e : suc c + length l ≡ c + suc (length l) = omega arith in
      ap (λ k. head_rules free c x pos neg ++ k) (rules-last (suc c) l n)
      ∙ sym (append_assoc (head_rules free c x pos neg) (open_rules free (suc c) l pos neg) (head_rules free (suc c + length l) n pos neg))
      ∙ ap (λ k. (head_rules free c x pos neg ++ open_rules free (suc c) l pos neg) ++ head_rules free k n pos neg) e

  head-some : (b : Bool) (c n : ℕ) → 1 ≤ length (head_rules b c n pos neg)
  unfolding head_rules
  head-some true c n = omega arith
  head-some false c n = omega arith

  rules-many : (c : ℕ) (l : List ℕ) → length l ≤ length (open_rules free c l pos neg)
  unfolding open_rules
  rules-many c [] = omega arith
  rules-many c (n ∷ l) = omega (
    arith,
    rules-many (suc c) l,
    head-some free c n,
    length-append (head_rules free c n pos neg) (open_rules free (suc c) l pos neg),
  )

adds-many : (l : List Rule) (m : Making) (d : List ℕ) → 255 < length l → Adds l m d (over m) d
adds-many l m d h = record { behind = never }
  where
    never : (k : List Rule) → Made k m d → Made (k ++ l) (over m) d
    never k (whole i t s e n b) = passed i refl (λ g. omega (arith, g.rules, length-append k l))
    never k (passed i t s) = passed i refl (λ g. omega (arith, g.rules, length-append k l))

-- what the loop over the heads knows: behind the first j of them
abbrev pub HeadsAdded : Bool → List ℕ → List Bool → List Bool → ℕ → ℕ → Making → List ℕ → Making → ℕ → ℕ → List ℕ → Type 0
HeadsAdded free heads pos neg count c m d made helper j e = (k : ℕ) → c ≡ capped k → Clear neg k → Low heads count
    → (helper ≡ capped (k + j)) × Adds (open_rules free k (take j heads) pos neg) m d made e

pub heads-begun : (free : Bool) (heads : List ℕ) (pos neg : List Bool) (count c : ℕ) (m : Making) (d : List ℕ)
    → HeadsAdded free heads pos neg count c m d m c 0 d
unfolding open_rules
heads-begun free heads pos neg count c m d k e clear low = (e ∙ ap capped (sym (add-zero k)), adds-nil m d)

module _ (free : Bool) (heads : List ℕ) (pos neg : List Bool) (count c : ℕ) (m : Making) (d : List ℕ) {made : Making} {helper j : ℕ} {e : List ℕ}
    (s : HeadsAdded free heads pos neg count c m d made helper j e) where
  pub heads-turn : j < length (take count heads) → count ≤ 255 → {next : Making} {f : List ℕ} {h : ℕ}
      → ((k : ℕ) → helper ≡ capped k → Clear neg k → get_or (take count heads) j 0 < 255
      → Adds (head_rules free k (get_or (take count heads) j 0) pos neg) made e next f)
      → h ≡ capped (helper + 1) → HeadsAdded free heads pos neg count c m d next h (j + 1) f
  heads-turn within few {h = h} adds g k i clear low =
      let (p, u) = s k i clear low in
      let inside : j < count = omega (arith, length-take-le count heads (omega (arith, low.long))) in
      let read : get_or (take count heads) j 0 ≡ get_or heads j 0 = get_or-take count heads j 0 inside in
      let t : take (j + 1) heads ≡ take j heads ++ (get_or heads j 0 ∷ []) = ap (λ z. take z heads) (add-one j) ∙ take-suc heads j 0 (omega (arith, low.long)) in
      let z : length (take j heads) ≡ j = length-take-le j heads (omega (arith, low.long)) in
      let y : k + j + 1 ≡ k + (j + 1) = omega arith in (
        g ∙ ap (λ x. capped (x + 1)) p ∙ capped-on (k + j) 1 ∙ ap capped y,
        rw (t, rules-last free pos neg k (take j heads) (get_or heads j 0), z)
            (adds_then u (rw read at (adds (k + j) p (record { long = clear.long; above = λ x v. clear.above x (omega arith) }) (rw read (low.below j inside))))),
      )

  pub heads-all : j ≤ length (take count heads) → length (take count heads) ≤ j → count ≤ 255 → (k : ℕ) → c ≡ capped k → Clear neg k
      → Low heads count → Adds (open_rules free k (take count heads) pos neg) m d made e
  heads-all most least few k g clear low =
      let (p, u) = s k g clear low in
      let i : j ≡ count = omega (arith, length-take-le count heads (omega (arith, low.long))) in rw i at u

-- the heads, one more
pub heads-none : (free : Bool) → Heads [] (opening free)
unfolding opening
heads-none free = record { long = length-replicate {A = ℕ} 255 0; counted = sym (capped-of 0 (omega arith)); stored = λ h. refl }

pub heads-more : (l : List ℕ) (o : Opened) (n : ℕ) → Heads l o → Heads (l ++ (n ∷ [])) (head_more o n)
unfolding head_more
heads-more l o n s = record {
  long = length-set o.heads o.count n ∙ s.long;
  counted = ap (λ x. capped (x + 1)) s.counted ∙ capped-on (length l) 1 ∙ ap capped (sym (length-append l (n ∷ [])));
  stored = λ h.
      let few : length l < 255 = omega (arith, length-append l (n ∷ [])) in
      let c : o.count ≡ length l = s.counted ∙ capped-of (length l) (omega arith) in
      let z : length (l ++ (n ∷ [])) ≡ suc (length l) = length-append l (n ∷ []) ∙ add-one (length l) in
      rw (z, c, take-suc-set o.heads (length l) n (omega (arith, s.long)), s.stored (omega arith));
}

-- ---- the open rule

module _ (o : Opened) (m : Making) (d : List ℕ) {k c : ℕ} {l : List ℕ} (r : Ready k l c o) where
  pub open-passed : 255 < o.count → Adds (open_rules o.free k l o.pos o.neg) m d (over m) d
  open-passed h =
      adds-many _ m d (omega (arith, rules-many o.free o.pos o.neg k l, capped-least (length l) {m = 256} (rw r.heads.counted at h)))

  pub open-added : o.count ≤ 255 → {made : Making} {e : List ℕ}
      → ((k : ℕ) → c ≡ capped k → Clear o.neg k → Low o.heads o.count
      → Adds (open_rules o.free k (take o.count o.heads) o.pos o.neg) m d made e)
      → Adds (open_rules o.free k l o.pos o.neg) m d made e
  open-added h adds =
      let n : o.count ≡ length l = capped-real (length l) r.heads.counted h in
      let t : take o.count o.heads ≡ l = ap (λ x. take x o.heads) n ∙ r.heads.stored (omega arith) in
      rw t at (adds k r.helper r.clear (record {
        long = r.heads.long;
        below = λ i j. rw (sym (get_or-take o.count o.heads i 0 j) ∙ ap (λ (x : List ℕ). get_or x i 0) t) (r.low i (omega arith));
      }))
