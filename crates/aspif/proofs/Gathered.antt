-- A part's atoms gathered into a table, one literal after another, and the rules of the text one after another.
use mathlib.Core.Path.{◌≡◌, refl, sym, ◌∙◌, ap}
use mathlib.Core.Bool.{Bool, true, false}
use mathlib.Core.List.Memᴰ
use mathlib.Core.List.{List, [], ◌∷◌, ◌++◌, Memᴰ}
use mathlib.Core.Logic.{◌⊎◌, inl, inr}
use Prim.Native.Nat.{ℕ, zero, suc, ◌+◌, ◌-◌, ◌<◌, ◌≤◌}
use native.Mathlib.Nat.{zero-add, sub-zero}
use native.Mathlib.Omega.{arith}
use lib.ListN.{length, get_or, set, replicate, drop, length-append, length-drop, length-set}
use lib.Seq.{get_or-set_same, get_or-set_other}
use Rattle.meaning.specs.declared.AtomNo.{AtomNo}
use Rattle.meaning.specs.Sets.{◌∈◌, ascending}
use Rattle.meaning.specs.Books.{atom_no}
use Rattle.meaning.proofs.Choice.{eq-either}
use Rattle.book.specs.Writing.{atom_bytes}
use Rattle.book.specs.Making.{said_of, listed, rule_by, SmallPart, SmallRule}
use Rattle.book.proofs.AtomsFrom.{atoms-of}
use Rattle.std.specs.Prelude.{Option, Some, None}
use Rattle.aspif.specs.Reading.{item_in, part_in, whole_part, top_atom}
use Rattle.aspif.specs.Scanning.{seen, Behind}
use Rattle.aspif.specs.Gathering.{Held, held, beyond, Rises, PartSeen}
use Rattle.aspif.proofs.Pieces.{on-got, on-outside, item_back}
use Rattle.aspif.proofs.Scanned.{behind}

-- ---- the table

-- no place of an empty table says yes
none-held : (n i : ℕ) → get_or (replicate n false) i false ≡ false
none-held zero i = refl
none-held (suc n) zero = refl
none-held (suc n) (suc i) = none-held n i

pub held_none : Held [] true (replicate 255 false)
held_none = held {t = replicate 255 false} refl (λ a m. elim m [ ]) (λ a e. let z : true ≡ false = sym e ∙ none-held 255 a.0 in not-both z)
  where
    not-both : {A : Type 0} → true ≡ false → A
    not-both e = let z : ◌≡◌ {A = ℕ} 0 1 = cc in absurd (omega arith)

module _ (l : List AtomNo) (v : ℕ) (p : 0 < v) where
  pub held-beyond : {x : Bool} {t : List Bool} → 255 < v → Held l x t → Held (l ++ (atom_no (v - 1) ∷ [])) false t
  held-beyond h (held g f k) = beyond {a = atom_no (v - 1)} g (Memᴰ.append_right l (Memᴰ.head refl)) (omega arith)
  held-beyond h (beyond g m k) = beyond g (Memᴰ.append_left _ m) k

  pub held_more : {x : Bool} {t : List Bool} → v ≤ 255 → Held l x t → Held (l ++ (atom_no (v - 1) ∷ [])) x (set t (v - 1) true)
  held_more h (beyond {t = t} g m k) = beyond (length-set t (v - 1) true ∙ g) (Memᴰ.append_left _ m) k
  held_more h (held {t = t} g f k) = held (length-set t (v - 1) true ∙ g) (λ a m. in_table a (Memᴰ.append_cases l m)) (λ a e. in_list a e)
    where
      stays : (a : AtomNo) → a.0 ∈ said_of t → a.0 ∈ said_of (set t (v - 1) true)
      stays a e =
          eq-either {A = ℕ} (λ _. a.0 ∈ said_of (set t (v - 1) true)) a.0 (v - 1) 0 0
          (λ q. rw q (get_or-set_same t (v - 1) true false (omega arith)))
          (λ q. get_or-set_other t (v - 1) a.0 true false q ∙ e)

      in_table : (a : AtomNo) → (Memᴰ a l) ⊎ Memᴰ a (atom_no (v - 1) ∷ []) → (a.0 < 255) × (a.0 ∈ said_of (set t (v - 1) true))
      in_table a (inl m) = ((f a m).0, stays a (f a m).1)
      in_table a (inr m) =
          let q : a.0 ≡ v - 1 = ap (λ (c : AtomNo). c.0) (Memᴰ.eq_of_singleton m) in
          (omega arith, rw q (get_or-set_same t (v - 1) true false (omega arith)))

      in_list : (a : AtomNo) → a.0 ∈ said_of (set t (v - 1) true) → Memᴰ a (l ++ (atom_no (v - 1) ∷ []))
      in_list a e =
          eq-either {A = ℕ} (λ _. Memᴰ a (l ++ (atom_no (v - 1) ∷ []))) a.0 (v - 1) 0 0
          (λ q. Memᴰ.append_right l (Memᴰ.head (ap atom_no q)))
          (λ q. Memᴰ.append_left _ (k a (sym (get_or-set_other t (v - 1) a.0 true false q) ∙ e)))

-- the table is the part
pub held-listed : {l : List AtomNo} {t : List Bool} → Held l true t → ascending (atom_bytes l) ≡ true → listed t ≡ l
held-listed {l} {t} h e = by-held h refl
  where
    by-held : {x : Bool} → Held l x t → x ≡ true → listed t ≡ l
    by-held (held g f k) q = atoms-of 0 255 (said_of t) l e (λ a m. (omega arith, rw zero-add (f a m).0, (f a m).1)) k
    by-held (beyond g m k) q = let z : ◌≡◌ {A = ℕ} 0 1 = cc in absurd (omega arith)

pub held-passed : {l : List AtomNo} {t : List Bool} → Held l false t → SmallPart l → ⊥
held-passed {l} {t} h s = by-held h refl
  where
    by-held : {x : Bool} → Held l x t → x ≡ false → ⊥
    by-held (held g f k) q = let z : ◌≡◌ {A = ℕ} 0 1 = cc in omega arith
    by-held (beyond {a = a} g m k) q = omega (arith, s.below a m)

-- ---- the largest number

pub top-end : (l : List AtomNo) (v : ℕ) → 0 < v → top_atom l < v → top_atom (l ++ (atom_no (v - 1) ∷ [])) ≡ v
unfolding top_atom
top-end [] v p h = omega arith
top-end (a ∷ l) v p h = rw (top-end l v p (omega arith)) (omega arith)

-- ---- literal by literal

-- those of acc were read, and what is left is to be read behind them
pub record Gathers (s sign : List ℕ) (at : ℕ) (t : List Bool) (count top next : ℕ) (small : Bool) : Type 0 where
  pub acc : List AtomNo
  pub rest : whole_part (length s) sign (drop at s)
      ≡ part_in (suc (length s - at) - count) (length s) sign acc (top + 1) (drop next s)
  pub ahead : at + count ≤ next
  pub inside : next ≤ length s
  pub counted : count ≡ length acc
  pub top-is : top ≡ top_atom acc
  pub top-most : top ≤ length s
  pub table : Held acc small t

module _ (s sign : List ℕ) (at : ℕ) where
  pub gathers-start : at ≤ length s → {t : List Bool} → t ≡ replicate 255 false → Gathers s sign at t 0 0 at true
  unfolding whole_part top_atom
  gathers-start h e = record {
    acc = [];
    rest = rw (length-drop, sub-zero, zero-add);
    ahead = omega arith;
    inside = h;
    counted = refl;
    top-is = refl;
    top-most = omega arith;
    table = rw e held_none;
  }

  module _ {t : List Bool} {count top next : ℕ} {small : Bool} (g : Gathers s sign at t count top next small) where
    some-fuel : suc (length s - at) - count ≡ suc (length s - at - count)
    some-fuel = omega (arith, g.ahead, g.inside)

    pub gathers-end : (y : Option (ℕ × ℕ)) → seen s y ≡ item_in (length s) sign (top + 1) (drop next s) → y ≡ None
        → PartSeen s sign at (record { count = count; top = top; next = next; small = small }) t
    unfolding part_in seen
    gathers-end y e f = record {
      atoms = g.acc;
      read = g.rest ∙ rw some-fuel (on-outside _ _ (sym e ∙ ap (seen s) f));
      ahead = omega (arith, g.ahead);
      inside = g.inside;
      count = g.counted;
      few = g.ahead;
      top = g.top-is;
      table = g.table;
    }

    module _ (y : Option (ℕ × ℕ)) (e : seen s y ≡ item_in (length s) sign (top + 1) (drop next s)) {v end : ℕ} (f : y ≡ Some (v, end))
        (b : Behind next (length s) y) where
      pub item-above : top < v
      unfolding seen
      item-above =
          let (p, h) = item_back (length s) sign (top + 1) (drop next s) (drop end s) v (sym e ∙ ap (seen s) f) in omega arith

      pub gathers-more : {r : Bool} {t' : List Bool}
          → ((l : List AtomNo) → Held l small t → Held (l ++ (atom_no (v - 1) ∷ [])) r t')
          → Gathers s sign at t' (count + 1) v end r
      unfolding part_in seen
      gathers-more k =
          let (p, q, w) = behind b f in
          let z : suc (length s - at) - (count + 1) ≡ length s - at - count = omega (arith, g.ahead, g.inside) in
          record {
            acc = g.acc ++ (atom_no (v - 1) ∷ []);
            rest = g.rest ∙ rw (some-fuel, z) (on-got _ _ (sym e ∙ ap (seen s) f));
            ahead = omega (arith, g.ahead);
            inside = w;
            counted = rw length-append (omega (arith, g.counted));
            top-is = sym (top-end g.acc v (omega (arith, item-above)) (omega (arith, item-above, g.top-is)));
            top-most = p;
            table = k g.acc g.table;
          }

-- ---- a rule kept

module _ (head : ℕ) (p q : List AtomNo) where
  pub over-pos : {x : Bool} {t : List Bool} → x ≡ false → Held p x t → ¬ SmallRule (record { head = atom_no (head - 1); pos = p; neg = q })
  over-pos e h k = held-passed (rw e at h) k.pos

  pub over-neg : {x : Bool} {t : List Bool} → x ≡ false → Held q x t → ¬ SmallRule (record { head = atom_no (head - 1); pos = p; neg = q })
  over-neg e h k = held-passed (rw e at h) k.neg

  pub over-head : 255 < head → ¬ SmallRule (record { head = atom_no (head - 1); pos = p; neg = q })
  over-head h k = omega (arith, k.head)

  pub rule-kept : {x y : Bool} {t u : List Bool} → x ≡ true → y ≡ true → Rises p → Held p x t → Rises q → Held q y u
      → rule_by (atom_no (head - 1)) t u ≡ record { head = atom_no (head - 1); pos = p; neg = q }
  rule-kept e f a h b k = rw (held-listed (rw e at h) a, held-listed (rw f at k) b)
