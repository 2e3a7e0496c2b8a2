-- Runs of bytes (specs/Making): one behind the other they are one run, and what stands before a run is what stood there; and the
-- atoms of a table, counted and written.
use mathlib.Core.Path.{◌≡◌, refl, sym, ◌∙◌, ap}
use mathlib.Core.Bool.{Bool, true, false}
use mathlib.Core.List.{List, [], ◌∷◌, ◌++◌, append_assoc, append-nil}
use Prim.Native.Nat.{ℕ, ◌+◌, ◌≤◌, ◌<◌}
use native.Mathlib.Numerals.{add-one}
use native.Mathlib.Omega.{arith}
use lib.ListN.{length, get_or, take, set, length-append, length-map, length-set}
use lib.Seq.{length-take-le, take-suc-set, take-take, take-append-le, get_or-take}
use Rattle.meaning.specs.declared.AtomNo.{AtomNo}
use Rattle.book.specs.Format.{book_bytes}
use Rattle.book.specs.Writing.{atom_bytes}
use Rattle.book.specs.Making.{atoms_from, said_of, listed, Puts}
use Rattle.book.proofs.AtomsFrom.{atoms-in, atoms-out, atoms-fewer}

-- ---- runs of bytes

pub puts-nil : (at : ℕ) (d : List ℕ) → Puts [] at d at d
puts-nil at d = record { long = refl; ends = omega arith; bytes = λ e. sym (append-nil _) }

pub puts_one : (at x : ℕ) (d : List ℕ) → at < book_bytes → Puts (x ∷ []) at d (at + 1) (set d at x)
puts_one at x d h = record {
  long = length-set d at x;
  ends = refl;
  bytes = λ e. rw add-one (take-suc-set d at x (rw e h));
}

pub puts_then : {l k : List ℕ} {at i n : ℕ} {a b c : List ℕ} → Puts l at a i b → Puts k i b n c → Puts (l ++ k) at a n c
puts_then {l} {k} {at} {a = a} v w = record {
  long = w.long ∙ v.long;
  ends = simp length-append (omega (arith, v.ends, w.ends));
  bytes = λ e. w.bytes (v.long ∙ e) ∙ ap (λ (t : List ℕ). t ++ k) (v.bytes e) ∙ append_assoc (take at a) l k;
}

-- a byte by another name
pub puts-as : {x y at n : ℕ} {a b : List ℕ} → x ≡ y → Puts (x ∷ []) at a n b → Puts (y ∷ []) at a n b
puts-as e v = rw (← e) v

-- what stands before the run
pub puts-kept : {l : List ℕ} {at n : ℕ} {a b : List ℕ} → Puts l at a n b → length a ≡ book_bytes → at ≤ book_bytes → take at b ≡ take at a
puts-kept {l} {at} {n} {a} {b} v e h =
    sym (take-take at n b (omega (arith, v.ends)))
    ∙ ap (take at) (v.bytes e)
    ∙ take-append-le at (take at a) l (rw (length-take-le at a (rw e h)) (omega arith))
    ∙ take-take at at a (omega arith)

pub puts-byte : {l : List ℕ} {at n i : ℕ} {a b : List ℕ} → Puts l at a n b → length a ≡ book_bytes → at ≤ book_bytes → i < at
    → get_or b i 0 ≡ get_or a i 0
puts-byte {at = at} {i = i} {a} {b} v e h g =
    sym (get_or-take at b i 0 g) ∙ ap (λ (t : List ℕ). get_or t i 0) (puts-kept v e h) ∙ get_or-take at a i 0 g

-- ---- the atoms of a table, counted and written

bytes-append : (l m : List AtomNo) → atom_bytes (l ++ m) ≡ atom_bytes l ++ atom_bytes m
bytes-append [] m = refl
bytes-append (a ∷ l) m = ap (λ (k : List ℕ). a.0 ∷ k) (bytes-append l m)

module _ (t : List Bool) where
  abbrev told : ℕ → List AtomNo
  told a = atoms_from 0 a (said_of t)

  pub count_none : 0 ≡ length (told 0)
  unfolding atoms_from
  count_none = refl

  pub count-in : (a : ℕ) {n m : ℕ} → n ≡ length (told a) → get_or t a false ≡ true → m ≡ n + 1 → m ≡ length (told (a + 1))
  count-in a e h f = rw (atoms-in a (said_of t) h, length-append) (omega arith)

  pub count-out : (a : ℕ) {n m : ℕ} → n ≡ length (told a) → get_or t a false ≡ false → m ≡ n → m ≡ length (told (a + 1))
  count-out a e h f = rw (atoms-out a (said_of t) h) (f ∙ e)

  module _ (at : ℕ) (before : List ℕ) where
    pub atoms-begun : Puts (atom_bytes (told 0)) at before at before
    unfolding atoms_from
    atoms-begun = puts-nil at before

    module _ {a n : ℕ} {d : List ℕ} (v : Puts (atom_bytes (told a)) at before n d) where
      pub atoms-room : a < 255 → get_or t a false ≡ true → at + length (listed t) ≤ book_bytes → n < book_bytes
      atoms-room h e k =
          omega (arith, v.ends, length-map (told a) (λ c. c.0), atoms-fewer a (said_of t) e 255 h)

      pub atoms-put : {i m : ℕ} {c : List ℕ} → i ≡ a → get_or t i false ≡ true → Puts (a ∷ []) n d m c
          → Puts (atom_bytes (told (a + 1))) at before m c
      atoms-put e h w = rw (atoms-in a (said_of t) (rw e at h), bytes-append) (puts_then v w)

      pub atoms-skipped : {i : ℕ} → i ≡ a → get_or t i false ≡ false → Puts (atom_bytes (told (a + 1))) at before n d
      atoms-skipped e h = rw (atoms-out a (said_of t) (rw e at h)) v
