-- Laws of the numbers in a set, listed as atoms (specs/Making): which they are, that they ascend, how many they are, that numbers beyond
-- the set change nothing, and that a list that ascends is the list of its members. By induction over the numbers that are tried.
use mathlib.Core.Path.{◌≡◌, refl, sym, ◌∙◌, ap}
use mathlib.Core.Logic.{◌⊎◌, inl, inr, ⊎_elim}
use mathlib.Core.Bool.{Bool, true, false, ◌||◌}
use mathlib.Core.List.Memᴰ
use mathlib.Core.List.{List, [], ◌∷◌, ◌++◌, append-nil, Memᴰ}
use Prim.Native.Nat.{ℕ, zero, suc, ◌+◌, ◌-◌, ◌≤◌, ◌<◌}
use native.Mathlib.Nat.{zero-add, add-zero, add-suc, suc-add, eq-or-lt_of_le}
use native.Mathlib.Omega.{arith}
use lib.Dec.{eqb}
use lib.ListN.{length, length-append}
use borrow.Author.Tests.{eq-eqb, ne_eqb, lt-ltb}
use Rattle.meaning.specs.declared.AtomNo.{AtomNo}
use Rattle.meaning.specs.Sets.{Set, ◌∈◌, ◌∉◌, ascending}
use Rattle.meaning.specs.Books.{atom_no}
use Rattle.meaning.proofs.Tests.{both}
use Rattle.book.specs.Writing.{atom_bytes}
use Rattle.book.specs.Making.{atom_if, atoms_from}
use Rattle.book.proofs.Parts.{ascends-first, ascends-after}

-- ---- which they are

atom-if-by : (p : Bool) (a c : AtomNo) (l : List AtomNo) → Memᴰ c (atom_if p a l) → ((p ≡ true) × (c ≡ a)) ⊎ Memᴰ c l
unfolding atom_if
atom-if-by true a c l m = ⊎_elim (λ e. inl (refl, e)) (λ k. inr k) (Memᴰ.cases_cons m)
atom-if-by false a c l m = inr m

atom-if-here : (p : Bool) (a : AtomNo) (l : List AtomNo) → p ≡ true → Memᴰ a (atom_if p a l)
unfolding atom_if
atom-if-here p a l e = rw e (Memᴰ.head refl)

atom-if-later : (p : Bool) (a c : AtomNo) (l : List AtomNo) → Memᴰ c l → Memᴰ c (atom_if p a l)
unfolding atom_if
atom-if-later true a c l m = Memᴰ.tail m
atom-if-later false a c l m = m

pub atoms-from : (i n : ℕ) (s : Set ℕ) (a : AtomNo) → Memᴰ a (atoms_from i n s) → (i ≤ a.0) × (a.0 < i + n) × (a.0 ∈ s)
unfolding atoms_from
atoms-from i zero s a m = absurd (Memᴰ.not-nil m)
atoms-from i (suc n) s a m =
    ⊎_elim (λ (e, p). rw p (omega arith, omega arith, e))
    (λ k. let (h, l, e) = atoms-from (suc i) n s a k in (omega arith, omega arith, e))
    (atom-if-by (s i) (atom_no i) a _ m)

pub atoms-to : (i n : ℕ) (s : Set ℕ) (a : AtomNo) → i ≤ a.0 → a.0 < i + n → a.0 ∈ s → Memᴰ a (atoms_from i n s)
unfolding atoms_from
atoms-to i zero s a h k e = absurd (omega arith)
atoms-to i (suc n) s a h k e =
    ⊎_elim (λ (p : i ≡ a.0). rw p (atom-if-here (s a.0) a _ e))
    (λ z. atom-if-later (s i) (atom_no i) a _ (atoms-to (suc i) n s a z (omega arith) e)) (eq-or-lt_of_le h)

atom-if-ascending : (p : Bool) (a : AtomNo) (l : List AtomNo) → ((c : AtomNo) → Memᴰ c l → a.0 < c.0)
    → ascending (atom_bytes l) ≡ true → ascending (atom_bytes (atom_if p a l)) ≡ true
unfolding atom_if ascending
atom-if-ascending true a [] f e = refl
atom-if-ascending true a (c ∷ l) f e = both (lt-ltb a.0 c.0 (f c (Memᴰ.head refl))) e
atom-if-ascending false a l f e = e

pub atoms-ascending : (i n : ℕ) (s : Set ℕ) → ascending (atom_bytes (atoms_from i n s)) ≡ true
unfolding atoms_from ascending
atoms-ascending i zero s = refl
atoms-ascending i (suc n) s =
    atom-if-ascending (s i) (atom_no i) _ (λ c m. (atoms-from (suc i) n s c m).0) (atoms-ascending (suc i) n s)

-- ---- sets that agree

pub atoms-same : (i n : ℕ) (s z : Set ℕ) → ((m : ℕ) → i ≤ m → m < i + n → s m ≡ z m) → atoms_from i n s ≡ atoms_from i n z
unfolding atoms_from
atoms-same i zero s z f = refl
atoms-same i (suc n) s z f =
    rw (f i (omega arith) (omega arith), atoms-same (suc i) n s z (λ m h k. f m (omega arith) (omega arith)))

pub atoms-none : (i n : ℕ) (s : Set ℕ) → ((m : ℕ) → i ≤ m → m ∉ s) → atoms_from i n s ≡ []
unfolding atoms_from atom_if
atoms-none i zero s f = refl
atoms-none i (suc n) s f = rw (f i (omega arith)) (atoms-none (suc i) n s (λ m h. f m (omega arith)))

-- nothing of s from i + k on: trying more changes nothing
pub atoms-enough : (i k j : ℕ) (s : Set ℕ) → ((m : ℕ) → i + k ≤ m → m ∉ s) → atoms_from i (k + j) s ≡ atoms_from i k s
unfolding atoms_from
atoms-enough i zero j s f = atoms-none i (0 + j) s (λ m h. f m (omega arith))
atoms-enough i (suc k) j s f =
    let e : suc k + j ≡ suc (k + j) = omega arith in
    rw (e, atoms-enough (suc i) k j s (λ m h. f m (omega arith)))

-- ---- one number more

-- s and the number c
abbrev pub with : ℕ → Set ℕ → Set ℕ
with c s m = eqb c m || s m

with-other : (c m : ℕ) (s : Set ℕ) → (c ≡ m → ⊥) → with c s m ≡ s m
with-other c m s f = rw (ne_eqb c m f)

with-here : (c : ℕ) (s : Set ℕ) → c ∈ with c s
with-here c s = rw (eq-eqb c c refl)

pub atoms-more : (i n c : ℕ) (s : Set ℕ) → i ≤ c → c < i + n → c ∉ s → length (atoms_from i n (with c s)) ≡ suc (length (atoms_from i n s))
unfolding atoms_from atom_if
atoms-more i zero c s h k e = absurd (omega arith)
atoms-more i (suc n) c s h k e = ⊎_elim
    (λ (p : i ≡ c). here p)
    (λ z. later z (atoms-more (suc i) n c s z (omega arith) e) (s i) refl)
    (eq-or-lt_of_le h)
  where
    here : i ≡ c → length (atoms_from i (suc n) (with c s)) ≡ suc (length (atoms_from i (suc n) s))
    here p = rw (p, with-here c s, e, atoms-same (suc c) n (with c s) s (λ m g l. with-other c m s (λ q. omega arith)))

    later : i < c → length (atoms_from (suc i) n (with c s)) ≡ suc (length (atoms_from (suc i) n s)) → (p : Bool) → s i ≡ p
        → length (atom_if (with c s i) (atom_no i) (atoms_from (suc i) n (with c s)))
        ≡ suc (length (atom_if (s i) (atom_no i) (atoms_from (suc i) n s)))
    later z q true g = rw (with-other c i s (λ u. omega arith), g, q)
    later z q false g = rw (with-other c i s (λ u. omega arith), g, q)

-- a number above all of s comes last: what a table gives for a choice's negative part
atom-if-append : (p : Bool) (a : AtomNo) (l m : List AtomNo) → atom_if p a (l ++ m) ≡ atom_if p a l ++ m
unfolding atom_if
atom-if-append true a l m = refl
atom-if-append false a l m = refl

pub atoms-last : (i n c : ℕ) (s : Set ℕ) → ((m : ℕ) → c ≤ m → m ∉ s) → i ≤ c → c < i + n
    → atoms_from i n (with c s) ≡ atoms_from i n s ++ (atom_no c ∷ [])
unfolding atoms_from atom_if
atoms-last i zero c s f h l = absurd (omega arith)
atoms-last i (suc n) c s f h l = ⊎_elim
    (λ (p : i ≡ c). here p)
    (λ z. later z (atoms-last (suc i) n c s f z (omega arith)))
    (eq-or-lt_of_le h)
  where
    here : i ≡ c → atoms_from i (suc n) (with c s) ≡ atoms_from i (suc n) s ++ (atom_no c ∷ [])
    here p = rw (
      p,
      with-here c s,
      f c (omega arith),
      atoms-none (suc c) n (with c s) (λ m g. with-other c m s (λ q. omega arith) ∙ f m (omega arith)),
      atoms-none (suc c) n s (λ m g. f m (omega arith)),
    )

    later : i < c → atoms_from (suc i) n (with c s) ≡ atoms_from (suc i) n s ++ (atom_no c ∷ [])
        → atom_if (with c s i) (atom_no i) (atoms_from (suc i) n (with c s))
        ≡ atom_if (s i) (atom_no i) (atoms_from (suc i) n s) ++ (atom_no c ∷ [])
    later z q = rw (with-other c i s (λ u. omega arith), q) (atom-if-append (s i) (atom_no i) _ _)

-- more numbers are tried: they come at the end
pub atoms-append : (i k j : ℕ) (s : Set ℕ) → atoms_from i (k + j) s ≡ atoms_from i k s ++ atoms_from (i + k) j s
unfolding atoms_from
atoms-append i zero j s = rw (zero-add, add-zero)
atoms-append i (suc k) j s =
    rw (suc-add k j, add-suc i k, ← suc-add i k)
    (ap (atom_if (s i) (atom_no i)) (atoms-append (suc i) k j s) ∙ atom-if-append (s i) (atom_no i) _ _)

module _ (n : ℕ) (s : Set ℕ) where
  pub atoms-in : n ∈ s → atoms_from 0 (n + 1) s ≡ atoms_from 0 n s ++ (atom_no n ∷ [])
  unfolding atoms_from atom_if
  atoms-in e = rw (zero-add, e) at (atoms-append 0 n 1 s)

  pub atoms-out : n ∉ s → atoms_from 0 (n + 1) s ≡ atoms_from 0 n s
  unfolding atoms_from atom_if
  atoms-out e = rw (zero-add, e, append-nil) at (atoms-append 0 n 1 s)

  pub atoms-fewer : n ∈ s → (m : ℕ) → n < m → length (atoms_from 0 n s) < length (atoms_from 0 m s)
  atoms-fewer e m h =
      let p : n + 1 + (m - (n + 1)) ≡ m = omega arith in
      let q = ap length (rw p at (atoms-append 0 (n + 1) (m - (n + 1)) s)) in
      let r = ap length (atoms-in e) in
      omega (
        arith,
        q,
        r,
        length-append (atoms_from 0 (n + 1) s) (atoms_from (0 + (n + 1)) (m - (n + 1)) s),
        length-append (atoms_from 0 n s) (atom_no n ∷ []),
      )

-- ---- how many they are

atom-if-length : (p : Bool) (a : AtomNo) (l : List AtomNo) → length (atom_if p a l) ≤ suc (length l)
unfolding atom_if
atom-if-length true a l = omega arith
atom-if-length false a l = omega arith

pub atoms-length : (i n : ℕ) (s : Set ℕ) → length (atoms_from i n s) ≤ n
unfolding atoms_from
atoms-length i zero s = omega arith
atoms-length i (suc n) s = omega (arith, atom-if-length (s i) (atom_no i) (atoms_from (suc i) n s), atoms-length (suc i) n s)

full-step : (p : Bool) (i n : ℕ) (s : Set ℕ) → s i ≡ p → length (atom_if p (atom_no i) (atoms_from (suc i) n s)) ≡ suc n
    → (i ∈ s) × (length (atoms_from (suc i) n s) ≡ n)
unfolding atom_if
full-step true i n s g e = (g, omega arith)
full-step false i n s g e = absurd (omega (arith, atoms-length (suc i) n s))

-- as many as were tried: all are in s
pub atoms-full : (i n : ℕ) (s : Set ℕ) → length (atoms_from i n s) ≡ n → (m : ℕ) → i ≤ m → m < i + n → m ∈ s
unfolding atoms_from
atoms-full i zero s e m h k = absurd (omega arith)
atoms-full i (suc n) s e m h k =
    let (g, q) = full-step (s i) i n s refl e in
    ⊎_elim (λ (p : i ≡ m). rw p at g) (λ z. atoms-full (suc i) n s q m z (omega arith)) (eq-or-lt_of_le h)

-- ---- a list that ascends is the list of its members

pub ascending-one : (l m : List AtomNo) → ascending (atom_bytes l) ≡ true → ascending (atom_bytes m) ≡ true
    → ((a : AtomNo) → Memᴰ a l → Memᴰ a m) → ((a : AtomNo) → Memᴰ a m → Memᴰ a l) → l ≡ m
ascending-one [] [] e f into back = refl
ascending-one [] (c ∷ m) e f into back = absurd (Memᴰ.not-nil (back c (Memᴰ.head refl)))
ascending-one (a ∷ l) [] e f into back = absurd (Memᴰ.not-nil (into a (Memᴰ.head refl)))
ascending-one (a ∷ l) (c ∷ m) e f into back =
    let same = heads (Memᴰ.cases_cons (into a (Memᴰ.head refl))) (Memᴰ.cases_cons (back c (Memᴰ.head refl))) in
    let rest = ascending-one l m (ascends-after a.0 (atom_bytes l) e) (ascends-after c.0 (atom_bytes m) f)
    (λ u k. behind (later l a e u k) same (Memᴰ.cases_cons (into u (Memᴰ.tail k))))
    (λ u k. behind (later m c f u k) (sym same) (Memᴰ.cases_cons (back u (Memᴰ.tail k)))) in
    λ i. same i ∷ rest i
  where
    later : (k : List AtomNo) (u : AtomNo) → ascending (atom_bytes (u ∷ k)) ≡ true → (v : AtomNo) → Memᴰ v k → u.0 < v.0
    later k u e v m = ascends-first u.0 (atom_bytes k) e v.0 (Memᴰ.map (λ (x : AtomNo). x.0) m)

    heads : (a ≡ c) ⊎ Memᴰ a m → (c ≡ a) ⊎ Memᴰ c l → a ≡ c
    heads (inl p) q = p
    heads (inr k) (inl q) = sym q
    heads (inr k) (inr j) = absurd (omega (arith, later m c f a k, later l a e c j))

    behind : {u v w : AtomNo} {k : List AtomNo} → v.0 < u.0 → v ≡ w → (u ≡ w) ⊎ Memᴰ u k → Memᴰ u k
    behind {u} {v} {w} h p (inl q) =
        let x : v.0 ≡ w.0 = ap (λ (y : AtomNo). y.0) p in
        let z : u.0 ≡ w.0 = ap (λ (y : AtomNo). y.0) q in
        absurd (omega arith)
    behind h p (inr j) = j

-- s is the set of the list's atoms
pub atoms-of : (i n : ℕ) (s : Set ℕ) (l : List AtomNo) → ascending (atom_bytes l) ≡ true
    → ((a : AtomNo) → Memᴰ a l → (i ≤ a.0) × (a.0 < i + n) × (a.0 ∈ s))
    → ((a : AtomNo) → a.0 ∈ s → Memᴰ a l) → atoms_from i n s ≡ l
atoms-of i n s l e f g = ascending-one _ l (atoms-ascending i n s) e
    (λ a m. g a (atoms-from i n s a m).2)
    (λ a m. let (h, k, p) = f a m in atoms-to i n s a h k p)
