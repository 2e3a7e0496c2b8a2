-- Reading a name from its row: the part of the row before its first zero; and a row that holds a name, with zeros behind it, is read as this name.
use mathlib.Core.Path.{◌≡◌, refl, ap, sym, ◌∙◌}
use mathlib.Core.List.{List, [], ◌∷◌}
use Prim.Native.Nat.{ℕ, suc, ◌+◌, ◌*◌, ◌-◌, ◌<◌, ◌≤◌}
use native.Mathlib.Omega.{arith}
use lib.ListN.{length, get_or, take, drop, length-drop}
use lib.Seq.{length-take-le, get_or-take, get_or-drop, take-add, take-take, drop_at}
use borrow.Author.Tests.{eq-eqb, ne_eqb}
use Rattle.system.specs.Places.{index_of, slice}
use Rattle.meaning.proofs.Choice.{lt_yes, lt_no}
use Rattle.talk.specs.Names.{row_of, name_in}

-- where the row is not whole no name is told
pub no_row : (names : List ℕ) (a : ℕ) → length names < a * 256 + 256 → name_in names a ≡ []
unfolding name_in
no_row names a h = lt_yes _ _ _ _ h

-- a part of a front is a front of the part
part-front : (f m : ℕ) (l : List ℕ) → f ≤ length l → drop f (take (f + m) l) ≡ take m (drop f l)
part-front f m l h = ap (drop f) (take-add f m l) ∙ drop_at (take f l) (take m (drop f l)) f (length-take-le f l h)

-- the name as code takes it
pub name-part : (names : List ℕ) (a end : ℕ) → a * 256 + 256 ≤ length names → end ≡ a * 256 + index_of 0 (row_of names a) → end ≤ a * 256 + 256
    → take (end - a * 256) (drop (a * 256) names) ≡ name_in names a
unfolding name_in slice
name-part names a end h e k =
    let n : end - a * 256 ≡ index_of 0 (row_of names a) = omega arith in
    ap (λ (i : ℕ). take i (drop (a * 256) names)) n
    ∙ sym (take-take (index_of 0 (row_of names a)) 256 (drop (a * 256) names) (omega arith))
    ∙ ap (take (index_of 0 (row_of names a))) (sym (part-front (a * 256) 256 names (omega arith))) ∙ sym (lt_no _ _ _ _ h)

-- ---- a row that holds a name

-- the atom's row: the bytes of the name, and zeros behind them
abbrev pub Holds : List ℕ → ℕ → List ℕ → Type 0
Holds rows a name = (k : ℕ) → k < 256 → get_or rows (a * 256 + k) 0 ≡ get_or name k 0

-- a name that leaves room for a zero, and has none
pub record Short (name : List ℕ) : Type 0 where
  pub room : length name < 256
  pub whole : (k : ℕ) → k < length name → get_or name k 0 ≡ 0 → ⊥

before-zero : (name row : List ℕ) → length name < length row → ((k : ℕ) → k < length row → get_or row k 0 ≡ get_or name k 0)
    → ((k : ℕ) → k < length name → get_or name k 0 ≡ 0 → ⊥) → take (index_of 0 row) row ≡ name
unfolding index_of
before-zero [] [] h f n = absurd (omega arith)
before-zero [] (x ∷ row) h f n = let e : x ≡ 0 = f 0 (omega arith) in rw (eq-eqb x 0 e) refl
before-zero (y ∷ name) [] h f n = absurd (omega arith)
before-zero (y ∷ name) (x ∷ row) h f n =
    let e : x ≡ y = f 0 (omega arith) in
    let d : x ≡ 0 → ⊥ = λ p. n 0 (omega arith) (sym e ∙ p) in
    let rest : take (index_of 0 row) row ≡ name =
    before-zero name row (omega arith) (λ k l. f (suc k) (omega arith)) (λ k l. n (suc k) (omega arith)) in
    rw (ne_eqb x 0 d) (λ i. e i ∷ rest i)

pub row_read : (rows : List ℕ) (a : ℕ) (name : List ℕ) → a * 256 + 256 ≤ length rows → Short name → Holds rows a name → name_in rows a ≡ name
unfolding name_in slice
row_read rows a name h s f =
    let front = take (a * 256 + 256) rows in
    let whole = length-take-le (a * 256 + 256) rows h in
    let long : length (drop (a * 256) front) ≡ 256 = omega (arith, length-drop (a * 256) front, whole) in
    lt_no _ _ _ _ h ∙ before-zero name (drop (a * 256) front) (omega (arith, long, s.room))
    (λ k l. get_or-drop (a * 256) front k 0 ∙ get_or-take (a * 256 + 256) rows (a * 256 + k) 0 (omega (arith, long, l))
    ∙ f k (omega (arith, long, l)))
    s.whole
