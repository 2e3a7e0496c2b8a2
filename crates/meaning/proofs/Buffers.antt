-- Laws of what is written to a buffer (specs/Buffers): its length stays, pieces written one after the other are one piece, and a loop that
-- stores byte by byte has written the row when it ends.
use mathlib.Core.Path.{◌≡◌, sym, ◌∙◌, ap}
use mathlib.Core.List.{List, [], ◌++◌, append_assoc}
use Prim.Native.Nat.{ℕ, ◌+◌, ◌≤◌, ◌<◌}
use native.Mathlib.Nat.{zero-add, add-zero}
use native.Mathlib.Numerals.{add-one}
use native.Mathlib.Omega.{arith}
use lib.ListN.{length, get_or, take, drop, set, length-append, length-drop, take-append-drop}
use lib.Seq.{length-take-le, take_at, drop-drop, drop-append-add, take-length, paste, paste-suc}
use Rattle.meaning.specs.Buffers.{write_at}

pub write-length : (at : ℕ) (row out : List ℕ) → at + length row ≤ length out → length (write_at at row out) ≡ length out
unfolding write_at
write-length at row out h = simp (length-append, length-drop) (omega (arith, length-take-le at out (omega arith)))

pub write-none : (at : ℕ) (out : List ℕ) → write_at at [] out ≡ out
unfolding write_at
write-none at out = rw add-zero (take-append-drop at out)

pub write-front : (row out : List ℕ) → write_at 0 row out ≡ row ++ drop (length row) out
unfolding write_at
write-front row out = rw zero-add

pub write-next : (at : ℕ) (xs ys out : List ℕ) → at ≤ length out
    → write_at (at + length xs) ys (write_at at xs out) ≡ write_at at (xs ++ ys) out
unfolding write_at
write-next at xs ys out h =
    let p = take at out in let n = at + length xs in let rest = drop n out in let m = n + length ys in
    let e : length (p ++ xs) ≡ n = omega (arith, length-append p xs, length-take-le at out h) in
    let whole = sym (append_assoc p xs rest) in
    let t : take n (p ++ (xs ++ rest)) ≡ p ++ xs = ap (take n) whole ∙ take_at (p ++ xs) rest n e in
    let d : drop m (p ++ (xs ++ rest)) ≡ drop m out =
    ap (drop m) whole ∙ ap (λ (i : ℕ). drop (i + length ys) (p ++ xs ++ rest)) (sym e)
    ∙ drop-append-add (p ++ xs) rest (length ys) ∙ drop-drop (length ys) n out in
    let z : at + length (xs ++ ys) ≡ m = omega (arith, length-append xs ys) in
    rw (t, d, z, append_assoc p xs (ys ++ drop m out), append_assoc xs ys (drop m out))

-- a turn of a loop that stores a row, and its end
module _ (at : ℕ) (row out : List ℕ) where
  pub write-turn : {i v : ℕ} {w : List ℕ} → at + length row ≤ length out → i < length row → v ≡ get_or row i 0 → w ≡ paste out at row i
      → set w (at + i) v ≡ paste out at row (i + 1)
  write-turn {i} h k e f = rw (f, e, add-one) (paste-suc out at row i 0 (omega arith) k)

  pub write_done : {i : ℕ} {w : List ℕ} → i ≡ length row → w ≡ paste out at row i → w ≡ write_at at row out
  unfolding write_at
  write_done e f = f ∙ rw (e, take-length) (append_assoc (take at out) row _)
