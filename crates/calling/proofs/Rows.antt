-- A name put into a row of zeros is held by it, and the other rows keep their names (talk/proofs/Names: what a row holds is read from it). And a
-- turn of putting one after the other.
use mathlib.Core.Path.{◌≡◌, refl, ap, sym, ◌∙◌}
use mathlib.Core.Logic.{◌⊎◌, inl, inr, ⊎_elim}
use mathlib.Core.List.{List, [], ◌++◌, append_assoc}
use Prim.Native.Nat.{ℕ, ◌+◌, ◌*◌, ◌-◌, ◌<◌, ◌≤◌}
use native.Mathlib.Numerals.{add-one}
use native.Mathlib.Omega.{arith}
use lib.ListN.{length, get_or, take, drop, length-append, length-drop, take-append-drop, get_or-append, get_or-eq_default}
use lib.Seq.{length-take-le, take-length, drop-append-le, drop-drop, get_or-append-add, get_or-take, get_or-drop}
use Rattle.meaning.specs.Buffers.{write_at}
use Rattle.meaning.proofs.Buffers.{write-length}
use Rattle.meaning.proofs.Choice.{lt_yes, lt_no, lt-either}
use Rattle.meaning.proofs.Tests.{lt-or-le}
use Rattle.talk.proofs.Names.{Holds}
use Rattle.words.specs.Words.{between}
use Rattle.calling.specs.Rows.{rowed, part_rowed, rows_of}

-- ---- what is written

module _ (at : ℕ) (row out : List ℕ) (h : at + length row ≤ length out) where
  written_in : (k : ℕ) → k < length row → get_or (write_at at row out) (at + k) 0 ≡ get_or row k 0
  unfolding write_at
  written_in k l =
      let e = length-take-le at out (omega arith) in
      ap (λ (i : ℕ). get_or (take at out ++ (row ++ drop (at + length row) out)) (i + k) 0) (sym e)
      ∙ get_or-append-add (take at out) (row ++ drop (at + length row) out) k 0 ∙ get_or-append row (drop (at + length row) out) 0 k l

  written-before : (i : ℕ) → i < at → get_or (write_at at row out) i 0 ≡ get_or out i 0
  unfolding write_at
  written-before i l =
      get_or-append (take at out) (row ++ drop (at + length row) out) 0 i (omega (arith, length-take-le at out (omega arith)))
      ∙ get_or-take at out i 0 l

  written_behind : (i : ℕ) → at + length row ≤ i → get_or (write_at at row out) i 0 ≡ get_or out i 0
  unfolding write_at
  written_behind i l =
      let p = take at out in let rest = drop (at + length row) out in let k = i - (at + length row) in
      let e : length (p ++ row) ≡ at + length row = omega (arith, length-append p row, length-take-le at out (omega arith)) in
      let f : i ≡ length (p ++ row) + k = omega (arith, e) in
      let g : at + length row + k ≡ i = omega arith in
      ap (λ (x : List ℕ). get_or x i 0) (sym (append_assoc p row rest)) ∙ ap (λ (j : ℕ). get_or ((p ++ row) ++ rest) j 0) f
      ∙ get_or-append-add (p ++ row) rest k 0 ∙ get_or-drop (at + length row) out k 0 ∙ ap (λ (j : ℕ). get_or out j 0) g

-- ---- a row

module _ (name : List ℕ) (a : ℕ) (rows : List ℕ) where
  pub rowed-long : 256 ≤ length name → rowed name a rows ≡ rows
  unfolding rowed
  rowed-long h = lt_no _ _ _ _ h

  pub rowed-over : length name < 256 → length rows < a * 256 + length name → rowed name a rows ≡ rows
  unfolding rowed
  rowed-over h k = lt_yes _ _ _ _ h ∙ lt_yes _ _ _ _ k

  rowed-written : length name < 256 → a * 256 + length name ≤ length rows → rowed name a rows ≡ write_at (a * 256) name rows
  unfolding rowed
  rowed-written h k = lt_yes _ _ _ _ h ∙ lt_no _ _ _ _ k

  -- written over the front of the k bytes that begin at the row
  pub rowed-copied : (k : ℕ) {copied : List ℕ} → copied ≡ take (length name) name ++ drop (length name) (take k (drop (a * 256) rows))
      → length name < 256 → length name ≤ k → a * 256 + k ≤ length rows
      → take (a * 256) rows ++ (copied ++ drop k (drop (a * 256) rows)) ≡ rowed name a rows
  unfolding write_at
  rowed-copied k e h few room =
      let n = length name in let row = drop (a * 256) rows in
      let long = length-take-le k row (omega (arith, length-drop (a * 256) rows, room)) in
      let rest : drop n (take k row) ++ drop k row ≡ drop (a * 256 + n) rows =
      sym (drop-append-le n (take k row) (drop k row) (omega (arith, long, few))) ∙ ap (drop n) (take-append-drop k row) ∙ drop-drop n (a * 256) rows in
      ap (λ (x : List ℕ). take (a * 256) rows ++ (x ++ drop k row)) (e ∙ ap (λ (x : List ℕ). x ++ drop n (take k row)) (take-length name))
      ∙ ap (λ (x : List ℕ). take (a * 256) rows ++ x) (append_assoc name (drop n (take k row)) (drop k row) ∙ ap (λ (x : List ℕ). name ++ x) rest)
      ∙ sym (rowed-written h (omega arith))

  -- as the code writes it: in the place of so many bytes that begin at the row
  pub rowed-replaced : (k : ℕ) {copied : List ℕ} → copied ≡ name → k ≡ length name → length name < 256
      → a * 256 + length name ≤ length rows
      → take (a * 256) rows ++ (copied ++ drop k (drop (a * 256) rows)) ≡ rowed name a rows
  unfolding write_at
  rowed-replaced k e f h room =
      ap (λ (x : List ℕ). take (a * 256) rows ++ (x ++ drop k (drop (a * 256) rows))) e
      ∙ ap (λ (n : ℕ). take (a * 256) rows ++ (name ++ drop n (drop (a * 256) rows))) f
      ∙ ap (λ (x : List ℕ). take (a * 256) rows ++ (name ++ x)) (drop-drop (length name) (a * 256) rows)
      ∙ sym (rowed-written h room)

  pub rowed-length : length (rowed name a rows) ≡ length rows
  unfolding rowed
  rowed-length = lt-either (λ (x : List ℕ). length x ≡ length rows) (length name) 256 _ _
      (λ h. lt-either (λ (x : List ℕ). length x ≡ length rows) (length rows) (a * 256 + length name) _ _ (λ k. refl)
      (λ k. write-length (a * 256) name rows k)) (λ h. refl)

  pub rowed-here : length name < 256 → a * 256 + 256 ≤ length rows → Holds rows a [] → Holds (rowed name a rows) a name
  rowed-here h r z k l =
      ap (λ (x : List ℕ). get_or x (a * 256 + k) 0) (rowed-written h (omega arith)) ∙ ⊎_elim
      (λ m. written_in (a * 256) name rows (omega arith) k m)
      (λ m. written_behind (a * 256) name rows (omega arith) (a * 256 + k) (omega arith) ∙ z k l ∙ sym (get_or-eq_default name 0 m))
      (lt-or-le k (length name))

  rowed-outside : (i : ℕ) → (i < a * 256) ⊎ (a * 256 + 256 ≤ i) → get_or (rowed name a rows) i 0 ≡ get_or rows i 0
  unfolding rowed
  rowed-outside i o = lt-either (λ (x : List ℕ). get_or x i 0 ≡ get_or rows i 0) (length name) 256 _ _
      (λ h. lt-either (λ (x : List ℕ). get_or x i 0 ≡ get_or rows i 0) (length rows) (a * 256 + length name) _ _ (λ k. refl)
      (λ k. ⊎_elim (written-before (a * 256) name rows k i) (λ m. written_behind (a * 256) name rows k i (omega arith)) o)) (λ h. refl)

  pub rowed-other : (b : ℕ) (l : List ℕ) → (b < a) ⊎ (a < b) → Holds rows b l → Holds (rowed name a rows) b l
  rowed-other b l o f k h =
      rowed-outside (b * 256 + k) (⊎_elim (λ m. inl (omega arith)) (λ m. inr (omega arith)) o) ∙ f k h

-- ---- a part of the text

module _ (text : List ℕ) (from to a : ℕ) (rows : List ℕ) where
  pub part-crossed : to < from → part_rowed text from to a rows ≡ rows
  unfolding part_rowed
  part-crossed h = lt_yes _ _ _ _ h

  pub part-over : from ≤ to → length text < to → part_rowed text from to a rows ≡ rows
  unfolding part_rowed
  part-over h k = lt_no _ _ _ _ h ∙ lt_yes _ _ _ _ k

  pub part-rowed : from ≤ to → to ≤ length text → part_rowed text from to a rows ≡ rowed (between text from to) a rows
  unfolding part_rowed
  part-rowed h k = lt_no _ _ _ _ h ∙ lt_no _ _ _ _ k

-- ---- one row after the other

pub rows-turn : (n : ℕ) (text from to names : List ℕ) {rows after : List ℕ} → rows ≡ rows_of n text from to names
    → after ≡ part_rowed text (get_or from n 0) (get_or to n 0) n rows → after ≡ rows_of (n + 1) text from to names
unfolding rows_of
rows-turn n text from to names e f = rw (add-one, ← e) f

pub rows-done : {n : ℕ} (text from to names : List ℕ) {rows : List ℕ} → rows ≡ rows_of n text from to names → n ≡ 255
    → rows ≡ rows_of 255 text from to names
rows-done text from to names e f = e ∙ ap (λ (k : ℕ). rows_of k text from to names) f
