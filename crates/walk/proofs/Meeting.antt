-- What a try does that meets a reading (specs/Run, src/met.rt), by its cases; that the row's place lies in the buffer; and what a call
-- keeps to along its walk (specs/Room), from one state of its way to the next.
use mathlib.Core.Path.{◌≡◌, refl, sym, ◌∙◌, ap}
use mathlib.Core.Bool.{Bool}
use mathlib.Core.List.{List}
use Prim.Native.Nat.{ℕ, ◌+◌, ◌*◌, ◌-◌, ◌≤◌, ◌<◌}
use native.Mathlib.Omega.{arith}
use lib.ListN.{length}
use Rattle.meaning.specs.Books.{Atoms, Rules, Book}
use Rattle.meaning.specs.Choice.{if_eq}
use Rattle.meaning.specs.Colours.{heads}
use Rattle.meaning.proofs.Choice.{lt_yes, lt_no, eq_yes, eq_no}
use Rattle.book.specs.declared.reader.Shape.{Shape}
use Rattle.book.specs.Format.{book_in, ReadAs}
use Rattle.book.specs.Tables.{atom_table, atoms_in}
use Rattle.book.proofs.Places.{shape-atoms}
use Rattle.meaning.specs.Buffers.{write_at}
use Rattle.walk.specs.Run.{row_from, row_of, Wanted, State, counted, reading_met}
use Rattle.walk.specs.Room.{Room}
use Rattle.walk.specs.declared.tally.Halt.{Halt}
use Rattle.walk.specs.declared.tally.Halt.TheVariants.{Going, Full}
use Rattle.walk.specs.declared.tally.Tally.{Tally}
use Rattle.walk.proofs.Run.{Fine, row_fits}
use Rattle.walk.proofs.HeadTables.{heads-read}

abbrev pub wanted : ℕ → ℕ → ℕ → Wanted
wanted pass room limit = record { pass = pass; room = room; limit = limit }

-- ---- what a call keeps to

module _ {b : Book} {pass room : ℕ} {s : State} where
  pub room-fine : (limit : ℕ) → s.tally.halt ≡ Going → Room b pass room s → Fine b (wanted pass room limit) (length s.out) s
  room-fine limit g f = let h = f.wanting g in record { counts = f.counts; most = omega arith; going = f.wanting; long = refl }

  pub fine-room : (limit n : ℕ) → 1 ≤ room → room * b.atoms ≤ n → Fine b (wanted pass room limit) n s → Room b pass room s
  fine-room limit n h k f = record { some = h; counts = f.counts; wanting = f.going; fits = omega (arith, f.long) }

-- ---- the cases

module _ (b : Book) (w : Wanted) (s : State) (x : Atoms) where
  pub met-passed : {t : Tally} → s.tally.sets < w.pass → t ≡ counted s (s.tally.sets + 1) Going
      → record { tally = t; out = s.out } ≡ reading_met b w s x
  unfolding reading_met
  met-passed h e = rw e (sym (lt_yes _ _ _ _ h))

  written : {t : Tally} {out : List ℕ} → w.pass ≤ s.tally.sets
      → out ≡ write_at ((s.tally.sets - w.pass) * b.atoms) (row_of b x) s.out
      → t ≡ counted s (s.tally.sets + 1) (if_eq (s.tally.sets + 1) (w.pass + w.room) Full Going)
      → record { tally = t; out = out } ≡ reading_met b w s x
  unfolding reading_met
  written h g e = rw (e, g) (sym (lt_no _ _ _ _ h))

-- ---- in a book that was read

module _ (s : List ℕ) (h : Shape) (e : ReadAs s h) where
  pub row-place : (pass room : ℕ) (t : State) → Room (book_in s) pass room t → t.tally.halt ≡ Going → pass ≤ t.tally.sets
      → (t.tally.sets - pass) * h.atoms + h.atoms ≤ length t.out
  row-place pass room t f g k =
      rw (shape-atoms s h e) at (row_fits (book_in s) (wanted pass room 0) (length t.out) f.some f.fits t (room-fine 0 g f) g k)

  -- the heads of some rules by their table, in a state t that does not pass them over: their row is written, and is the last that there is
  -- room for or not
  module _ (small : h.atoms < 256) (r : Rules) {table : List Bool} (f : table ≡ atom_table (heads (book_in s) r))
      (w : Wanted) (t : State) (k : w.pass ≤ t.tally.sets) {out : List ℕ}
      (p : out ≡ write_at ((t.tally.sets - w.pass) * h.atoms) (row_from 0 h.atoms (atoms_in table)) t.out) where
    read : atoms_in table ≡ heads (book_in s) r
    read = ap atoms_in f ∙ heads-read s h e small r

    row_put : out ≡ write_at ((t.tally.sets - w.pass) * (book_in s).atoms) (row_of (book_in s) (heads (book_in s) r)) t.out
    unfolding row_of
    row_put =
        let i = t.tally.sets - w.pass in
        p ∙ ap (λ (x : Atoms). write_at (i * h.atoms) (row_from 0 h.atoms x) t.out) read
        ∙ ap (λ (n : ℕ). write_at (i * n) (row_from 0 n (heads (book_in s) r)) t.out) (sym (shape-atoms s h e))

    met-row : {u : Tally} {a : Halt} → u ≡ counted t (t.tally.sets + 1) a
        → if_eq (t.tally.sets + 1) (w.pass + w.room) Full Going ≡ a
        → record { tally = u; out = out } ≡ reading_met (book_in s) w t (heads (book_in s) r)
    met-row q m = written (book_in s) w t _ k row_put (q ∙ ap (counted t (t.tally.sets + 1)) (sym m))

    pub met-full : {u : Tally} → t.tally.sets - w.pass + 1 ≡ w.room → u ≡ counted t (t.tally.sets + 1) Full
        → record { tally = u; out = out } ≡ reading_met (book_in s) w t (heads (book_in s) r)
    met-full l q = met-row q (eq_yes _ _ _ _ (omega arith))

    pub met-going : {u : Tally} → (t.tally.sets - w.pass + 1 ≡ w.room → ⊥) → u ≡ counted t (t.tally.sets + 1) Going
        → record { tally = u; out = out } ≡ reading_met (book_in s) w t (heads (book_in s) r)
    met-going l q = met-row q (eq_no _ _ _ _ (λ m. l (omega arith)))
