-- What a call of levels answers (specs/Levels): from what the code does, way by way; and, for readers, that the bytes told are the levels of
-- the k-th reading's colouring, and that any other answer keeps the buffer.
use mathlib.Core.Path.{◌≡◌, refl, sym, ◌∙◌, ap, subst, fun_ext}
use mathlib.Core.Logic.{⊎_elim}
use mathlib.Core.List.{List, [], ◌∷◌, ◌++◌, Memᴰ}
use Prim.Native.Nat.{ℕ, ◌+◌, ◌-◌, ◌≤◌, ◌<◌}
use native.Mathlib.Omega.{arith}
use lib.Dec.{eqb}
use lib.ListN.{length, get_or, take, drop, replicate, get_or-append, get_or-eq_default, length-replicate, get_or-replicate}
use lib.Seq.{length-take-le, get_or-drop, get_or-append-add}
use Rattle.meaning.specs.Written.{Tables}
use Rattle.meaning.specs.Books.{Atoms, Book, count}
use Rattle.meaning.specs.Told.{Told, refused_at, refused, Answered}
use Rattle.meaning.specs.Buffers.{write_at}
use Rattle.meaning.specs.Written.{nothing}
use Rattle.meaning.proofs.Choice.{lt_yes, lt_no, lt-either, eq_yes, eq_no, eq-either}
use Rattle.meaning.proofs.Tests.{lt-or-le, apart}
use Rattle.meaning.proofs.Buffers.{write-front}
use Rattle.meaning.proofs.LeastModel.{Proper, Inside, answer-inside}
use Rattle.std.specs.Prelude.{Result, Ok, Err}
use Rattle.book.specs.declared.refusal.Refusal.{Refusal}
use Rattle.book.specs.declared.reader.Shape.{Shape}
use Rattle.book.specs.Numbers.{number_of, place_of, told as book_told}
use Rattle.book.specs.Format.{read_of, told_of, book_of, book_in, ReadAs}
use Rattle.book.proofs.Shapes.{told-good}
use Rattle.book.proofs.Verdict.{read_as, read-bad}
use Rattle.book.proofs.Places.{shape-count}
use Rattle.walk.specs.Events.{reading, events}
use Rattle.walk.specs.Readings.{reading_of, readings}
use Rattle.walk.specs.Tries.{Kth}
use Rattle.walk.specs.Run.{row_of, State, run}
use Rattle.walk.specs.Find.{set as given, start_of, told_by, find_along, find_in}
use Rattle.walk.specs.Page.{set_in}
use Rattle.walk.specs.Levels.{down, levels_by, leveled_by, levels_in, levels_read, levels_of}
use Rattle.walk.specs.declared.tally.Halt.{Halt}
use Rattle.walk.specs.declared.tally.Halt.TheVariants.{Going, Full, Limit}
use Rattle.walk.specs.declared.tally.Tally.{Tally}
use Rattle.walk.proofs.Rows.{row-length, set-in-row}
use Rattle.walk.proofs.Readings.{readings-all}
use Rattle.walk.proofs.Demand.{find-row}
use Rattle.walk.proofs.Nodes.{node-sized, reading-node}
use Rattle.walk.proofs.Descending.{reading-in, down-found}
use Rattle.walk.proofs.Answering.{any-buffer}

-- ---- the bytes

pub levels-written : (levels out : List ℕ) (n : ℕ) → n ≤ length levels → {w : List ℕ} → w ≡ take n levels
    → w ++ drop n out ≡ write_at 0 (take n levels) out
levels-written levels out n long e =
    rw e (sym (write-front (take n levels) out ∙ ap (λ (i : ℕ). take n levels ++ drop i out) (length-take-le n levels long)))

-- ---- the ways of a call

-- a state that is none of the others
full-told : (b : Book) (h : Halt) (row out : List ℕ) → (h ≡ Full → ⊥) → levels_by b h row out ≡ out
unfolding levels_by
full-told b Going row out k = refl
full-told b Full row out k = absurd (k refl)
full-told b Limit row out k = refl

module _ (s : List ℕ) (h : Shape) (e : ReadAs s h) (k limit : ℕ) (out : List ℕ) where
  abbrev b : Book
  b = book_in s

  pub levels-no-number : k ≡ 0 → record { told = refused 15; buffer = out } ≡ levels_in (book_in s) k limit out
  unfolding levels_in
  levels-no-number z = sym (eq_yes _ _ _ _ z)

  module _ (n : k ≡ 0 → ⊥) where
    pub levels-no-room : length out < h.rules → record { told = refused 8; buffer = out } ≡ levels_in (book_in s) k limit out
    unfolding levels_in
    levels-no-room l = sym (eq_no _ _ _ _ n ∙ lt_yes _ _ _ _ (omega (arith, shape-count s h e)))

    module _ (l : h.rules ≤ length out) {t : Tally} {row : List ℕ}
        (f : record { tally = t; out = row }
        ≡ run (book_in s) (record { pass = k - 1; room = 1; limit = limit }) (start_of (replicate 255 0)) (events (book_in s) nothing))
        {r : Told ℕ} (g : r ≡ told_by t.halt (record { tally = t; out = [] }) limit) where
      levels-walked : record { told = r; buffer = levels_by b t.halt row out } ≡ levels_in b k limit out
      unfolding levels_in
      levels-walked =
          rw (g ∙ any-buffer t.halt t limit [] row)
          (sym (eq_no _ _ _ _ n ∙ lt_no _ _ _ _ (omega (arith, shape-count s h e)) ∙ ap (λ (u : State). leveled_by b u limit out) (sym f)))

      pub levels-other : (t.halt ≡ Full → ⊥) → record { told = r; buffer = out } ≡ levels_in (book_in s) k limit out
      levels-other o = rw (full-told b t.halt row out o) at levels-walked

      pub levels-full : t.halt ≡ Full → {d : Tables} → d ≡ down (book_in s) nothing (set_in row) → {w : List ℕ}
          → w ≡ write_at 0 (take h.rules d.levels) out → record { told = r; buffer = w } ≡ levels_in (book_in s) k limit out
      unfolding levels_by
      levels-full o {d} q {w} z =
          let v : w ≡ levels_by b t.halt row out =
          rw o (z ∙ (rw (q, shape-count s h e))) in
          rw v levels-walked

-- ---- the book

module _ (s : List ℕ) {x : Result Shape Refusal} (e : book_told x ≡ told_of (read_of s)) (k limit : ℕ) (out : List ℕ) where
  pub levels-refused : {f : Refusal} → x ≡ Err f
      → record { told = refused_at (number_of f) (place_of f); buffer = out } ≡ levels_of s k limit out
  unfolding levels_of levels_read
  levels-refused f = sym (rw (read-bad s e f))

  pub levels-read : {h : Shape} {p : Answered ℕ} → x ≡ Ok h → p ≡ levels_in (book_in s) k limit out → p ≡ levels_of s k limit out
  unfolding levels_of levels_read book_in book_of
  levels-read f g = g ∙ rw (told-good (read_of s) _ _ _ (read_as s e f))

-- ---- for readers

module _ (b : Book) (k limit : ℕ) (out : List ℕ) where
  -- nothing is written on any answer but levels
  pub levels-keeps : ((t : ℕ) → (levels_in b k limit out).told ≡ given t → ⊥) → (levels_in b k limit out).buffer ≡ out
  unfolding levels_in levels_by told_by
  levels-keeps =
      let P : Answered ℕ → Type 0 = λ a. ((t : ℕ) → a.told ≡ given t → ⊥) → a.buffer ≡ out in
      eq-either P _ _ _ _ (λ e f. refl) λ n. lt-either P _ _ _ _ (λ h f. refl) λ h f.
      kept (run b (record { pass = k - 1; room = 1; limit = limit }) (start_of (replicate 255 0)) (events b nothing)) f
    where
      kept : (s : State) → ((t : ℕ) → told_by s.tally.halt s limit ≡ given t → ⊥) → levels_by b s.tally.halt s.out out ≡ out
      kept s f = by s.tally.halt f
        where
          by : (h : Halt) → ((t : ℕ) → told_by h s limit ≡ given t → ⊥) → levels_by b h s.out out ≡ out
          by Going f = refl
          by Full f = absurd (f s.tally.tries refl)
          by Limit f = refl

module _ (b : Book) (fits : count b ≤ 255) (small : b.atoms ≤ 255) (proper : Proper b) (k limit : ℕ) (out : List ℕ) (some : 1 ≤ k)
    (room : count b ≤ length out) where
  abbrev zeros : List ℕ
  zeros = replicate 255 0

  -- the walk to the reading, as finding makes it over a row of zeros
  abbrev walked : State
  walked = run b (record { pass = k - 1; room = 1; limit = limit }) (start_of zeros) (events b nothing)

  find-walks : find_in b k limit zeros ≡ record { told = told_by walked.tally.halt walked limit; buffer = walked.out }
  unfolding find_along
  find-walks = eq_no _ _ _ _ (λ z. omega arith) ∙ lt_no _ _ _ _ (omega (arith, length-replicate {A = ℕ} 255 0))

  levels-walk : levels_in b k limit out ≡ leveled_by b walked limit out
  unfolding levels_in
  levels-walk = eq_no _ _ _ _ (λ z. omega arith) ∙ lt_no _ _ _ _ room

  full-if : (h : Halt) (t : ℕ) → told_by h walked limit ≡ given t → h ≡ Full
  unfolding told_by
  full-if Going t e = apart (cc)
  full-if Full t e = refl
  full-if Limit t e = apart (cc)

  -- a row with zeros behind it is read as the set
  set-before-zeros : (x : Atoms) → Inside b x → set_in (row_of b x ++ drop b.atoms zeros) ≡ x
  unfolding set_in
  set-before-zeros x inside = fun_ext (λ a. ap (λ (n : ℕ). eqb n 1) (same_byte a.0) ∙ ap (λ (y : Atoms). y a) (set-in-row b x inside))
    where
      zero-at : (i : ℕ) → get_or zeros i 0 ≡ 0
      zero-at i = ⊎_elim (λ h. get_or-replicate 255 i 0 0 h)
          (λ h. let g : length zeros ≤ i = omega (arith, length-replicate {A = ℕ} 255 0) in get_or-eq_default zeros 0 g)
          (lt-or-le i 255)

      same_byte : (i : ℕ) → get_or (row_of b x ++ drop b.atoms zeros) i 0 ≡ get_or (row_of b x) i 0
      same_byte i = ⊎_elim
          (λ h. get_or-append (row_of b x) (drop b.atoms zeros) 0 i (omega (arith, row-length b x)))
          (λ h.
          let n : length (row_of b x) + (i - b.atoms) ≡ i = omega (arith, row-length b x) in
          let g : length (row_of b x) ≤ i = omega (arith, row-length b x) in
          ap (λ (j : ℕ). get_or (row_of b x ++ drop b.atoms zeros) j 0) (sym n)
          ∙ get_or-append-add (row_of b x) (drop b.atoms zeros) (i - b.atoms) 0
          ∙ get_or-drop b.atoms zeros (i - b.atoms) 0 ∙ zero-at (b.atoms + (i - b.atoms))
          ∙ sym (get_or-eq_default (row_of b x) 0 g))
          (lt-or-le i b.atoms)

  sets-in : {d : Tables} → Memᴰ (reading d) (events b nothing) → Memᴰ (reading_of b d) (readings b)
  sets-in {d} m = reading-in b (events b nothing) d m

  -- the bytes told are the levels of the colouring of the k-th reading, and the later bytes are kept
  pub levels-kth : (t : ℕ) (x : Atoms) → (levels_in b k limit out).told ≡ given t → (c : Kth b (events b nothing) k t x)
      → (levels_in b k limit out).buffer ≡ take (count b) c.found.levels ++ drop (count b) out
  unfolding levels_by
  levels-kth t x e c =
      let told-walk = sym (ap (λ (a : Answered ℕ). a.told) levels-walk) ∙ e in
      let full = full-if walked.tally.halt t told-walk in
      let row : walked.out ≡ row_of b x ++ drop b.atoms zeros =
      sym (ap (λ (a : Answered ℕ). a.buffer) find-walks)
      ∙ find-row b (events b nothing) k limit zeros t x (ap (λ (a : Answered ℕ). a.told) find-walks ∙ told-walk) c in
      let member : Memᴰ (reading c.found) (events b nothing) = rw c.walk (mathlib.Core.List.Memᴰ.append_right c.earlier (mathlib.Core.List.Memᴰ.head refl)) in
      let inside : Inside b x =
      subst (Inside b) (sym c.set) (answer-inside b fits _ proper ((readings-all b fits).sound _ (sets-in member))) in
      let way : down b nothing (set_in walked.out) ≡ c.found =
      ap (down b nothing) (ap set_in row ∙ set-before-zeros x inside) ∙ down-found b fits c in
      let long : length (take (count b) c.found.levels) ≡ count b =
      length-take-le (count b) c.found.levels (omega (arith, (node-sized b fits (reading-node b fits c.found member).1).levels)) in
      ap (λ (a : Answered ℕ). a.buffer) levels-walk
      ∙ ap (λ (h : Halt). levels_by b h walked.out out) full
      ∙ ap (λ (d : Tables). write_at 0 (take (count b) d.levels) out) way
      ∙ write-front (take (count b) c.found.levels) out
      ∙ ap (λ (n : ℕ). take (count b) c.found.levels ++ drop n out) long
