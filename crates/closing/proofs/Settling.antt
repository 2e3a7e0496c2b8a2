-- From what the code of settling writes to what is answered (src/settle.rt, specs/Settle): a row byte by byte, two rows one behind the
-- other, and the book refused or read.
use mathlib.Core.Path.{◌≡◌, refl, sym, ◌∙◌, ap}
use mathlib.Core.Bool.{Bool, false, ◌&&◌}
use mathlib.Core.List.{List, ◌++◌}
use Prim.Native.Nat.{ℕ, zero, suc, ◌+◌, ◌≤◌, ◌<◌}
use native.Mathlib.Nat.{zero-add, add-zero, add-suc, suc-add, le_of_suc-le-suc, le_antisymm}
use native.Mathlib.Omega.{arith}
use lib.Dec.{ltb}
use lib.ListN.{length, get_or, set, drop, length-append}
use lib.Seq.{paste}
use borrow.Author.Tests.{lt-ltb}
use Rattle.std.specs.Prelude.{Result, Ok, Err}
use Rattle.meaning.specs.declared.colouring.Colouring.{Colouring}
use Rattle.meaning.specs.Bits.{listed}
use Rattle.meaning.specs.Written.{Tables, written}
use Rattle.meaning.specs.Sets.{Set}
use Rattle.meaning.specs.Books.{Atoms, atom_no, Book, count}
use Rattle.meaning.specs.Colours.{heads, all_in}
use Rattle.meaning.specs.Told.{success, refused_at, refused, Answered}
use Rattle.meaning.specs.Buffers.{write_at}
use Rattle.meaning.specs.Written.{of, nothing}
use Rattle.meaning.specs.Computed.{close}
use Rattle.meaning.proofs.Choice.{lt_yes, lt_no}
use Rattle.meaning.proofs.Buffers.{write-turn, write_done, write-next, write-front}
use Rattle.book.specs.declared.refusal.Refusal.{Refusal}
use Rattle.book.specs.declared.reader.Shape.{Shape}
use Rattle.book.specs.Numbers.{number_of, place_of, told as book_told}
use Rattle.book.specs.Format.{read_of, told_of, book_of, book_in, ReadAs}
use Rattle.book.specs.RuleRows.{headed_by, lost_by, RuleRows}
use Rattle.book.proofs.Shapes.{told-good}
use Rattle.book.proofs.Verdict.{read_as, read-bad}
use Rattle.book.proofs.RuleRows.{headed-by, lost-by}
use Rattle.book.proofs.Places.{shape-count, shape-atoms}
use Rattle.closing.specs.News.{atom_set}
use Rattle.closing.specs.Settle.{settled_byte, settled_from, settled_row, rule_row, atom_row, settled_rows, settle_in, settle_read, settle_of}
use Rattle.closing.proofs.Noting.{said}

-- ---- a row

pub settled-length : (i n : ℕ) (holds fails : Set ℕ) → length (settled_from i n holds fails) ≡ n
unfolding settled_from
settled-length i zero holds fails = refl
settled-length i (suc n) holds fails = ap suc (settled-length (suc i) n holds fails)

settled-from : (i n : ℕ) (holds fails : Set ℕ) (j : ℕ) → j < n → get_or (settled_from i n holds fails) j 0 ≡ settled_byte (holds (i + j)) (fails (i + j))
unfolding settled_from
settled-from i zero holds fails j h = absurd (omega arith)
settled-from i (suc n) holds fails zero h = rw add-zero
settled-from i (suc n) holds fails (suc j) h = rw (add-suc, ← suc-add i j) (settled-from (suc i) n holds fails j (le_of_suc-le-suc h))

pub settled_at : (n : ℕ) (holds fails : Set ℕ) (j : ℕ) → j < n → get_or (settled_from 0 n holds fails) j 0 ≡ settled_byte (holds j) (fails j)
settled_at n holds fails j h = settled-from 0 n holds fails j h ∙ ap (λ (k : ℕ). settled_byte (holds k) (fails k)) (zero-add j)

settled_same : (i n : ℕ) (holds fails holds' fails' : Set ℕ) → ((j : ℕ) → j < i + n → (holds j ≡ holds' j) × (fails j ≡ fails' j))
    → settled_from i n holds fails ≡ settled_from i n holds' fails'
unfolding settled_from
settled_same i zero holds fails holds' fails' f = refl
settled_same i (suc n) holds fails holds' fails' f =
    let (e, g) = f i (omega arith) in rw (e, g, settled_same (suc i) n holds fails holds' fails' (λ j h. f j (omega arith)))

-- a turn of the loop that writes it, and its end
module _ (holds fails : List Bool) (n at : ℕ) (out : List ℕ) where
  pub settled-turn : {i v : ℕ} {w : List ℕ} → at + n ≤ length out → i < n → v ≡ settled_byte (get_or holds i false) (get_or fails i false)
      → w ≡ paste out at (settled_row n holds fails) i → set w (at + i) v ≡ paste out at (settled_row n holds fails) (i + 1)
  settled-turn {i} h k e f =
      let m = settled-length 0 n (λ j. get_or holds j false) (λ j. get_or fails j false) in
      write-turn at (settled_row n holds fails) out (omega arith) (omega arith) (e ∙ sym (settled_at n _ _ i k)) f

  pub settled-written : {i : ℕ} {w : List ℕ} → i ≤ n → n ≤ i → w ≡ paste out at (settled_row n holds fails) i
      → w ≡ write_at at (settled_row n holds fails) out
  settled-written h k e = write_done at (settled_row n holds fails) out (le_antisymm h k ∙ sym (settled-length 0 n _ _)) e

-- ---- both rows

pub rule-row-length : (b : Book) → length (rule_row b (close b nothing)) ≡ count b
rule-row-length b = settled-length 0 (count b) _ _

pub settled-rows-length : (b : Book) → length (settled_rows b) ≡ count b + b.atoms
unfolding settled_rows
settled-rows-length b =
    let d = close b nothing in
    length-append (rule_row b d) (atom_row b d) ∙ rw (rule-row-length b, settled-length 0 b.atoms _ _)

module _ (s : List ℕ) (h : Shape) (e : ReadAs s h) (out : List ℕ) where
  pub settle-no-room : length out < h.rules + h.atoms → record { told = refused 8; buffer = out } ≡ settle_in (book_in s) out
  unfolding settle_in
  settle-no-room l = sym (lt_yes _ _ _ _ (omega (arith, shape-count s h e, shape-atoms s h e)))

  -- the rules' row, and behind it the atoms' row
  module _ (small : h.atoms < 256) (l : h.rules + h.atoms ≤ length out) {c : Tables} (d : Colouring) (empty : c ≡ nothing)
      (closed : written d ≡ close (book_in s) c) where
    first : written d ≡ close (book_in s) nothing
    first = closed ∙ ap (close (book_in s)) empty

    rules-are : settled_row h.rules (listed d.on.w) (listed d.off.w) ≡ rule_row (book_in s) (close (book_in s) nothing)
    unfolding of
    rules-are = rw (← first, shape-count s h e)

    module _ (rows nt nl : List ℕ) (k : RuleRows (book_in s) rows) (p : atom_set nt ≡ (λ a. ltb a.0 h.atoms && headed_by rows d.on.w a))
        (q : atom_set nl ≡ (λ a. ltb a.0 h.atoms && lost_by rows d.off.w a)) where
      byte-of : (w : List ℕ) (x y : Atoms) → atom_set w ≡ (λ a. ltb a.0 h.atoms && x a) → (j : ℕ) → j < h.atoms
          → x (atom_no j) ≡ y (atom_no j) → get_or (listed w) j false ≡ y (atom_no j)
      unfolding of
      byte-of w x y f j m g = sym (said w (atom_no j)) ∙ ap (λ (z : Atoms). z (atom_no j)) f ∙ rw (lt-ltb j h.atoms m) g

      atoms_are : settled_row h.atoms (listed nt) (listed nl) ≡ atom_row (book_in s) (close (book_in s) nothing)
      unfolding book_in book_of
      atoms_are = rw (← first, shape-atoms s h e) (settled_same 0 h.atoms _ _ _ _ (λ j m. (
        byte-of nt (headed_by rows d.on.w) (heads (book_in s) (of (listed d.on.w))) p j (omega arith) (headed-by _ rows k d.on.w (atom_no j) (omega arith)),
        byte-of nl (lost_by rows d.off.w) (all_in (book_in s) (of (listed d.off.w))) q j (omega arith) (lost-by _ rows k d.off.w (atom_no j) (omega arith)),
      )))

      pub settle-told : {u w : List ℕ} → u ≡ write_at 0 (settled_row h.rules (listed d.on.w) (listed d.off.w)) out
          → w ≡ write_at h.rules (settled_row h.atoms (listed nt) (listed nl)) u
          → record { told = success tt; buffer = w } ≡ settle_in (book_in s) out
      unfolding settle_in settled_rows
      settle-told {u} {w} f g =
          let b = book_in s in let xs = rule_row b (close b nothing) in let ys = atom_row b (close b nothing) in
          let n : 0 + length xs ≡ h.rules = omega (arith, rule-row-length b, shape-count s h e) in
          let z : w ≡ (xs ++ ys) ++ drop (count b + b.atoms) out =
          g ∙ rw (f, rules-are, atoms_are, ← n) (write-next 0 xs ys out (omega arith))
          ∙ write-front (xs ++ ys) out ∙ ap (λ (m : ℕ). (xs ++ ys) ++ drop m out) (settled-rows-length b) in
          rw z (sym (lt_no _ _ _ _ (omega (arith, shape-count s h e, shape-atoms s h e))))

-- ---- the book

module _ (s : List ℕ) {x : Result Shape Refusal} (e : book_told x ≡ told_of (read_of s)) (out : List ℕ) where
  pub settle-refused : {f : Refusal} → x ≡ Err f → record { told = refused_at (number_of f) (place_of f); buffer = out } ≡ settle_of s out
  unfolding settle_of settle_read
  settle-refused f = sym (rw (read-bad s e f))

  pub settle_read-good : {h : Shape} {p : Answered (Unit {0})} → x ≡ Ok h → p ≡ settle_in (book_in s) out → p ≡ settle_of s out
  unfolding settle_of settle_read book_in book_of
  settle_read-good f g = g ∙ rw (told-good (read_of s) _ _ _ (read_as s e f))
