-- From what the code reads and stores to what is answered (src/write.rt): the book is read as good or refused, its text stands in the draft, and
-- goes to the buffer where there is room.
use mathlib.Core.Path.{◌≡◌, refl, sym, ◌∙◌}
use mathlib.Core.List.{List, ◌++◌, append_assoc}
use Prim.Native.Nat.{ℕ, ◌+◌, ◌-◌, ◌<◌, ◌≤◌}
use native.Mathlib.Nat.{sub-zero}
use native.Mathlib.Omega.{arith}
use lib.ListN.{length, take, drop, length-append}
use lib.Seq.{sets-eq, take_at, length-take-le}
use Rattle.std.specs.Prelude.{Err}
use Rattle.meaning.specs.Books.{Book}
use Rattle.meaning.specs.Told.{success, refused_at, refused, Answered}
use Rattle.meaning.proofs.Choice.{lt_yes, lt_no}
use Rattle.book.specs.Numbers.{number_of, place_of, told}
use Rattle.book.specs.declared.refusal.Refusal.{Refusal}
use Rattle.book.specs.declared.reader.Shape.{Shape}
use Rattle.book.specs.Rows.{Bytes}
use Rattle.book.specs.Format.{BookRead, good, bad, read_of, told_of, book_of, book_in, ReadAs}
use Rattle.book.proofs.Shapes.{told-good, good-fits}
use Rattle.decimal.specs.Fewest.{Stored}
use Rattle.decimal.proofs.Fewest.{stored-then}
use Rattle.aspif.specs.Text.{header, last, rule_lines, output_lines, text_of}
use Rattle.aspif.specs.Handing.{at_front, hand_text, export_read, export_of}
use Rattle.aspif.proofs.Short.{text-short}

-- ---- the text in the draft

module _ (b : Book) {a : ℕ} (e : b.atoms ≡ a) where
  pub text-long : length (text_of b) ≡ 10 + (length (rule_lines b.rules) + (length (output_lines 0 a) + 2))
  unfolding text_of
  text-long = rw (← e) (simp length-append (omega arith))

  pub text-stored : {at n k i m : ℕ} {d f g h l : List ℕ} → Stored header at d n f → Stored (rule_lines b.rules) n f k g
      → Stored (output_lines 0 a) k g i h → Stored last i h m l → Stored (text_of b) at d m l
  unfolding text_of
  text-stored s t u v = stored-then s (stored-then t (stored-then (rw (← e) at u) v))

pub stored-front : (t d : List ℕ) {n : ℕ} {f : List ℕ} → Stored t 0 d n f → length t ≤ length d → take n f ≡ t
stored-front t d {n} {f} s h =
    let g : n ≡ length t = omega (arith, s.ends) in
    rw (s.bytes, g, sets-eq t d 0 (omega arith), append_assoc) (take_at t _ (length t) refl)

-- ---- handed over

module _ (draft out : List ℕ) (n : ℕ) (h : n ≤ length draft) where
  pub hand-short : length out < n → record { told = refused 33; buffer = out } ≡ hand_text (take n draft) out
  unfolding hand_text
  hand-short g = sym (lt_yes _ _ _ _ (rw (length-take-le n draft h) g))

  pub hand-given : n ≤ length out → {w : List ℕ} → w ≡ at_front (take (n - 0) (drop 0 draft)) out
      → record { told = success n; buffer = w } ≡ hand_text (take n draft) out
  unfolding hand_text
  hand-given g {w} e =
      let f = length-take-le n draft h in
      let k : w ≡ take n draft ++ drop n out = rw (sub-zero, f) at e in
      sym (lt_no _ _ _ _ (rw f g) ∙ rw (f, k))

-- ---- the book read

refused-read : (out : List ℕ) (y : BookRead) (i at : ℕ) → told_of y ≡ refused_at i at
    → record { told = refused_at i at; buffer = out } ≡ export_read y out
unfolding told_of export_read
refused-read out (good n k index l) i at e = let z : ◌≡◌ {A = ℕ} 0 1 = cc in absurd (omega arith)
refused-read out (bad j to) i at e = let p : j ≡ i = cc in let q : to ≡ at = cc in rw (p, q)

module _ (s out : List ℕ) where
  pub export-refused : (f : Refusal) → told (Err f) ≡ told_of (read_of s)
      → record { told = refused_at (number_of f) (place_of f); buffer = out } ≡ export_of s out
  unfolding export_of
  export-refused f e = refused-read out (read_of s) (number_of f) (place_of f) (sym e)

  module _ {h : Shape} (read : ReadAs s h) where
    pub fits-draft : Bytes s → length (text_of (book_in s)) ≤ 44382
    unfolding book_in
    fits-draft bytes = text-short (book_in s) (good-fits s _ _ _ _ bytes (told-good (read_of s) _ _ _ read))

    pub export-handed : {w : Answered ℕ} {t : List ℕ} → t ≡ text_of (book_in s) → w ≡ hand_text t out → w ≡ export_of s out
    unfolding export_of export_read book_in book_of
    export-handed f k = k ∙ rw f (rw (told-good (read_of s) _ _ _ read))
