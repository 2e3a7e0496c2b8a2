-- What reading the records tells, in the table's words: 4, 5, 6 or 7 with its place, or that all are good. One way, the records are
-- followed and each answer found in its row; the other way, good records are passed over, and the row's own test answers.
-- Document 01, "for each record 4, 5 and, byte by byte, 6 before 7; then the last end (4)".
use mathlib.Core.Path.{◌≡◌, refl, ◌∙◌, subst}
use mathlib.Core.List.{List}
use Prim.Native.Nat.{ℕ, zero, suc, ◌+◌, ◌*◌, ◌-◌, ◌≤◌, ◌<◌}
use native.Mathlib.Nat.{sub-zero}
use native.Mathlib.Numerals.{add-one}
use native.Mathlib.Omega.{arith}
use lib.ListN.{length, get_or}
use Rattle.meaning.proofs.Choice.{eq_yes, eq_no, eq-either}
use Rattle.book.specs.Format.{u16_at, Check, fine, wrong, and_then, records_of}
use Rattle.book.specs.Rows.{record_end, RecordFits, IsAtom, head, body, atom, order, ByteGood, GoodBefore, RecordGood}
use Rattle.book.specs.Rows.{RecordsGood, none, more, Next, EntryWrong, entry, last_end, RecordWrong, misfit, BytesWrong, byte}
use Rattle.book.proofs.Bytes.{clean, dirty, RecordRow, misfits, fits, record-row, record-told, length_at, wrong-inside}

-- what reading k records tells
pub data RecordsRow (s : List ℕ) (n k index : ℕ) : Check → Type 0 where
  all-good : RecordsGood s n index k index → RecordsRow s n k index fine
  at_entry : {place : ℕ} → EntryWrong s n k index place → RecordsRow s n k index (wrong 4 place)
  at-record : {place : ℕ} → RecordWrong s n k index place → RecordsRow s n k index (wrong 5 place)
  at-atom : {place : ℕ} → BytesWrong s n k index 6 place → RecordsRow s n k index (wrong 6 place)
  at-order : {place : ℕ} → BytesWrong s n k index 7 place → RecordsRow s n k index (wrong 7 place)

module _ (s : List ℕ) (n index : ℕ) (inside : index ≤ length s) where
  good-within : {r at : ℕ} → RecordsGood s n index r at → at ≤ index
  good-within none = omega arith
  good-within (more g e f) = f.fits.ends

  -- past its end a record has no bytes
  good-bytes : (at : ℕ) → RecordFits s index at → GoodBefore s n at (record_end s at) → (i : ℕ) → ByteGood s n at i
  good-bytes at f before i = record { below = below; rises = λ g. (before i g.inside).rises g }
    where
      below : IsAtom s at i → get_or s i 0 < n
      below (head e) = (before i (omega arith)).below (head e)
      below (body h k) = (before i k).below (body h k)

  module _ (k r at : ℕ) (next : Next s n k index r at) (e : u16_at s (index + 2 * r) ≡ at) where
    record-then : {c : Check} (d : Check) → RecordRow s n index at c → (RecordGood s n index at → RecordsRow s n k index d)
        → RecordsRow s n k index (and_then c d)
    unfolding and_then
    record-then d (misfits m) f = at-record (misfit next e m)
    record-then d (fits h (clean before)) f = f (record { fits = h; bytes = good-bytes at h before })
    record-then d (fits h (dirty l before (atom a b))) f = at-atom (byte next e h before (atom a b))
    record-then d (fits h (dirty l before (order a b c))) f = at-order (byte next e h before (order a b c))

  pub records-row : (m k r at : ℕ) → r + m ≡ k → RecordsGood s n index r at → RecordsRow s n k index (records_of m s n index r at)
  unfolding records_of
  records-row zero k r at t g =
      let z : r ≡ k = omega arith in
      let g' : RecordsGood s n index k at = rw z at g in
      eq-either (RecordsRow s n k index) _ _ _ _ (λ e. all-good (rw e at g')) (λ e. at_entry (last_end g' e))
  records-row (suc m) k r at t g =
      let next : Next s n k index r at = record { due = omega arith; before = g } in
      eq-either (RecordsRow s n k index) _ _ _ _
      (λ e. record-then k r at next e _ (record-row s n index at (good-within g) inside)
      (λ f. rw (length_at s index at f.fits.room, add-one r) (records-row m k (suc r) _ (omega arith) (more g e f))))
      (λ e. at_entry (entry next e))

  -- good records are passed over
  reach : (k : ℕ) {r at : ℕ} → RecordsGood s n index r at → r ≤ k → records_of k s n index 0 0 ≡ records_of (k - r) s n index r at
  unfolding records_of and_then
  reach k none h = rw sub-zero
  reach k (more {r = r} {at = at} g e f) h =
      let m : k - r ≡ suc (k - suc r) = omega arith in
      let told = record-told s n index at (good-within g) inside (fits f.fits (clean (λ i _. f.bytes i))) in
      reach k g (omega arith)
      ∙ rw m (eq_yes _ _ _ _ e ∙ rw (told, length_at s index at f.fits.room, add-one r))

  reach-end : (k : ℕ) {at : ℕ} → RecordsGood s n index k at → records_of k s n index 0 0 ≡ records_of 0 s n index k at
  reach-end k g = let z : k - k ≡ 0 = omega arith in rw z at (reach k g (omega arith))

  module _ {k r at : ℕ} (next : Next s n k index r at) where
    open_next : records_of k s n index 0 0 ≡ records_of (suc (k - suc r)) s n index r at
    open_next =
        let h = next.due in
        let m : k - r ≡ suc (k - suc r) = omega arith in
        rw m at (reach k next.before (omega arith))

    -- reading stops at record r, whose entry is right
    stops_at : {number place : ℕ} → u16_at s (index + 2 * r) ≡ at → RecordRow s n index at (wrong number place)
        → records_of k s n index 0 0 ≡ wrong number place
    unfolding records_of and_then
    stops_at e row = open_next ∙ eq_yes _ _ _ _ e ∙ rw (record-told s n index at (good-within next.before) inside row)

  pub records-told : (k : ℕ) {c : Check} → RecordsRow s n k index c → records_of k s n index 0 0 ≡ c
  unfolding records_of
  records-told k (all-good g) = reach-end k g ∙ eq_yes _ _ _ _ refl
  records-told k (at_entry (entry next ne)) = open_next next ∙ eq_no _ _ _ _ ne
  records-told k (at_entry (last_end g ne)) = reach-end k g ∙ eq_no _ _ _ _ ne
  records-told k (at-record (misfit next e m)) = stops_at next e (misfits m)
  records-told k (at-atom (byte next e h before w)) = stops_at next e (fits h (dirty (wrong-inside w) before w))
  records-told k (at-order (byte next e h before w)) = stops_at next e (fits h (dirty (wrong-inside w) before w))

  -- so the check finds nothing exactly if all are good
  pub records-good : (k : ℕ) → records_of k s n index 0 0 ≡ fine → RecordsGood s n index k index
  records-good k e = there (subst (RecordsRow s n k index) e (records-row k k 0 0 (omega arith) none))
    where
      there : RecordsRow s n k index fine → RecordsGood s n index k index
      there (all-good g) = g

  pub records-checked : {k : ℕ} → RecordsGood s n index k index → records_of k s n index 0 0 ≡ fine
  records-checked {k} g = records-told k (all-good g)
