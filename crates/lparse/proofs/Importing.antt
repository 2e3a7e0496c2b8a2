-- The book handed over (specs/Import): whether the rules made and the atoms are within the limits, what the first pass says of the text, and
-- the bytes that are copied.
use mathlib.Core.Path.{◌≡◌, refl, ap, sym, ◌∙◌}
use mathlib.Core.Logic.{⊎_elim}
use mathlib.Core.Bool.{Bool, true, false}
use mathlib.Core.List.{List, [], ◌++◌}
use Prim.Native.Nat.{ℕ, ◌+◌, ◌-◌, ◌≤◌, ◌<◌}
use native.Mathlib.Nat.{sub-zero}
use native.Mathlib.Numerals.{add-one}
use native.Mathlib.Omega.{arith}
use lib.ListN.{length, take, drop, replicate, length-replicate, length-append}
use lib.Seq.{take_all, take-append-le, take-length}
use borrow.Author.Tests.{le-leb, lt-leb}
use Rattle.std.specs.Prelude.{Option, Some, None, Result, Ok, Err}
use Rattle.meaning.specs.Books.{Book, count}
use Rattle.meaning.specs.Told.{Told, success, refused_at, refused, Answered}
use Rattle.meaning.proofs.Tests.{both, refuted, lt-or-le, not_first, apart}
use Rattle.meaning.proofs.Sets.{every-all}
use Rattle.meaning.proofs.Choice.{b-yes, b-no, b-either, lt_yes, lt_no, lt-either}
use Rattle.book.specs.declared.making.Making.{Making}
use Rattle.book.specs.Format.{book_bytes}
use Rattle.book.specs.Writing.{bytes_of_book}
use Rattle.book.specs.Making.{Small, Made, Finished}
use Rattle.book.proofs.Made.{fits-small, made-whole, made-over}
use Rattle.imported.specs.declared.TextAtom.{TextAtom}
use Rattle.imported.specs.Text.{Text}
use Rattle.imported.specs.Making.{mentioned, distinct, atom_count, made_atoms, made_rules, made_book, fits_rule, fits_in}
use Rattle.imported.proofs.Fits.{test_fits, count-made}
use Rattle.lparse.specs.declared.answer.Unimported.{Unimported}
use Rattle.lparse.specs.declared.answer.Unimported.TheVariants.{Format as WrongFormat, Kind as OtherKind, NoFit}
use Rattle.lparse.specs.declared.form.Forming.{Forming}
use Rattle.lparse.specs.Reading.{Part, Heard, says, wrong}
use Rattle.lparse.specs.Collect.{text_in, text_of, numbers_of, told, collected, collect_heard, collect_of}
use Rattle.lparse.specs.Opened.{capped}
use Rattle.lparse.specs.Make.{counted, Readable, Complete}
use Rattle.lparse.specs.Import.{told_book, only, laid_of, hand_laid, hand_over, import_heard, import_of}
use Rattle.lparse.proofs.Noting.{numbers-length}
use Rattle.lparse.proofs.Capped.{capped-least, capped-on}

-- ---- the limits

module _ (t : Text) where
  over-small : ¬ Small (made_rules t) → fits_in (made_book t) ≡ false
  unfolding made_book
  over-small f = refuted (λ e. f (fits-small (made_book t) (test_fits t e)))

  over-atoms : 255 < (made_book t).atoms → fits_in (made_book t) ≡ false
  unfolding fits_in
  over-atoms h = not_first _ (lt-leb _ _ h)

  small-fits : Small (made_rules t) → (made_book t).atoms ≤ 255 → fits_in (made_book t) ≡ true
  unfolding fits_in fits_rule made_book count
  small-fits s h = both (le-leb _ _ h) (both (le-leb _ _ s.rules) (every-all fits_rule (made_rules t)
      (λ r m. both (le-leb _ _ (s.each r m).pos.short) (le-leb _ _ (s.each r m).neg.short))))

-- ---- what is laid out

module _ (b : Book) (room : ℕ) where
  no-fit : fits_in b ≡ false → None ≡ laid_of b room
  unfolding laid_of
  no-fit e = sym (b-no _ _ _ e)

  -- a book that is laid out is within the limits and the room
  pub laid-within : {n : ℕ} → laid_of b room ≡ Some n → (fits_in b ≡ true) × (n ≡ length (bytes_of_book b)) × (n ≤ room)
  unfolding laid_of
  laid-within {n} = b-either P (fits_in b) _ _
      (λ f. lt-either P _ _ _ _ (λ k e. apart cc) (λ k e. let z : length (bytes_of_book b) ≡ n = cc in (f, sym z, omega arith)))
      (λ f e. apart cc)
    where
      P : Option ℕ → Type 0
      P x = x ≡ Some n → (fits_in b ≡ true) × (n ≡ length (bytes_of_book b)) × (n ≤ room)

module _ (t : Text) (room : ℕ) {m : Making} {draft : List ℕ} (made : Made (made_rules t) m draft) where
  pub laid-over : m.fits ≡ false → None ≡ laid_of (made_book t) room
  laid-over e = no-fit (made_book t) room (over-small t (made-over made e))

  pub laid-many : {n : ℕ} → n ≡ capped (made_book t).atoms → 255 < n → None ≡ laid_of (made_book t) room
  laid-many e h = no-fit (made_book t) room (over-atoms t (capped-least (made_book t).atoms {m = 256} (rw e at h)))

  module _ (fine : m.fits ≡ true) {atoms : ℕ} (same : atoms ≡ (made_book t).atoms) (few : atoms ≤ 255) where
    fit : fits_in (made_book t) ≡ true
    fit = small-fits t (made-whole made fine).small (rw same at few)

    module _ {n : ℕ} {after : List ℕ} (f : Finished (made_book t) n after) where
      pub laid-short : room < n → None ≡ laid_of (made_book t) room
      unfolding laid_of
      laid-short h = sym (b-yes _ _ _ fit ∙ lt_yes _ _ _ _ (rw (← f.size) h))

      pub laid-book : n ≤ room → Some n ≡ laid_of (made_book t) room
      unfolding laid_of
      laid-book h = ap Some f.size ∙ sym (b-yes _ _ _ fit ∙ lt_no _ _ _ _ (rw (← f.size) h))

pub blank : length {A = ℕ} (replicate book_bytes 0) ≡ book_bytes
blank = length-replicate {A = ℕ} book_bytes 0

-- how many atoms the book has
module _ (k : ℕ) {n : ℕ} {entry : Bool} (h : n ≡ capped k) where
  pub count-entry : entry ≡ true → {m : ℕ} → m ≡ capped (n + 1) → m ≡ capped (counted entry k [])
  unfolding counted
  count-entry e f = rw e (f ∙ ap (λ x. capped (x + 1)) h ∙ capped-on k 1 ∙ ap capped (add-one k))

  pub count-plain : entry ≡ false → n ≡ capped (counted entry k [])
  unfolding counted made_atoms
  count-plain e = rw e h

pub count-complete : {t : Text} {f : Forming} {draft : List ℕ} → Complete t f draft → {n : ℕ}
    → ((k : ℕ) → f.helper ≡ capped k → n ≡ capped (counted f.entry k [])) → n ≡ capped (made_book t).atoms
count-complete c e = e _ c.helper ∙ ap capped (sym c.atoms)

-- the book of the rules and of so many atoms is the book made
pub finished-made : (t : Text) {atoms n : ℕ} {draft : List ℕ} → atoms ≡ (made_book t).atoms
    → Finished (record { atoms = atoms; rules = made_rules t }) n draft → Finished (made_book t) n draft
unfolding made_book
finished-made t e f = rw e at f

pub short-book : {A : Type 0} {n : ℕ} → None ≡ Some n → A
short-book e = apart cc

pub same-book : {b : Book} {n m : ℕ} {draft : List ℕ} → Some n ≡ Some m → Finished b n draft → Finished b m draft
same-book {n = n} {m} e f = let z : n ≡ m = cc in rw z at f

-- a book in the draft is no longer than the draft
pub finished-inside : {b : Book} {n : ℕ} {draft : List ℕ} → Finished b n draft → n ≤ length draft
finished-inside {n = n} {draft} f = ⊎_elim
    (λ h. let e = take_all n draft (omega arith) in
    absurd (omega (arith, f.size, ap (length {A = ℕ}) e, ap (length {A = ℕ}) f.bytes)))
    (λ h. h) (lt-or-le (length draft) n)

-- the front of the draft, as code takes it
module _ (b : Book) {n : ℕ} {draft : List ℕ} (f : Finished b n draft) where
  pub front_bytes : take (n - 0) (drop 0 draft) ≡ bytes_of_book b
  front_bytes = rw sub-zero f.bytes

  front_length : n ≡ length (take (n - 0) (drop 0 draft))
  front_length = f.size ∙ ap (length {A = ℕ}) (sym front_bytes)

  pub front-room : {room : ℕ} {r : Option ℕ} → r ≡ laid_of b room → r ≡ Some n → length (take (n - 0) (drop 0 draft)) ≤ room
  front-room {room} e g = let k = laid-within b room (sym e ∙ g) in omega (arith, k.2, front_length)

-- ---- the book handed over

module _ (s out : List ℕ) {p : Part} (h : text_in s ≡ says p) {r : Option ℕ} (e : r ≡ laid_of (made_book (text_of p)) (length out)) where
  pub given-short : r ≡ None → only out (refused 32) ≡ import_of s out
  unfolding import_heard hand_laid
  given-short g = rw (h, ← e, g)

  pub given-book : {n : ℕ} → r ≡ Some n → {front after : List ℕ} → front ≡ bytes_of_book (made_book (text_of p))
      → after ≡ front ++ drop (length front) out
      → record { told = success n; buffer = after } ≡ import_of s out
  unfolding import_heard hand_laid
  given-book {n} g f k = rw (h, ← e, g) (λ i. record { told = success n; buffer = (k ∙ ap (λ (z : List ℕ). z ++ drop (length z) out) f) i })

-- ---- what the first pass says

numbers-front : (l : List TextAtom) (k : List ℕ) → take (length l) (numbers_of l ++ k) ≡ numbers_of l
numbers-front l k =
    take-append-le (length l) (numbers_of l) k (omega (arith, numbers-length l))
    ∙ ap (λ n. take n (numbers_of l)) (sym (numbers-length l)) ∙ take-length (numbers_of l)

-- what is told of a pass, and what it left in the array
abbrev passed : Told ℕ → List ℕ → Answered ℕ
passed t after = record { told = t; buffer = after }

module _ (seen out : List ℕ) {after : List ℕ} where
  heard-atoms : (s : List ℕ) {n : ℕ} (h : Heard) → text_in s ≡ h → passed (success n) after ≡ collect_heard h seen
      → Readable s (take (n - 0) (drop 0 after))
  unfolding collect_heard collected
  heard-atoms s (wrong i at) k f = let g = ap (λ a. a.told) f in apart cc
  heard-atoms s {n} (says p) k f = lt-either (λ x. passed (success n) after ≡ x → Readable s (take (n - 0) (drop 0 after))) _ _ _ _
      (λ h f. let g = ap (λ a. a.told) f in apart cc)
      (λ h f.
      let l = distinct (mentioned (text_of p)) in
      let g = ap (λ a. a.told) f in
      let i : n ≡ length l = cc in
      let j : after ≡ numbers_of l ++ drop (length l) seen = ap (λ a. a.buffer) f in
      let q : take (n - 0) (drop 0 after) ≡ numbers_of l = rw (sub-zero n, j, i) (numbers-front l _) in
      record { part = p; heard = k; same = q; few = rw (ap length q, numbers-length l) h })
      f

  heard-within : {n : ℕ} (h : Heard) → passed (success n) after ≡ collect_heard h seen → n ≤ length after
  unfolding collect_heard collected
  heard-within (wrong i at) f = let g = ap (λ a. a.told) f in apart cc
  heard-within {n} (says p) f = lt-either (λ x. passed (success n) after ≡ x → n ≤ length after) _ _ _ _
      (λ h f. let g = ap (λ a. a.told) f in apart cc)
      (λ h f.
      let l = distinct (mentioned (text_of p)) in
      let g = ap (λ a. a.told) f in
      let i : n ≡ length l = cc in
      omega (arith, ap (λ a. length a.buffer) f, length-append (numbers_of l) (drop (length l) seen), numbers-length l))
      f

  heard-many : (h : Heard) → passed (refused 32) after ≡ collect_heard h seen → only out (refused 32) ≡ import_heard h out
  unfolding collect_heard collected import_heard hand_laid atom_count
  heard-many (wrong i at) f = let g = ap (λ a. a.told) f in apart cc
  heard-many (says p) f = lt-either (λ x. passed (refused 32) after ≡ x → only out (refused 32) ≡ hand_over (made_book (text_of p)) out) _ _ _ _
      (λ h f. rw (← no-fit (made_book (text_of p)) (length out) (over-atoms (text_of p) (omega (arith, h, count-made (text_of p))))))
      (λ h f. let g = ap (λ a. a.told) f in apart cc) f

  heard-wrong : {i place : ℕ} (h : Heard) → passed (refused_at i place) after ≡ collect_heard h seen
      → only out (refused_at i place) ≡ import_heard h out
  unfolding collect_heard collected import_heard
  heard-wrong (wrong j at) f = ap (only out) (ap (λ a. a.told) f)
  heard-wrong {i} {place} (says p) f = lt-either (λ x. passed (refused_at i place) after ≡ x → only out (refused_at i place) ≡ hand_over (made_book (text_of p)) out) _ _ _ _
      (λ h f. let g = ap (λ a. a.told) f in apart cc) (λ h f. let g = ap (λ a. a.told) f in apart cc) f

module _ (s seen out : List ℕ) (r : Result ℕ Unimported) {after : List ℕ} (e : passed (told r) after ≡ collect_of s seen) where
  said : {x : Told ℕ} → told r ≡ x → passed x after ≡ collect_heard (text_in s) seen
  unfolding collect_of
  said g = ap (λ x. passed x after) (sym g) ∙ e

  pub atoms-said : {n : ℕ} → r ≡ Ok n → Readable s (take (n - 0) (drop 0 after))
  atoms-said g = heard-atoms seen out s (text_in s) refl (said (ap told g))

  pub atoms-within : {n : ℕ} → r ≡ Ok n → n ≤ length after
  atoms-within g = heard-within seen out (text_in s) (said (ap told g))

  pub refused-said : (u : Unimported) → r ≡ Err u → only out (told_book (Err u)) ≡ import_of s out
  refused-said NoFit g = heard-many seen out (text_in s) (said (ap told g))
  refused-said (WrongFormat place) g = heard-wrong seen out (text_in s) (said (ap told g))
  refused-said (OtherKind place) g = heard-wrong seen out (text_in s) (said (ap told g))
