-- The sentences of request 12 (specs/Sentences) hold of every writer and reader whose calls meet the promises of export and restore, and useless
-- ones do not meet them.
use mathlib.Core.Path.{◌≡◌, refl, sym, ◌∙◌, ap}
use mathlib.Core.List.{List, []}
use Prim.Native.Nat.{ℕ, ◌<◌, ◌≤◌}
use native.Mathlib.Omega.{arith}
use lib.ListN.{length, take, length-append}
use Rattle.std.specs.Prelude.{Result, Err}
use Rattle.meaning.specs.Books.{Rule, Book}
use Rattle.meaning.specs.Told.{Told, success, refused_at, refused, Answered}
use Rattle.meaning.proofs.Tests.{apart}
use Rattle.meaning.proofs.Told.{success-one}
use Rattle.meaning.proofs.Choice.{lt_yes, lt_no, lt-either}
use Rattle.book.specs.Format.{BookRead, good, bad, read_of, book_of, book_in}
use Rattle.aspif.specs.declared.answer.Unrestored.{Unrestored}
use Rattle.aspif.specs.declared.answer.Unrestored.TheVariants.{Outside, NoFit}
use Rattle.aspif.specs.Text.{text_of, Formed}
use Rattle.aspif.specs.Handing.{told_book, at_front, hand_text, export_read, export_of, Restores}
use Rattle.aspif.specs.Sentences.{Caller, Keeps, Exports, RestoresAll, GoesRound}
use Rattle.aspif.proofs.Exact.{text-holds}
use Rattle.aspif.proofs.Told.{restored-one}
use Rattle.aspif.proofs.Rows.{restored-fits, restored-not, restored-none, refused-34, refused-35, refused-kept}
use Rattle.aspif.proofs.RoundTrip.{round_trip}

answered : (a : Answered ℕ) {t : Told ℕ} {l : List ℕ} → a.told ≡ t → a.buffer ≡ l → a ≡ record { told = t; buffer = l }
answered a e k = rw (← e, ← k)

-- every call of r meets the promise of restore
pub record Meets (r : Caller) (s before : List ℕ) : Type 0 where
  pub answer : Result ℕ Unrestored
  pub told : (r s before).told ≡ told_book answer
  pub holds : Restores s before answer (r s before).buffer

-- ---- the reader

pub restores-all : (r : Caller) → ((s before : List ℕ) → Meets r s before) → RestoresAll r
restores-all r meets = record {
  none = λ s before. let m = meets s before in (
    (λ e. (refused-34 m.holds).0 (restored-one _ (Err Outside) (sym m.told ∙ e))),
    (λ n. m.told ∙ ap told_book (restored-none m.holds n).0),
  );
  over = λ s before. let m = meets s before in (
    (λ e. (refused-35 m.holds).0 (restored-one _ (Err NoFit) (sym m.told ∙ e))),
    (λ w. m.told ∙ ap told_book (restored-not w.1 m.holds w.2).0),
  );
  gives = λ s before b f g h.
      let m = meets s before in
      let (e, k) = restored-fits f m.holds g h in
      answered (r s before) (m.told ∙ ap told_book e) k;
  keeps = λ s before n.
      let m = meets s before in
      refused-kept m.holds (λ i e. n i (m.told ∙ ap told_book e));
}

-- ---- the writer

-- what is handed over is a success or 33
hand-keeps : (t before : List ℕ) → ((n : ℕ) → (hand_text t before).told ≡ success n → ⊥) → (hand_text t before).buffer ≡ before
unfolding hand_text
hand-keeps t before =
    lt-either (λ (z : Answered ℕ). ((n : ℕ) → z.told ≡ success n → ⊥) → z.buffer ≡ before) (length before) (length t)
    (record { told = refused 33; buffer = before }) (record { told = success (length t); buffer = at_front t before })
    (λ h n. refl) (λ h n. absurd (n (length t) refl))

hand-refuses : (t before : List ℕ) → (hand_text t before).told ≡ refused 33 → length before < length t
unfolding hand_text
hand-refuses t before =
    lt-either (λ (z : Answered ℕ). z.told ≡ refused 33 → length before < length t) (length before) (length t)
    (record { told = refused 33; buffer = before }) (record { told = success (length t); buffer = at_front t before })
    (λ h e. h) (λ h e. let z : ◌≡◌ {A = ℕ} 0 1 = cc in apart z)

module _ (s before : List ℕ) {n k index : ℕ} {l : List Rule} (g : read_of s ≡ good n k index l) where
  export-good : export_of s before ≡ hand_text (text_of (book_in s)) before
  unfolding export_of export_read book_in book_of
  export-good = rw g

  export-gives : length (text_of (book_in s)) ≤ length before
      → export_of s before ≡ record { told = success (length (text_of (book_in s))); buffer = at_front (text_of (book_in s)) before }
  unfolding hand_text
  export-gives h = export-good ∙ lt_no _ _ _ _ h

  export-short : length before < length (text_of (book_in s)) → (export_of s before).told ≡ refused 33
  unfolding hand_text
  export-short h = ap (λ (a : Answered ℕ). a.told) (export-good ∙ lt_yes _ _ _ _ h)

export-bad : (s before : List ℕ) {i at : ℕ} → read_of s ≡ bad i at → export_of s before ≡ record { told = refused_at i at; buffer = before }
unfolding export_of export_read
export-bad s before e = rw e

export-keeps : Keeps export_of
export-keeps s before n = by_read (read_of s) refl
  where
    by_read : (y : BookRead) → read_of s ≡ y → (export_of s before).buffer ≡ before
    by_read (good a k index l) g =
        let e = export-good s before g in
        ap (λ (a : Answered ℕ). a.buffer) e
        ∙ hand-keeps _ before (λ m f. n m (ap (λ (a : Answered ℕ). a.told) e ∙ f))
    by_read (bad i at) g = ap (λ (a : Answered ℕ). a.buffer) (export-bad s before g)

pub exports : Exports export_of
exports = record {
  damaged = λ s before e. ap (λ (a : Answered ℕ). a.told) (export-bad s before e);
  short = λ s before g. (
    (λ e. hand-refuses _ before (sym (ap (λ (a : Answered ℕ). a.told) (export-good s before g)) ∙ e)),
    export-short s before g,
  );
  writes = export-gives;
  keeps = export-keeps;
}

-- ---- both

pub goes-round : (r : Caller) → ((s before : List ℕ) → Meets r s before) → GoesRound export_of r
goes-round r meets s before room m bytes e h =
    let w = meets (take m (export_of s before).buffer) room in
    let (f, k) = round_trip s before bytes {after = (export_of s before).buffer} {m = m} (rw (← e)) w.holds h in
    answered (r _ room) (w.told ∙ ap told_book f) k

-- ---- useless ones

-- no bytes are the text of no book
no_bytes : (b : Book) → Formed [] b → ⊥
unfolding text_of
no_bytes b f = let e : 0 ≡ length (text_of b) = ap length f.text in omega (arith, e, long)
  where
    long : 10 ≤ length (text_of b)
    long = simp length-append (omega arith)

-- a reader that gives a book whatever the text is
pub any-book-refuted : (r : Caller) (n : ℕ) → (r [] []).told ≡ success n → RestoresAll r → ⊥
any-book-refuted r n e p =
    let f : success n ≡ refused 34 = sym e ∙ (p.none [] []).1 no_bytes in let z : ◌≡◌ {A = ℕ} 0 1 = cc in omega arith

-- a writer whose text has a length of its own, whatever the book is
pub one-text-refuted : (e : Caller) (m : ℕ) → Exports e → (s before : List ℕ) {n k index : ℕ} {l : List Rule} → read_of s ≡ good n k index l
    → length (text_of (book_in s)) ≤ length before → m < n → (e s before).told ≡ success m → ⊥
unfolding book_in book_of
one-text-refuted e m p s before {n} {k} {index} {l} g h i f =
    let j : m ≡ length (text_of (book_in s)) = success-one (sym f ∙ ap (λ (a : Answered ℕ). a.told) (p.writes s before g h)) in
    let q : (book_in s).atoms ≡ n = rw g in
    omega (arith, j, q, (text-holds (book_in s)).1)
