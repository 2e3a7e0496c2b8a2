-- Reading is over: a refusal is told with nothing written, and the book of what was read is handed over with the names' places.
use mathlib.Core.Path.{◌≡◌, refl, ap, sym, ◌∙◌}
use mathlib.Core.Logic.{⊎_elim}
use mathlib.Core.Bool.{true, false}
use mathlib.Core.List.{List, ◌++◌}
use Prim.Native.Nat.{ℕ, ◌-◌, ◌<◌, ◌≤◌}
use native.Mathlib.Nat.{sub-zero}
use native.Mathlib.Omega.{arith}
use lib.ListN.{length, take, drop}
use lib.Seq.{take_all}
use Rattle.meaning.specs.Books.{Rule, Book}
use Rattle.meaning.specs.Told.{success, refused}
use Rattle.meaning.proofs.Choice.{lt_yes, lt_no}
use Rattle.meaning.proofs.Tests.{lt-or-le, true-and-false}
use Rattle.book.specs.Making.{Made, Finished}
use Rattle.book.specs.Writing.{bytes_of_book}
use Rattle.std.specs.Prelude.{Err}
use Rattle.words.specs.declared.decision.Misplaced.{Misplaced}
use Rattle.words.specs.declared.decision.Misplaced.TheVariants.{Form as BadForm, Name as BadName, TooMany as OneTooMany}
use Rattle.words.specs.declared.step.Fate.{Fate}
use Rattle.words.specs.declared.step.Fate.TheVariants.{Goes, Done, Refused}
use Rattle.words.specs.declared.step.Reading.{Reading}
use Rattle.words.specs.Reading.{State, number, goes, wrong, heard, book_of}
use Rattle.words.specs.Make.{told_book, unworded, filled, starts_of, ends_of, Answer, only, hand_over, make_heard, make_of}
use Rattle.words.specs.Progress.{reading_of, goes_on, Holds, Along, going, whole, barred}
use Rattle.words.proofs.Turns.{rules-counted}

-- reading is done
pub record Over (text : List ℕ) (r : Reading) (draft : List ℕ) : Type 0 where
  pub state : State
  pub same : r ≡ reading_of Done r.at r.making state
  pub holds : Holds text state r.at r.making draft
  pub all : goes state ≡ heard text

module _ {text : List ℕ} {r : Reading} {draft : List ℕ} (o : Over text r draft) where
  names-counted : r.names.count ≡ length o.state.names
  names-counted = ap (λ (x : Reading). x.names.count) o.same

  pub over-few : r.names.count ≤ 255
  over-few = omega (arith, names-counted, o.holds.good.book.atoms)

  pub over-made : (r.making.fits ≡ true) × ((l : List Rule) × Made l r.making draft)
  over-made = ((rules-counted text o.state r.at r.making draft o.holds).0, (o.state.rules, o.holds.made))

  -- the book that was finished is that of the text
  pub over-finished : (n : ℕ) (after : List ℕ) → ((l : List Rule) → Made l r.making draft → Finished (record { atoms = r.names.count; rules = l }) n after)
      → Finished (book_of o.state) n after
  over-finished n after f = rw names-counted at (f o.state.rules o.holds.made)

-- the front of the draft, as code takes it
module _ {b : Book} {n : ℕ} {draft : List ℕ} (f : Finished b n draft) where
  pub front-inside : n ≤ length draft
  front-inside = ⊎_elim
      (λ h. let e = take_all n draft (omega arith) in absurd (omega (arith, f.size, ap (length {A = ℕ}) e, ap (length {A = ℕ}) f.bytes)))
      (λ h. h) (lt-or-le (length draft) n)

  front_bytes : take (n - 0) (drop 0 draft) ≡ bytes_of_book b
  front_bytes = rw sub-zero f.bytes

  pub front-copied : (out after : List ℕ) → (let l = take (n - 0) (drop 0 draft) in after ≡ l ++ drop (length l) out)
      → after ≡ bytes_of_book b ++ drop (length (bytes_of_book b)) out
  front-copied out after e = rw front_bytes at e

-- the fates apart
unfoldable kind_of : Fate → ℕ
kind_of Goes = 0
kind_of Done = 1
kind_of (Refused why place) = 2

module _ (text : List ℕ) (r : Reading) (draft : List ℕ) where
  other : {A : Type 0} (f g : Fate) → r.fate ≡ f → r.fate ≡ g → (kind_of f ≡ kind_of g → ⊥) → A
  other f g e h n = absurd (n (ap kind_of (sym e ∙ h)))

  pub over_done : Along text r draft → r.fate ≡ Done → Over text r draft
  unfolding kind_of
  over_done (going s e h f) g = other Goes Done (ap (λ (x : Reading). x.fate) e) g (λ n. omega arith)
  over_done (whole s e h f) g = record { state = s; same = e; holds = h; all = f }
  over_done (barred why place e f) g = other (Refused why place) Done e g (λ n. omega arith)

  pub over-barred : Along text r draft → (why : Misplaced) (p : ℕ) → r.fate ≡ Refused why p → wrong (number why) p ≡ heard text
  unfolding kind_of
  over-barred (going s e h f) why p g = other Goes (Refused why p) (ap (λ (x : Reading). x.fate) e) g (λ n. omega arith)
  over-barred (whole s e h f) why p g = other Done (Refused why p) (ap (λ (x : Reading). x.fate) e) g (λ n. omega arith)
  over-barred (barred v place e f) why p g =
      let k = sym g ∙ e in
      let a : why ≡ v = cc in
      let b : p ≡ place = cc in rw (a, b) f

  pub never-goes : {A : Type 0} → goes_on r.fate ≡ false → r.fate ≡ Goes → A
  unfolding goes_on
  never-goes h e = true-and-false (ap goes_on e) h

-- ---- what is told

module _ (text out from to : List ℕ) where
  pub make-wrong : (why : Misplaced) (place : ℕ) → wrong (number why) place ≡ heard text
      → only (told_book (Err (unworded why place))) out from to ≡ make_of text out from to
  unfolding make_heard
  make-wrong BadForm place e = rw (← e) refl
  make-wrong BadName place e = rw (← e) refl
  make-wrong OneTooMany place e = rw (← e) refl

  module _ (s : State) (e : goes s ≡ heard text) (n : ℕ) (size : n ≡ length (bytes_of_book (book_of s))) where
    pub make-short : length out < n → only (refused 43) out from to ≡ make_of text out from to
    unfolding make_heard hand_over
    make-short h = rw (← e) (sym (lt_yes _ _ _ _ (omega arith)))

    pub make-given : n ≤ length out → (book starts ends : List ℕ) → book ≡ bytes_of_book (book_of s) ++ drop (length (bytes_of_book (book_of s))) out
        → starts ≡ filled (starts_of s.names) → ends ≡ filled (ends_of s.names)
        → ◌≡◌ {A = Answer} (record { told = success n; book = book; from = starts; to = ends }) (make_of text out from to)
    unfolding make_heard hand_over
    make-given h book starts ends f g k = rw (← e, f, g, k, size) (sym (lt_no _ _ _ _ (omega arith)))

-- what goes on is no refusal and not done
pub goes-fate : (f : Fate) → goes_on f ≡ true → f ≡ Goes
unfolding goes_on
goes-fate Goes e = refl
goes-fate Done e = true-and-false e refl
goes-fate (Refused why place) e = true-and-false e refl
