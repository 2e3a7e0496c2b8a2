-- The totals of one book, atom by atom (src/sum.rt), and the turn of a book by what was told of it (src/turn.rt).
use Rattle.std.proofs.Common.{◌≡◌, ℕ, zero, suc, ◌+◌, ◌<◌, ◌≤◌, Bool, true, false, ltb, List, get_or, take, sym, refl, ◌∙◌, ⊎_elim, add-one, arith, le-ltb, lt-ltb}
use Rattle.std.specs.Prelude.{Result, Ok, Err}
use Rattle.meaning.specs.Sets.{Set}
use Rattle.meaning.specs.Choice.{ifb}
use Rattle.meaning.specs.Told.{success, Answered}
use Rattle.meaning.proofs.Tests.{decided}
use Rattle.meaning.proofs.Choice.{b-either}
use Rattle.book.specs.declared.refusal.Refusal.{Refusal}
use Rattle.book.specs.declared.reader.Shape.{Shape}
use Rattle.book.specs.Numbers.{number_of, told as book_told}
use Rattle.book.specs.Format.{read_of, told_of, book_of, book_in}
use Rattle.book.proofs.Places.{shape-atoms}
use Rattle.book.proofs.Verdict.{read_as, read-bad}
use Rattle.counting.specs.Totals.{number_below, at_each, at_some, at_none, no_totals, totals_from, totals_with}
use Rattle.counting.specs.Count.{told, count_of}
use Rattle.counting.specs.Table.{bytes, opened_as, row, no-sets, refuse, Turn, turn_by, turn_of}
use Rattle.counting.specs.declared.answer.Uncounted.{Uncounted}
use Rattle.counting.specs.declared.answer.Uncounted.TheVariants.{Stopped, Book}
use Rattle.counting.specs.declared.sum.Totals.{Totals}

-- ---- the test of the second total, first part by part

module _ (sets count : ℕ) {t : Bool} where
  pub some-above : t ≡ ltb count sets → 0 < count → ◌≡◌ {A = ℕ} (ifb t 1 0) (ifb (at_some sets count) 1 0)
  some-above e h = rw (e, lt-ltb 0 count h)

  pub some-none : t ≡ ltb 0 count → count ≤ 0 → ◌≡◌ {A = ℕ} (ifb t 1 0) (ifb (at_some sets count) 1 0)
  some-none e h = rw (e, le-ltb 0 count h)

-- ---- the totals

number_more : (n : ℕ) (s : Set ℕ) → number_below (n + 1) s ≡ number_below n s + ifb (s n) 1 0
unfolding number_below ifb
number_more n s = rw add-one (⊎_elim (λ e. rw e (omega arith)) (λ e. rw e (omega arith)) (decided (s n)))

number-most : (n : ℕ) (s : Set ℕ) → number_below n s ≤ n
unfolding number_below
number-most zero s = omega arith
number-most (suc n) s =
    let h = number-most n s in b-either (λ (m : ℕ). m ≤ suc n) (s n) _ _ (λ e. omega arith) (λ e. omega arith)

module _ (sets : ℕ) (counts : List ℕ) where
  pub totals-start : no_totals ≡ totals_from 0 sets counts
  unfolding totals_from number_below
  totals-start = refl

  module _ (n : ℕ) {t : Totals} (e : t ≡ totals_from n sets counts) where
    -- none of the four is above the number of atoms
    pub totals-most : (t.certain ≤ n) × (t.some ≤ n) × (t.none ≤ n) × (t.atoms ≤ n)
    unfolding totals_from
    totals-most = rw e (number-most n _, number-most n _, number-most n _, omega arith)

    pub totals-more : {c s z : ℕ} → c ≡ ifb (at_each sets (get_or counts n 0)) 1 0 → s ≡ ifb (at_some sets (get_or counts n 0)) 1 0
        → z ≡ ifb (at_none sets (get_or counts n 0)) 1 0
        → record { certain = t.certain + c; some = t.some + s; none = t.none + z; atoms = t.atoms + 1 }
        ≡ totals_from (n + 1) sets counts
    unfolding totals_from
    totals-more p q r = rw (e, p, q, r, number_more, number_more, number_more)

-- ---- the turn

module _ (s : List ℕ) {x : Result Shape Refusal} (e : book_told x ≡ told_of (read_of s)) where
  pub good-atoms : {h : Shape} → x ≡ Ok h → h.atoms ≡ (book_in s).atoms
  good-atoms f = sym (shape-atoms s _ (read_as s e f))

  pub bad-atoms : {f : Refusal} → x ≡ Err f → 0 ≡ (book_in s).atoms
  unfolding book_in book_of
  bad-atoms f = sym (rw (read-bad s e f))

module _ (sets n : ℕ) (counts : List ℕ) (t : Totals) where
  pub turn-without : sets ≡ 0 → record { line = no-sets; counts = counts; totals = t } ≡ turn_by (success sets) n counts t
  unfolding turn_by
  turn-without e = rw e

pub turn-with : (sets n : ℕ) (counts : List ℕ) (t : Totals) → (sets ≡ 0 → ⊥) → {u : Totals} → u ≡ totals_with t n sets counts
    → record { line = row sets (take n counts); counts = counts; totals = u } ≡ turn_by (success sets) n counts t
unfolding turn_by
turn-with zero n counts t some f = absurd (some refl)
turn-with (suc k) n counts t some f = rw f

-- a name that can't be opened, and one that can
pub turn-closed : (o : Bool) (s : List ℕ) (limit : ℕ) (counts : List ℕ) (t : Totals) → o ≡ false
    → record { line = refuse 37; counts = counts; totals = t } ≡ turn_of (opened_as o s) limit counts t
unfolding turn_of
turn-closed o s limit counts t e = rw e

pub turn-open : (o : Bool) (s : List ℕ) (limit : ℕ) (counts : List ℕ) (t : Totals) {u : Turn} → o ≡ true
    → u ≡ turn_of (bytes s) limit counts t → u ≡ turn_of (opened_as o s) limit counts t
turn-open o s limit counts t e f = rw e f

module _ (s : List ℕ) (limit : ℕ) (counts : List ℕ) (t : Totals) (c : Result ℕ Uncounted) {after : List ℕ}
    (e : ◌≡◌ {A = Answered ℕ} (record { told = told c; buffer = after }) (count_of s limit counts)) where
  turn_is : turn_of (bytes s) limit counts t ≡ turn_by (told c) (book_in s).atoms after t
  unfolding turn_of
  turn_is = λ i. turn_by (sym e i).told (book_in s).atoms (sym e i).buffer t

  pub turn-stops : {l : ℕ} → c ≡ Err (Stopped l) → record { line = refuse 9; counts = after; totals = t } ≡ turn_of (bytes s) limit counts t
  unfolding turn_by
  turn-stops f = sym (turn_is ∙ rw f)

  pub turn-refuses : {why : Refusal} {i : ℕ} → c ≡ Err (Book why) → i ≡ number_of why
      → record { line = refuse i; counts = after; totals = t } ≡ turn_of (bytes s) limit counts t
  unfolding turn_by
  turn-refuses f g = rw g (sym (turn_is ∙ rw f))

  pub turn-counts : {n k : ℕ} {u : Turn} → told c ≡ success n → k ≡ (book_in s).atoms → u ≡ turn_by (success n) k after t
      → u ≡ turn_of (bytes s) limit counts t
  turn-counts f g h = h ∙ rw (← f, g) (sym turn_is)
