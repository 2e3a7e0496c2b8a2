-- "each given once", to the byte: of any engine that gives the readings as demand 2 says, two calls for different numbers never leave the
-- same bytes. The rows of two answer sets are equal only if the sets are, and no set stands twice in the list.
use mathlib.Core.Path.{◌≡◌, sym, ◌∙◌, ap}
use mathlib.Core.Logic.{⊎_elim}
use mathlib.Core.Bool.{false}
use mathlib.Core.List.{List, ◌++◌}
use Prim.Native.Nat.{ℕ, ◌-◌, ◌≤◌, ◌<◌}
use native.Mathlib.Omega.{arith}
use lib.ListN.{length, get_or, take, drop}
use lib.Seq.{take_at}
use Rattle.meaning.specs.Books.{Atoms, Book, count}
use Rattle.meaning.specs.AnswerSet.{AnswerSet}
use Rattle.meaning.proofs.Rules.{rule-member}
use Rattle.meaning.proofs.LeastModel.{answer-inside}
use Rattle.meaning.specs.Written.{nothing}
use Rattle.walk.specs.Events.{events}
use Rattle.walk.specs.Readings.{readings, AllReadings}
use Rattle.walk.specs.Tries.{Needs}
use Rattle.walk.specs.Run.{row_of}
use Rattle.walk.specs.Page.{set_in}
use Rattle.walk.proofs.Rows.{row-length, set-in-row}
use Rattle.walk.proofs.Readings.{each-once}
use Rattle.walk.proofs.Needs.{kth-reading, kth-or-fewer}
use Rattle.walk.proofs.FirstWalk.{kth-answer}
use Rattle.demands.specs.Engine.{Engine}
use Rattle.demands.specs.Demand2.{Call, GivesReadings}
use Rattle.demands.proofs.Calls.{book-fits, readings-same}

abbrev no-atoms : Atoms
no-atoms a = false

module _ (book : List ℕ) (b : Book) (k : ℕ) (answer : List ℕ) (c : Call book b k answer) where
  abbrev few : count b ≤ 255
  few = (book-fits c.good_book c.bytes).rules

  reading-answer : k ≤ length (readings b) → AnswerSet b (get_or (readings b) (k - 1) no-atoms)
  reading-answer h = ⊎_elim (λ (t, x, kth). rw (kth-reading b kth no-atoms) (kth-answer b few kth)) (λ l. absurd (omega arith))
      (kth-or-fewer b (events b nothing) k c.good-number)

  -- a reading is found again from its row
  row_back : k ≤ length (readings b) → set_in (row_of b (get_or (readings b) (k - 1) no-atoms)) ≡ get_or (readings b) (k - 1) no-atoms
  row_back h = set-in-row b _ (answer-inside b few _
      (λ r g. ((book-fits c.good_book c.bytes).each _ (rule-member b r g)).head) (reading-answer h))

pub given-once : (e : Engine) → GivesReadings e → (book : List ℕ) (b : Book) (k j limit : ℕ) (answer : List ℕ)
    → Call book b k answer → Call book b j answer → k < j → (l : List Atoms) → AllReadings b l → j ≤ length l
    → (n m : ℕ) → Needs b (events b nothing) k n → Needs b (events b nothing) j m → n ≤ limit → m ≤ limit
    → (e.find book k limit answer).buffer ≡ (e.find book j limit answer).buffer → ⊥
given-once e gives book b k j limit answer c d h l all most n m needs more p q same =
    let z = readings-same c.good_book c.bytes all in
    let most' : j ≤ length (readings b) = rw z at most in
    let u = (gives book b k limit answer c l all n needs p (omega arith)).1 no-atoms in
    let v = (gives book b j limit answer d l all m more q most).1 no-atoms in
    let x = get_or (readings b) (k - 1) no-atoms in let y = get_or (readings b) (j - 1) no-atoms in
    let front : (w : Atoms) → take b.atoms (row_of b w ++ drop b.atoms answer) ≡ row_of b w =
    λ w. take_at (row_of b w) _ b.atoms (row-length b w) in
    let rows : row_of b x ≡ row_of b y =
    sym (front x) ∙ ap (take b.atoms) (rw z at (sym u ∙ same ∙ v)) ∙ front y in
    let sets : x ≡ y = sym (row_back book b k answer c (omega arith)) ∙ ap set_in rows ∙ row_back book b j answer d most' in
    each-once b (few book b k answer c) (k - 1) (j - 1) no-atoms (omega (arith, c.good-number)) (omega (arith, d.good-number))
    (λ a. ap (λ (s : Atoms). s a) sets)
