-- Document 01's "Slips to rule out", each as a theorem. What a book means is computed for the worked books; the papers that make a slip
-- are refused at the byte where they make it.
use mathlib.Core.Path.{◌≡◌, refl, sym, ◌∙◌, subst}
use mathlib.Core.Bool.{true, false, false≢true}
use mathlib.Core.List.Memᴰ
use mathlib.Core.List.{List, [], ◌∷◌}
use Prim.Native.Nat.{ℕ}
use Rattle.meaning.specs.declared.AtomNo.{AtomNo}
use Rattle.meaning.specs.declared.kind.Kind.{Kind}
use Rattle.meaning.specs.declared.kind.Kind.TheVariants.{Naming, Clearing}
use Rattle.meaning.specs.Books.{Atoms, atom_no, Book}
use Rattle.meaning.specs.AnswerSet.{AnswerSet, Certain}
use Rattle.meaning.specs.Claim.{Holding}
use Rattle.meaning.specs.Choice.{ifb, if_lt, if_eq}
use Rattle.meaning.specs.Told.{refused_at, refused}
use Rattle.meaning.proofs.Tests.{true-and-false}
use Rattle.meaning.proofs.Readings.{atoms_of}
use Rattle.meaning.proofs.Cases.{circular-readings, choice-readings}
use Rattle.meaning.proofs.Cases.{circular as circular_book, choice as choice_book}
use Rattle.meaning.proofs.Answers.{nothing-certain}
use Rattle.meaning.proofs.Papers.{keeps-holds}
use Rattle.book.specs.Format.{u16_at, part_of, bytes_of, record_of, length_of, rule_of, records_of, rules_of, if_fine, body_of, read_of}
use Rattle.book.specs.Format.{and_then as records_then, book_of, book_in}
use Rattle.book.specs.Rows.{Bytes}
use Rattle.walk.specs.Find.{set, find_of}
use Rattle.writer.specs.Write.{paper, name_of, clear_of}
use Rattle.checker.specs.Numbers.{certain}
use Rattle.checker.specs.Check.{check_of}
use Rattle.demands.specs.Engine.{Engine}
use Rattle.demands.specs.Damaged.{GoodBook}
use Rattle.demands.specs.Demand3.{Sound, WritesOnly}
use Rattle.demands.specs.Printed.{choice, circular}
use Rattle.demands.specs.Worked.{Holds, sevens}
use Rattle.demands.specs.Forged.{carried_paper, barred_book, barred_paper, blocked_paper}
use Rattle.demands.proofs.Damaged.{good-is}
use Rattle.demands.proofs.Worked.{At, row}

-- the bytes of two worked books are the books whose readings are computed in meaning
printed : (book_in circular ≡ circular_book) × (book_in choice ≡ choice_book)
unfolding book_in book_of read_of body_of if_fine records_of rules_of rule_of length_of record_of bytes_of part_of records_then u16_at ifb if_lt if_eq
printed = (refl, refl)

-- ---- "Two rules that hold each other up are kept on because neither is off. Support decides."

pub mutual-support : {b : Book} → GoodBook circular b → (x : Atoms) → AnswerSet b x
    → (x (atom_no 0) ≡ false) × (x (atom_no 1) ≡ false)
unfolding atoms_of
mutual-support g x answer =
    let (l, m, same) = circular-readings.only x (rw (sym (good-is circular g) ∙ printed.0) at answer) in
    let e = Memᴰ.eq_of_singleton m in
    (rw e at (same (atom_no 0)), rw e at (same (atom_no 1)))

pub circular-uncertain : {b : Book} → GoodBook circular b → Certain b (atom_no 0) → ⊥
circular-uncertain g c = let (x, answer) = c.one in true-and-false (c.each x answer) (mutual-support g x answer).0

-- ---- "An atom called certain because no answer set lacks it, in a book that has none."

-- no paper is accepted for a book without an answer set, by any checker of which demand 3's first half holds
pub none-certain : (e : Engine) → Sound Naming e → (book : List ℕ) → ((b : Book) → GoodBook book b → (x : Atoms) → AnswerSet b x → ⊥)
    → (s : List ℕ) (a : AtomNo) → e.check book s ≡ certain a → ⊥
unfolding Holding
none-certain e sound book none s a told = let (p, k, (b, g, c)) = sound book s a told in nothing-certain b (none b g) c

-- ---- "A name taken from the first answer set."

-- a paper is told only if the atom is in every answer set, of any engine of which demand 3's last sentence holds
-- or, for a paper that clears, in none
pub told-holds : (q : Kind) (e : Engine) → WritesOnly q e → (book : List ℕ) → Bytes book → (a : AtomNo) (limit : ℕ) (buffer : List ℕ)
    (t n : ℕ) → (e.write q book a limit buffer).told ≡ paper t n → (b : Book) × GoodBook book b × Holding q b a
told-holds q e only book bytes a limit buffer t n told =
    let (b, g, most, room, k, later) = only book bytes a limit buffer t n told in (b, g, keeps-holds b q a k)

-- so 0 is not named in "0 if not 1; 1 if not 0", where the first answer set has it and the second has not
pub first-set-names-nobody : (find_of choice 1 1000 (sevens 3) ≡ record { told = set 2; buffer = 1 ∷ 0 ∷ sevens 1 })
    × (name_of choice (atom_no 0) 1000 (sevens 12) ≡ record { told = refused 12; buffer = sevens 12 })
unfolding At Holds
first-set-names-nobody = (row 8, row 11)

-- nor is 0 cleared there: who is not named is not cleared by that
pub not-named-not-cleared : (name_of choice (atom_no 0) 1000 (sevens 12) ≡ record { told = refused 12; buffer = sevens 12 })
    × (clear_of choice (atom_no 0) 1000 (sevens 12) ≡ record { told = refused 18; buffer = sevens 12 })
unfolding At Holds
not-named-not-cleared = (row 11, row 32)

pub choice-uncertain : {b : Book} → GoodBook choice b → Certain b (atom_no 0) → ⊥
unfolding atoms_of
choice-uncertain g c =
    let x = atoms_of (false ∷ true ∷ []) in
    let answer : AnswerSet choice_book x = choice-readings.each _ (Memᴰ.tail (Memᴰ.head refl)) in
    false≢true (c.each x (subst (λ (b : Book). AnswerSet b x) (sym printed.1 ∙ good-is choice g) answer))

pub choice-unclear : {b : Book} → GoodBook choice b → Holding Clearing b (atom_no 0) → ⊥
unfolding atoms_of Holding
choice-unclear g c =
    let x = atoms_of (true ∷ false ∷ []) in
    let answer : AnswerSet choice_book x = choice-readings.each _ (Memᴰ.head refl) in
    false≢true (c.each x (subst (λ (b : Book). AnswerSet b x) (sym printed.1 ∙ good-is choice g) answer))

-- ---- "The second branch of a split starting from what the first had added."
-- ---- "Listing a rule under 55 because its negative atoms block it."

pub slips-refused : (check_of choice carried_paper ≡ refused_at 25 3) × (check_of barred_book barred_paper ≡ refused_at 25 2)
    × (check_of barred_book blocked_paper ≡ certain (atom_no 0))
unfolding At Holds
slips-refused = (row 44, row 45, row 46)
