-- The useless versions of join and log (specs/UselessCrews) do not keep the sentences of request 9, each refuted by the sentence that it
-- offends. Where the second book is not moved up, "0" beside "0 if not 0" makes 0 certain, and beside a book without an answer set nothing
-- is. The other three tell or leave what ours does not, and the sentence has one answer.
use mathlib.Core.Path.{◌≡◌, refl, sym, ◌∙◌, ap}
use mathlib.Core.Logic.{inr}
use mathlib.Core.Bool.{true, false}
use mathlib.Core.List.Memᴰ
use mathlib.Core.List.{List, [], ◌∷◌}
use Prim.Native.Nat.{ℕ}
use native.Mathlib.Omega.{arith}
use lib.ListN.{get_or}
use Rattle.meaning.specs.declared.kind.Kind.TheVariants.{Naming}
use Rattle.meaning.specs.Sets.{every, some, every_below, some_below, ascending}
use Rattle.meaning.specs.Books.{atom_no, same_atom, Book, count, rule, every_rule, some_rule}
use Rattle.meaning.specs.AnswerSet.{Certain}
use Rattle.meaning.specs.Claim.{Holding}
use Rattle.meaning.specs.Colours.{heads}
use Rattle.meaning.specs.Choice.{ifb, if_lt, if_eq, agree}
use Rattle.meaning.specs.Written.{of, add_from, added}
use Rattle.meaning.specs.Computed.{iterate, upheld, support_more, support}
use Rattle.meaning.specs.Joined.{up_rule, joined, SomeAnswer}
use Rattle.meaning.specs.Told.{Told, success, stopped, Answered}
use Rattle.meaning.proofs.Tests.{apart}
use Rattle.meaning.proofs.LeastModel.{barred, least_model, is_answer_set}
use Rattle.meaning.proofs.Readings.{atoms_of, Exactly, tables, passing, readings, properly, readings-exact}
use Rattle.meaning.proofs.Cases.{choice, contrary, contrary-readings}
use Rattle.meaning.proofs.JoinedCases.{fact}
use Rattle.book.specs.Format.{good, u16_at, part_of, and_then, bytes_of, record_of, length_of, rule_of, records_of, rules_of, if_fine, body_of, read_of}
use Rattle.book.specs.Format.{book_of, book_in}
use Rattle.book.specs.Writing.{record_bytes, records_bytes, index_bytes, trailer_bytes, bytes_of_book}
use Rattle.book.specs.Rows.{Bytes, GoodBook}
use Rattle.book.proofs.Refusals.{accepted}
use Rattle.crews.specs.Join.{laid_of, join_laid, on_books, join_of}
use Rattle.crews.specs.Log.{Entry, both, none_in_first, none_in_second, log_of}
use Rattle.crews.specs.Rows.{Fitting, both-have, Logs, within_both}
use Rattle.demands.specs.Printed.{fact as fact_bytes, choice as choice_bytes, contrary as contrary_bytes}
use Rattle.demands.specs.Worked.{sevens}
use Rattle.demands.specs.TwoCrews.{JoinsOneBook, TellsWhich, LogKeeps}
use Rattle.demands.specs.UselessCrews.{unmoved, not_moved, by_first, told_by_first, first_alone, one_limit, writes_on_nine}
use Rattle.demands.specs.WorkedCrews.{CrewsHold}
use Rattle.demands.proofs.Damaged.{good-is}
use Rattle.demands.proofs.Sentences.{bytes-of}
use Rattle.demands.proofs.Worked.{At, each_at}
use Rattle.demands.proofs.WorkedCrews.{worked-crews}
use Rattle.demands.proofs.OurCrews.{our-crews}

-- ---- the books by their bytes

fact-bytes : Bytes fact_bytes
unfolding every
fact-bytes = bytes-of fact_bytes refl

choice-bytes : Bytes choice_bytes
unfolding every
choice-bytes = bytes-of choice_bytes refl

contrary-bytes : Bytes contrary_bytes
unfolding every
contrary-bytes = bytes-of contrary_bytes refl

read_alike : (read_of fact_bytes ≡ good 1 1 3 fact.rules) × (read_of choice_bytes ≡ good 2 2 8 choice.rules)
    × (read_of contrary_bytes ≡ good 1 1 4 contrary.rules)
unfolding ascending ifb if_lt if_eq u16_at part_of and_then bytes_of record_of length_of rule_of records_of rules_of if_fine body_of read_of
read_alike = (refl, refl, refl)

fact-good : GoodBook fact_bytes fact
fact-good = record { rule-count = 1; index = 3; bytes = (accepted fact_bytes _ _ _ _).0 read_alike.0 }

choice-good : GoodBook choice_bytes choice
choice-good = record { rule-count = 2; index = 8; bytes = (accepted choice_bytes _ _ _ _).0 read_alike.1 }

contrary-good : GoodBook contrary_bytes contrary
contrary-good = record { rule-count = 1; index = 4; bytes = (accepted contrary_bytes _ _ _ _).0 read_alike.2 }

contrary-none : SomeAnswer contrary → ⊥
contrary-none (x, answer) = Memᴰ.not-nil (contrary-readings.only x answer).1

-- ---- the second book is not moved up

-- "0; 0 if not 0"
abbrev loose : Book
loose = unmoved fact contrary

loose-computed : (every_rule loose (properly loose) ≡ true) × (readings loose ≡ (true ∷ false ∷ []) ∷ [])
unfolding every some every_below some_below same_atom count rule every_rule some_rule heads ifb of add_from added
    iterate upheld support_more support barred least_model agree is_answer_set atoms_of tables passing readings properly
loose-computed = (refl, refl)

loose-readings : Exactly loose ((true ∷ false ∷ []) ∷ [])
unfolding count
loose-readings = rw (← loose-computed.1) (readings-exact loose (omega arith) loose-computed.0)

loose-certain : Certain loose (atom_no 0)
unfolding atoms_of
loose-certain = record {
  one = (_, loose-readings.each _ (Memᴰ.head refl));
  each = λ x answer. let (l, m, f) = loose-readings.only x answer in rw (f (atom_no 0), Memᴰ.eq_of_singleton m);
}

-- it tells 17 bytes, and they are the book "0; 0 if not 0"
not-moved-told : (not_moved.join fact_bytes contrary_bytes (sevens 17)).told ≡ success 17
unfolding ascending ifb if_lt if_eq u16_at part_of and_then bytes_of record_of length_of rule_of records_of rules_of if_fine body_of read_of count up_rule
    joined record_bytes records_bytes index_bytes trailer_bytes bytes_of_book laid_of join_laid on_books
not-moved-told = refl

pub not-moved-fails : JoinsOneBook not_moved → ⊥
unfolding Holding ascending ifb if_lt if_eq u16_at part_of and_then bytes_of record_of length_of rule_of records_of rules_of if_fine body_of read_of count
    record_bytes records_bytes index_bytes trailer_bytes bytes_of_book on_books book_of book_in
not-moved-fails s =
    let o = s fact_bytes contrary_bytes (sevens 17) fact-bytes contrary-bytes fact contrary fact-good contrary-good 17 not-moved-told in
    let same : loose ≡ o.book = good-is _ o.good in
    o.in-neither Naming (atom_no 0) (inr contrary-none) (rw same at loose-certain)

-- ---- what ours tells, from the table

abbrev told : Answered Entry → Told Entry
told a = a.told

contrary-logged : (log_of fact_bytes contrary_bytes 10 10 (sevens 17)).told ≡ success (none_in_second 17)
unfolding At CrewsHold
contrary-logged = ap told (each_at worked-crews 8)

none-in-first-logged : (log_of contrary_bytes choice_bytes 10 10 (sevens 24)).told ≡ success (none_in_first 24)
unfolding At CrewsHold
none-in-first-logged = ap told (each_at worked-crews 7)

stopped-by-second : (log_of contrary_bytes choice_bytes 10 1 (sevens 24)).told ≡ stopped 1
unfolding At CrewsHold
stopped-by-second = ap told (each_at worked-crews 11)

stopped-by-first : (log_of fact_bytes choice_bytes 0 10 (sevens 24)).told ≡ stopped 0
unfolding At CrewsHold
stopped-by-first = ap told (each_at worked-crews 10)

joined-byte : get_or (join_of fact_bytes choice_bytes (sevens 24)).buffer 0 0 ≡ 0
unfolding At CrewsHold
joined-byte = ap (λ (a : Answered ℕ). get_or a.buffer 0 0) (each_at worked-crews 0)

fits-contrary : Fitting fact contrary 17
unfolding count up_rule joined record_bytes records_bytes index_bytes trailer_bytes bytes_of_book
fits-contrary = (record { atoms = omega arith; rules = omega arith }, omega arith)

fits-choice : Fitting contrary choice 24
unfolding count up_rule joined record_bytes records_bytes index_bytes trailer_bytes bytes_of_book
fits-choice = (record { atoms = omega arith; rules = omega arith }, omega arith)

-- ---- by the first book alone

pub first-alone-fails : TellsWhich first_alone → ⊥
unfolding by_first told_by_first
first-alone-fails s = contrary-none (second-has
    ((s fact_bytes contrary_bytes 10 10 (sevens 17) fact-bytes contrary-bytes fact contrary fact-good contrary-good fits-contrary _).0
    (ap told_by_first contrary-logged)))
  where
    second-has : {b c : Book} {limit other n m : ℕ} → Logs b c limit other n (success (both m)) → SomeAnswer c
    second-has (within_both p q (both-have x y)) = y

-- ---- one limit for both

pub one-limit-fails : TellsWhich one_limit → ⊥
one-limit-fails s =
    let logs = (our-crews.logs contrary_bytes choice_bytes 10 1 (sevens 24) contrary-bytes choice-bytes contrary choice contrary-good choice-good
    fits-choice (stopped 1)).0 stopped-by-second in
    let e = (s contrary_bytes choice_bytes 10 1 (sevens 24) contrary-bytes choice-bytes contrary choice contrary-good choice-good fits-choice
    (stopped 1)).1 logs in
    let z : stopped 1 ≡ success (none_in_first 24) = sym e ∙ none-in-first-logged in apart cc

-- ---- written on 9

pub writes-on-nine-fails : LogKeeps writes_on_nine → ⊥
writes-on-nine-fails s =
    let e = s fact_bytes choice_bytes 0 10 (sevens 24) (λ v p. let z : stopped 0 ≡ success v = sym stopped-by-first ∙ p in apart cc) in
    let seven = ap (λ (l : List ℕ). get_or l 0 0) e in absurd (omega (arith, joined-byte, seven))
