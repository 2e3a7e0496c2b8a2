-- The useless makers of books in words (specs/UselessNames) do not keep the sentence over names: each makes a book of a short text in which atom
-- 0 is certain, and a paper for it is accepted by every checker that is complete. Of the first text ours clears the person whose number that is;
-- the second says nothing at all.
use mathlib.Core.Path.{◌≡◌, refl, sym, ◌∙◌}
use mathlib.Core.List.{List, [], ◌∷◌}
use Prim.Native.Nat.{ℕ}
use lib.ListN.{replicate}
use Rattle.meaning.specs.declared.kind.Kind.TheVariants.{Naming, Clearing}
use Rattle.meaning.specs.Books.{Rule, atom_no, same_atom, same_rule, count, rule, every_rule, some_rule}
use Rattle.meaning.specs.Sets.{every, some, every_below, some_below, ascending}
use Rattle.meaning.specs.Colours.{put, heads, all_in, may_on, blocked, clashing}
use Rattle.meaning.specs.Choice.{ifb, if_lt, if_eq}
use Rattle.meaning.specs.Claim.{claimed, mark_of, mark, marked_by, shown_by, shown, ended, Holding}
use Rattle.meaning.specs.Paper.{unfounded, fails}
use Rattle.meaning.proofs.Tests.{apart}
use Rattle.meaning.proofs.Claims.{not-both}
use Rattle.book.specs.Format.{u16_at, part_of, bytes_of, record_of, length_of, rule_of, records_of, rules_of, if_fine, body_of, read_of}
use Rattle.book.specs.Format.{and_then as records_then}
use Rattle.book.specs.Rows.{Bytes}
use Rattle.book.specs.Making.{atom_if, atoms_from}
use Rattle.book.specs.Writing.{record_bytes, records_bytes, index_bytes, trailer_bytes, bytes_of_book}
use Rattle.std.specs.Prelude.{Some}
use Rattle.words.specs.Words.{blank, parting, blanks, span, start_of, end_of, word_at, pieces_from, pieces_at}
use Rattle.words.specs.Names.{same_bytes, first_from, number_in, is_between, place_of, whose_of}
use Rattle.words.specs.Terms.{in_range, name_byte, spelled, plain_term, term_of}
use Rattle.words.specs.Moves.{rank, is_due, remarked, only_at, on_unless, on_name, move_of, ended_of}
use Rattle.words.specs.Reading.{placed, crowded, full, stands, named, noted, begun, on_said, decided, known, done, on_decision, decision_of, on_ended, on_piece, and_then, follow, follow_at, says, refused, said, words_in}
use Rattle.words.specs.Make.{filled, hand_over, make_heard}
use Rattle.words.specs.Rows.{book_said}
use Rattle.checker.specs.Numbers.{certain, clear}
use Rattle.checker.specs.Steps.{with_rule, proper_list, with_list, step_by, step_of}
use Rattle.checker.specs.Branches.{after_step, branch_of}
use Rattle.checker.specs.Branches.{and_then as branch_then}
use Rattle.checker.specs.Witness.{follows, order_of, blocked_of, rest_fails, list_of, witness_verdict, grounds_verdict}
use Rattle.checker.specs.Witness.{and_then as witness_then}
use Rattle.checker.specs.Check.{witness_told, branch_told, steps_told, stated, trailer_told, marked_told, paper_of, check_read, check_of}
use Rattle.demands.specs.Engine.{Engine, ours}
use Rattle.demands.specs.Demand3.{Complete}
use Rattle.demands.specs.DemandNames.{our_maker, our_asker, Making, NamesSound}
use Rattle.demands.specs.Printed.{fact_paper}
use Rattle.demands.specs.Worked.{sevens}
use Rattle.demands.specs.UselessNames.{turned_heard, backwards, second_fact, listed_again, piece_again, follow_again, takes_first, twice, fact_of_two, other_fact, other_cleared}
use Rattle.demands.proofs.Sentences.{bytes-of, accepts-as-ours}
use Rattle.demands.proofs.Ours3.{ours-3-twin}
use Rattle.demands.proofs.OurNames.{names-sound}

-- what our checker tells, of the two books
checked : (check_of fact_of_two fact_paper ≡ certain (atom_no 0)) × (check_of other_fact other_cleared ≡ clear (atom_no 0))
unfolding every some every_below some_below ascending same_atom same_rule count rule every_rule some_rule put heads all_in may_on blocked clashing
    claimed mark_of mark marked_by shown_by shown ended unfounded fails u16_at part_of records_then bytes_of record_of length_of rule_of records_of rules_of
    if_fine body_of read_of with_rule proper_list with_list step_by step_of branch_then after_step branch_of witness_then follows order_of blocked_of rest_fails
    list_of witness_verdict grounds_verdict witness_told branch_told steps_told stated trailer_told marked_told paper_of check_read check_of ifb if_lt if_eq
checked = (refl, refl)

paper-bytes : Bytes fact_paper
unfolding every
paper-bytes = bytes-of fact_paper refl

-- so it is with every checker that is complete
fact-accepted : (e : Engine) → Complete Naming e → e.check fact_of_two fact_paper ≡ certain (atom_no 0)
fact-accepted e complete = accepts-as-ours fact_of_two fact_paper paper-bytes Naming e complete (atom_no 0) checked.0

-- places of two names
abbrev places : ℕ → ℕ → List ℕ
places i j = i ∷ j ∷ replicate 253 0

abbrev names : List (List ℕ)
names = (98 ∷ []) ∷ ((97 ∷ []) ∷ [])

abbrev facts : List Rule
facts = record { head = atom_no 1; pos = []; neg = [] } ∷ []

-- what is made of the texts, what they say, and whose name `b` and `a` then are
record Computed : Type 0 where
  turned : Making backwards second_fact fact_of_two (places 7 9) (places 8 10)
  ours-made : Making our_maker second_fact other_fact (places 7 9) (places 8 10)
  said : words_in second_fact ≡ says names facts
  asked-b : our_asker second_fact 2 (places 7 9) (places 8 10) (98 ∷ []) ≡ Some (atom_no 0)
  again : Making takes_first twice fact_of_two (places 7 9) (places 8 10)
  unsaid : words_in twice ≡ refused 41 9
  asked-a : our_asker twice 2 (places 7 9) (places 8 10) (97 ∷ []) ≡ Some (atom_no 0)

computed : Computed
unfolding ifb if_lt if_eq every count atom_if atoms_from record_bytes records_bytes index_bytes trailer_bytes bytes_of_book blank parting blanks span start_of
    end_of word_at pieces_from pieces_at same_bytes first_from number_in is_between place_of whose_of in_range name_byte spelled plain_term term_of rank is_due
    remarked only_at on_unless on_name move_of ended_of placed crowded full stands named noted begun on_said decided known done on_decision decision_of
    on_ended on_piece and_then follow follow_at said filled hand_over make_heard turned_heard listed_again piece_again follow_again
computed = record {
  turned = record { out = sevens 11; starts = []; ends = []; size = 11; told = refl; bytes = refl; begins = refl; stops = refl };
  ours-made = record { out = sevens 11; starts = []; ends = []; size = 11; told = refl; bytes = refl; begins = refl; stops = refl };
  said = refl;
  asked-b = refl;
  again = record { out = sevens 11; starts = []; ends = []; size = 11; told = refl; bytes = refl; begins = refl; stops = refl };
  unsaid = refl;
  asked-a = refl;
}

-- it gives b the number of a, and the text says that b is in no reading
pub backwards-fails : (e : Engine) → Complete Naming e → NamesSound Naming backwards our_asker e → ⊥
unfolding Holding
backwards-fails e complete sound =
    let (l, rs, s, n, certainly) =
    sound second_fact fact_of_two _ _ computed.turned (98 ∷ []) (atom_no 0) computed.asked-b fact_paper (fact-accepted e complete) in
    let (k, qs, t, o, clearly) =
    names-sound Clearing ours ours-3-twin.sound second_fact other_fact _ _ computed.ours-made (98 ∷ []) (atom_no 0) computed.asked-b
    other_cleared checked.1 in
    let same = sym s ∙ t in
    let same_names : l ≡ k = cc in let same-rules : rs ≡ qs = cc in
    not-both (book_said l rs) (atom_no 0) certainly (rw (← same_names, ← same-rules) at clearly)

-- it names a by a text that is refused, since nobody knows which a is meant
pub takes-first-fails : (e : Engine) → Complete Naming e → NamesSound Naming takes_first our_asker e → ⊥
takes-first-fails e complete sound =
    let (l, rs, s, n, certainly) =
    sound twice fact_of_two _ _ computed.again (97 ∷ []) (atom_no 0) computed.asked-a fact_paper (fact-accepted e complete) in
    let z = sym s ∙ computed.unsaid in apart (cc)
