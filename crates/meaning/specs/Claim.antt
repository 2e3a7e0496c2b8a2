-- What a paper claims. Document 01, "The paper": "an on rule has the claimed atom as head"; document 02, request 2: "a paper that says a
-- person is in no answer set"; docs/DECISIONS.md, "A paper that a book has no reading". What a claim means is said here alone; papers,
-- derivations and the engine's steps speak of any claim. Which claim it is, is said where a trailer is read (checker/specs/Check, Rows)
-- and where a paper is asked for (writer/specs/Write).
--
--   claim q a        the claim of this kind about atom a
--   named a          the claim that atom a is certain; cleared a: that it is in no answer set
--   NoReading        the claim that the book has no answer set
--   claimed k        the trailer's first byte: the number of the claimed atom, or 0 where no atom is claimed
--   mark k           the paper's last two bytes: 50 46, 50 43 or 50 4e
--   marked_by x y     what two bytes are as a mark
--   meant k          the sets of atoms of which the claim holds
--   shown b k c      the pair shows that the claim holds: "an on rule has the claimed atom as head", or "all rules with the claimed atom
--                    as head are off"; that there is no answer set is shown by no pair
--   ended b k c      "some rule is in both sets", or the claim is shown
--   Holding q b a    what a right claim of this kind says of the book
--   Contrary b       the book contradicts itself: it has no answer set
--   Holds b k        what a right claim says of the book
use Rattle.std.specs.Prelude.{Bool, false, not, ◌||◌, List, [], ◌∷◌, ℕ}
use Rattle.meaning.specs.declared.AtomNo.{AtomNo}
use Rattle.meaning.specs.declared.kind.Kind.{Kind}
use Rattle.meaning.specs.declared.kind.Kind.TheVariants.{Naming, Clearing}
use Rattle.meaning.specs.declared.kind.Claim.{Claim}
use Rattle.meaning.specs.declared.kind.Claim.TheVariants.{About, NoReading}
use Rattle.meaning.specs.declared.kind.Marked.{Marked}
use Rattle.meaning.specs.declared.kind.Marked.TheVariants.{Of, Neither}
use Rattle.meaning.specs.declared.kind.Marked.TheVariants.{NoReading as OfNoReading}
use Rattle.meaning.specs.Sets.{Set}
use Rattle.meaning.specs.Books.{Atoms, Book}
use Rattle.meaning.specs.Choice.{if_eq}
use Rattle.meaning.specs.AnswerSet.{AnswerSet, Certain, Clear}
use Rattle.meaning.specs.Colours.{Pair, heads, all_in, clashing}

abbrev pub claim : Kind → AtomNo → Claim
claim q a = About q a

abbrev pub named : AtomNo → Claim
named a = claim Naming a

abbrev pub cleared : AtomNo → Claim
cleared a = claim Clearing a

unfoldable pub claimed : Claim → ℕ
claimed (About q a) = a.0
claimed NoReading = 0

unfoldable pub mark_of : Kind → List ℕ
mark_of Naming = 0x50 ∷ 0x46 ∷ []
mark_of Clearing = 0x50 ∷ 0x43 ∷ []

unfoldable pub mark : Claim → List ℕ
mark (About q a) = mark_of q
mark NoReading = 0x50 ∷ 0x4e ∷ []

unfoldable pub marked_by : ℕ → ℕ → Marked
marked_by x y = if_eq x 0x50 (if_eq y 0x46 (Of Naming) (if_eq y 0x43 (Of Clearing) (if_eq y 0x4e OfNoReading Neither))) Neither

-- of a set that has the atom, or has it not
unfoldable pub meant_by : Kind → Bool → Bool
meant_by Naming v = v
meant_by Clearing v = not v

unfoldable pub meant : Claim → Set Atoms
meant (About q a) x = meant_by q (x a)
meant NoReading x = false

unfoldable pub shown_by : Kind → Book → Pair → Atoms
shown_by Naming b c = heads b c.on
shown_by Clearing b c = all_in b c.off

unfoldable pub shown : Book → Claim → Pair → Bool
shown b (About q a) c = shown_by q b c a
shown b NoReading c = false

unfoldable pub ended : Book → Claim → Pair → Bool
ended b k c = clashing b c || shown b k c

unfoldable pub Holding : Kind → Book → AtomNo → Type 0
Holding Naming b a = Certain b a
Holding Clearing b a = Clear b a

-- meant says no to every set, so that "the claim holds of each answer set" says that there is none
abbrev pub Contrary : Book → Type 0
Contrary b = (x : Atoms) → AnswerSet b x → ⊥

unfoldable pub Holds : Book → Claim → Type 0
Holds b (About q a) = Holding q b a
Holds b NoReading = Contrary b
