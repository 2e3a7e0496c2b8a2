-- Answer sets, as Gelfond and Lifschitz define them, and what is certain. Document 01, "The meaning". It rests on Sets and Books only:
-- "This definition decides when anything else here differs from it."
--
--   reduct x l           "The reduct by a set X drops every rule with a negative atom in X and drops the negative part of the rest."
--   obeys y r            if every positive atom of the rule is in y, its head is in y
--   ClosedUnder l y      y obeys every rule of the list
--   AnswerSet b x        "X is an answer set if X is the smallest set closed under its reduct."
--   Throughout b fact    the book has at least one answer set, and the fact holds of each
--   Certain b a          "An atom is certain if the book has at least one answer set and the atom is in each."
--   Clear b a            the book has at least one answer set and the atom is in none (document 02, request 2)
--   generating b x       the rules whose positive atoms are all in x and whose negative atoms are all outside it
use Rattle.std.specs.Prelude.{◌≡◌, Bool, true, false, not, ◌&&◌, ◌||◌, List, [], ◌∷◌}
use Rattle.meaning.specs.declared.AtomNo.{AtomNo}
use Rattle.meaning.specs.Sets.{Set, ◌∈◌, ◌⊆◌, every, some, Smallest}
use Rattle.meaning.specs.Books.{Atoms, Rules, Rule, Book, rule}

-- the rest of a reduct, with the rule in front of it or without: blocked says that the rule has a negative atom in the set
unfoldable pub keep_unless : Bool → Rule → List Rule → List Rule
keep_unless true r l = l
keep_unless false r l = record { head = r.head; pos = r.pos; neg = [] } ∷ l

unfoldable pub reduct : Atoms → List Rule → List Rule
reduct x [] = []
reduct x (r ∷ l) = keep_unless (some x r.neg) r (reduct x l)

unfoldable pub obeys : Atoms → Rule → Bool
obeys y r = not (every y r.pos) || y r.head

abbrev pub ClosedUnder : List Rule → Atoms → Type 0
ClosedUnder l y = every (obeys y) l ≡ true

abbrev pub AnswerSet : Book → Atoms → Type 0
AnswerSet b x = Smallest (λ y z. y ⊆ z) (ClosedUnder (reduct x b.rules)) x

pub record Throughout (b : Book) (fact : Set Atoms) : Type 0 where
  pub one : (x : Atoms) × AnswerSet b x
  pub each : (x : Atoms) → AnswerSet b x → x ∈ fact

abbrev pub Certain : Book → AtomNo → Type 0
Certain b a = Throughout b (λ x. x a)

abbrev pub Clear : Book → AtomNo → Type 0
Clear b a = Throughout b (λ x. not (x a))

unfoldable pub generates : Atoms → Rule → Bool
generates x r = every x r.pos && not (some x r.neg)

unfoldable pub generating : Book → Atoms → Rules
generating b x r = generates x (rule b r)
