-- Every book has a text, and is the same book behind it: the text of a book with good names says these names and the book's rules. So what a
-- text says, printed again, says the same.
use mathlib.Core.Path.{◌≡◌, refl, sym, subst}
use mathlib.Core.List.{List, [], ◌∷◌, ◌++◌, Memᴰ}
use Prim.{tt, Unit}
use Prim.Native.Nat.{ℕ, suc, ◌+◌, ◌≤◌, ◌<◌}
use native.Mathlib.Omega.{arith}
use lib.ListN.{length, get_or, drop}
use Rattle.meaning.specs.Books.{Rule, Book, count}
use Rattle.meaning.specs.Told.{success}
use Rattle.book.specs.Writing.{RuleFits, Fits, bytes_of_book}
use Rattle.words.specs.declared.due.Due.TheVariants.{Listing}
use Rattle.words.specs.declared.decision.Act.TheVariants.{Fix}
use Rattle.words.specs.Words.{pieces_at}
use Rattle.words.specs.Terms.{atoms_word}
use Rattle.words.specs.Moves.{ended_of}
use Rattle.words.specs.Reading.{done, Outcome, goes, wrong, follow_at, heard, start, Says, says, refused, names_of, said, words_in}
use Rattle.words.specs.Make.{make_of}
use Rattle.words.specs.Text.{GoodNames, rule_lines, text_of}
use Rattle.words.specs.Rows.{book_said}
use Rattle.words.proofs.Reached.{words-fit}
use Rattle.words.proofs.Apart.{names-long, names_apart}
use Rattle.words.proofs.Solid.{Solid, All, atoms-solid, name-solid}
use Rattle.words.proofs.Printed.{words_from, names-from, line_read}
use Rattle.words.proofs.Steps.{atoms-begin, step-goes, step-blank}
use Rattle.words.proofs.Listing.{names-listed}
use Rattle.words.proofs.RuleLines.{rules-read}
use Rattle.words.proofs.Told.{said-made}

all-solid : (l : List (List ℕ)) → ((i : ℕ) → i < length l → Solid (get_or l i [])) → All Solid l
unfolding All
all-solid [] f = tt
all-solid (w ∷ l) f = (f 0 (omega arith), all-solid l (λ i h. f (suc i) (omega arith)))

module _ (b : Book) (l : List (List ℕ)) (f : Fits b) (g : GoodNames l) (e : length l ≡ b.atoms) where
  pub text-read : words_in (text_of b l) ≡ says l b.rules
  unfolding text_of follow_at done ended_of count
  text-read =
      let text = text_of b l in
      let y = says l b.rules in
      let few : length l ≤ 255 = omega (arith, f.atoms) in
      let printed = line_read text 0 atoms_word l (rule_lines l b.rules) atoms-solid
      (all-solid l (λ i h. name-solid _ (g.each i h))) refl in
      let ps = pieces_at text (printed.end + 1) in
      let each : (r : Rule) → Memᴰ r b.rules → RuleFits (length l) r = λ r m. subst (λ n. RuleFits n r) (sym e) (f.each r m) in
      rw printed.pieces
      (step-goes y _ _ start Listing Fix atoms-begin
      (names-listed y _ [] start.rule l (length atoms_word) [] g (omega arith)
      (step-blank y ps (words_from (length atoms_word) l) [] start.rule Listing printed.end refl
      (rules-read l g few (words_from (length atoms_word) l) (names-from (length atoms_word) l) text b.rules [] start.rule
      (printed.end + 1) printed.next each (omega (arith, f.rules))))))

-- ---- from words to words

-- what is said, printed, says it again
unfoldable Again : Says → Type 0
Again (says l rs) = words_in (text_of (record { atoms = length l; rules = rs }) l) ≡ says l rs
Again (refused i place) = Unit {0}

heard-again : (s : List ℕ) (o : Outcome) → heard s ≡ o → Again (said o)
unfolding Again said
heard-again s (goes t) e =
    text-read (record { atoms = length (names_of t.names); rules = t.rules }) (names_of t.names)
    (subst (λ k. Fits (record { atoms = k; rules = t.rules })) (sym (names-long t.names)) (words-fit s t e)) (names_apart s t e) refl
heard-again s (wrong i place) e = tt

pub again-read : (s : List ℕ) (l : List (List ℕ)) (rs : List Rule) → words_in s ≡ says l rs
    → words_in (text_of (record { atoms = length l; rules = rs }) l) ≡ says l rs
unfolding Again
again-read s l rs e = subst Again e (heard-again s (heard s) refl)

-- ---- from a book to its bytes

-- the text of a book, made a book, is the same bytes
pub text-made : (b : Book) (l : List (List ℕ)) → Fits b → GoodNames l → length l ≡ b.atoms
    → (out from to : List ℕ) → length (bytes_of_book b) ≤ length out
    → ((make_of (text_of b l) out from to).told ≡ success (length (bytes_of_book b)))
    × ((make_of (text_of b l) out from to).book ≡ bytes_of_book b ++ drop (length (bytes_of_book b)) out)
text-made b l f g e out from to =
    let same : book_said l b.rules ≡ b = λ i. record { atoms = e i; rules = b.rules } in
    subst (λ c. length (bytes_of_book c) ≤ length out → ((make_of (text_of b l) out from to).told ≡ success (length (bytes_of_book c)))
    × ((make_of (text_of b l) out from to).book ≡ bytes_of_book c ++ drop (length (bytes_of_book c)) out)) same
    (said-made (text_of b l) out from to l b.rules (text-read b l f g e))
