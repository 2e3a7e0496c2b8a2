-- What making a book of a text tells, both ways: a refusal by its row of the table, with every byte as it was; 43 where the buffer is too short;
-- and else the book of what the text says, with the places of its names.
use mathlib.Core.Path.{◌≡◌, refl, ap, sym, ◌∙◌, subst}
use mathlib.Core.Logic.{◌↔◌}
use mathlib.Core.List.{List, ◌++◌}
use Prim.Native.Nat.{ℕ, ◌<◌, ◌≤◌}
use lib.ListN.{length, drop, length-map}
use Rattle.meaning.specs.Books.{Rule}
use Rattle.meaning.specs.Told.{Told, success, refused_with, refused_at, refused}
use Rattle.meaning.proofs.Choice.{lt_yes, lt_no, lt-either}
use Rattle.meaning.proofs.Tests.{apart}
use Rattle.meaning.proofs.Told.{success-one}
use Rattle.book.specs.Writing.{bytes_of_book}
use Rattle.words.specs.Words.{Word}
use Rattle.words.specs.Reading.{State, Outcome, goes, wrong, heard, book_of, Says, says, refused as unread, said, words_in, names_of}
use Rattle.words.specs.Make.{filled, starts_of, ends_of, Answer, only, hand_over, make_heard, make_of}
use Rattle.words.specs.Rows.{WrongAt, book_said, TooLong}
use Rattle.words.proofs.Rows.{heard-row, row-heard}

unfoldable heard_by : Told ℕ → Outcome → Outcome
heard_by (success n) h = h
heard_by (refused_with i l) h = h
heard_by (refused_at i at) h = wrong i at
heard_by (refused i) h = h

-- what a text that is read to its end says
said_read : (h : Outcome) (names : List (List ℕ)) (rules : List Rule) → said h ≡ says names rules
    → (s : State) × (h ≡ goes s) × (names_of s.names ≡ names) × (s.rules ≡ rules)
unfolding said
said_read (goes s) names rules e = (s, refl, ap names_in e, ap rules_in e)
  where
    names_in : Says → List (List ℕ)
    names_in (says l rs) = l
    names_in (unread i at) = names

    rules_in : Says → List Rule
    rules_in (says l rs) = rs
    rules_in (unread i at) = rules
said_read (wrong i at) names rules e = apart (cc)

-- the book of what is said is that of the state
pub said-book : (s : State) → book_of s ≡ book_said (names_of s.names) s.rules
said-book s = ap (λ n. record { atoms = n; rules = s.rules }) (sym (length-map s.names (λ (w : Word). w.bytes)))

-- a book was made of the text: of what it says, byte for byte, with the later bytes kept, and with the places of its names
pub record Made (text out from to : List ℕ) (n : ℕ) : Type 0 where
  pub state : State
  pub read : heard text ≡ goes state
  pub size : length (bytes_of_book (book_of state)) ≡ n
  pub room : n ≤ length out
  pub given : make_of text out from to ≡ record {
    told = success n;
    book = bytes_of_book (book_of state) ++ drop n out;
    from = filled (starts_of state.names);
    to = filled (ends_of state.names);
  }

module _ (text out from to : List ℕ) where
  goes-told : (s : State) (i at : ℕ) → (hand_over s out from to).told ≡ refused_at i at → goes s ≡ wrong i at
  unfolding hand_over
  goes-told s i at = lt-either (λ (x : Answer). x.told ≡ refused_at i at → goes s ≡ wrong i at) (length out) (length (bytes_of_book (book_of s))) _ _
      (λ h e. apart (cc)) (λ h e. apart (cc))

  told-heard : (i at : ℕ) (h : Outcome) → (make_heard h out from to).told ≡ refused_at i at → h ≡ wrong i at
  unfolding make_heard heard_by
  told-heard i at (goes s) e = goes-told s i at e
  told-heard i at (wrong j p) e = ap (λ (t : Told ℕ). heard_by t (wrong j p)) e

  -- 40, 41 and 42, each exactly if its row holds; no other number has a place
  pub refused-row : (i at : ℕ) → ((make_of text out from to).told ≡ refused_at i at) ↔ WrongAt text i at
  unfolding make_heard
  refused-row i at = (
    λ e. heard-row text i at (told-heard i at (heard text) e),
    λ r. ap (λ (h : Outcome). (make_heard h out from to).told) (row-heard text i at r),
  )

  short-told : (s : State) → (hand_over s out from to).told ≡ refused 43 → length out < length (bytes_of_book (book_of s))
  unfolding hand_over
  short-told s = lt-either (λ (x : Answer). x.told ≡ refused 43 → length out < length (bytes_of_book (book_of s))) (length out)
      (length (bytes_of_book (book_of s))) _ _ (λ h e. h) (λ h e. apart (cc))

  told-long : (h : Outcome) → heard text ≡ h → (make_heard h out from to).told ≡ refused 43 → TooLong text out
  unfolding make_heard said
  told-long (goes s) k e = record {
    names = names_of s.names;
    rules = s.rules;
    read = ap said k;
    short = subst (λ b. length out < length (bytes_of_book b)) (said-book s) (short-told s e);
  }
  told-long (wrong i at) k e = apart (cc)

  long-told : TooLong text out → (make_of text out from to).told ≡ refused 43
  unfolding make_heard hand_over
  long-told t =
      let (s, e, f, g) = said_read (heard text) t.names t.rules t.read in
      let same : book_of s ≡ book_said t.names t.rules = said-book s ∙ λ i. book_said (f i) (g i) in
      ap (λ (h : Outcome). (make_heard h out from to).told) e
      ∙ ap (λ (x : Answer). x.told) (lt_yes _ _ _ _ (subst (λ b. length out < length (bytes_of_book b)) (sym same) t.short))

  pub refused-43 : ((make_of text out from to).told ≡ refused 43) ↔ TooLong text out
  refused-43 = (told-long (heard text) refl, long-told)

  keeps-heard : (h : Outcome) → ((n : ℕ) → (make_heard h out from to).told ≡ success n → ⊥)
      → make_heard h out from to ≡ only (make_heard h out from to).told out from to
  unfolding make_heard hand_over
  keeps-heard (goes s) = lt-either (λ (x : Answer). ((n : ℕ) → x.told ≡ success n → ⊥) → x ≡ only x.told out from to) (length out)
      (length (bytes_of_book (book_of s))) _ _ (λ h f. refl) (λ h f. absurd (f _ refl))
  keeps-heard (wrong i at) = λ f. refl

  -- nothing is written on a refusal
  pub make-keeps : ((n : ℕ) → (make_of text out from to).told ≡ success n → ⊥)
      → make_of text out from to ≡ only (make_of text out from to).told out from to
  make-keeps = keeps-heard (heard text)

  goes_given : (s : State) → heard text ≡ goes s → length (bytes_of_book (book_of s)) ≤ length out → make_of text out from to ≡ record {
    told = success (length (bytes_of_book (book_of s)));
    book = bytes_of_book (book_of s) ++ drop (length (bytes_of_book (book_of s))) out;
    from = filled (starts_of s.names);
    to = filled (ends_of s.names);
  }
  unfolding make_heard hand_over
  goes_given s e h = ap (λ (x : Outcome). make_heard x out from to) e ∙ lt_no _ _ _ _ h

  made-goes : (s : State) → heard text ≡ goes s → length (bytes_of_book (book_of s)) ≤ length out
      → Made text out from to (length (bytes_of_book (book_of s)))
  made-goes s e h = record { state = s; read = e; size = refl; room = h; given = goes_given s e h }

  success-told : (s : State) (n : ℕ) → (hand_over s out from to).told ≡ success n
      → (length (bytes_of_book (book_of s)) ≤ length out) × (length (bytes_of_book (book_of s)) ≡ n)
  unfolding hand_over
  success-told s n = lt-either
      (λ (x : Answer). x.told ≡ success n → (length (bytes_of_book (book_of s)) ≤ length out) × (length (bytes_of_book (book_of s)) ≡ n))
      (length out) (length (bytes_of_book (book_of s))) _ _ (λ h e. apart (cc)) (λ h e. (h, success-one e))

  made-heard : (n : ℕ) (h : Outcome) → heard text ≡ h → (make_heard h out from to).told ≡ success n → Made text out from to n
  unfolding make_heard
  made-heard n (goes s) e t = let (h, f) = success-told s n t in subst (Made text out from to) f (made-goes s e h)
  made-heard n (wrong i at) e t = apart (cc)

  -- a book that is told was made so
  pub told-made : (n : ℕ) → (make_of text out from to).told ≡ success n → Made text out from to n
  told-made n = made-heard n (heard text) refl

  -- and every text that is read is made to its book, where the buffer has room for it
  pub said-made : (names : List (List ℕ)) (rules : List Rule) → words_in text ≡ says names rules
      → length (bytes_of_book (book_said names rules)) ≤ length out
      → ((make_of text out from to).told ≡ success (length (bytes_of_book (book_said names rules))))
      × ((make_of text out from to).book ≡ bytes_of_book (book_said names rules) ++ drop (length (bytes_of_book (book_said names rules))) out)
  said-made names rules e h =
      let (s, k, f, g) = said_read (heard text) names rules e in
      let same : book_of s ≡ book_said names rules = said-book s ∙ λ i. book_said (f i) (g i) in
      let given = goes_given s k (subst (λ b. length (bytes_of_book b) ≤ length out) (sym same) h) in
      subst (λ b. ((make_of text out from to).told ≡ success (length (bytes_of_book b)))
      × ((make_of text out from to).book ≡ bytes_of_book b ++ drop (length (bytes_of_book b)) out)) same
      (ap (λ (x : Answer). x.told) given, ap (λ (x : Answer). x.book) given)
