-- A text is refused by 40, 41 or 42 exactly if that row of the table holds at the place (specs/Rows): each decision about a word has its reason,
-- and by the reason the decision is just that.
use mathlib.Core.Path.{◌≡◌, refl, ap, sym, ◌∙◌, subst}
use mathlib.Core.Logic.{inl, inr, ⊎_elim}
use mathlib.Core.Bool.{Bool, true, false}
use mathlib.Core.List.{List}
use Prim.{tt, Unit}
use Prim.Native.Nat.{ℕ, ◌<◌, ◌≤◌}
use native.Mathlib.Omega.{arith}
use lib.Dec.{leb}
use lib.ListN.{length, get_or}
use borrow.Author.Tests.{le-leb, leb-true}
use Rattle.std.specs.Prelude.{Some, None, Ok, Err}
use Rattle.meaning.proofs.Choice.{b-yes, b-no, lt_yes, lt_no, eq_no, b-either, lt-either, eq-either}
use Rattle.meaning.proofs.Tests.{lt-or-le, decided as either_way, true-and-false}
use Rattle.book.specs.Making.{listed}
use Rattle.words.specs.declared.due.Due.{Due}
use Rattle.words.specs.declared.due.Standing.{Standing}
use Rattle.words.specs.declared.due.Standing.TheVariants.{Head, Positive, Negative}
use Rattle.words.specs.declared.due.Said.{Said}
use Rattle.words.specs.declared.due.Said.TheVariants.{Nothing as Silent, Lists, Listed, Atom}
use Rattle.words.specs.declared.due.Ended.{Ended}
use Rattle.words.specs.declared.due.Ended.TheVariants.{Nothing as Blank, Rule as Closes, Missing}
use Rattle.words.specs.declared.decision.Misplaced.TheVariants.{Form, Name, TooMany}
use Rattle.words.specs.Words.{Word, Piece, word, line}
use Rattle.words.specs.Names.{is_named, number_in}
use Rattle.words.specs.Moves.{Move, ended_of}
use Rattle.words.specs.Reading.{Decision, State, Outcome, goes, wrong, crowded, full, stands, named, noted, begun, on_said, decided, on_decision, decision_of, on_ended, on_piece, heard}
use Rattle.words.specs.Rows.{Comes, moves_to, Has, Allowed, Seventeenth, WrongForm, no_place, list-behind-rule, WrongName, unlisted, listed-twice, OneTooMany, listed-name, new-name, rule, positive, negative, WrongAt, form, missing, name, many}
use Rattle.words.proofs.Names.{bytes-refl, bytes-equal, first_found, first-none}
use Rattle.words.proofs.Refusals.{refused-first, first-refused}

-- ---- names that there are

module _ (names : List Word) (l : List ℕ) where
  number-has : number_in names l < length names → Has names l
  unfolding number_in
  number-has h = (number_in names l, h, bytes-equal _ l (first_found 0 (length names) (is_named names l) (omega arith)))

  has-number : Has names l → number_in names l < length names
  unfolding number_in
  has-number (i, h, e) = ⊎_elim (λ k. k)
      (λ k. let n : is_named names l i ≡ false = first-none 0 (length names) (is_named names l) (omega arith) i (omega arith) (omega arith) in
      true-and-false (bytes-refl l) (rw e at n))
      (lt-or-le (number_in names l) (length names))

  hasnt-number : (Has names l → ⊥) → length names ≤ number_in names l
  hasnt-number f = ⊎_elim (λ h. absurd (f (number-has h))) (λ h. h) (lt-or-le (number_in names l) (length names))

-- ---- the 17th atom

module _ (part : List Bool) (a : ℕ) where
  crowded-last : crowded part a ≡ true → Seventeenth part a
  unfolding crowded
  crowded-last e = ⊎_elim
      (λ h. true-and-false e (b-yes (get_or part a false) false (leb 16 (length (listed part))) h))
      (λ h. record { new = h; sixteen = leb-true 16 _ (sym (b-no (get_or part a false) false (leb 16 (length (listed part))) h) ∙ e) })
      (either_way (get_or part a false))

  last-crowded : Seventeenth part a → crowded part a ≡ true
  unfolding crowded
  last-crowded s = b-no _ _ _ s.new ∙ le-leb 16 _ s.sixteen

-- ---- a decision and its reason

unfoldable Reason : State → Word → Decision → Type 0
Reason s w (Ok (next, act)) = Unit {0}
Reason s w (Err Form) = WrongForm s w
Reason s w (Err Name) = WrongName s w
Reason s w (Err TooMany) = OneTooMany s w

module _ (s : State) (w : Word) where
  abbrev number : ℕ
  number = number_in s.names w.bytes

  abbrev decision : Move → Decision
  decision m = decided m s.fixed (length s.rules) (length s.names) number s.rule

  stands-reason : (standing : Standing) (next : Due) → moves_to s w ≡ Some (next, (Atom standing)) → Allowed s w
      → Reason s w (stands standing next (length s.rules) number s.rule)
  unfolding Reason stands full
  stands-reason Head next m k =
      b-either (Reason s w) (leb 255 (length s.rules)) _ _ (λ e. rule m k (leb-true 255 _ e)) (λ e. tt)
  stands-reason Positive next m k =
      b-either (Reason s w) (crowded s.rule.pos number) _ _ (λ e. positive m k (crowded-last _ _ e)) (λ e. tt)
  stands-reason Negative next m k =
      b-either (Reason s w) (crowded s.rule.neg number) _ _ (λ e. negative m k (crowded-last _ _ e)) (λ e. tt)

  -- a name that is not there
  hasnt : length s.names ≤ number → Has s.names w.bytes → ⊥
  hasnt h k = let n = has-number s.names w.bytes k in omega arith

  said-reason : (next : Due) (said : Said) → moves_to s w ≡ Some (next, said) → Reason s w (decision (Some (next, said)))
  unfolding Reason decided on_said begun noted named
  said-reason next Silent m = tt
  said-reason next Lists m = eq-either (Reason s w) (length s.rules) 0 _ _ (λ e. tt)
      (λ f. list-behind-rule m (⊎_elim (λ h. h) (λ h. absurd (f (omega arith))) (lt-or-le 0 (length s.rules))))
  said-reason next Listed m = lt-either (Reason s w) number (length s.names) _ _ (λ h. listed-twice m (number-has _ _ h))
      (λ h. lt-either (Reason s w) (length s.names) 255 _ _ (λ k. tt) (λ k. listed-name m (hasnt h) k))
  said-reason next (Atom standing) m = lt-either (Reason s w) number (length s.names) _ _
      (λ h. stands-reason standing next m (inr (number-has _ _ h)))
      (λ h. b-either (Reason s w) s.fixed _ _ (λ e. unlisted m (⊎_elim (λ f. true-and-false e f) (hasnt h)))
      (λ e. lt-either (Reason s w) (length s.names) 255 _ _ (λ k. stands-reason standing next m (inl e)) (λ k. new-name m e (hasnt h) k)))

  move-reason : (m : Move) → moves_to s w ≡ m → Reason s w (decision m)
  unfolding Reason decided
  move-reason (Some (next, said)) m = said-reason next said m
  move-reason None m = no_place m

  -- and back: by what the word does there
  moved : {m : Move} → moves_to s w ≡ m → decision_of w.bytes s ≡ decision m
  unfolding decision_of
  moved e = ap decision e

  form-decided : WrongForm s w → decision_of w.bytes s ≡ Err Form
  unfolding decided on_said begun
  form-decided (no_place m) = moved m
  form-decided (list-behind-rule m h) = moved m ∙ eq_no _ _ _ _ (λ e. omega arith)

  name-decided : WrongName s w → decision_of w.bytes s ≡ Err Name
  unfolding decided on_said noted named
  name-decided (unlisted m f) =
      let new = hasnt-number s.names w.bytes (λ h. f (inr h)) in
      moved m ∙ lt_no _ _ _ _ new ∙ b-yes _ _ _ (⊎_elim (λ e. e) (λ e. absurd (f (inl e))) (either_way s.fixed))
  name-decided (listed-twice m h) = moved m ∙ lt_yes _ _ _ _ (has-number _ _ h)

  allowed-many : (d : Decision) → Allowed s w → d ≡ Err TooMany → named s.fixed (length s.names) number d ≡ Err TooMany
  unfolding named
  allowed-many d k e = lt-either (λ (x : Decision). x ≡ Err TooMany) number (length s.names) _ _ (λ h. e)
      (λ h. b-no _ _ _ (⊎_elim (λ f. f) (λ g. absurd (hasnt h g)) k)
      ∙ lt-either (λ (x : Decision). x ≡ Err TooMany) (length s.names) 255 _ _ (λ g. e) (λ g. refl))

  many-decided : OneTooMany s w → decision_of w.bytes s ≡ Err TooMany
  unfolding decided on_said noted named stands full
  many-decided (listed-name m f h) = moved m ∙ lt_no _ _ _ _ (hasnt-number _ _ f) ∙ lt_no _ _ _ _ h
  many-decided (new-name m e f h) = moved m ∙ lt_no _ _ _ _ (hasnt-number _ _ f) ∙ b-no _ _ _ e ∙ lt_no _ _ _ _ h
  many-decided (rule m k h) = moved m ∙ allowed-many _ k (b-yes _ _ _ (le-leb 255 _ h))
  many-decided (positive m k h) = moved m ∙ allowed-many _ k (b-yes _ _ _ (last-crowded _ _ h))
  many-decided (negative m k h) = moved m ∙ allowed-many _ k (b-yes _ _ _ (last-crowded _ _ h))

-- ---- 40, 41 and 42

module _ (text : List ℕ) where
  unfoldable Row : Outcome → Type 0
  Row (goes s) = Unit {0}
  Row (wrong i at) = WrongAt text i at

  word_row : (w : Word) (s : State) → Comes text (word w) s → (d : Decision) → Reason s w d → Row (on_decision d w s)
  unfolding Reason Row on_decision
  word_row w s c (Ok (next, act)) r = tt
  word_row w s c (Err Form) r = form c r
  word_row w s c (Err Name) r = name c r
  word_row w s c (Err TooMany) r = many c r

  line_row : (at : ℕ) (s : State) → Comes text (line at) s → (e : Ended) → ended_of s.due ≡ e → Row (on_ended e at s)
  unfolding Row on_ended
  line_row at s c Blank e = tt
  line_row at s c Closes e = tt
  line_row at s c Missing e = missing c e

  piece-row : (p : Piece) (s : State) → Comes text p s → Row (on_piece p s)
  unfolding on_piece decision_of
  piece-row (word w) s c = word_row w s c (decision_of w.bytes s) (move-reason s w (moves_to s w) refl)
  piece-row (line at) s c = line_row at s c (ended_of s.due) refl

  pub heard-row : (i at : ℕ) → heard text ≡ wrong i at → WrongAt text i at
  unfolding Row
  heard-row i at e =
      let r = refused-first text i at e in
      let c : Comes text r.here r.state =
      record { before = r.before; behind = r.behind; split = r.split; goes_on = r.goes_on } in
      subst Row r.refused (piece-row r.here r.state c)

  comes-heard : {p : Piece} {s : State} → Comes text p s → (i at : ℕ) → on_piece p s ≡ wrong i at → heard text ≡ wrong i at
  comes-heard {p} {s} c i at e = first-refused text i at (record {
    before = c.before;
    here = p;
    behind = c.behind;
    state = s;
    split = c.split;
    goes_on = c.goes_on;
    refused = e;
  })

  pub row-heard : (i at : ℕ) → WrongAt text i at → heard text ≡ wrong i at
  unfolding on_piece on_decision on_ended
  row-heard i at (form {w} {s} c r) = comes-heard c 40 w.place (ap (λ d. on_decision d w s) (form-decided s w r))
  row-heard i at (missing {s = s} c e) = comes-heard c 40 at (ap (λ x. on_ended x at s) e)
  row-heard i at (name {w} {s} c r) = comes-heard c 41 w.place (ap (λ d. on_decision d w s) (name-decided s w r))
  row-heard i at (many {w} {s} c r) = comes-heard c 42 w.place (ap (λ d. on_decision d w s) (many-decided s w r))
