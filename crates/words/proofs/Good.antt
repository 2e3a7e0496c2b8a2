-- Whatever a text said so far, its rules are a book's, and so is the rule that is open: words and lines' ends keep this.
use mathlib.Core.Path.{◌≡◌, refl}
use mathlib.Core.Logic.{◌⊎◌, ⊎_elim}
use mathlib.Core.Bool.{true, false, not, ◌||◌}
use mathlib.Core.List.Memᴰ
use mathlib.Core.List.{List, [], ◌∷◌, ◌++◌}
use Prim.{tt, Unit}
use Prim.Native.Nat.{ℕ, ◌+◌, ◌≤◌, ◌<◌}
use native.Mathlib.Omega.{arith}
use lib.Dec.{leb}
use lib.ListN.{length, length-append, length-set}
use borrow.Author.Tests.{le-leb}
use Rattle.std.specs.Prelude.{Some, None, Ok, Err}
use Rattle.meaning.specs.Books.{Rule, count}
use Rattle.meaning.proofs.Choice.{b-either, lt-either, eq-either}
use Rattle.meaning.proofs.Tests.{lt-or-le, true-and-false, either}
use Rattle.book.specs.Writing.{RuleFits, Fits}
use Rattle.words.specs.declared.due.Due.{Due}
use Rattle.words.specs.declared.due.Standing.{Standing}
use Rattle.words.specs.declared.due.Standing.TheVariants.{Head, Positive, Negative}
use Rattle.words.specs.declared.due.Said.{Said}
use Rattle.words.specs.declared.due.Said.TheVariants.{Nothing as Silent, Lists, Listed, Atom}
use Rattle.words.specs.declared.due.Ended.TheVariants.{Rule as Closes}
use Rattle.words.specs.declared.decision.Act.{Act}
use Rattle.words.specs.declared.decision.Act.TheVariants.{Nothing, Fix, Note, Stand}
use Rattle.words.specs.declared.decision.Misplaced.TheVariants.{Form, Name, TooMany}
use Rattle.words.specs.Words.{Word}
use Rattle.words.specs.Terms.{term_of}
use Rattle.words.specs.Moves.{Move, rank, move_of, ended_of}
use Rattle.words.specs.Reading.{Decision, State, placed, full, stands, named, noted, begun, on_said, decided, known, done, decision_of, next_line, open_rule, start}
use Rattle.words.specs.Progress.{is_open, Good}
use Rattle.words.proofs.Places.{number-within}
use Rattle.words.proofs.Opens.{headed, opens_by, opens-move, closes-open}
use Rattle.words.proofs.Parts.{body_more, fits_more, body-none, body-set}

pub good_start : Good start
unfolding rank count
good_start = record {
  book = record { atoms = omega arith; rules = omega arith; each = λ r m. absurd (Memᴰ.not-nil m) };
  pos-long = refl;
  neg-long = refl;
  pos = body-none 0;
  neg = body-none 0;
  head = λ e. true-and-false e refl;
  few = λ e. true-and-false e refl;
}

-- ---- a line's end

rule-last : (n : ℕ) (l : List Rule) (r : Rule) → length l < 255 → RuleFits n r → Fits (record { atoms = n; rules = l })
    → Fits (record { atoms = n; rules = l ++ (r ∷ []) })
unfolding count
rule-last n l r h f g = record {
  atoms = g.atoms;
  rules = simp length-append (omega arith);
  each = λ q m. ⊎_elim (g.each q) (λ k. let e : q ≡ r = Memᴰ.eq_of_singleton k in rw e f) (Memᴰ.append_cases l m);
}

module _ (s : State) (g : Good s) where
  pub good-blank : Good (next_line s.rules s)
  unfolding rank
  good-blank = record {
    book = g.book;
    pos-long = g.pos-long;
    neg-long = g.neg-long;
    pos = g.pos;
    neg = g.neg;
    head = λ e. true-and-false e refl;
    few = λ e. true-and-false e refl;
  }

  pub good-closed : ended_of s.due ≡ Closes → Good (next_line (s.rules ++ (open_rule s ∷ [])) s)
  unfolding rank
  good-closed c =
      let o = closes-open s.due c in
      record {
        book = rule-last _ _ _ (g.few o) (record { head = g.head o; pos = g.pos; neg = g.neg }) g.book;
        pos-long = g.pos-long;
        neg-long = g.neg-long;
        pos = g.pos;
        neg = g.neg;
        head = λ e. true-and-false e refl;
        few = λ e. true-and-false e refl;
      }

-- ---- a word

-- an open rule stays open
stays_open : (k : ℕ) (next : Due) (said : Said) → opens_by k (Some (next, said)) ≡ true → headed said ≡ false → is_open next ≡ true
    → leb 3 k ≡ true
unfolding opens_by
stays_open k next said e f o =
    ⊎_elim (λ p. true-and-false (rw o at p) refl) (λ p. ⊎_elim (λ q. true-and-false q f) (λ q. q) (either (headed said) (leb 3 k) p))
    (either (not (leb 3 (rank next))) (headed said || leb 3 k) e)

-- the names with the name of number a
known-long : (l : List Word) (a : ℕ) (w : Word) → a ≤ length l → length l ≤ 255 → a < 255
    → (length l ≤ length (known l a w)) × (a < length (known l a w)) × (length (known l a w) ≤ 255)
unfolding known
known-long l a w h k m =
    lt-either (λ (x : List Word). (length l ≤ length x) × (a < length x) × (length x ≤ 255)) a (length l) l (l ++ (w ∷ []))
    (λ p. (omega arith, p, k))
    (λ p. let e : length (l ++ (w ∷ [])) ≡ length l + 1 = length-append l (w ∷ []) in (omega arith, omega arith, omega arith))

unfoldable Kept : Word → State → Decision → Type 0
Kept w s (Ok (due, act)) = Good (done due act w s)
Kept w s (Err Form) = Unit {0}
Kept w s (Err Name) = Unit {0}
Kept w s (Err TooMany) = Unit {0}

module _ (s : State) (g : Good s) (w : Word) (due : Due) where
  good-silent : (is_open due ≡ true → is_open s.due ≡ true) → Good (done due Nothing w s)
  unfolding done
  good-silent o = record {
    book = g.book;
    pos-long = g.pos-long;
    neg-long = g.neg-long;
    pos = g.pos;
    neg = g.neg;
    head = λ e. g.head (o e);
    few = λ e. g.few (o e);
  }

  good-fix : (is_open due ≡ true → is_open s.due ≡ true) → Good (done due Fix w s)
  unfolding done
  good-fix o = record {
    book = g.book;
    pos-long = g.pos-long;
    neg-long = g.neg-long;
    pos = g.pos;
    neg = g.neg;
    head = λ e. g.head (o e);
    few = λ e. g.few (o e);
  }

  good-note : (is_open due ≡ true → is_open s.due ≡ true) → length s.names < 255 → Good (done due Note w s)
  unfolding done
  good-note o h =
      let l : length (s.names ++ (w ∷ [])) ≡ length s.names + 1 = length-append s.names (w ∷ []) in
      record {
        book = fits_more _ _ _ (omega arith) (omega arith) g.book;
        pos-long = g.pos-long;
        neg-long = g.neg-long;
        pos = body_more _ _ _ (omega arith) g.pos;
        neg = body_more _ _ _ (omega arith) g.neg;
        head = λ e. omega (arith, g.head (o e));
        few = λ e. g.few (o e);
      }

  module _ (a : ℕ) (h : a ≤ length s.names) (l : a < 255) where
    abbrev long : (length s.names ≤ length (known s.names a w)) × (a < length (known s.names a w)) × (length (known s.names a w) ≤ 255)
    long = known-long s.names a w h g.book.atoms l

    good-head : leb 255 (length s.rules) ≡ false → Good (done due (Stand Head a) w s)
    unfolding done placed
    good-head f = record {
      book = fits_more _ _ _ long.0 long.2 g.book;
      pos-long = refl;
      neg-long = refl;
      pos = body-none _;
      neg = body-none _;
      head = λ e. long.1;
      few = λ e. ⊎_elim (λ k. k) (λ k. true-and-false (le-leb 255 (length s.rules) k) f) (lt-or-le (length s.rules) 255);
    }

    good-atom : (standing : Standing) → (is_open due ≡ true → (headed (Atom standing) ≡ true) ⊎ (is_open s.due ≡ true))
        → full standing (length s.rules) a s.rule ≡ false → Good (done due (Stand standing a) w s)
    unfolding done placed full headed
    good-atom Head o f = good-head f
    good-atom Positive o f =
        let p : is_open due ≡ true → is_open s.due ≡ true = λ e. ⊎_elim (λ q. true-and-false q refl) (λ q. q) (o e) in
        record {
          book = fits_more _ _ _ long.0 long.2 g.book;
          pos-long = simp length-set g.pos-long;
          neg-long = g.neg-long;
          pos = body-set _ a g.pos-long l _ _ long.0 long.1 f g.pos;
          neg = body_more _ _ _ long.0 g.neg;
          head = λ e. omega (arith, g.head (p e), long.0);
          few = λ e. g.few (p e);
        }
    good-atom Negative o f =
        let p : is_open due ≡ true → is_open s.due ≡ true = λ e. ⊎_elim (λ q. true-and-false q refl) (λ q. q) (o e) in
        record {
          book = fits_more _ _ _ long.0 long.2 g.book;
          pos-long = g.pos-long;
          neg-long = simp length-set g.neg-long;
          pos = body_more _ _ _ long.0 g.pos;
          neg = body-set _ a g.neg-long l _ _ long.0 long.1 f g.neg;
          head = λ e. omega (arith, g.head (p e), long.0);
          few = λ e. g.few (p e);
        }

    good-stands : (standing : Standing) → (is_open due ≡ true → (headed (Atom standing) ≡ true) ⊎ (is_open s.due ≡ true))
        → Kept w s (stands standing due (length s.rules) a s.rule)
    unfolding Kept stands
    good-stands standing o =
        b-either (Kept w s) (full standing (length s.rules) a s.rule) _ _ (λ e. tt) (λ e. good-atom standing o e)

  good-said : (said : Said) → opens_by (rank s.due) (Some (due, said)) ≡ true → (a : ℕ) → a ≤ length s.names
      → Kept w s (on_said said due s.fixed (length s.rules) (length s.names) a s.rule)
  unfolding Kept on_said begun noted named headed opens_by
  good-said Silent o a h = good-silent (λ e. stays_open (rank s.due) due Silent o refl e)
  good-said Lists o a h =
      eq-either (Kept w s) (length s.rules) 0 _ _ (λ e. good-fix (λ f. stays_open (rank s.due) due Lists o refl f)) (λ e. tt)
  good-said Listed o a h =
      lt-either (Kept w s) a (length s.names) _ _ (λ k. tt)
      (λ k. lt-either (Kept w s) (length s.names) 255 _ _
      (λ m. good-note (λ f. stays_open (rank s.due) due Listed o refl f) m) (λ m. tt))
  good-said (Atom standing) o a h =
      lt-either (Kept w s) a (length s.names) _ _ (λ k. good-stands a h (omega (arith, g.book.atoms)) standing opened)
      (λ k. b-either (Kept w s) s.fixed _ _ (λ e. tt)
      (λ e. lt-either (Kept w s) (length s.names) 255 _ _ (λ m. good-stands a h (omega arith) standing opened) (λ m. tt)))
    where
      opened : is_open due ≡ true → (headed (Atom standing) ≡ true) ⊎ (is_open s.due ≡ true)
      opened e =
          ⊎_elim (λ q. true-and-false (rw e at q) refl) (λ q. either (headed (Atom standing)) (leb 3 (rank s.due)) q)
          (either (not (leb 3 (rank due))) (headed (Atom standing) || leb 3 (rank s.due)) o)

good-move : (s : State) (g : Good s) (w : Word) (m : Move) → opens_by (rank s.due) m ≡ true → (a : ℕ) → a ≤ length s.names
    → Kept w s (decided m s.fixed (length s.rules) (length s.names) a s.rule)
unfolding Kept decided
good-move s g w (Some (due, said)) o a h = good-said s g w due said o a h
good-move s g w None o a h = tt

pub good-word : (s : State) (g : Good s) (w : Word) (l : List ℕ) (due : Due) (act : Act) → decision_of l s ≡ Ok (due, act) → Good (done due act w s)
unfolding Kept decision_of
good-word s g w l due act e =
    let k : Kept w s (decision_of l s) =
    good-move s g w (move_of s.due (term_of l)) (opens-move s.due (term_of l)) _ (number-within s.names l) in
    rw e at k
