-- What settling tells of a book (specs/Settle): a rule's byte by its colour in the first closing, an atom's byte by its truth in the
-- well-founded model; a refusal writes nothing; and an answer told alike is the same answer.
use mathlib.Core.Path.{◌≡◌, refl, sym, ◌∙◌, ap}
use mathlib.Core.Logic.{◌↔◌}
use mathlib.Core.Bool.{Bool, true, false, not, false≢true}
use mathlib.Core.List.{List}
use Prim.Native.Nat.{ℕ, ◌+◌, ◌≤◌, ◌<◌}
use native.Mathlib.Omega.{arith}
use borrow.Author.Tests.{not-false}
use lib.ListN.{get_or, get_or-append}
use lib.Seq.{get_or-append-add}
use Rattle.std.specs.Prelude.{Result, Ok, Err}
use Rattle.meaning.specs.declared.AtomNo.{AtomNo}
use Rattle.meaning.specs.declared.RuleNo.{RuleNo}
use Rattle.meaning.specs.Sets.{◌∈◌, ◌∉◌}
use Rattle.meaning.specs.Books.{Atoms, Book, count, InBook}
use Rattle.meaning.specs.Choice.{ifb}
use Rattle.meaning.specs.Told.{Told, success, Answered}
use Rattle.meaning.specs.WellFounded.{WellFounded}
use Rattle.meaning.specs.Written.{of, nothing}
use Rattle.meaning.specs.Computed.{close}
use Rattle.meaning.proofs.Choice.{lt-either}
use Rattle.meaning.proofs.Tests.{true-and-false}
use Rattle.meaning.proofs.Told.{again, one_again}
use Rattle.meaning.proofs.WellFounded.{first-closing-well-founded, first-consistent, well-founded-one, well-founded-consistent}
use Rattle.book.specs.declared.refusal.Refusal.{Refusal}
use Rattle.book.proofs.Told.{refusal_at, refusal-again}
use Rattle.closing.specs.declared.first.Unsettled.{Unsettled}
use Rattle.closing.specs.declared.first.Unsettled.TheVariants.{Book as BadBook, NoRoom}
use Rattle.closing.specs.Settle.{settled_byte, rule_row, atom_row, settled_rows, told, settle_in}
use Rattle.closing.proofs.Settling.{settled_at, rule-row-length}

-- ---- a byte: 1 exactly if the first test holds, 0 exactly if the second does, where they do not both

pub record Says (byte : ℕ) (holds fails : Type 0) : Type 0 where
  pub is_one : (byte ≡ 1) ↔ holds
  pub is_zero : (byte ≡ 0) ↔ fails

never : {A : Type 0} → false ≡ true → A
never e = absurd (false≢true e)

byte-says : (y n : Bool) → (y ≡ true → n ≡ true → ⊥) → Says (settled_byte y n) (y ≡ true) (n ≡ true)
unfolding settled_byte ifb
byte-says true true f = absurd (f refl refl)
byte-says true false f = record { is_one = (λ e. refl, λ e. refl); is_zero = (λ e. absurd (omega arith), never) }
byte-says false true f = record { is_one = (λ e. absurd (omega arith), never); is_zero = (λ e. refl, λ e. refl) }
byte-says false false f = record { is_one = (λ e. absurd (omega arith), never); is_zero = (λ e. absurd (omega arith), never) }

module _ (b : Book) (fits : count b ≤ 255) where
  -- ---- a rule's byte

  pub settle-rule : (r : RuleNo) → InBook b r
      → Says (get_or (settled_rows b) r.0 0) (r ∈ of (close b nothing).on) (r ∈ of (close b nothing).off)
  unfolding settled_rows
  settle-rule r h =
      let d = close b nothing in
      let n = rule-row-length b in
      let e = get_or-append (rule_row b d) (atom_row b d) 0 r.0 (omega (arith, n)) ∙ settled_at (count b) _ _ r.0 h in
      rw e (byte-says _ _ (first-consistent b fits r h))

  -- ---- an atom's byte: 1 exactly if it is true in the well-founded model, 0 exactly if it is false

  module _ {t p : Atoms} (w : WellFounded b t p) where
    pub settle-true : (a : AtomNo) → a.0 < b.atoms → Says (get_or (settled_rows b) (count b + a.0) 0) (a ∈ t) (a ∉ p)
    unfolding settled_rows
    settle-true a h =
        let d = close b nothing in
        let n = rule-row-length b in
        let e = ap (λ (m : ℕ). get_or (settled_rows b) (m + a.0) 0) (sym n)
        ∙ get_or-append-add (rule_row b d) (atom_row b d) a.0 0 ∙ settled_at b.atoms _ _ a.0 h in
        let (u, v) = well-founded-one b w (first-closing-well-founded b fits) a in
        rw (e, u, v) (says-false (byte-says _ _ (λ x y. true-and-false (well-founded-consistent b (first-closing-well-founded b fits) a x) (ap not y))))
      where
        says-false : {y n : Bool} {k : ℕ} → Says k (y ≡ true) (n ≡ true) → Says k (y ≡ true) (not n ≡ false)
        says-false s = record { is_one = s.is_one; is_zero = (λ e. ap not (s.is_zero.0 e), λ e. s.is_zero.1 (not-false _ e)) }

-- ---- a refusal keeps the buffer

pub settle-keeps : (b : Book) (out : List ℕ) → ((settle_in b out).told ≡ success tt → ⊥) → (settle_in b out).buffer ≡ out
unfolding settle_in
settle-keeps b out =
    let P : Answered (Unit {0}) → Type 0 = λ a. (a.told ≡ success tt → ⊥) → a.buffer ≡ out in
    lt-either P _ _ _ _ (λ h f. refl) (λ h f. absurd (f refl))

-- ---- an answer is found again from what is told of it

abbrev settled_again : Told (Unit {0}) → Result (Unit {0}) Unsettled
settled_again = again (λ u. Ok u) (λ values. Err NoRoom) (λ number at. Err (BadBook (refusal_at number at))) (λ number. Err NoRoom)

settled-again : (s : Result (Unit {0}) Unsettled) → settled_again (told s) ≡ s
settled-again (Ok u) = refl
settled-again (Err (BadBook f)) = ap (λ (g : Refusal). Err (BadBook g)) (refusal-again f)
settled-again (Err NoRoom) = refl

pub settled-one : (s t : Result (Unit {0}) Unsettled) → told s ≡ told t → s ≡ t
settled-one = one_again told settled_again settled-again
