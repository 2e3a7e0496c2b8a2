-- A rule is opened by its head alone: where a word leads to a place inside a rule, it is a head, or it stands in a rule already.
use mathlib.Core.Path.{◌≡◌, refl, ap, sym}
use mathlib.Core.Bool.{Bool, true, false, not, ◌||◌}
use Prim.Native.Nat.{ℕ}
use lib.Dec.{leb}
use borrow.Author.Tests.{eqb-true}
use Rattle.std.specs.Prelude.{Some, None}
use Rattle.meaning.proofs.Choice.{b-either}
use Rattle.meaning.proofs.Tests.{true-and-false}
use Rattle.words.specs.declared.term.Term.{Term}
use Rattle.words.specs.declared.term.Term.TheVariants.{If, And, Not, Unless, Or, Atoms, Remark, Name, Other}
use Rattle.words.specs.declared.due.Due.{Due}
use Rattle.words.specs.declared.due.Due.TheVariants.{Line, Remark as InRemark, Listing, AfterHead, Literal, Negative, AfterAtom, Exception, AfterException}
use Rattle.words.specs.declared.due.Standing.TheVariants.{Head, Positive as InPositive, Negative as InNegative}
use Rattle.words.specs.declared.due.Said.{Said}
use Rattle.words.specs.declared.due.Said.TheVariants.{Nothing as Silent, Lists, Listed, Atom}
use Rattle.words.specs.declared.due.Ended.{Ended}
use Rattle.words.specs.declared.due.Ended.TheVariants.{Nothing as Blank, Rule as Closes, Missing}
use Rattle.words.specs.Moves.{Move, rank, is_due, remarked, only_at, on_unless, on_name, move_of, ended_of}

unfoldable pub headed : Said → Bool
headed Silent = false
headed Lists = false
headed Listed = false
headed (Atom Head) = true
headed (Atom InPositive) = false
headed (Atom InNegative) = false

-- k is the number of what is due before the word
unfoldable pub opens_by : ℕ → Move → Bool
opens_by k (Some (next, said)) = not (leb 3 (rank next)) || (headed said || leb 3 k)
opens_by k None = true

opens-remarked : (due : Due) → opens_by (rank due) (remarked due) ≡ true
unfolding remarked is_due opens_by rank headed
opens-remarked due = b-either (λ m. opens_by (rank due) m ≡ true) (is_due due InRemark) _ _ (λ e. refl) (λ e. refl)

opens-only : (due place next : Due) (said : Said) → opens_by (rank place) (Some (next, said)) ≡ true
    → opens_by (rank due) (only_at due place next said) ≡ true
unfolding only_at is_due
opens-only due place next said p =
    b-either (λ m. opens_by (rank due) m ≡ true) (is_due due place) _ _
    (λ e. let f : rank due ≡ rank place = eqb-true (rank due) (rank place) e in rw f p) (λ e. opens-remarked due)

opens-name : (due : Due) → opens_by (rank due) (on_name due) ≡ true
unfolding on_name opens_by rank headed
opens-name Line = refl
opens-name InRemark = refl
opens-name Listing = refl
opens-name AfterHead = refl
opens-name Literal = refl
opens-name Negative = refl
opens-name AfterAtom = refl
opens-name Exception = refl
opens-name AfterException = refl

opens-unless : (due : Due) → opens_by (rank due) (on_unless due) ≡ true
unfolding on_unless is_due opens_by rank headed
opens-unless due =
    b-either (λ m. opens_by (rank due) m ≡ true) (is_due due AfterHead) _ _
    (λ e. let f : rank due ≡ rank AfterHead = eqb-true (rank due) (rank AfterHead) e in rw f refl)
    (λ e. opens-only due AfterAtom Exception Silent refl)

pub opens-move : (due : Due) (t : Term) → opens_by (rank due) (move_of due t) ≡ true
unfolding move_of opens_by rank headed
opens-move due If = opens-only due AfterHead Literal Silent refl
opens-move due And = opens-only due AfterAtom Literal Silent refl
opens-move due Not = opens-only due Literal Negative Silent refl
opens-move due Unless = opens-unless due
opens-move due Or = opens-only due AfterException Exception Silent refl
opens-move due Atoms = opens-only due Line Listing Lists refl
opens-move due Remark = opens-only due Line InRemark Silent refl
opens-move due Name = opens-name due
opens-move due Other = opens-remarked due

abbrev is_blank : Ended → Bool
is_blank Blank = true
is_blank Closes = false
is_blank Missing = false

blank-closes : Blank ≡ Closes → ⊥
blank-closes e = true-and-false {a = is_blank Closes} (ap is_blank (sym e)) refl

-- a line's end closes a rule only where one is open
pub closes-open : (due : Due) → ended_of due ≡ Closes → leb 3 (rank due) ≡ true
unfolding ended_of rank
closes-open Line e = absurd (blank-closes e)
closes-open InRemark e = absurd (blank-closes e)
closes-open Listing e = absurd (blank-closes e)
closes-open AfterHead e = refl
closes-open Literal e = refl
closes-open Negative e = refl
closes-open AfterAtom e = refl
closes-open Exception e = refl
closes-open AfterException e = refl
