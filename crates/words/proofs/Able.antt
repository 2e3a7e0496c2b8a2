-- A word that may stand where it stands has a number for its name: what taking it asks.
use mathlib.Core.Path.{◌≡◌}
use Prim.{tt, Unit}
use Prim.Native.Nat.{ℕ, ◌<◌, ◌≤◌}
use native.Mathlib.Omega.{arith}
use mathlib.Core.Bool.{Bool}
use mathlib.Core.List.{List}
use Rattle.std.specs.Prelude.{Some, None, Ok, Err}
use Rattle.meaning.proofs.Choice.{b-either, lt-either, eq-either}
use Rattle.words.specs.declared.due.Due.{Due}
use Rattle.words.specs.declared.due.Standing.{Standing}
use Rattle.words.specs.declared.due.Said.{Said}
use Rattle.words.specs.declared.due.Said.TheVariants.{Nothing as Silent, Lists, Listed, Atom}
use Rattle.words.specs.declared.opened.Open.{Open}
use Rattle.words.specs.declared.decision.Act.{Act}
use Rattle.words.specs.declared.decision.Act.TheVariants.{Note, Stand}
use Rattle.words.specs.declared.decision.Misplaced.TheVariants.{Form, Name, TooMany}
use Rattle.words.specs.declared.step.Reading.{Reading}
use Rattle.words.specs.Moves.{Move}
use Rattle.words.specs.Reading.{Decision, full, stands, named, noted, begun, on_said, decided}
use Rattle.words.specs.Progress.{Able, weighed}
use Rattle.words.proofs.Places.{place-within}

unfoldable Ables : ℕ → Decision → Type 0
Ables count (Ok (due, act)) = Able count act
Ables count (Err Form) = Unit {0}
Ables count (Err Name) = Unit {0}
Ables count (Err TooMany) = Unit {0}

module _ (count a : ℕ) (h : a ≤ count) (k : count ≤ 255) (due : Due) (fixed : Bool) (rules : ℕ) (rule : Open) where
  able-stands : (standing : Standing) → a < 255 → Ables count (stands standing due rules a rule)
  unfolding Ables Able stands
  able-stands standing l = b-either (Ables count) (full standing rules a rule) _ _ (λ e. tt) (λ e. l)

  able-said : (said : Said) → Ables count (on_said said due fixed rules count a rule)
  unfolding Ables Able on_said begun noted named
  able-said Silent = tt
  able-said Lists = eq-either (Ables count) rules 0 _ _ (λ e. tt) (λ e. tt)
  able-said Listed =
      lt-either (Ables count) a count _ _ (λ l. tt) (λ l. lt-either (Ables count) count 255 _ _ (λ m. m) (λ m. tt))
  able-said (Atom standing) =
      lt-either (Ables count) a count _ _ (λ l. able-stands standing (omega arith))
      (λ l. b-either (Ables count) fixed _ _ (λ e. tt)
      (λ e. lt-either (Ables count) count 255 _ _ (λ m. able-stands standing (omega arith)) (λ m. tt)))

able-decided : (m : Move) (count a : ℕ) → a ≤ count → count ≤ 255 → (fixed : Bool) (rules : ℕ) (rule : Open)
    → Ables count (decided m fixed rules count a rule)
unfolding Ables decided
able-decided (Some (due, said)) count a h k fixed rules rule = able-said count a h k due fixed rules rule said
able-decided None count a h k fixed rules rule = tt

pub weighed-able : (text l : List ℕ) (r : Reading) → r.names.count ≤ 255 → (due : Due) (act : Act) → weighed text l r ≡ Ok (due, act)
    → Able r.names.count act
unfolding Ables weighed
weighed-able text l r k due act e =
    let n = r.names in
    let h : Ables r.names.count (weighed text l r) =
    able-decided _ _ _ (place-within text n.count n.from n.to l) k r.fixed r.making.rules r.rule in
    rw e at h

pub able-note : (count : ℕ) (act : Act) → act ≡ Note → Able count act → count < 255
unfolding Able
able-note count act e h = rw e at h

pub able-stand : (count : ℕ) (act : Act) (standing : Standing) (a : ℕ) → act ≡ Stand standing a → Able count act → a < 255
unfolding Able
able-stand count act standing a e h = rw e at h
