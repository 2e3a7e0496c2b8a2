-- A line's end: the rule that it closes is added, and the code's state behind it.
use mathlib.Core.Path.{◌≡◌}
use mathlib.Core.List.{List, [], ◌∷◌}
use Prim.Native.Nat.{ℕ}
use Rattle.book.specs.declared.making.Making.{Making}
use Rattle.book.specs.Making.{rule_by, Adds}
use Rattle.book.proofs.Made.{adds-nil}
use Rattle.words.specs.declared.due.Ended.{Ended}
use Rattle.words.specs.declared.due.Ended.TheVariants.{Nothing as Blank, Rule as Closes, Missing}
use Rattle.words.specs.declared.opened.Open.{Open}
use Rattle.words.specs.declared.step.Fate.{Fate}
use Rattle.words.specs.declared.step.Reading.{Reading}
use Rattle.words.specs.Moves.{ended_of}
use Rattle.words.specs.Progress.{closed_by, lined_by, Lined}

module _ (e : Ended) (o : Open) (m : Making) (d : List ℕ) where
  pub closed-blank : e ≡ Blank → Adds (closed_by e o) m d m d
  unfolding closed_by
  closed-blank p = rw p (adds-nil m d)

  pub closed-missing : e ≡ Missing → Adds (closed_by e o) m d m d
  unfolding closed_by
  closed-missing p = rw p (adds-nil m d)

  pub closed-rule : e ≡ Closes → (n : Making) (f : List ℕ) → Adds (rule_by o.head o.pos o.neg ∷ []) m d n f
      → Adds (closed_by e o) m d n f
  unfolding closed_by
  closed-rule p n f a = rw p a

pub lined : (r : Reading) (place at : ℕ) (fate : Fate) (d : List ℕ) (n : Reading) (f : List ℕ) (e : Ended) (m : Making)
    → e ≡ ended_of r.due → Adds (closed_by e r.rule) r.making d m f → n ≡ lined_by e r place at fate m → Lined r place at fate d n f
lined r place at fate d n f e m p a q = record { making = m; adds = rw p at a; next = rw p at q }
