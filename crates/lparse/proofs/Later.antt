-- One word in front of words that are heard: what is shared by all dues.
use mathlib.Core.Path.{◌≡◌}
use mathlib.Core.Bool.{true}
use mathlib.Core.List.{List, ◌∷◌, map}
use Prim.Native.Nat.{ℕ}
use Rattle.std.specs.Prelude.{Ok}
use Rattle.meaning.specs.Sets.{every}
use Rattle.imported.specs.Making.{rules_atoms}
use Rattle.lparse.specs.declared.due.Due.{Due}
use Rattle.lparse.specs.declared.due.Due.TheVariants.{Number, Name, PlusWord, MinusWord, End}
use Rattle.lparse.specs.declared.due.Said.{Said}
use Rattle.lparse.specs.Words.{Word}
use Rattle.lparse.specs.Reading.{move_of, Part, with, says, adding, on_move, heard}
use Rattle.lparse.specs.Says.{Token, Spelling, from_one, headed}
use Rattle.lparse.proofs.Phases.{Fits}
use Rattle.lparse.proofs.Spelled.{Rest}

-- no atom is 0, and no choice is without heads
pub record Sound (p : Part) : Type 0 where
  pub heads : every from_one p.heads ≡ true
  pub neg : every from_one p.neg ≡ true
  pub pos : every from_one p.pos ≡ true
  pub rules : every from_one (rules_atoms p.rules) ≡ true
  pub headed : every headed p.rules ≡ true
  pub table : every from_one (map (λ e. e.atom) p.table) ≡ true
  pub plus : every from_one p.plus ≡ true
  pub minus : every from_one p.minus ≡ true

-- an atom whose name is due is not 0
unfoldable pub Proper : Due → Type 0
Proper (Number role) = Unit {0}
Proper (Name a) = a.0 ≡ 0 → ⊥
Proper PlusWord = Unit {0}
Proper MinusWord = Unit {0}
Proper End = Unit {0}

module _ (len : ℕ) (w : Word) (ws : List Word) where
  pub heard-one : (due next : Due) (said : Said) (q p : Part) → move_of due w.bytes ≡ Ok (next, said) → heard len next ws ≡ says q
      → with w said q ≡ p → heard len due (w ∷ ws) ≡ says p
  unfolding heard on_move adding
  heard-one due next said q p e f g = rw (e, f, g)

-- what holds of all words behind a word: they are heard as what they spell
abbrev pub Later : ℕ → List Word → Type 0
Later len ws = (next : Due) → Proper next → (q : Part) (m : ℕ) (ts : List Token) → Rest next q m ts → Fits next q → Sound q → Spelling ws ts
    → heard len next ws ≡ says q
