-- The number of a name, among names no two of which are the same: the place of the name, or how many there are, if it is none of them.
use mathlib.Core.Path.{◌≡◌, sym, ◌∙◌}
use mathlib.Core.Logic.{⊎_elim}
use mathlib.Core.List.{List, [], ◌∷◌, ◌++◌}
use Prim.Native.Nat.{ℕ, ◌<◌, ◌≤◌}
use native.Mathlib.Omega.{arith}
use lib.ListN.{length, get_or, length-append, get_or-append}
use lib.Seq.{get_or-append_seam}
use Rattle.meaning.proofs.Tests.{lt-or-le}
use Rattle.words.specs.Words.{Word}
use Rattle.words.specs.Names.{is_named, number_in}
use Rattle.words.specs.Reading.{names_of}
use Rattle.words.specs.Text.{GoodNames}
use Rattle.words.proofs.Names.{bytes-equal, first_found}
use Rattle.words.proofs.Apart.{names-long, name-at, none_so_far}

module _ (names : List Word) (l : List ℕ) where
  pub number-named : number_in names l < length names → get_or (names_of names) (number_in names l) [] ≡ l
  unfolding number_in
  number-named h = name-at names (number_in names l) ∙ bytes-equal _ l (first_found 0 (length names) (is_named names l) (omega arith))

  pub number-of : GoodNames (names_of names) → (a : ℕ) → a < length names → get_or (names_of names) a [] ≡ l → number_in names l ≡ a
  number-of g a h e = ⊎_elim
      (λ k. g.apart (number_in names l) a (omega (arith, names-long names)) (omega (arith, names-long names)) (number-named k ∙ sym e))
      (λ k. absurd (none_so_far names l k a (omega (arith, names-long names)) e))
      (lt-or-le (number_in names l) (length names))

  -- a name that comes behind them is none of them
  pub number-new : (more : List (List ℕ)) → GoodNames (names_of names ++ (l ∷ more)) → length names ≤ number_in names l
  number-new more g = ⊎_elim
      (λ k. let m = length-append (names_of names) (l ∷ more) in
      let e = g.apart (number_in names l) (length (names_of names)) (omega (arith, names-long names)) (omega (arith, names-long names))
      (get_or-append (names_of names) (l ∷ more) [] (number_in names l) (omega (arith, names-long names)) ∙ number-named k
      ∙ sym (get_or-append_seam (names_of names) l more [])) in
      absurd (omega (arith, names-long names)))
      (λ k. k)
      (lt-or-le (number_in names l) (length names))
