-- What the reader's answer says of the bytes: they hold the book that its shape describes, or are refused by that number at that place.
use mathlib.Core.Path.{◌≡◌, sym, ◌∙◌, ap}
use mathlib.Core.List.{List}
use Prim.Native.Nat.{ℕ}
use native.Mathlib.Omega.{arith}
use Rattle.std.specs.Prelude.{Result, Ok, Err}
use Rattle.meaning.specs.Told.{refused_at}
use Rattle.book.specs.declared.refusal.Refusal.{Refusal}
use Rattle.book.specs.declared.reader.Shape.{Shape}
use Rattle.book.specs.Numbers.{number_of, place_of, told}
use Rattle.book.specs.Format.{BookRead, good, bad, read_of, told_of, ReadAs}

told-refused : (x : BookRead) (i at : ℕ) → told_of x ≡ refused_at i at → x ≡ bad i at
unfolding told_of
told-refused (good n k index l) i at e = let z : ◌≡◌ {A = ℕ} 0 1 = cc in absurd (omega (arith, z))
told-refused (bad j to) i at e = let p : j ≡ i = cc in let q : to ≡ at = cc in λ m. bad (p m) (q m)

module _ (s : List ℕ) {x : Result Shape Refusal} (e : told x ≡ told_of (read_of s)) where
  pub read_as : {h : Shape} → x ≡ Ok h → ReadAs s h
  read_as f = sym e ∙ ap told f

  pub read-bad : {f : Refusal} → x ≡ Err f → read_of s ≡ bad (number_of f) (place_of f)
  read-bad f = told-refused (read_of s) _ _ (sym e ∙ ap told f)
