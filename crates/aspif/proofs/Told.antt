-- What is told of an answer tells all of it: two answers of export, or of restore, told alike are equal, so that the promise of export
-- determines the answer and the buffer afterwards. Each answer is found again from what is told of it.
use mathlib.Core.Path.{◌≡◌, refl, sym, ◌∙◌, ap}
use mathlib.Core.List.{List, [], ◌∷◌}
use Prim.Native.Nat.{ℕ, ◌-◌}
use lib.ListN.{get_or}
use Rattle.std.specs.Prelude.{Result, Ok, Err}
use Rattle.meaning.specs.Told.{Told, Answered}
use Rattle.meaning.proofs.Told.{again, one_again, answered-one}
use Rattle.book.proofs.Told.{refusal_at, refusal-again}
use Rattle.aspif.specs.declared.answer.Unexported.{Unexported}
use Rattle.aspif.specs.declared.answer.Unexported.TheVariants.{NoRoom}
use Rattle.aspif.specs.declared.answer.Unexported.TheVariants.{Book as BadBook}
use Rattle.aspif.specs.declared.answer.Unrestored.{Unrestored}
use Rattle.aspif.specs.declared.answer.Unrestored.TheVariants.{Outside, NoFit}
use Rattle.aspif.specs.Handing.{told_text, told_book, export_of}

abbrev exported_at : Told ℕ → Result ℕ Unexported
exported_at = again Ok (λ values. Err NoRoom) (λ number at. Err (BadBook (refusal_at number at))) (λ number. Err NoRoom)

exported-again : (x : Result ℕ Unexported) → exported_at (told_text x) ≡ x
exported-again (Ok n) = refl
exported-again (Err (BadBook f)) = ap (λ x. Err (BadBook x)) (refusal-again f)
exported-again (Err NoRoom) = refl

pub exported-one : (x y : Result ℕ Unexported) → told_text x ≡ told_text y → x ≡ y
exported-one = one_again told_text exported_at exported-again

abbrev restored_at : Told ℕ → Result ℕ Unrestored
restored_at = again Ok (λ values. Err Outside) (λ number at. Err Outside) (λ number. get_or (Err Outside ∷ Err NoFit ∷ []) (number - 34) (Err Outside))

restored-again : (x : Result ℕ Unrestored) → restored_at (told_book x) ≡ x
restored-again (Ok n) = refl
restored-again (Err Outside) = refl
restored-again (Err NoFit) = refl

pub restored-one : (x y : Result ℕ Unrestored) → told_book x ≡ told_book y → x ≡ y
restored-one = one_again told_book restored_at restored-again

module _ (book out : List ℕ) where
  abbrev pub ExportPromise : Result ℕ Unexported → List ℕ → Type 0
  ExportPromise r after = ◌≡◌ {A = Answered ℕ} (record { told = told_text r; buffer = after }) (export_of book out)

  pub export-determined : (r q : Result ℕ Unexported) (after other : List ℕ) → ExportPromise r after → ExportPromise q other → (r ≡ q) × (after ≡ other)
  export-determined r q after other p s = answered-one told_text exported-one r q after other (p ∙ sym s)
