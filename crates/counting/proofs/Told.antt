-- What is told of an answer tells all of it: two answers of count told alike are equal, so that its promise determines the answer and the
-- array afterwards. Each answer is found again from what is told of it.
use Rattle.std.proofs.Common.{◌≡◌, ℕ, List, sym, refl, ap, ◌∙◌}
use Rattle.std.specs.Prelude.{Result, Ok, Err}
use Rattle.meaning.specs.Told.{Told, Answered}
use Rattle.meaning.proofs.Told.{values_again, again, one_again, answered-one}
use Rattle.book.proofs.Told.{refusal_at, refusal-again}
use Rattle.counting.specs.Count.{told, count_of}
use Rattle.counting.specs.declared.answer.Uncounted.{Uncounted}
use Rattle.counting.specs.declared.answer.Uncounted.TheVariants.{Stopped, Book}

abbrev counted_at : Told ℕ → Result ℕ Uncounted
counted_at = again Ok (values_again (Ok 0) (λ limit. Err (Stopped limit)) (λ tries sets rule. Ok 0)) (λ number at. Err (Book (refusal_at number at))) (λ number. Ok 0)

counted-again : (c : Result ℕ Uncounted) → counted_at (told c) ≡ c
counted-again (Ok n) = refl
counted-again (Err (Stopped limit)) = refl
counted-again (Err (Book f)) = ap (λ x. Err (Book x)) (refusal-again f)

pub counted-one : (c d : Result ℕ Uncounted) → told c ≡ told d → c ≡ d
counted-one = one_again told counted_at counted-again

module _ (book : List ℕ) (limit : ℕ) (counts : List ℕ) where
  abbrev CountPromise : Result ℕ Uncounted → List ℕ → Type 0
  CountPromise r after = ◌≡◌ {A = Answered ℕ} (record { told = told r; buffer = after }) (count_of book limit counts)

  pub count-determined : (r q : Result ℕ Uncounted) (after other : List ℕ) → CountPromise r after → CountPromise q other → (r ≡ q) × (after ≡ other)
  count-determined r q after other p s = answered-one told counted-one r q after other (p ∙ sym s)
