-- What is told of a joining or of a log tells all of it: two answers told alike are equal, and so two results that keep the promise of
-- join, or of log, are. Each answer is found again from what is told.
use mathlib.Core.Path.{◌≡◌, refl, sym, ◌∙◌, ap}
use mathlib.Core.List.{List, [], ◌∷◌}
use Prim.Native.Nat.{ℕ}
use Rattle.std.specs.Prelude.{Result, Ok, Err}
use Rattle.meaning.specs.Choice.{ifb, if_eq}
use Rattle.meaning.specs.Told.{Told, success, refused_with, refused_at, refused, Answered}
use Rattle.meaning.proofs.Told.{one_again, answered-one}
use Rattle.book.proofs.Told.{refusal_at, refusal-again}
use Rattle.book.specs.declared.refusal.Refusal.{Refusal}
use Rattle.crews.specs.declared.answer.Unjoined.{Unjoined}
use Rattle.crews.specs.declared.answer.Unjoined.TheVariants.{First, Second, TooMany, NoRoom}
use Rattle.crews.specs.declared.answer.Logged.{Logged}
use Rattle.crews.specs.declared.answer.Logged.TheVariants.{Both, NoneInFirst, NoneInSecond, NoneInEither}
use Rattle.crews.specs.declared.answer.Unlogged.{Unlogged}
use Rattle.crews.specs.declared.answer.Unlogged.TheVariants.{Stopped, First as LogFirst, Second as LogSecond, TooMany as LogTooMany}
use Rattle.crews.specs.declared.answer.Unlogged.TheVariants.{NoRoom as LogNoRoom}
use Rattle.crews.specs.Join.{told, join_of}
use Rattle.crews.specs.Log.{Entry, both, none_in_first, none_in_second, none_in_either, log_of}
use Rattle.crews.specs.Log.{told as log_told}

-- a book's refusal, by its number and the two values: which book, and the place
abbrev which : {A : Type 0} → (Refusal → A) → (Refusal → A) → ℕ → ℕ → ℕ → A
which first second number book at = if_eq book 1 (first (refusal_at number at)) (second (refusal_at number at))

abbrev joined_at : Told ℕ → Result ℕ Unjoined
joined_at (success n) = Ok n
joined_at (refused_with number []) = Err NoRoom
joined_at (refused_with number (book ∷ [])) = Err NoRoom
joined_at (refused_with number (book ∷ (at ∷ l))) = which (λ f. Err (First f)) (λ f. Err (Second f)) number book at
joined_at (refused_at number at) = Err NoRoom
joined_at (refused number) = if_eq number 17 (Err TooMany) (Err NoRoom)

joined-again : (x : Result ℕ Unjoined) → joined_at (told x) ≡ x
unfolding if_eq ifb
joined-again (Ok n) = refl
joined-again (Err (First f)) = ap (λ g. Err (First g)) (refusal-again f)
joined-again (Err (Second f)) = ap (λ g. Err (Second g)) (refusal-again f)
joined-again (Err TooMany) = refl
joined-again (Err NoRoom) = refl

pub joined-one : (x y : Result ℕ Unjoined) → told x ≡ told y → x ≡ y
joined-one = one_again told joined_at joined-again

abbrev entry_at : Entry → Logged
entry_at (both n) = Both n
entry_at (none_in_first n) = NoneInFirst n
entry_at (none_in_second n) = NoneInSecond n
entry_at (none_in_either n) = NoneInEither n

abbrev logged_at : Told Entry → Result Logged Unlogged
logged_at (success e) = Ok (entry_at e)
logged_at (refused_with number []) = Err LogNoRoom
logged_at (refused_with number (limit ∷ [])) = Err (Stopped limit)
logged_at (refused_with number (book ∷ (at ∷ l))) = which (λ f. Err (LogFirst f)) (λ f. Err (LogSecond f)) number book at
logged_at (refused_at number at) = Err LogNoRoom
logged_at (refused number) = if_eq number 17 (Err LogTooMany) (Err LogNoRoom)

logged-again : (x : Result Logged Unlogged) → logged_at (log_told x) ≡ x
unfolding if_eq ifb
logged-again (Ok (Both n)) = refl
logged-again (Ok (NoneInFirst n)) = refl
logged-again (Ok (NoneInSecond n)) = refl
logged-again (Ok (NoneInEither n)) = refl
logged-again (Err (Stopped limit)) = refl
logged-again (Err (LogFirst f)) = ap (λ g. Err (LogFirst g)) (refusal-again f)
logged-again (Err (LogSecond f)) = ap (λ g. Err (LogSecond g)) (refusal-again f)
logged-again (Err LogTooMany) = refl
logged-again (Err LogNoRoom) = refl

pub logged-one : (x y : Result Logged Unlogged) → log_told x ≡ log_told y → x ≡ y
logged-one = one_again log_told logged_at logged-again

-- ---- two results that keep the promise

module _ (first second out : List ℕ) where
  abbrev JoinPromise : Result ℕ Unjoined → List ℕ → Type 0
  JoinPromise r after = ◌≡◌ {A = Answered ℕ} (record { told = told r; buffer = after }) (join_of first second out)

  pub join-determined : (r q : Result ℕ Unjoined) (after other : List ℕ) → JoinPromise r after → JoinPromise q other → (r ≡ q) × (after ≡ other)
  join-determined r q after other p s = answered-one told joined-one r q after other (p ∙ sym s)

module _ (first second : List ℕ) (limit other : ℕ) (out : List ℕ) where
  abbrev LogPromise : Result Logged Unlogged → List ℕ → Type 0
  LogPromise r after = ◌≡◌ {A = Answered Entry} (record { told = log_told r; buffer = after }) (log_of first second limit other out)

  pub log-determined : (r q : Result Logged Unlogged) (after behind : List ℕ) → LogPromise r after → LogPromise q behind → (r ≡ q) × (after ≡ behind)
  log-determined r q after behind p s = answered-one log_told logged-one r q after behind (p ∙ sym s)
