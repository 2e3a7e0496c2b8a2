-- What is laid out of two good books, and what join and log leave of the buffer (document 02, request 9): 17, 19 or the joined book, each
-- exactly where its row of specs/Rows holds; and only the joined book is ever written, where success is told.
use mathlib.Core.Path.{◌≡◌, refl, sym, ◌∙◌, ap}
use mathlib.Core.Logic.{◌↔◌, inl, inr}
use mathlib.Core.List.{List, ◌++◌}
use Prim.Native.Nat.{ℕ}
use native.Mathlib.Omega.{arith}
use lib.ListN.{length, take, drop}
use lib.Seq.{take_at}
use Rattle.std.specs.Prelude.{Result, Ok, Err}
use Rattle.meaning.specs.Books.{Book}
use Rattle.meaning.specs.Told.{Told, success, refused, stopped, Answered}
use Rattle.meaning.proofs.Tests.{apart}
use Rattle.meaning.proofs.Choice.{lt_yes, lt_no, lt-either, b-either}
use Rattle.walk.specs.declared.tally.Halt.{Halt}
use Rattle.crews.specs.declared.answer.Unjoined.{Unjoined}
use Rattle.crews.specs.declared.answer.Unjoined.TheVariants.{TooMany as Over, NoRoom as Short}
use Rattle.crews.specs.Join.{of_book, only, joined_bytes, written, laid_of, join_laid, join_in}
use Rattle.crews.specs.Log.{Entry, after_search, log_laid, log_in}
use Rattle.crews.specs.Rows.{Together, TooMany, TooShort, Fitting}

-- ---- what is laid out

pub data Lays (b c : Book) (room : ℕ) : Result ℕ Unjoined → Type 0 where
  lays-over : TooMany b c → Lays b c room (Err Over)
  lays-short : TooShort b c room → Lays b c room (Err Short)
  lays-book : Fitting b c room → Lays b c room (Ok (length (joined_bytes b c)))

module _ (b c : Book) (room : ℕ) where
  pub lays : Lays b c room (laid_of b c room)
  unfolding laid_of
  lays = lt-either (Lays b c room) _ _ _ _ (λ h. lays-over (inl h))
      λ h. lt-either (Lays b c room) _ _ _ _ (λ g. lays-over (inr g))
      λ g. let t : Together b c = record { atoms = h; rules = g } in
      lt-either (Lays b c room) _ _ _ _ (λ k. lays-short (t, k)) (λ k. lays-book (t, k))

  pub laid_as : {x : Result ℕ Unjoined} → Lays b c room x → laid_of b c room ≡ x
  unfolding laid_of
  laid_as (lays-over (inl h)) = lt_yes _ _ _ _ h
  laid_as (lays-over (inr h)) = lt-either (λ x. x ≡ Err Over) _ _ _ _ (λ _. refl) (λ _. lt_yes _ _ _ _ h)
  laid_as (lays-short (t, h)) = lt_no _ _ _ _ t.atoms ∙ lt_no _ _ _ _ t.rules ∙ lt_yes _ _ _ _ h
  laid_as (lays-book (t, h)) = lt_no _ _ _ _ t.atoms ∙ lt_no _ _ _ _ t.rules ∙ lt_no _ _ _ _ h

  pub laid-fitting : Fitting b c room → laid_of b c room ≡ Ok (length (joined_bytes b c))
  laid-fitting f = laid_as (lays-book f)

-- ---- what is told of it, whoever goes on with what is laid out

module _ {S : Type 0} (b c : Book) (out : List ℕ) (on : Result ℕ Unjoined → Answered S) (over : on (Err Over) ≡ only out (refused 17))
    (short : on (Err Short) ≡ only out (refused 19)) (bare : (n i : ℕ) → (on (Ok n)).told ≡ refused i → ⊥) where
  abbrev told : Answered S → Told S
  told a = a.told

  pub tells-many : ((on (laid_of b c (length out))).told ≡ refused 17) ↔ TooMany b c
  tells-many = (λ e. there (lays b c (length out)) e, λ h. ap told (ap on (laid_as b c _ (lays-over h)) ∙ over))
    where
      there : {x : Result ℕ Unjoined} → Lays b c (length out) x → (on x).told ≡ refused 17 → TooMany b c
      there (lays-over h) e = h
      there (lays-short h) e = let z : refused 19 ≡ refused 17 = sym (ap told short) ∙ e in let w : ◌≡◌ {A = ℕ} 19 17 = cc in absurd (omega arith)
      there (lays-book h) e = absurd (bare _ 17 e)

  pub tells-short : ((on (laid_of b c (length out))).told ≡ refused 19) ↔ TooShort b c (length out)
  tells-short = (λ e. there (lays b c (length out)) e, λ h. ap told (ap on (laid_as b c _ (lays-short h)) ∙ short))
    where
      there : {x : Result ℕ Unjoined} → Lays b c (length out) x → (on x).told ≡ refused 19 → TooShort b c (length out)
      there (lays-over h) e = let z : refused 17 ≡ refused 19 = sym (ap told over) ∙ e in let w : ◌≡◌ {A = ℕ} 17 19 = cc in absurd (omega arith)
      there (lays-short h) e = h
      there (lays-book h) e = absurd (bare _ 19 e)

  -- success is told only of books that fit together and in the room
  pub tells-fitting : {v : S} → (on (laid_of b c (length out))).told ≡ success v → Fitting b c (length out)
  tells-fitting {v} = there (lays b c (length out))
    where
      there : {x : Result ℕ Unjoined} → Lays b c (length out) x → (on x).told ≡ success v → Fitting b c (length out)
      there (lays-over h) e = let z : refused 17 ≡ success v = sym (ap told over) ∙ e in apart cc
      there (lays-short h) e = let z : refused 19 ≡ success v = sym (ap told short) ∙ e in apart cc
      there (lays-book h) e = h

-- what goes on behind the searches is told with a value
module _ (b c : Book) (limit other : ℕ) (out : List ℕ) where
  search-bare : (h k : Halt) (n i : ℕ) → (after_search h k n b c limit other out).told ≡ refused i → ⊥
  unfolding after_search
  search-bare h k n i =
      let P : Answered Entry → Type 0 = λ a. a.told ≡ refused i → ⊥ in
      b-either P _ _ _ (λ _ e. apart cc) (λ _. b-either P _ _ _ (λ _ e. apart cc) (λ _ e. apart cc))

  pub log-many : ((log_in b c limit other out).told ≡ refused 17) ↔ TooMany b c
  unfolding log_laid
  log-many = tells-many b c out (λ x. log_laid x b c limit other out) refl refl (λ n i. search-bare _ _ n i)

  pub log-room : ((log_in b c limit other out).told ≡ refused 19) ↔ TooShort b c (length out)
  unfolding log_laid
  log-room = tells-short b c out (λ x. log_laid x b c limit other out) refl refl (λ n i. search-bare _ _ n i)

  pub log-fitting : {e : Entry} → (log_in b c limit other out).told ≡ success e → Fitting b c (length out)
  unfolding log_laid
  log-fitting = tells-fitting b c out (λ x. log_laid x b c limit other out) refl refl (λ n i. search-bare _ _ n i)

module _ (b c : Book) (out : List ℕ) where
  pub join-many : ((join_in b c out).told ≡ refused 17) ↔ TooMany b c
  unfolding join_laid
  join-many = tells-many b c out (λ x. join_laid x b c out) refl refl (λ n i e. apart cc)

  pub join-room : ((join_in b c out).told ≡ refused 19) ↔ TooShort b c (length out)
  unfolding join_laid
  join-room = tells-short b c out (λ x. join_laid x b c out) refl refl (λ n i e. apart cc)

  pub join-fitting : {n : ℕ} → (join_in b c out).told ≡ success n → Fitting b c (length out)
  unfolding join_laid
  join-fitting = tells-fitting b c out (λ x. join_laid x b c out) refl refl (λ n i e. apart cc)

  pub join-joins : Fitting b c (length out) → join_in b c out ≡ written b c out (length (joined_bytes b c))
  unfolding join_laid
  join-joins f = rw (laid-fitting b c (length out) f)

-- ---- what the buffer holds

-- the joined book, where success is told; or all as it was
pub data Leaves {S : Type 0} (b c : Book) (out : List ℕ) : Answered S → Type 0 where
  writes : {v : S} → Leaves b c out (written b c out v)
  refuses : {i : ℕ} → Leaves b c out (only out (refused i))
  stops : {l : ℕ} → Leaves b c out (only out (stopped l))

pub join-leaves : (b c : Book) (out : List ℕ) → Leaves b c out (join_in b c out)
unfolding join_laid
join-leaves b c out = go (lays b c (length out))
  where
    go : {x : Result ℕ Unjoined} → Lays b c (length out) x → Leaves b c out (join_laid x b c out)
    go (lays-book h) = writes
    go (lays-over h) = refuses
    go (lays-short h) = refuses

pub log-leaves : (b c : Book) (limit other : ℕ) (out : List ℕ) → Leaves b c out (log_in b c limit other out)
unfolding log_laid after_search
log-leaves b c limit other out = go (lays b c (length out))
  where
    go : {x : Result ℕ Unjoined} → Lays b c (length out) x → Leaves b c out (log_laid x b c limit other out)
    go (lays-book h) = b-either (Leaves b c out) _ _ _ (λ _. stops) (λ _. b-either (Leaves b c out) _ _ _ (λ _. stops) (λ _. writes))
    go (lays-over h) = refuses
    go (lays-short h) = refuses

module _ {S : Type 0} (b c : Book) (out : List ℕ) where
  pub leaves-written : {a : Answered S} → Leaves b c out a → {v : S} → a.told ≡ success v
      → take (length (joined_bytes b c)) a.buffer ≡ joined_bytes b c
  leaves-written writes e = take_at (joined_bytes b c) _ _ refl
  leaves-written refuses e = apart cc
  leaves-written stops e = apart cc

  pub leaves-behind : {a : Answered S} → Leaves b c out a → {v : S} → a.told ≡ success v
      → a.buffer ≡ joined_bytes b c ++ drop (length (joined_bytes b c)) out
  leaves-behind writes e = refl
  leaves-behind refuses e = apart cc
  leaves-behind stops e = apart cc

  pub leaves_kept : {a : Answered S} → Leaves b c out a → ((v : S) → a.told ≡ success v → ⊥) → a.buffer ≡ out
  leaves_kept writes f = absurd (f _ refl)
  leaves_kept refuses f = refl
  leaves_kept stops f = refl

  -- a refusal that tells which book it is comes from the reading alone
  pub leaves-no-book : {a : Answered S} → Leaves b c out a → (which i at : ℕ) → a.told ≡ of_book which i at → ⊥
  leaves-no-book writes which i at e = apart cc
  leaves-no-book refuses which i at e = apart cc
  leaves-no-book stops which i at e = apart cc
