-- The log as the code goes through it (specs/Log): how the two searches ended, and which entry that makes.
use mathlib.Core.Path.{◌≡◌, ◌∙◌, ap}
use mathlib.Core.Bool.{Bool, true, false}
use mathlib.Core.List.{List, ◌++◌}
use Prim.Native.Nat.{ℕ}
use lib.ListN.{length, drop}
use Rattle.std.specs.Prelude.{Result, Ok, Err}
use Rattle.meaning.specs.Books.{Book}
use Rattle.meaning.specs.Choice.{ifb}
use Rattle.meaning.specs.Told.{Told, success, stopped, Answered}
use Rattle.crews.specs.declared.answer.Unjoined.{Unjoined}
use Rattle.crews.specs.Join.{only, joined_bytes, laid_of}
use Rattle.crews.specs.Log.{Entry, told, unlogged, searched, passed, found, entry_of, after_search, log_laid}

module _ (b c : Book) (limit other n : ℕ) (out : List ℕ) where
  abbrev answer : Answered Entry
  answer = log_laid (Ok n) b c limit other out

  pub log-first-passed : passed (searched b limit) ≡ true → only out (stopped limit) ≡ answer
  unfolding log_laid after_search ifb
  log-first-passed p = rw p

  module _ (p : passed (searched b limit) ≡ false) where
    pub log-second-passed : passed (searched c other) ≡ true → only out (stopped other) ≡ answer
    unfolding log_laid after_search ifb
    log-second-passed q = rw (p, q)

    pub log-both-searched : passed (searched c other) ≡ false → {one two : Bool} → one ≡ found (searched b limit) → two ≡ found (searched c other)
        → {t : Told Entry} → t ≡ success (entry_of one two n) → {draft after : List ℕ} → draft ≡ joined_bytes b c
        → after ≡ draft ++ drop (length draft) out → record { told = t; buffer = after } ≡ answer
    unfolding log_laid after_search ifb
    log-both-searched q e f g d a =
        let m = g ∙ rw (e, f) in
        let o = a ∙ ap (λ (z : List ℕ). z ++ drop (length z) out) d in
        rw (p, q) (λ i. record { told = m i; buffer = o i })

-- ---- what is laid out decides

module _ (b c : Book) (limit other : ℕ) (out : List ℕ) {r : Result ℕ Unjoined} (e : r ≡ laid_of b c (length out)) where
  pub log-refused : {why : Unjoined} → r ≡ Err why → only out (told (Err (unlogged why))) ≡ log_laid (laid_of b c (length out)) b c limit other out
  unfolding log_laid
  log-refused g = rw (← e, g)

  pub log-is-laid : {n m : ℕ} → r ≡ Ok n → n ≡ m → {a : Answered Entry} → a ≡ log_laid (Ok m) b c limit other out
      → a ≡ log_laid (laid_of b c (length out)) b c limit other out
  log-is-laid g f h = rw (← e, g, f) h
