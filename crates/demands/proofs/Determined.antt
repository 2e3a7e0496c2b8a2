-- Two results that meet a promise are equal: the answer, and every byte of lent memory afterwards. Document 01, "What the promises say".
--
-- Where a promise is an equation of the result itself, or of a buffer afterwards, there is nothing more to it than `equal-determined`. The
-- answers of read_book, find, page, settle, levels, name, clear, contradict and check are results, and their promises speak of document 01's
-- numbers and values; what is told of an answer tells all of it, so these are determined too. In a promise, r is the result and `after` the buffer afterwards.
use mathlib.Core.Path.{◌≡◌, sym, ◌∙◌}
use mathlib.Core.List.{List}
use Prim.Native.Nat.{ℕ, suc, ◌-◌}
use native.Mathlib.Omega.{arith}
use Rattle.std.specs.Prelude.{Result}
use Rattle.meaning.specs.Books.{Book}
use Rattle.meaning.specs.Colours.{Pair}
use Rattle.meaning.specs.declared.kind.Claim.{Claim}
use Rattle.meaning.specs.Told.{Answered}
use Rattle.meaning.proofs.Told.{answered-one}
use Rattle.book.specs.Format.{read_of, told_of}
use Rattle.book.specs.Numbers.{told as read_told}
use Rattle.book.specs.declared.reader.Shape.{Shape}
use Rattle.book.specs.declared.refusal.Refusal.{Refusal}
use Rattle.book.proofs.Told.{told-one as read_one}
use Rattle.closing.specs.Settle.{settle_of}
use Rattle.closing.specs.Settle.{told as settle_told}
use Rattle.closing.specs.declared.first.Unsettled.{Unsettled}
use Rattle.closing.proofs.SettledRows.{settled-one}
use Rattle.walk.specs.Events.{Event}
use Rattle.walk.specs.Find.{find_by}
use Rattle.walk.specs.Find.{told as find_told}
use Rattle.walk.specs.Levels.{levels_of}
use Rattle.walk.specs.Page.{PageEnd, page_of}
use Rattle.walk.specs.Page.{told as page_told}
use Rattle.walk.specs.declared.kth.Unfound.{Unfound}
use Rattle.walk.specs.declared.page_answer.Page.{Page}
use Rattle.walk.specs.declared.page_answer.NoPage.{NoPage}
use Rattle.walk.proofs.Told.{found-one, page-one}
use Rattle.writer.specs.Write.{Handed, write_of}
use Rattle.writer.specs.Write.{told as write_told}
use Rattle.writer.specs.declared.answer.Unwritten.{Unwritten}
use Rattle.writer.proofs.Told.{told-one as named-one}
use Rattle.checker.specs.Branches.{Walked, BranchTo}
use Rattle.checker.specs.Check.{check_of}
use Rattle.checker.specs.Numbers.{told as check_told}
use Rattle.checker.specs.declared.answer.Rejected.{Rejected}
use Rattle.checker.proofs.Told.{told-one as checked-one}

pub equal-determined : {A : Type 0} {x r q : A} → r ≡ x → q ≡ x → r ≡ q
equal-determined p s = p ∙ sym s

pub read-determined : (book : List ℕ) (r q : Result Shape Refusal) → read_told r ≡ told_of (read_of book) → read_told q ≡ told_of (read_of book) → r ≡ q
read-determined book r q p s = read_one r q (equal-determined p s)

-- along the fixed walk it is find's promise, along own_events that of nomore's find
module _ (walk : Book → List Event) (book : List ℕ) (k limit : ℕ) (answer : List ℕ) where
  abbrev FindPromise : Result ℕ Unfound → List ℕ → Type 0
  FindPromise r after = ◌≡◌ {A = Answered ℕ} (record { told = find_told r; buffer = after }) (find_by walk book k limit answer)

  pub find-determined : (r q : Result ℕ Unfound) (after other : List ℕ) → FindPromise r after → FindPromise q other → (r ≡ q) × (after ≡ other)
  find-determined r q after other p s = answered-one find_told found-one r q after other (equal-determined p s)

module _ (book : List ℕ) (limit tries : ℕ) (last out : List ℕ) where
  abbrev PagePromise : Result Page NoPage → List ℕ → Type 0
  PagePromise r after = ◌≡◌ {A = Answered PageEnd} (record { told = page_told r; buffer = after }) (page_of book limit tries last out)

  pub page-determined : (r q : Result Page NoPage) (after other : List ℕ) → PagePromise r after → PagePromise q other → (r ≡ q) × (after ≡ other)
  page-determined r q after other p s = answered-one page_told page-one r q after other (equal-determined p s)

module _ (book out : List ℕ) where
  abbrev SettlePromise : Result (Unit {0}) Unsettled → List ℕ → Type 0
  SettlePromise r after = ◌≡◌ {A = Answered (Unit {0})} (record { told = settle_told r; buffer = after }) (settle_of book out)

  pub settle-determined : (r q : Result (Unit {0}) Unsettled) (after other : List ℕ) → SettlePromise r after → SettlePromise q other → (r ≡ q) × (after ≡ other)
  settle-determined r q after other p s = answered-one settle_told settled-one r q after other (equal-determined p s)

module _ (book : List ℕ) (k limit : ℕ) (out : List ℕ) where
  abbrev LevelsPromise : Result ℕ Unfound → List ℕ → Type 0
  LevelsPromise r after = ◌≡◌ {A = Answered ℕ} (record { told = find_told r; buffer = after }) (levels_of book k limit out)

  pub levels-determined : (r q : Result ℕ Unfound) (after other : List ℕ) → LevelsPromise r after → LevelsPromise q other
      → (r ≡ q) × (after ≡ other)
  levels-determined r q after other p s = answered-one find_told found-one r q after other (equal-determined p s)

-- name is the promise for the claim `named atom`, clear that for `cleared atom`, contradict that for NoReading
module _ (book : List ℕ) (k : Claim) (limit : ℕ) (paper : List ℕ) where
  abbrev WritePromise : Result (ℕ × ℕ) Unwritten → List ℕ → Type 0
  WritePromise r after = ◌≡◌ {A = Answered Handed} (record { told = write_told r; buffer = after }) (write_of book k limit paper)

  pub write-determined : (r q : Result (ℕ × ℕ) Unwritten) (after other : List ℕ) → WritePromise r after → WritePromise q other
      → (r ≡ q) × (after ≡ other)
  write-determined r q after other p s = answered-one write_told named-one r q after other (equal-determined p s)

pub check-determined : (book paper : List ℕ) (r q : Result Claim Rejected) → check_told r ≡ check_of book paper → check_told q ≡ check_of book paper → r ≡ q
check-determined book paper r q p s = checked-one r q (equal-determined p s)

-- the checker's branch: an answer for every number of steps that is enough, so for one
pub branch-determined : (b : Book) (k : Claim) (s : List ℕ) (from at : ℕ) (c : Pair) (w v : Walked)
    → BranchTo b k s from at c w → BranchTo b k s from at c v → w ≡ v
branch-determined b k s from at c w v p q = let f = suc (from - at) in equal-determined (p f (omega arith)) (q f (omega arith))
