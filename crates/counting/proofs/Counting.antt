-- The count from its start to its answer (src/pages.rt): it starts with nothing counted, keeps the last row of each page in front of its
-- array, and ends with the readings counted, or at the limit. What a page adds is in Paging.
use Rattle.std.proofs.Common.{◌≡◌, ℕ, ◌<◌, ◌≤◌, List, ◌++◌, length, take, drop, replicate, sym, refl, ap, ◌∙◌, subst, arith, length-append, length-drop, length-take-le, take_at}
use lib.ListN.{length-replicate}
use Rattle.meaning.specs.Books.{Book}
use Rattle.meaning.specs.Told.{success, stopped}
use Rattle.meaning.specs.Written.{nothing}
use Rattle.book.specs.declared.reader.Shape.{Shape}
use Rattle.book.specs.Format.{book_in, ReadAs}
use Rattle.book.proofs.Places.{shape-atoms}
use Rattle.walk.specs.Events.{events}
use Rattle.walk.specs.Readings.{readings_in, readings}
use Rattle.walk.specs.Page.{events_from}
use Rattle.counting.specs.Counts.{standing, standings}
use Rattle.counting.specs.Count.{count_in}
use Rattle.counting.specs.SoFar.{SoFar, AllCounted, Comes}
use Rattle.counting.specs.declared.pages.Paged.{Paged}
use Rattle.counting.proofs.Numbers.{numbers-equal}
use Rattle.counting.proofs.Counts.{count-within, count-beyond}

module _ (s : List ℕ) (h : Shape) (e : ReadAs s h) where
  abbrev b : Book
  b = book_in s

  -- the row that was kept stands in front of the array's other bytes
  pub row_kept : {limit n t : ℕ} {kept counts : List ℕ} (behind : List ℕ) → SoFar b limit n t kept counts
      → SoFar b limit n t (take h.atoms (kept ++ behind)) counts
  row_kept {limit} {n} {t} {kept} {counts} behind f =
      subst (λ (r : List ℕ). SoFar b limit n t r counts) (sym (take_at kept behind h.atoms (f.last-long ∙ shape-atoms s h e))) f

  pub all-answers : {limit n : ℕ} (counts : List ℕ) {tallies held after : List ℕ} → AllCounted b limit n tallies → held ≡ counts
      → after ≡ take h.atoms tallies ++ drop h.atoms held → record { told = success n; buffer = after } ≡ count_in b limit counts
  all-answers {limit} {n} counts {tallies} {held} {after} f q r =
      let z : after ≡ standings b.atoms (readings b) ++ drop b.atoms counts =
      r ∙ ap (λ (l : List ℕ). take h.atoms tallies ++ drop h.atoms l) q ∙ ap (λ (n : ℕ). take n tallies ++ drop n counts) (sym (shape-atoms s h e)) ∙ ap (λ (k : List ℕ). k ++ drop b.atoms counts) f.each in
      (λ i. record { told = success (f.number i); buffer = z i }) ∙ sym (count-within b limit counts f.within)

  module _ (few-atoms : h.atoms ≤ 255) where
    pub count-starts : (limit : ℕ) → SoFar b limit 0 0 (take h.atoms (replicate 255 0)) (replicate 255 0)
    unfolding events_from readings_in standing
    count-starts limit = record {
      within = omega arith;
      made = omega arith;
      next = refl;
      number = refl;
      each = numbers-equal b.atoms 255 0 _ (omega (arith, shape-atoms s h e, few-atoms)) (λ j. refl);
      last-long = length-take-le {A = ℕ} h.atoms (replicate 255 0) (omega (arith, few-atoms, length-replicate {A = ℕ} 255 0)) ∙ sym (shape-atoms s h e);
      counts-long = length-replicate {A = ℕ} 255 0;
    }

    pub kept-long : {limit n t : ℕ} {kept counts : List ℕ} (l : List ℕ) → SoFar b limit n t kept counts → length l ≡ 255
        → length (kept ++ drop h.atoms l) ≡ 255
    kept-long {kept = kept} l f long = omega (
      arith,
      f.last-long,
      shape-atoms s h e,
      few-atoms,
      long,
      length-append kept (drop h.atoms l),
      length-drop h.atoms l,
    )

pub limit-answers : (b : Book) (limit : ℕ) (counts : List ℕ) {after : List ℕ} → limit < length (events b nothing) → after ≡ counts
    → record { told = stopped limit; buffer = after } ≡ count_in b limit counts
limit-answers b limit counts h e = rw e (sym (count-beyond b limit counts h))

-- what an answer for a page says, by the answer
pub comes-as : (b : Book) (limit tries : ℕ) {p q : Paged} (last_row counts : List ℕ) → p ≡ q → Comes b limit tries p last_row counts
    → Comes b limit tries q last_row counts
comes-as b limit tries last_row counts e f = subst (λ (p : Paged). Comes b limit tries p last_row counts) e f
