-- When a call of restore is answered how, and that its promise determines the answer and every byte of the buffer. Document 02, request 12:
-- "34 text outside the subset, then 35 doesn't fit a book or the buffer lent (reader)". Nothing is written where a text is refused.
use mathlib.Core.Path.{◌≡◌, refl, sym, ap}
use mathlib.Core.Logic.{◌↔◌}
use mathlib.Core.List.{List}
use Prim.Native.Nat.{ℕ, ◌<◌, ◌≤◌}
use native.Mathlib.Omega.{arith}
use lib.ListN.{length}
use Rattle.std.specs.Prelude.{Result, Ok, Err}
use Rattle.meaning.specs.Books.{Book}
use Rattle.meaning.proofs.Tests.{apart}
use Rattle.book.specs.Writing.{Fits, bytes_of_book}
use Rattle.aspif.specs.declared.answer.Unrestored.{Unrestored}
use Rattle.aspif.specs.declared.answer.Unrestored.TheVariants.{Outside, NoFit}
use Rattle.aspif.specs.Text.{Formed}
use Rattle.aspif.specs.Handing.{at_front, Restores, restored, outside, misfit, no_room}
use Rattle.aspif.proofs.Exact.{text-one}

module _ {s before : List ℕ} {b : Book} (f : Formed s b) where
  -- the text of a book that fits gives that book's bytes
  pub restored-fits : {r : Result ℕ Unrestored} {after : List ℕ} → Restores s before r after → Fits b → length (bytes_of_book b) ≤ length before
      → (r ≡ Ok (length (bytes_of_book b))) × (after ≡ at_front (bytes_of_book b) before)
  restored-fits (restored {b = c} g k l) i h = rw (text-one s c b g f) (refl, refl)
  restored-fits (outside n) i h = absurd (n b f)
  restored-fits (misfit {b = c} g n) i h = absurd (n (rw (text-one s c b g f) i))
  restored-fits (no_room {b = c} g l) i h = absurd (omega (arith, ap (λ z. length (bytes_of_book z)) (text-one s c b g f)))

  -- the text of one that passes the limits, or is longer than the buffer, is refused with 35
  pub restored-not : {r : Result ℕ Unrestored} {after : List ℕ} → Restores s before r after → (Fits b → length before < length (bytes_of_book b))
      → (r ≡ Err NoFit) × (after ≡ before)
  restored-not (restored {b = c} g k l) h =
      let e = text-one s c b g f in absurd (omega (arith, h (rw (← e) k), ap (λ z. length (bytes_of_book z)) e))
  restored-not (outside n) h = absurd (n b f)
  restored-not (misfit g n) h = (refl, refl)
  restored-not (no_room g l) h = (refl, refl)

-- the text of no book is refused with 34
pub restored-none : {s before : List ℕ} {r : Result ℕ Unrestored} {after : List ℕ} → Restores s before r after → ((b : Book) → Formed s b → ⊥)
    → (r ≡ Err Outside) × (after ≡ before)
restored-none (restored {b = c} g k l) n = absurd (n c g)
restored-none (outside m) n = (refl, refl)
restored-none (misfit {b = c} g m) n = absurd (n c g)
restored-none (no_room {b = c} g l) n = absurd (n c g)

-- two results that meet the promise are equal
pub restore-determined : {s before : List ℕ} {r q : Result ℕ Unrestored} {after other : List ℕ} → Restores s before r after → Restores s before q other
    → (r ≡ q) × (after ≡ other)
restore-determined (restored f g h) p = let (e, k) = restored-fits f p g h in (sym e, sym k)
restore-determined (outside n) p = let (e, k) = restored-none p n in (sym e, sym k)
restore-determined (misfit f n) p = let (e, k) = restored-not f p (λ g. absurd (n g)) in (sym e, sym k)
restore-determined (no_room f h) p = let (e, k) = restored-not f p (λ g. h) in (sym e, sym k)

-- ---- the rows

module _ {s before : List ℕ} {r : Result ℕ Unrestored} {after : List ℕ} (p : Restores s before r after) where
  pub refused-34 : (r ≡ Err Outside) ↔ ((b : Book) → Formed s b → ⊥)
  refused-34 = (none_of p, λ n. (restored-none p n).0)
    where
      none_of : {q : Result ℕ Unrestored} {d : List ℕ} → Restores s before q d → q ≡ Err Outside → (b : Book) → Formed s b → ⊥
      none_of (restored f g h) e = let z : ◌≡◌ {A = ℕ} 0 1 = cc in apart z
      none_of (outside n) e = n
      none_of (misfit f n) e = let z : ◌≡◌ {A = ℕ} 0 1 = cc in apart z
      none_of (no_room f h) e = let z : ◌≡◌ {A = ℕ} 0 1 = cc in apart z

  pub refused-35 : (r ≡ Err NoFit) ↔ ((b : Book) × Formed s b × (Fits b → length before < length (bytes_of_book b)))
  refused-35 = (one_of p, λ w. (restored-not w.1 p w.2).0)
    where
      one_of : {q : Result ℕ Unrestored} {d : List ℕ} → Restores s before q d → q ≡ Err NoFit
          → (b : Book) × Formed s b × (Fits b → length before < length (bytes_of_book b))
      one_of (restored f g h) e = let z : ◌≡◌ {A = ℕ} 0 1 = cc in apart z
      one_of (outside n) e = let z : ◌≡◌ {A = ℕ} 0 1 = cc in apart z
      one_of (misfit {b = b} f n) e = (b, f, λ g. absurd (n g))
      one_of (no_room {b = b} f h) e = (b, f, λ g. h)

  -- a refusal writes nothing
  pub refused-kept : ((n : ℕ) → r ≡ Ok n → ⊥) → after ≡ before
  refused-kept = kept p
    where
      kept : {q : Result ℕ Unrestored} {d : List ℕ} → Restores s before q d → ((n : ℕ) → q ≡ Ok n → ⊥) → d ≡ before
      kept (restored f g h) n = absurd (n _ refl)
      kept (outside m) n = refl
      kept (misfit f m) n = refl
      kept (no_room f h) n = refl
