-- From the text that was read to what is answered (src/read.rt).
use mathlib.Core.Path.{◌≡◌, sym, ◌∙◌, ap}
use mathlib.Core.Bool.{true, false}
use mathlib.Core.List.{List}
use Prim.Native.Nat.{ℕ, ◌<◌, ◌≤◌}
use native.Mathlib.Omega.{arith}
use lib.ListN.{length, take, length-take}
use Rattle.meaning.specs.Books.{Rule, count}
use Rattle.meaning.proofs.Tests.{apart}
use Rattle.book.specs.declared.making.Making.{Making}
use Rattle.book.specs.Making.{Made, Finished}
use Rattle.book.specs.Writing.{Fits}
use Rattle.book.proofs.Made.{fits-small, made-whole, made-over}
use Rattle.std.specs.Prelude.{Option, Some, None, Ok, Err}
use Rattle.aspif.specs.declared.answer.Unrestored.TheVariants.{Outside, NoFit}
use Rattle.aspif.specs.Text.{Formed}
use Rattle.aspif.specs.Lining.{TextSeen, whole, none}
use Rattle.aspif.specs.Handing.{at_front, Restores, restored, misfit, no_room}
use Rattle.aspif.specs.Handing.{outside as of_none}
use Rattle.aspif.proofs.Pieces.{not-got}
use Rattle.aspif.proofs.Exact.{read-exact}

pub restore-outside : {s before : List ℕ} {w : Option (Making × ℕ)} {d : List ℕ} → TextSeen s w d → w ≡ None → Restores s before (Err Outside) before
restore-outside (whole e m) f = let z : ◌≡◌ {A = ℕ} 0 1 = cc in apart z
restore-outside {s} (none e) f = of_none (λ b g. not-got (sym e ∙ (read-exact s b).1 g))

-- the book that was read
pub record BookSeen (s : List ℕ) (m : Making) (n : ℕ) (d : List ℕ) : Type 0 where
  pub rules : List Rule
  pub formed : Formed s (record { atoms = n; rules = rules })
  pub made : Made rules m d

pub book-seen : {s : List ℕ} {w : Option (Making × ℕ)} {d : List ℕ} {m : Making} {n : ℕ} → TextSeen s w d → w ≡ Some (m, n) → BookSeen s m n d
book-seen {s} {m = m} {n = n} (whole {b = b} {m = o} e a) f =
    let k : ◌≡◌ {A = Making × ℕ} (o, b.atoms) (m, n) = cc in
    let p : o ≡ m = ap (λ (x : Making × ℕ). x.0) k in
    let q : b.atoms ≡ n = ap (λ (x : Making × ℕ). x.1) k in
    record { rules = b.rules; formed = rw (← q) ((read-exact s b).0 e); made = rw (← p) a }
book-seen (none e) f = let z : ◌≡◌ {A = ℕ} 0 1 = cc in apart z

module _ (s before : List ℕ) {m : Making} {n : ℕ} {d : List ℕ} (k : BookSeen s m n d) where
  pub restore-passed : m.fits ≡ false → Restores s before (Err NoFit) before
  restore-passed e = misfit k.formed (λ f. made-over k.made e (fits-small _ f))

  pub restore-many : 255 < n → Restores s before (Err NoFit) before
  restore-many h = misfit k.formed (λ f. omega (arith, f.atoms))

  pub book-fits : m.fits ≡ true → n ≤ 255 → Fits (record { atoms = n; rules = k.rules })
  unfolding count
  book-fits e h =
      let g = (made-whole k.made e).small in
      record {
        atoms = h;
        rules = g.rules;
        each = λ r i. let l = k.formed.loose r i in let j = g.each r i in record {
          head = l.head;
          pos = record { short = j.pos.short; ascends = l.pos.ascends; below = l.pos.below };
          neg = record { short = j.neg.short; ascends = l.neg.ascends; below = l.neg.below };
        };
      }

  module _ {size : ℕ} {draft : List ℕ} (f : Finished (record { atoms = n; rules = k.rules }) size draft) where
    pub size-inside : size ≤ length draft
    size-inside = omega (arith, f.size, ap length f.bytes, length-take size draft)

    pub restore-short : length before < size → Restores s before (Err NoFit) before
    restore-short h = no_room k.formed (rw f.size at h)

    pub restore-given : m.fits ≡ true → n ≤ 255 → size ≤ length before → {after : List ℕ} → after ≡ at_front (take size draft) before
        → Restores s before (Ok size) after
    restore-given e g h i =
        rw (i, f.bytes, f.size) (restored k.formed (book-fits e g) (rw f.size at h))
