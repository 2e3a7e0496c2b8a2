-- What stands in the draft (specs/Draft): one byte more is stored behind the others or, where the array is full, counted; runs of bytes
-- written one after the other are one run; and behind 60,000 bytes it no longer matters what is written.
use mathlib.Core.Path.{◌≡◌, refl, ◌∙◌, ap}
use mathlib.Core.List.{List, [], ◌∷◌, ◌++◌, append_assoc, append-nil}
use Prim.Native.Nat.{ℕ, ◌+◌, ◌≤◌, ◌<◌}
use native.Mathlib.Numerals.{add-one}
use native.Mathlib.Omega.{arith}
use lib.ListN.{get_or, set, length-append, length-set}
use lib.Seq.{take-suc-set}
use Rattle.meaning.specs.declared.kind.Claim.{Claim}
use Rattle.meaning.specs.Claim.{mark}
use Rattle.meaning.proofs.Marks.{mark-bytes}
use Rattle.meaning.specs.Paper.{paper_bytes}
use Rattle.writer.specs.Draft.{Stands, whole, passed, Writes}

pub stands-most : {l : List ℕ} {n : ℕ} {out : List ℕ} → Stands l n out → n ≤ 60001
stands-most (whole g e h f) = omega arith
stands-most (passed g e h) = omega arith

-- ---- one byte

module _ (at x : ℕ) (out : List ℕ) where
  pub write-stored : at < paper_bytes → Writes (x ∷ []) at out (at + 1) (set out at x)
  write-stored h = record { behind = stored }
    where
      stored : (k : List ℕ) → Stands k at out → Stands (k ++ (x ∷ [])) (at + 1) (set out at x)
      stored k (whole g e f t) =
          whole (length-set out at x ∙ g) (simp length-append (omega arith)) (omega arith)
          (rw add-one (take-suc-set out at x (omega arith)) ∙ ap (λ (l : List ℕ). l ++ (x ∷ [])) t)
      stored k (passed g e f) = absurd (omega arith)

  pub write-counted : paper_bytes ≤ at → Writes (x ∷ []) at out 60001 out
  write-counted h = record { behind = counted }
    where
      counted : (k : List ℕ) → Stands k at out → Stands (k ++ (x ∷ [])) 60001 out
      counted k (whole g e f t) = passed g refl (simp length-append (omega arith))
      counted k (passed g e f) = passed g refl (simp length-append (omega arith))

-- ---- runs of bytes

pub writes-nil : (n : ℕ) (out : List ℕ) → Writes [] n out n out
writes-nil n out = record { behind = λ k s. rw append-nil s }

pub writes_then : {l m : List ℕ} {i j n : ℕ} {a b c : List ℕ} → Writes l i a j b → Writes m j b n c → Writes (l ++ m) i a n c
writes_then {l} {m} v w = record { behind = λ k s. rw append_assoc at (w.behind (k ++ l) (v.behind k s)) }

-- a mark, written byte by byte
pub writes_mark : (k : Claim) {m : List ℕ} {i j n : ℕ} {a b c : List ℕ} → m ≡ mark k → Writes (get_or m 0 0 ∷ []) i a j b
    → Writes (get_or m 1 0 ∷ []) j b n c → Writes (mark k) i a n c
writes_mark k e v w = rw (mark-bytes k) at (rw e at (writes_then v w))
